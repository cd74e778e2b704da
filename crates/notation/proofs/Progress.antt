-- What is known of a text that was read so far. Assumes nothing.
use Rattle.std.proofs.Common.{◌≡◌, ℕ, ◌+◌, ◌-◌, ◌<◌, ◌≤◌, List, [], ◌∷◌, ◌++◌, length, get_or, Some, Ok, All, arith, subst}
use Rattle.std.proofs.lemmas.Grind.{common_steps}
use Rattle.std.proofs.lemmas.List.Elements.{All-nil, All-weaker}
use Rattle.plan.specs.Cells.{blank}
use Rattle.plan.specs.Numbers.{max_nodes, max_children}
use Rattle.plan.specs.declared.cells.Cell.{Cell}
use Rattle.notation.specs.Cursors.{past_blanks}
use Rattle.notation.specs.Nodes.{node_at}
use Rattle.notation.specs.Plans.{Reached, root, child, next_at}
use Rattle.notation.specs.Trees.{child_counted, ReadPlan}
use Rattle.notation.proofs.Bounds.{Reads, IsLeaf, node_reads}
use Rattle.notation.proofs.Closing.{IsRead, AreRead, next_reads}
use Rattle.notation.proofs.Growth.{child_read, root_read}

blanks_short : (xs : List ℕ) → length (past_blanks xs) ≤ length xs
blanks_short [] = omega arith
blanks_short (x ∷ xs) = let rest = blanks_short xs in grind arith

node_read : (xs ys : List ℕ) (c : Cell) → node_at xs ≡ Ok (c, ys) → IsLeaf c × (length ys < length xs)
node_read [] ys c e = cc
node_read (x ∷ xs) ys c e = let r = subst (Reads IsLeaf (length xs)) e (node_reads (length xs) (x ∷ xs) (omega arith)) in (r.read.0, omega (arith, r.read.1))

-- the cells that were read of a text, the places of the nodes whose parentheses are open, and what is left of the text
pub record Progress (text : List ℕ) (cells : List Cell) (ps left : List ℕ) : Type 0 where
  pub made : ReadPlan (length text) cells
  pub reached : Reached text cells ps left
  -- each cell took a byte
  pub short : length cells + length left ≤ length text
  pub parents : All (IsRead (length cells)) ps

pub start : (text left : List ℕ) (c : Cell) → node_at (past_blanks text) ≡ Ok (c, left) → Progress text (c ∷ []) [] left
start text left c e =
    let node = node_read (past_blanks text) left c e in
    let blanks = blanks_short text in
    record { made = root_read (length text) c node.0 (omega arith); reached = root c left e; short = omega arith; parents = All-nil (IsRead 1) }

-- the next node's parent was read, and what is left is no longer
pub next : (text : List ℕ) (cells : List Cell) (ps qs xs ys : List ℕ) (p : ℕ) → Progress text cells ps xs → next_at ps (length cells - 1) (past_blanks xs) ≡ Ok ((Some p, qs), ys) → (p < length cells) × All (IsRead (length cells)) qs × (length ys ≤ length xs)
next text cells ps qs xs ys p g e =
    let blanks = blanks_short xs in
    let r = subst (Reads (AreRead (length cells)) (length xs)) e (next_reads (length cells) (length xs) ps (length cells - 1) (past_blanks xs) g.parents (omega (arith, g.made.some)) (omega arith)) in
    (r.read.0.0, r.read.0.1, r.read.1)

-- one node more
pub step : (text : List ℕ) (cells : List Cell) (ps qs xs ys left : List ℕ) (p : ℕ) (c : Cell) → Progress text cells ps xs → next_at ps (length cells - 1) (past_blanks xs) ≡ Ok ((Some p, qs), ys) → node_at (past_blanks ys) ≡ Ok (c, left) → length cells < max_nodes → (get_or cells p blank).children < max_children → Progress text (child_counted cells p ++ (c ∷ [])) qs left × (length left < length xs)
step text cells ps qs xs ys left p c g e f few room =
    let parent = next text cells ps qs xs ys p g e in
    let node = node_read (past_blanks ys) left c f in
    let blanks = blanks_short ys in
    let long : length (child_counted cells p ++ (c ∷ [])) ≡ length cells + 1 = grind (arith, common_steps) in (
      record {
        made = child_read (length text) p cells c g.made parent.0 room few (omega (arith, g.short)) node.0;
        reached = child cells ps qs xs ys p c left g.reached e f;
        short = omega (arith, g.short);
        parents = All-weaker (IsRead (length cells)) (IsRead (length (child_counted cells p ++ (c ∷ [])))) (λ q h. omega arith) qs parent.1;
      },
      omega arith,
    )
