-- The facts of all cells hold those of a node's children, each behind the cells of the one before it. Assumes nothing.
use Rattle.std.proofs.Common.{◌≡◌, ℕ, zero, suc, ◌+◌, ◌-◌, ◌<◌, ◌≤◌, cond, List, [], ◌∷◌, ◌++◌, length, get_or, take, drop, Ok, sym, refl, ap, ◌∙◌, arith}
use Rattle.std.proofs.lemmas.Grind.{common_steps}
use Rattle.std.proofs.lemmas.List.{drop-drop}
use Rattle.plan.specs.declared.cells.Cell.{Cell}
use Rattle.plan.specs.declared.refusals.Refusal.TheVariants.{Partitions}
use Rattle.plan.specs.Cells.{blank}
use Rattle.plan.specs.Refusals.{refused_at}
use Rattle.operators.specs.Answers.{Answers}
use Rattle.checks.specs.declared.facts.Fact.{Fact}
use Rattle.checks.specs.Tree.{tree_from, tree_of}
use Rattle.checks.specs.Facts.{head_fact, together, fact_with, fact_of, facts, every_fact, miscounted, counted_from, next_facts}
use Rattle.checks.proofs.Walks.{cells_more}

-- what a tree says at each cell
pub tree_more : (c : Cell) (cs : List Cell) (n at : ℕ) → tree_from n at (c ∷ cs) ≡ Ok tt → (0 < n) × (tree_from (n - 1 + c.children) (at + 1) cs ≡ Ok tt)
tree_more c cs n at e = (grind arith, grind arith)

-- the cells of so many trees have so many facts
pub tree_facts : (a : Answers) (cs : List Cell) (n at : ℕ) → tree_from n at cs ≡ Ok tt → length (facts a cs) ≡ n
unfolding facts
tree_facts a [] n at e = grind arith
tree_facts a (c ∷ cs) n at e = grind (arith, common_steps, tree_more c cs n at e, tree_facts a cs (n - 1 + c.children) (at + 1))

-- behind each cell of a tree there are its children's subtrees
children_behind : (a : Answers) (before : List Cell) (c : Cell) (cs : List Cell) (n at : ℕ) → tree_from n at (before ++ (c ∷ cs)) ≡ Ok tt → c.children ≤ length (facts a cs)
children_behind a [] c cs n at e = grind (arith, tree_more c cs n at e, tree_facts a cs (n - 1 + c.children) (at + 1))
children_behind a (b ∷ before) c cs n at e = children_behind a before c cs (n - 1 + b.children) (at + 1) (tree_more b (before ++ (c ∷ cs)) n at e).1

take_add : (n k : ℕ) (fs : List Fact) → (together (take n fs)).size + (together (take k (drop n fs))).size ≡ (together (take (n + k) fs)).size
take_add zero k fs = grind (arith, common_steps)
take_add (suc n) k [] = grind (arith, common_steps)
take_add (suc n) k (f ∷ fs) =
    let e : suc n + k ≡ suc (n + k) = omega arith in
    rw e (let rest = take_add n k fs in omega arith)

module _ (a : Answers) where
  -- behind the cells of the next k subtrees stand the subtrees after them
  facts_skip : (cs : List Cell) (k : ℕ) → facts a (drop (together (take k (facts a cs))).size cs) ≡ drop k (facts a cs)
  unfolding facts
  facts_skip cs zero = refl
  facts_skip [] (suc k) = refl
  facts_skip (c ∷ cs) (suc k) =
      let below = facts a cs in
      let n = c.children in
      let both = take_add n k below in
      let e : (1 + (together (take n below)).size) + (together (take k (drop n below))).size ≡ suc (together (take (n + k) below)).size = omega arith in
      ap (λ m. facts a (drop m (c ∷ cs))) e ∙ facts_skip cs (n + k) ∙ sym (drop-drop k n below)

  every_skip : (m : ℕ) (cs : List Cell) → drop m (every_fact a cs) ≡ every_fact a (drop m cs)
  unfolding every_fact
  every_skip zero cs = refl
  every_skip (suc m) [] = refl
  every_skip (suc m) (c ∷ cs) = every_skip m cs

  pub head_every : (cs : List Cell) → head_fact (every_fact a cs) ≡ head_fact (facts a cs)
  unfolding every_fact facts
  head_every [] = refl
  head_every (c ∷ cs) = refl

  -- the next n subtrees, read off by their sizes, are the first n
  next_take : (n : ℕ) (cs : List Cell) → n ≤ length (facts a cs) → next_facts n (every_fact a cs) ≡ take n (facts a cs)
  next_take zero cs h = refl
  next_take (suc n) cs h = grind (arith, common_steps, head_every cs, facts_skip cs 1, next_take n (drop (head_fact (facts a cs)).size cs), every_skip (head_fact (facts a cs)).size cs)

  -- the fact that is read off is the node's
  pub fact_read : (c : Cell) (cs : List Cell) → c.children ≤ length (facts a cs) → fact_with a c (next_facts c.children (every_fact a cs)) (head_fact (every_fact a cs)).rows ≡ fact_of a c (facts a cs)
  fact_read c cs h = grind (arith, next_take c.children cs h, head_every cs)

  pub length_every : (cs : List Cell) → length (every_fact a cs) ≡ length cs
  unfolding every_fact
  length_every [] = refl
  length_every (c ∷ cs) = ap suc (length_every cs)

  -- the fact at a place is that of the subtree there
  fact_at : (cs : List Cell) (place : ℕ) → head_fact (drop place (every_fact a cs)) ≡ head_fact (facts a (drop place cs))
  fact_at cs place = ap head_fact (every_skip place cs) ∙ head_every (drop place cs)

-- the fact of one cell more, in front of those of the cells behind it
pub every_more : (a : Answers) (cells before : List Cell) (c : Cell) (cs : List Cell) (fs : List Fact) (own : Fact) → tree_of cells ≡ Ok tt → before ++ (c ∷ cs) ≡ cells → fs ≡ every_fact a cs
    → own ≡ fact_with a c (next_facts c.children fs) (head_fact fs).rows → own ∷ fs ≡ every_fact a (c ∷ cs)
unfolding every_fact facts
every_more a cells before c cs fs own tree whole is read = grind (arith, children_behind a before c cs 1 0 (ap tree_of whole ∙ tree), fact_read a c cs)

-- the check on partitions, from the cell at a place on
pub counted_more : (a : Answers) (cells : List Cell) (place : ℕ) (own child : Fact) → place < length cells → own ≡ head_fact (drop place (every_fact a cells)) → child ≡ head_fact (drop (place + 1) (every_fact a cells))
    → counted_from a place (drop place cells) ≡ cond (miscounted (get_or cells place blank) own.partitions child.partitions) (refused_at Partitions place) (counted_from a (place + 1) (drop (place + 1) cells))
unfolding counted_from
counted_more a cells place own child h here next = grind (arith, cells_more cells place h, fact_at a cells place, fact_at a cells (place + 1))
