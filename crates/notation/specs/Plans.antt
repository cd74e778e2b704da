-- How a plan is read from a text: node by node, each with its parent. Assumes nothing.
use Rattle.std.specs.Prelude.{◌≡◌, ℕ, ◌-◌, if◌then◌else◌, ◌||◌, List, [], ◌∷◌, ◌++◌, length, Some, None, Ok, Err, Option, ◌==◌}
use Rattle.plan.specs.declared.cells.Cell.{Cell}
use Rattle.text.specs.Hex.{is_blank}
use Rattle.text.specs.declared.problems.Problem.TheVariants.{Trailing, Unclosed}
use Rattle.notation.specs.Cursors.{Parsed, past_blanks}
use Rattle.notation.specs.Nodes.{node_at}
use Rattle.notation.specs.Trees.{child_counted}

-- the parent of the next node, if there is one, and the places of the nodes whose parentheses are open, the innermost first
abbrev pub Next : Type 0
Next = Parsed (Option ℕ × List ℕ)

-- at the end of the text nothing may be open
abbrev pub ended : List ℕ → Next
ended [] = Ok ((None, []), [])
ended (p ∷ ps) = Err Unclosed

-- behind a complete tree: each `)` closes the innermost parenthesis, and behind a comma the next tree has its parent
abbrev pub close_at : List ℕ → List ℕ → Next
close_at ps [] = ended ps
close_at [] (x ∷ xs) = if is_blank x then close_at [] xs else Err Trailing
close_at (p ∷ ps) (x ∷ xs) =
    if is_blank x then close_at (p ∷ ps) xs
    else if x == 41 then close_at ps xs
    else if x == 44 then Ok ((Some p, p ∷ ps), xs)
    else Err Trailing

-- behind a node: `(` opens its children, `,`, `)` and the end complete its tree, and else its one child follows
abbrev pub next_at : List ℕ → ℕ → List ℕ → Next
next_at ps last [] = ended ps
next_at ps last (x ∷ xs) =
    if x == 40 then Ok ((Some last, last ∷ ps), xs)
    else if x == 44 || x == 41 then close_at ps (x ∷ xs)
    else Ok ((Some last, ps), x ∷ xs)

-- the cells that were read of a text, the places of the nodes whose parentheses are open, and what is left of the text
pub data Reached (text : List ℕ) : List Cell → List ℕ → List ℕ → Type 0 where
  -- the root
  root : (c : Cell) (left : List ℕ) → node_at (past_blanks text) ≡ Ok (c, left) → Reached text (c ∷ []) [] left
  -- one node more, with its parent
  child : (cells : List Cell) (ps qs xs ys : List ℕ) (p : ℕ) (c : Cell) (left : List ℕ) → Reached text cells ps xs → next_at ps (length cells - 1) (past_blanks xs) ≡ Ok ((Some p, qs), ys) → node_at (past_blanks ys) ≡ Ok (c, left) → Reached text (child_counted cells p ++ (c ∷ [])) qs left

-- the cells that a text stands for: those that were read where no node follows
pub record StandsFor (text : List ℕ) (cells : List Cell) : Type 0 where
  pub parents : List ℕ
  pub left : List ℕ
  pub reached : Reached text cells parents left
  pub none : (qs : List ℕ) × (ys : List ℕ) × (next_at parents (length cells - 1) (past_blanks left) ≡ Ok ((None, qs), ys))
