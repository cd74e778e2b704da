-- Worked plans: what the rules leave of them under the catalogue set. Assumes nothing.
use Rattle.std.specs.Prelude.{◌≡◌, ℕ, List, [], ◌∷◌, Some, None, Ok, Option}
use Rattle.std.specs.List.{AllByRecursion}
use Rattle.plan.specs.declared.cells.Cell.{Cell}
use Rattle.plan.specs.Cells.{node}
use Rattle.operators.specs.Catalogue.{catalogue}
use Rattle.limits.specs.declared.rules.Rule.{Rule}
use Rattle.limits.specs.declared.rules.Rule.TheVariants.{Sink, Grow, Hint}
use Rattle.limits.specs.Calls.{rule_answer}

-- an unmarked cell: kind, children, parameter, fetch, hint, skip
abbrev pub cell : ℕ → ℕ → ℕ → Option ℕ → Option ℕ → ℕ → Cell
cell k n p f h s = record (node k n p) { fetch = f; hint = h; skip = s }

-- a global limit of a skip and a fetch
abbrev pub G : ℕ → Option ℕ → Cell
G s f = cell 2 1 0 f None s

abbrev pub P : Cell
P = cell 4 1 0 None None 0

abbrev pub C : Option ℕ → Cell
C f = cell 5 1 0 f None 0

abbrev pub S : Option ℕ → Cell
S f = cell 7 1 0 f None 0

abbrev pub W : ℕ → Cell
W p = cell 8 1 p None None 0

abbrev pub A : ℕ → Option ℕ → Cell
A p h = cell 9 1 p None h 0

-- a scan of so many partitions
abbrev pub H : ℕ → Option ℕ → Cell
H p f = cell 16 0 p f None 0

-- a rule, a plan, and what the rule leaves of it
pub record Worked : Type 0 where
  pub rule : Rule
  pub plan : List Cell
  pub left : List Cell

-- a row of the table
abbrev pub worked : Rule → List Cell → List Cell → Worked
worked r p l = record { rule = r; plan = p; left = l }

-- the table
abbrev pub worked_plans : List Worked
worked_plans =
    worked Sink (G 2 (Some 5) ∷ P ∷ H 1 None ∷ []) (P ∷ G 2 (Some 5) ∷ H 1 (Some 7) ∷ [])
    ∷ worked Sink (G 2 (Some 5) ∷ C None ∷ H 4 None ∷ []) (G 2 (Some 5) ∷ C (Some 7) ∷ H 4 (Some 7) ∷ [])
    ∷ worked Sink (G 8 (Some 10) ∷ G 0 (Some 5) ∷ W 0 ∷ H 1 None ∷ []) (G 8 (Some 0) ∷ W 0 ∷ H 1 None ∷ [])
    ∷ worked Sink (G 4 None ∷ P ∷ H 1 None ∷ []) (G 4 None ∷ P ∷ H 1 None ∷ [])
    ∷ worked Grow (G 1 (Some 4) ∷ W 1 ∷ S None ∷ H 1 None ∷ []) (G 1 (Some 4) ∷ W 1 ∷ S (Some 8) ∷ H 1 None ∷ [])
    ∷ worked Grow (G 1 (Some 4) ∷ W 1 ∷ S (Some 6) ∷ H 1 None ∷ []) (G 1 (Some 4) ∷ W 1 ∷ S (Some 6) ∷ H 1 None ∷ [])
    ∷ worked Hint (G 2 (Some 3) ∷ A 0 None ∷ A 0 None ∷ H 1 None ∷ []) (G 2 (Some 3) ∷ A 0 (Some 5) ∷ A 0 (Some 5) ∷ H 1 None ∷ [])
    ∷ worked Hint (G 2 (Some 3) ∷ A 0 None ∷ A 2 None ∷ H 1 None ∷ []) (G 2 (Some 3) ∷ A 0 (Some 5) ∷ A 2 None ∷ H 1 None ∷ [])
    ∷ []

-- each rule leaves of each plan what the table says
abbrev pub WorkedPlans : Type 0
WorkedPlans = AllByRecursion (λ w. rule_answer catalogue w.rule w.plan ≡ Ok w.left) worked_plans
