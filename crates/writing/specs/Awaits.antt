-- Children that are still to come, and how deep cells stand. A list says how many each open node still awaits, the innermost first.
-- Assumes nothing.
use Rattle.std.specs.Prelude.{ℕ, ◌+◌, ◌-◌, cond, List, [], ◌∷◌, length, nat_lt}
use Rattle.plan.specs.declared.cells.Cell.{Cell}

-- a tree is complete: so is each node that awaited only it, and the next one awaits one child fewer
abbrev pub after_tree : List ℕ → List ℕ
after_tree [] = []
after_tree (n ∷ ns) = cond (nat_lt 1 n) ((n - 1) ∷ ns) (after_tree ns)

-- how many nodes a complete tree completes
abbrev pub completes : List ℕ → ℕ
completes [] = 0
completes (n ∷ ns) = cond (nat_lt 1 n) 0 (completes ns + 1)

-- what is awaited behind a cell
abbrev pub after_cell : Cell → List ℕ → List ℕ
after_cell c awaited = cond (nat_lt 0 c.children) (c.children ∷ awaited) (after_tree awaited)

-- each cell stands below every node that is open; behind a complete tree a new one begins, at depth 0
abbrev pub depths_from : List ℕ → List Cell → List ℕ
depths_from awaited [] = []
depths_from awaited (c ∷ cs) = length awaited ∷ depths_from (after_cell c awaited) cs
