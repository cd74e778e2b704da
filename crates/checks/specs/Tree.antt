-- Whether cells in prefix order are one tree. Assumes nothing.
use Rattle.std.specs.Prelude.{ℕ, ◌+◌, ◌-◌, cond, List, [], ◌∷◌, Ok, Result, ◌==◌}
use Rattle.plan.specs.declared.cells.Cell.{Cell}
use Rattle.plan.specs.declared.refusals.Fault.{Fault}
use Rattle.plan.specs.declared.refusals.Refusal.TheVariants.{Tree}
use Rattle.plan.specs.Refusals.{refused_at}

-- so many trees are still to come, from the cell at this place on: a cell begins one and calls for its children's
abbrev pub tree_from : ℕ → ℕ → List Cell → Result (Unit {0}) Fault
tree_from trees at [] = cond (trees == 0) (Ok tt) (refused_at Tree at)
tree_from trees at (c ∷ cs) = cond (trees == 0) (refused_at Tree at) (tree_from (trees - 1 + c.children) (at + 1) cs)

-- the place is the first cell after a closed tree, or the count if the tree is open
abbrev pub tree_of : List Cell → Result (Unit {0}) Fault
tree_of cells = tree_from 1 0 cells
