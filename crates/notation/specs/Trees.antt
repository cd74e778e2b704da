-- Cells that form one tree, in prefix order. Assumes nothing.
use Rattle.std.specs.Prelude.{◌≡◌, ℕ, ◌+◌, ◌-◌, ◌≤◌, Bool, true, false, if◌then◌else◌, List, [], ◌∷◌, length, ◌==◌, nat_lt, slice_index_or, slice_set, All}
use Rattle.plan.specs.Cells.{blank}
use Rattle.plan.specs.Numbers.{max_nodes}
use Rattle.plan.specs.declared.cells.Cell.{Cell}
use Rattle.notation.specs.Widths.{Packs}

-- with so many trees due, each cell begins one and makes as many more due as it has children; at the end none is due
abbrev pub tree_from : ℕ → List Cell → Bool
tree_from due [] = due == 0
tree_from due (c ∷ cs) = if nat_lt 0 due then tree_from (due - 1 + c.children) cs else false

-- a cell with one child more
abbrev pub one_more : Cell → Cell
one_more c = record c { children = c.children + 1 }

-- the cells with one child more at a place
abbrev pub child_counted : List Cell → ℕ → List Cell
child_counted cells place = slice_set cells place (one_more (slice_index_or cells place blank))

-- what is promised of the cells that a text of so many bytes gives
pub record ReadPlan (bytes : ℕ) (cells : List Cell) : Type 0 where
  -- each fits a packed record
  pub packs : All Packs cells
  -- they are one tree
  pub tree : tree_from 1 cells ≡ true
  -- there is at least one, at most as many as a plan may have, and at most one for each byte
  pub some : 1 ≤ length cells
  pub few : length cells ≤ max_nodes
  pub short : length cells ≤ bytes
