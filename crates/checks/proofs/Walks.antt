-- What a walk over the cells rests on. Assumes nothing.
use Rattle.std.proofs.Common.{◌≡◌, ℕ, ◌+◌, ◌<◌, ◌≤◌, List, [], ◌∷◌, length, get_or, drop}
use Rattle.std.proofs.lemmas.List.{drop_more, drop_all}
use Rattle.plan.specs.declared.cells.Cell.{Cell}
use Rattle.plan.specs.Cells.{blank}

-- the next cell, and the end: the default is written, so that a tactic finds the other arguments
pub cells_more : (cells : List Cell) (i : ℕ) → i < length cells → drop i cells ≡ get_or cells i blank ∷ drop (i + 1) cells
cells_more cells i h = drop_more cells i blank h

pub cells_all : (cells : List Cell) (i : ℕ) → length cells ≤ i → drop i cells ≡ []
cells_all cells i h = drop_all i cells h
