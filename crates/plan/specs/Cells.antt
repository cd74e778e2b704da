-- The blank cell, and cells that say no more than their operator. Assumes nothing.
use Rattle.std.specs.Prelude.{ℕ, false, None}
use Rattle.plan.specs.declared.cells.Cell.{Cell}

-- what stands in a table behind its plan: numbers 0, nothing present
abbrev pub blank : Cell
blank = record { kind = 0; children = 0; parameter = 0; mark = false; fetch = None; hint = None; skip = 0 }

-- a node by its kind, child count and parameter: unmarked, and without a fetch, a hint or a skip
abbrev pub node : ℕ → ℕ → ℕ → Cell
node k n p = record { kind = k; children = n; parameter = p; mark = false; fetch = None; hint = None; skip = 0 }
