-- A table that is written from its front on. Assumes nothing.
use Rattle.std.specs.Prelude.{List, take}
use Rattle.plan.specs.declared.cells.Cell.{Cell}
use Rattle.limits.specs.declared.limit_pushdown.Written.{Written}

-- the cells that are written so far
abbrev pub written : Written → List Cell
written w = take w.count w.table.now
