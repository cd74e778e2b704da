use Rattle.std.proofs.Common.{◌≡◌, true, [], ◌++◌, drop, string_bytes}
use Rattle.writing.specs.Written.{written}
use Rattle.writing.proofs.writes.write_plan.Given as goal

abbrev pub invariant-loop-cell : goal.invariant-loop-cell
invariant-loop-cell l = string_bytes l.out ++ written l.due l.awaited (drop l.cell-index l.cells) ≡ written true [] l.cells
