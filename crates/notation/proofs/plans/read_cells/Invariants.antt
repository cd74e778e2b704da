use Rattle.std.proofs.Common.{reverse, length}
use Rattle.notation.proofs.Progress.{Progress}
use Rattle.notation.proofs.plans.read_cells.Given as goal

abbrev pub invariant-loop-parents : goal.invariant-loop-parents
invariant-loop-parents l = Progress l.fn.cursor l.cells.items (reverse l.parents.items) l.cursor

abbrev pub decreases-loop-parents : goal.decreases-loop-parents
decreases-loop-parents l = length l.cursor
