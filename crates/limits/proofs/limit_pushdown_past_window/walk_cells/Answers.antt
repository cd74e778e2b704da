use Rattle.std.proofs.Common.{arith}
use Rattle.checks.proofs.Walks.{cells_more, cells_all}
use Rattle.rows.specs.Grow.{grown, grow_sums_from}
use Rattle.std.proofs.lemmas.List.{append-nil}
use Rattle.limits.proofs.Writes.{written_more}
use Rattle.limits.proofs.limit_pushdown_past_window.walk_cells.Goals as goal

pub returns-in_err-work : goal.returns-in_err-work
unfolding grown grow_sums_from
returns-in_err-work g c = grind (arith, cells_more)

pub loop-place-preserved : goal.loop-place-preserved
unfolding grown grow_sums_from
loop-place-preserved g c = grind (arith, cells_more, written_more)

pub returns : goal.returns
unfolding grown grow_sums_from
returns g c = grind (arith, cells_all, append-nil)
