use Rattle.std.proofs.Common.{arith}
use Rattle.checks.proofs.Walks.{cells_more, cells_all}
use Rattle.rows.specs.Hint.{hinted, hint_sums_from}
use Rattle.std.proofs.lemmas.List.{append-nil}
use Rattle.limits.proofs.Writes.{written_more}
use Rattle.limits.proofs.limited_distinct_aggregation.hint_cells.Goals as goal

pub returns-in_err-sum : goal.returns-in_err-sum
unfolding hinted hint_sums_from
returns-in_err-sum g c = grind (arith, cells_more)

pub loop-place-preserved : goal.loop-place-preserved
unfolding hinted hint_sums_from
loop-place-preserved g c = grind (arith, cells_more, written_more)

pub returns : goal.returns
unfolding hinted hint_sums_from
returns g c = grind (arith, cells_all, append-nil)
