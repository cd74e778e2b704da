use Rattle.std.proofs.Common.{◌≡◌, ◌++◌, take, drop}
use Rattle.rows.specs.Hint.{hinted, hinted_plan, hint_sums_from, hint_sums}
use Rattle.limits.proofs.limited_distinct_aggregation.hint_cells.Given as goal

abbrev pub invariant-loop-place : goal.invariant-loop-place
invariant-loop-place g l =
    let a = g.O.OperatorSet.answers l.set in
    (take l.place l.work ++ hinted a l.handed (drop l.place l.cells) ≡ hinted_plan a l.cells)
    × (hint_sums_from l.place (drop l.place l.cells) ≡ hint_sums l.cells)
