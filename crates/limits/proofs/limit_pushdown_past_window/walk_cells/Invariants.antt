use Rattle.std.proofs.Common.{◌≡◌, ◌++◌, take, drop}
use Rattle.rows.specs.Grow.{grown, grown_plan, grow_sums_from, grow_sums}
use Rattle.limits.proofs.limit_pushdown_past_window.walk_cells.Given as goal

abbrev pub invariant-loop-place : goal.invariant-loop-place
invariant-loop-place g l =
    let a = g.O.OperatorSet.answers l.set in
    (take l.place l.work ++ grown a l.walk.state (drop l.place l.cells) ≡ grown_plan a l.cells)
    × (grow_sums_from a l.walk.state l.place (drop l.place l.cells) ≡ grow_sums a l.cells)
