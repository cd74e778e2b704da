use Rattle.std.proofs.Common.{◌≡◌, ◌*◌, ◌≤◌, ◌++◌, length, drop}
use Rattle.plan.specs.Stacks.{content}
use Rattle.rows.proofs.Passed.{Trees}
use Rattle.sinks.specs.Sink.{sunk, sunk_plan, sink_sums_from, sink_sums}
use Rattle.limits.specs.Pending.{spread, Live}
use Rattle.limits.specs.Written.{written}
use Rattle.limits.proofs.limit_pushdown.sink_cells.Given as goal

abbrev pub invariant-loop-place : goal.invariant-loop-place
invariant-loop-place g l =
    let a = g.O.OperatorSet.answers l.set in
    let rs = spread (content l.pending) in
    let rest = drop l.place l.cells in
    record {
      room : length l.pending.items.now ≡ length l.initial.pending.items.now;
      live : Live (content l.pending);
      trees : Trees (length rs) rest;
      loan : l.written.table.ghost_name ≡ l.initial.written.table.ghost_name;
      len : length l.written.table.now ≡ length l.initial.written.table.now;
      few : l.written.count ≤ 2 * l.place;
      cells : written l.written ++ sunk a rs rest ≡ sunk_plan a l.cells;
      sums : sink_sums_from a rs l.place rest ≡ sink_sums a l.cells;
    }
