use Rattle.std.proofs.Common.{rules}
use Rattle.checks.specs.Facts.{facts}
use Rattle.rows.specs.Grow.{grown, grow_sums_from}
use Rattle.rows.specs.Hint.{hinted, hint_sums_from}
use Rattle.sinks.specs.Sink.{sunk, sink_sums_from}
use Rattle.limits.proofs.worked.worked_plans.Goals as goal

pub returns : goal.returns
unfolding facts grown grow_sums_from hinted hint_sums_from sunk sink_sums_from
returns c = search rules
