use Rattle.sinks.proofs.Visiting.{visited_again}
use Rattle.sinks.proofs.laws.second_visit_changes_nothing.Goals as goal

pub returns : goal.returns
returns c = λ a r cell partitions. visited_again a partitions r cell
