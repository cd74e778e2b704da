use Rattle.sinks.proofs.Small.{second_sum}
use Rattle.sinks.proofs.laws.second_visit_sums_no_more.Goals as goal

pub returns : goal.returns
returns c = λ a r cell partitions taken some fine. second_sum a r cell partitions taken some fine
