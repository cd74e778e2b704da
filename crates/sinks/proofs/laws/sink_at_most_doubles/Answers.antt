use Rattle.sinks.proofs.Visiting.{sunk_length}
use Rattle.sinks.proofs.laws.sink_at_most_doubles.Goals as goal

pub returns : goal.returns
returns c = λ a rs cells. sunk_length a cells rs
