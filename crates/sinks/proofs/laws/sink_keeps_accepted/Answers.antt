use Rattle.sinks.proofs.Accepting.{sunk_accepted}
use Rattle.sinks.proofs.laws.sink_keeps_accepted.Goals as goal

pub returns : goal.returns
returns c = λ a shown cells accepted sums. sunk_accepted a shown cells accepted sums
