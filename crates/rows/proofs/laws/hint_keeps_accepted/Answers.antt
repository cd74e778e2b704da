use Rattle.rows.proofs.Accepting.{hint_keeps_accepted}
use Rattle.rows.proofs.laws.hint_keeps_accepted.Goals as goal

pub returns : goal.returns
returns c = λ a cells h sums. hint_keeps_accepted a cells h sums
