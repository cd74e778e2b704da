use Rattle.rows.proofs.Accepting.{grow_keeps_accepted}
use Rattle.rows.proofs.laws.grow_keeps_accepted.Goals as goal

pub returns : goal.returns
returns c = λ a cells h sums. grow_keeps_accepted a cells h sums
