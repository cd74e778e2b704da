use Rattle.operators.proofs.Declarable.{declared_shows}
use Rattle.operators.proofs.held.DeclaredSet.shows.Goals as goal

pub returns : goal.returns
returns c = declared_shows c.args.self.now.declarations.now c.args.self.now.accepted
