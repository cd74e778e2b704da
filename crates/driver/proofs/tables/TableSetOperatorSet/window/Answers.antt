use Rattle.std.proofs.Common.{◌*◌, sym, subst}
use Rattle.operators.specs.Windows.{WindowSized}
use Rattle.driver.proofs.Small.{window_sized}
use Rattle.driver.proofs.tables.TableSetOperatorSet.window.Goals as goal

pub returns-in-Some-clause-sized : goal.returns-in-Some-clause-sized
returns-in-Some-clause-sized c =
    let set = c.args.self.now in
    let found = c.in-Some.ensures.lookup.0 in
    subst WindowSized (sym found.2) (window_sized set.exprs.now set.width (c.args.parameter * set.width) set.small found.1)
