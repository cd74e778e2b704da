use Rattle.std.proofs.Common.{arith}
use Rattle.notation.proofs.Closing.{close_one}
use Rattle.notation.proofs.plans.close.Goals as goal

pub loop-parent-preserved : goal.loop-parent-preserved
loop-parent-preserved c =
    let popped = c.pop.ensures.value 0 in
    grind (arith, close_one)
