use Rattle.std.proofs.Common.{set, ap, ◌∙◌, arith}
use Rattle.plan.proofs.Wiping.{wiped_more, wiped_all}
use Rattle.plan.proofs.stacks.wipe.Goals as goal

pub loop-item-preserved : goal.loop-item-preserved
loop-item-preserved g c = ap (λ xs. set xs c.loop-item.item-index c.args.blank) c.loop-item.invariant ∙ wiped_more c.args.items.now c.loop-item.item-index c.args.blank c.loop-item-test.true

pub returns : goal.returns
returns g c = c.loop-item.invariant ∙ wiped_all c.args.items.now c.loop-item.item-index c.args.blank (omega arith)
