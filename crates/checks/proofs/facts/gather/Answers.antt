use Rattle.std.proofs.Common.{arith}
use Rattle.plan.specs.Stacks.{content}
use Rattle.checks.proofs.Gathering.{bounded_next, gather_more}
use Rattle.checks.proofs.facts.gather.Goals as goal

pub overflow_add-all : goal.overflow_add-all
overflow_add-all c = grind (arith, bounded_next (content c.args.known.now) c.loop.all.size c.at-child.result c.requires.bounded c.loop.invariant.0)

pub overflow_add-all-in-loop : goal.overflow_add-all-in-loop
overflow_add-all-in-loop c = grind (arith, bounded_next (content c.args.known.now) c.loop.all.size c.at-child.result c.requires.bounded c.loop.invariant.0)

pub loop-preserved : goal.loop-preserved
loop-preserved c = grind (arith, bounded_next (content c.args.known.now) c.loop.all.size c.at-child.result c.requires.bounded c.loop.invariant.0, gather_more c.loop.counter c.loop.all c.at-child.result)
