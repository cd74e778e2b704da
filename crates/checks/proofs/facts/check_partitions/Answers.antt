use Rattle.std.proofs.Common.{arith}
use Rattle.std.proofs.lemmas.Grind.{common_steps}
use Rattle.checks.specs.Facts.{counted_from}
use Rattle.checks.proofs.Subtrees.{counted_more}
use Rattle.checks.proofs.facts.check_partitions.Goals as goal

pub returns-then-is_miscounted : goal.returns-then-is_miscounted
returns-then-is_miscounted c = λ a is. grind (arith, counted_more a c.args.cells.now, c.loop-place.invariant a is)

pub loop-place-preserved : goal.loop-place-preserved
loop-place-preserved c = λ a is. grind (arith, counted_more a c.args.cells.now, c.loop-place.invariant a is)

pub returns : goal.returns
unfolding counted_from
returns c = λ a is. grind (arith, common_steps, c.loop-place.invariant a is)
