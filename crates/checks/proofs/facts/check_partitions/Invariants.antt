use Rattle.std.proofs.Common.{◌≡◌, drop}
use Rattle.plan.specs.Stacks.{content}
use Rattle.operators.specs.Answers.{Answers}
use Rattle.checks.specs.Facts.{every_fact, counted_from}
use Rattle.checks.proofs.facts.check_partitions.Given as goal

abbrev pub invariant-loop-place : goal.invariant-loop-place
invariant-loop-place l = (a : Answers) → content l.known ≡ every_fact a l.cells → counted_from a l.place (drop l.place l.cells) ≡ counted_from a 0 l.cells
