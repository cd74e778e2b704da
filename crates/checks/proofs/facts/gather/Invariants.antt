use Rattle.std.proofs.Common.{◌≡◌, ◌*◌, ◌^◌, ◌≤◌, length}
use Rattle.plan.specs.Stacks.{content}
use Rattle.checks.specs.Facts.{together, next_facts}
use Rattle.checks.proofs.facts.gather.Given as goal

abbrev pub invariant-loop : goal.invariant-loop
invariant-loop l =
    (l.all.size ≤ length (content l.known))
    × (l.all.partitions ≤ 2 ^ 32 * l.all.size)
    × (l.all ≡ together (next_facts l.counter (content l.known)))
