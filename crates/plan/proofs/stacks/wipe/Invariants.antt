use Rattle.std.proofs.Common.{◌≡◌, ◌++◌, drop, replicate}
use Rattle.plan.proofs.stacks.wipe.Given as goal

abbrev pub invariant-loop-item : goal.invariant-loop-item
invariant-loop-item g l = l.items ≡ replicate l.item-index l.blank ++ drop l.item-index l.initial.items
