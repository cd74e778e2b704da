use Rattle.std.proofs.Common.{◌≡◌}
use Rattle.limits.specs.Memory.{lent_by}
use Rattle.driver.specs.Repeating.{repeated}
use Rattle.driver.proofs.repeating.repeat_call.Given as goal

abbrev pub invariant-loop : goal.invariant-loop
invariant-loop l = record {
  lent : lent_by l.memory ≡ lent_by l.fn.memory;
  answer : l.answer ≡ repeated l.counter l.rule l.saved l.count (lent_by l.fn.memory);
}
