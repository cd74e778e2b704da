-- The memory that a call is lent. Assumes nothing.
use Rattle.std.specs.Prelude.{◌≡◌, length, replicate}
use Rattle.plan.specs.Cells.{blank}
use Rattle.checks.specs.Facts.{blank_fact}
use Rattle.limits.specs.declared.memory.Memory.{Memory}
use Rattle.limits.specs.Pending.{blank_pending}
use Rattle.limits.specs.Calls.{Lent, lent_of}

-- how many entries it has
abbrev pub lent_by : Memory → Lent
lent_by m = lent_of (length m.work.now) (length m.requirements.now) (length m.facts.now)

-- the same slices are lent still
pub record SameLoan (before after : Memory) : Type 0 where
  pub work : after.work.ghost_name ≡ before.work.ghost_name
  pub requirements : after.requirements.ghost_name ≡ before.requirements.ghost_name
  pub facts : after.facts.ghost_name ≡ before.facts.ghost_name
  pub lent : lent_by after ≡ lent_by before

-- the same slices are lent still, and each is as long as it was and blank
pub record Wiped (before after : Memory) : Type 0 where
  pub loan : SameLoan before after
  pub work : after.work.now ≡ replicate (length before.work.now) blank
  pub requirements : after.requirements.now ≡ replicate (length before.requirements.now) blank_pending
  pub facts : after.facts.now ≡ replicate (length before.facts.now) blank_fact
