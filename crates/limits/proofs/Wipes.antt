-- Memory that is wiped again. Assumes nothing.
use Rattle.std.proofs.Common.{ap, ◌∙◌, replicate}
use Rattle.plan.specs.Cells.{blank}
use Rattle.checks.specs.Facts.{blank_fact}
use Rattle.limits.specs.declared.memory.Memory.{Memory}
use Rattle.limits.specs.Pending.{blank_pending}
use Rattle.limits.specs.Calls.{Lent}
use Rattle.limits.specs.Memory.{SameLoan, Wiped}

pub same_again : (x y z : Memory) → SameLoan x y → SameLoan y z → SameLoan x z
same_again x y z p q = record { work = q.work ∙ p.work; requirements = q.requirements ∙ p.requirements; facts = q.facts ∙ p.facts; lent = q.lent ∙ p.lent }

-- what wipes the same loan later wipes it
pub wiped_later : (x y z : Memory) → SameLoan x y → Wiped y z → Wiped x z
wiped_later x y z p q = record {
  loan = same_again x y z p q.loan;
  work = q.work ∙ ap (λ (l : Lent). replicate l.work blank) p.lent;
  requirements = q.requirements ∙ ap (λ (l : Lent). replicate l.requirements blank_pending) p.lent;
  facts = q.facts ∙ ap (λ (l : Lent). replicate l.facts blank_fact) p.lent;
}
