-- A sum that is too large is refused, at the node visited. Assumes nothing.
use Rattle.std.specs.Prelude.{ℕ, cond, Ok, Option, Result}
use Rattle.plan.specs.declared.refusals.Fault.{Fault}
use Rattle.plan.specs.declared.refusals.Refusal.TheVariants.{Sum}
use Rattle.plan.specs.Refusals.{refused_at}
use Rattle.rows.specs.Sums.{too_large}

-- what a node answers at a place where this sum is formed, or none
abbrev pub sum_answer : ℕ → Option ℕ → Result (Unit {0}) Fault
sum_answer place sum = cond (too_large sum) (refused_at Sum place) (Ok tt)
