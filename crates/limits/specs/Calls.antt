-- What a call of a rule answers, and what it leaves. Assumes nothing.
use Rattle.std.specs.Prelude.{ℕ, ◌*◌, List, length, take, Ok, Result}
use Rattle.plan.specs.declared.cells.Cell.{Cell}
use Rattle.plan.specs.declared.refusals.Fault.{Fault}
use Rattle.plan.specs.Refusals.{then}
use Rattle.operators.specs.Answers.{Answers}
use Rattle.checks.specs.Accepts.{count_answer, room_answer, plan_answer}
use Rattle.checks.specs.Windows.{windows_answer}
use Rattle.rows.specs.Grow.{grown_plan, grow_sums}
use Rattle.rows.specs.Hint.{hinted_plan, hint_sums}
use Rattle.sinks.specs.Sink.{sunk_plan, sink_sums}
use Rattle.limits.specs.declared.rules.Rule.{Rule}
use Rattle.limits.specs.declared.rules.Rule.TheVariants.{Sink, Grow, Hint}

-- the cells that a rule leaves of an accepted plan, or its own refusal
abbrev pub rule_answer : Answers → Rule → List Cell → Result (List Cell) Fault
rule_answer a Sink cells = then (sink_sums a cells) (λ _. Ok (sunk_plan a cells))
rule_answer a Grow cells = then (windows_answer a cells) (λ _. then (grow_sums a cells) (λ _. Ok (grown_plan a cells)))
rule_answer a Hint cells = then (hint_sums cells) (λ _. Ok (hinted_plan a cells))

-- how many entries the memory has that a call is lent beside the plan: its work table and its two stacks
pub record Lent : Type 0 where
  pub work : ℕ
  pub requirements : ℕ
  pub facts : ℕ

-- memory with so many entries in each part
abbrev pub lent_of : ℕ → ℕ → ℕ → Lent
lent_of work requirements facts = record { work = work; requirements = requirements; facts = facts }

-- twice the count in plan and work table, the count in each stack
abbrev pub rooms_answer : ℕ → ℕ → Lent → Result (Unit {0}) Fault
rooms_answer table count lent =
    then (room_answer table (2 * count)) (λ _. then (room_answer lent.work (2 * count)) (λ _. then (room_answer lent.requirements count) (λ _. room_answer lent.facts count)))

-- the first refusal in order: count, room, the checks of the plan, what the rule itself refuses; else the cells that it leaves
abbrev pub call_answer : Answers → Rule → List Cell → ℕ → Lent → Result (List Cell) Fault
call_answer a rule table count lent =
    then (count_answer (length table) count) (λ _. then (rooms_answer (length table) count lent) (λ _. then (plan_answer a (take count table)) (λ _. rule_answer a rule (take count table))))

-- the first cells of a table, as many as an answer counts
abbrev pub front_of : List Cell → Result ℕ Fault → Result (List Cell) Fault
front_of table r = then r (λ n. Ok (take n table))
