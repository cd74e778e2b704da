-- What a rule makes of a packed plan, in bytes alone, under any operator set. Assumes nothing.
use Rattle.std.specs.Prelude.{ℕ, ◌*◌, cond, List, length, replicate, Ok, Result, nat_lt}
use Rattle.plan.specs.declared.cells.Cell.{Cell}
use Rattle.plan.specs.declared.refusals.Fault.{Fault}
use Rattle.plan.specs.declared.refusals.Refusal.TheVariants.{Count}
use Rattle.plan.specs.Refusals.{refused_at, then}
use Rattle.plan.specs.Tables.{laid}
use Rattle.records.specs.Record.{record_size}
use Rattle.records.specs.Plans.{packed_plan, unpacking}
use Rattle.operators.specs.Answers.{Answers}
use Rattle.checks.specs.Accepts.{count_answer, room_answer, plan_answer}
use Rattle.limits.specs.declared.rules.Rule.{Rule}
use Rattle.limits.specs.Calls.{rule_answer}

-- more bytes than so many records take are refused before anything else
abbrev pub size_answer : ℕ → ℕ → Result (Unit {0}) Fault
size_answer most bytes = cond (nat_lt (record_size * most) bytes) (refused_at Count 0) (Ok tt)

-- the plan that bytes hold: what they unpack to in a table as large as need be
abbrev pub unpacked : List ℕ → Result (List Cell) Fault
unpacked bytes = unpacking bytes (length bytes)

-- how many bytes of output each node asks for: two records, since no rule more than doubles a plan
abbrev pub node_room : ℕ
node_room = 2 * record_size

-- what a rule leaves of a plan, or the first refusal: count, room in the output, the checks of the plan, what the rule itself refuses
abbrev pub cells_answer : Answers → Rule → List Cell → ℕ → Result (List Cell) Fault
cells_answer a rule cells room =
    then (count_answer (length cells) (length cells)) (λ _. then (room_answer room (node_room * length cells)) (λ _. then (plan_answer a cells) (λ _. rule_answer a rule cells)))

-- the same of the plan that bytes hold: what they refuse comes first
abbrev pub unpacked_answer : Answers → Rule → List ℕ → ℕ → Result (List Cell) Fault
unpacked_answer a rule bytes room = then (unpacked bytes) (λ cells. cells_answer a rule cells room)

-- the same where so many records are taken at most
abbrev pub packed_answer : Answers → ℕ → Rule → List ℕ → ℕ → Result (List Cell) Fault
packed_answer a most rule bytes room = then (size_answer most (length bytes)) (λ _. unpacked_answer a rule bytes room)

-- the bytes of a plan that is left
abbrev pub packed_up : Result (List Cell) Fault → Result (List ℕ) Fault
packed_up r = then r (λ new. Ok (packed_plan new))

-- the output afterwards: the new plan's bytes with zeros behind them; refused, zeros alone
abbrev pub output : Answers → ℕ → Rule → List ℕ → ℕ → List ℕ
output a most rule bytes room = laid 0 (packed_up (packed_answer a most rule bytes room)) (replicate room 0)
