-- The checks of a plan, each over the whole plan and in this order. Assumes nothing.
use Rattle.std.specs.Prelude.{◌≡◌, ℕ, true, cond, ◌||◌, List, length, take, is_ok, Ok, Result, ◌==◌, nat_lt}
use Rattle.plan.specs.declared.cells.Cell.{Cell}
use Rattle.plan.specs.declared.refusals.Fault.{Fault}
use Rattle.plan.specs.declared.refusals.Refusal.TheVariants.{Count, Room, Fit, Fields, Hints}
use Rattle.plan.specs.Numbers.{max_nodes}
use Rattle.plan.specs.Refusals.{refused_at, then}
use Rattle.operators.specs.Answers.{Answers}
use Rattle.checks.specs.Tree.{tree_of}
use Rattle.checks.specs.Cells.{fit_cell, fields_cell, hint_cell, singly}
use Rattle.checks.specs.Facts.{head_fact, facts, counted_from}

-- the count is 0, above 4,096 or above the number of the table's cells
abbrev pub count_answer : ℕ → ℕ → Result (Unit {0}) Fault
count_answer table count = cond (count == 0 || nat_lt max_nodes count || nat_lt table count) (refused_at Count 0) (Ok tt)

-- a table or a stack has fewer entries than are wanted
abbrev pub room_answer : ℕ → ℕ → Result (Unit {0}) Fault
room_answer entries wanted = cond (nat_lt entries wanted) (refused_at Room 0) (Ok tt)

-- how many partitions the root of a plan has
abbrev pub root_partitions : Answers → List Cell → ℕ
root_partitions a cells = (head_fact (facts a cells)).partitions

-- tree, fit, fields, partitions, hints: the first refusal, or the root's partition count
abbrev pub plan_answer : Answers → List Cell → Result ℕ Fault
plan_answer a cells =
    then (tree_of cells)
    (λ _. then (singly (λ _. fit_cell a) Fit cells)
    (λ _. then (singly (λ _. fields_cell a) Fields cells)
    (λ _. then (counted_from a 0 cells)
    (λ _. then (singly (λ before c. hint_cell a before c c.hint) Hints cells)
    (λ _. Ok (root_partitions a cells))))))

-- a plan is accepted if none of these refuses it
abbrev pub Accepted : Answers → List Cell → Type 0
Accepted a cells = is_ok (plan_answer a cells) ≡ true

-- of the plan in a table: the count, then room for as many facts, then the checks of the plan
abbrev pub check_answer : Answers → List Cell → ℕ → ℕ → Result ℕ Fault
check_answer a table count entries = then (count_answer (length table) count) (λ _. then (room_answer entries count) (λ _. plan_answer a (take count table)))
