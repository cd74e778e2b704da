-- One call made over and over on the same cells. Assumes nothing.
use Rattle.std.specs.Prelude.{ℕ, ◌*◌, cond, List, ◌++◌, length, replicate, Ok, Err, Result, ◌==◌, nat_lt}
use Rattle.plan.specs.declared.cells.Cell.{Cell}
use Rattle.plan.specs.declared.refusals.Fault.{Fault}
use Rattle.plan.specs.declared.refusals.Refusal.TheVariants.{Count}
use Rattle.plan.specs.Cells.{blank}
use Rattle.plan.specs.Numbers.{max_nodes}
use Rattle.plan.specs.Refusals.{refused_at, then}
use Rattle.plan.specs.Tables.{counted}
use Rattle.records.specs.Plans.{unpacking}
use Rattle.operators.specs.Catalogue.{catalogue}
use Rattle.limits.specs.declared.rules.Rule.{Rule}
use Rattle.limits.specs.Calls.{Lent, lent_of, call_answer}

-- the answer of the last of so many calls, each on the saved table; without any call the count
abbrev pub repeated : ℕ → Rule → List Cell → ℕ → Lent → Result ℕ Fault
repeated times rule saved count lent = cond (times == 0) (Ok count) (counted (call_answer catalogue rule saved count lent))

-- a count, and 0 for a refusal
abbrev pub count_or_none : Result ℕ Fault → ℕ
count_or_none (Ok n) = n
count_or_none (Err e) = 0

-- a table with a plan in its front, and as many blank cells behind it
abbrev pub table_of : List Cell → List Cell
table_of cells = cells ++ replicate (length cells) blank

-- the last answer of so many calls on a plan, in tables and stacks of just the size that a call asks for; more than 4,096 nodes are refused
abbrev pub repeated_on : ℕ → Rule → List Cell → Result ℕ Fault
repeated_on times rule cells = cond (nat_lt max_nodes (length cells)) (refused_at Count 0) (repeated times rule (table_of cells) (length cells) (lent_of (2 * length cells) (length cells) (length cells)))

-- the node count that the last call left; 0 where it was refused, or where the bytes hold no plan
abbrev pub repeated_count : ℕ → Rule → List ℕ → ℕ
repeated_count times rule bytes = count_or_none (then (unpacking bytes (2 * max_nodes)) (repeated_on times rule))
