-- What no call, and no run of calls, changes for a scholar. Assumes nothing.
use Rattle.std.specs.Prelude.{◌≡◌, ℕ, List, [], ◌∷◌, take, Some, Result}
use Rattle.std.specs.Result.{result_unwrap_or}
use Rattle.plan.specs.declared.cells.Cell.{Cell}
use Rattle.plan.specs.declared.refusals.Fault.{Fault}
use Rattle.plan.specs.Cells.{blank}
use Rattle.plan.specs.Tables.{counted, laid}
use Rattle.operators.specs.Answers.{Answers}
use Rattle.operators.specs.Rows.{Meaning, rows}
use Rattle.operators.specs.Rules.{Rules}
use Rattle.checks.specs.Accepts.{Accepted}
use Rattle.rows.specs.Laws.{StillAccepted}
use Rattle.limits.specs.declared.rules.Rule.{Rule}
use Rattle.limits.specs.declared.rules.RuleCall.{RuleCall}
use Rattle.limits.specs.Calls.{Lent, call_answer}

-- the node count that a call passes on: the new one, or the one that it got
abbrev pub count_after : Result ℕ Fault → ℕ → ℕ
count_after = result_unwrap_or

-- each partition of the root has the same rows in the same order; and an accepted plan stays accepted, with as many partitions
pub record PageKept (a : Answers) (m : Meaning) (before after : List Cell) : Type 0 where
  pub rows_kept : rows m after ≡ rows m before
  pub shape_kept : Accepted a before → StillAccepted a before after

-- whatever the operators mean and store, as long as they keep the rules
abbrev pub PagesKept : Answers → List Cell → List Cell → Type 0
PagesKept a before after = (m : Meaning) → Rules a m → PageKept a m before after

-- what a call does: its answer, the plan table afterwards, and that no page changes
pub record Called (a : Answers) (rule : Rule) (lent : Lent) (count : ℕ) (before after : List Cell) (answer : Result ℕ Fault) : Type 0 where
  -- the first refusal in order, or the new node count
  pub answered : answer ≡ counted (call_answer a rule before count lent)
  -- granted, the cells that the steps give and blank cells behind them; refused, untouched
  pub written : after ≡ laid blank (call_answer a rule before count lent) before
  pub pages : PagesKept a (take count before) (take (count_after answer count) after)

-- a call that is asked for: its rule, and the memory that it is lent
pub record Asked : Type 0 where
  pub rule : Rule
  pub lent : Lent

-- what a run answers and leaves: each call's answer, the plan table and the node count
pub record Ran : Type 0 where
  pub answers : List (Result ℕ Fault)
  pub table : List Cell
  pub count : ℕ

-- calls one after another: each gets the plan table and the count that the one before it passed on
abbrev pub ran : Answers → List Asked → List Cell → ℕ → Ran
ran a [] table count = record { answers = []; table = table; count = count }
ran a (c ∷ cs) table count =
    let answer = call_answer a c.rule table count c.lent in
    let rest = ran a cs (laid blank answer table) (count_after (counted answer) count) in
    record { answers = counted answer ∷ rest.answers; table = rest.table; count = rest.count }

-- after any run, of any calls in any order with any memory, granted or refused
abbrev pub RunsKeepPages : Answers → Type 0
RunsKeepPages a = (calls : List Asked) (table : List Cell) (count : ℕ) → let after = ran a calls table count in PagesKept a (take count table) (take after.count after.table)

-- calls to make, all with the same memory
abbrev pub asked : Lent → List RuleCall → List Asked
asked lent [] = []
asked lent (c ∷ cs) = record { rule = c.rule; lent = lent } ∷ asked lent cs

-- calls with their answers
abbrev pub answered_calls : List RuleCall → List (Result ℕ Fault) → List RuleCall
answered_calls [] rs = []
answered_calls (c ∷ cs) [] = c ∷ cs
answered_calls (c ∷ cs) (r ∷ rs) = record { rule = c.rule; answer = Some r } ∷ answered_calls cs rs
