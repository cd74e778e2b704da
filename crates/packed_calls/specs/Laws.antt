-- What no call on a packed plan, and no list of such calls, changes for a scholar. Assumes nothing.
use Rattle.std.specs.Prelude.{◌≡◌, ℕ, ◌*◌, List, [], ◌∷◌, take, ℤ, IfOk, Ok, Err, Result}
use Rattle.plan.specs.declared.cells.Cell.{Cell}
use Rattle.plan.specs.declared.refusals.Fault.{Fault}
use Rattle.plan.specs.Tables.{counted}
use Rattle.records.specs.Record.{record_size}
use Rattle.operators.specs.Answers.{Answers}
use Rattle.limits.specs.declared.rules.Rule.{Rule}
use Rattle.limits.specs.Laws.{PagesKept}
use Rattle.packed_calls.specs.Codes.{code_of}
use Rattle.packed_calls.specs.Converts.{unpacked, packed_answer, packed_up, output}

-- bytes that hold a plan none of whose pages differs from those of an earlier plan
pub record HoldsPages (a : Answers) (before : List Cell) (bytes : List ℕ) : Type 0 where
  pub after : List Cell
  pub held : unpacked bytes ≡ Ok after
  pub pages : PagesKept a before after

-- two packed plans between which no page changes
pub record PackedKept (a : Answers) (bytes new : List ℕ) : Type 0 where
  pub before : List Cell
  pub held : unpacked bytes ≡ Ok before
  pub kept : HoldsPages a before new

-- whatever plan the first bytes hold, the second hold one with the same pages
abbrev pub BytesKept : Answers → List ℕ → List ℕ → Type 0
BytesKept a bytes new = (cells : List Cell) → unpacked bytes ≡ Ok cells → HoldsPages a cells new

-- a call that is asked for: its rule, and how many bytes its output has
pub record AskedPacked : Type 0 where
  pub rule : Rule
  pub room : ℕ

-- the bytes that a caller goes on with: those that a granted call left, and behind a refused one those that it had
abbrev pub bytes_after : Result (List ℕ) Fault → List ℕ → List ℕ
bytes_after (Ok new) bytes = new
bytes_after (Err e) bytes = bytes

-- calls one after another, each on the bytes that the last granted one left
abbrev pub ran_packed : Answers → ℕ → List AskedPacked → List ℕ → List ℕ
ran_packed a most [] bytes = bytes
ran_packed a most (c ∷ cs) bytes = ran_packed a most cs (bytes_after (packed_up (packed_answer a most c.rule bytes c.room)) bytes)

-- after any list of calls, of any rules in any order with any room, granted or refused
abbrev pub PackedRunsKeepPages : Answers → ℕ → Type 0
PackedRunsKeepPages a most = (calls : List AskedPacked) (bytes : List ℕ) → BytesKept a bytes (ran_packed a most calls bytes)

-- what a call does with the bytes of a plan, so many records at most: its answer, its output, and that no page changes
pub record PackedCalled (a : Answers) (most : ℕ) (rule : Rule) (bytes : List ℕ) (room : ℕ) (out : List ℕ) (answer : ℤ) : Type 0 where
  -- the first refusal in order with its place, or the new node count
  pub answered : answer ≡ code_of (counted (packed_answer a most rule bytes room))
  -- every byte of the output
  pub written : out ≡ output a most rule bytes room
  -- granted, between the plan that came in and the plan that went out
  pub pages : IfOk (counted (packed_answer a most rule bytes room)) (λ n. PackedKept a bytes (take (record_size * n) out))
  -- over any list of such calls
  pub runs : PackedRunsKeepPages a most
