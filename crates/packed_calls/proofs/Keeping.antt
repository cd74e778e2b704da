-- A granted call leaves bytes that hold what its rule makes of the plan, a refused one none: so the laws of the rules hold of bytes, and of
-- lists of calls. Assumes nothing.
use Rattle.std.proofs.Common.{◌≡◌, ℕ, ◌-◌, ◌*◌, List, [], ◌∷◌, length, take, replicate, is_ok, IfOk as made, Ok, Err, Result, sym, refl, ap, ◌∙◌, subst, arith}
use Rattle.std.proofs.lemmas.List.{take_at}
use Rattle.plan.specs.declared.cells.Cell.{Cell}
use Rattle.plan.specs.declared.refusals.Fault.{Fault}
use Rattle.plan.specs.Refusals.{then}
use Rattle.plan.specs.Tables.{counted, laid}
use Rattle.records.specs.Record.{record_size}
use Rattle.records.specs.Plans.{packed_plan}
use Rattle.records.proofs.Chunks.{length_packed}
use Rattle.records.proofs.Undone.{plan_forth}
use Rattle.records.proofs.Rooms.{enough, read_cells}
use Rattle.operators.specs.Answers.{Answers}
use Rattle.checks.specs.Accepts.{count_answer, room_answer, plan_answer, Accepted}
use Rattle.limits.specs.declared.rules.Rule.{Rule}
use Rattle.limits.specs.Calls.{rule_answer}
use Rattle.limits.proofs.Keeping.{granted_then, unpacked_ok, same_page, next_page, rule_keeps}
use Rattle.packed_calls.specs.Converts.{size_answer, unpacked, node_room, cells_answer, unpacked_answer, packed_answer, packed_up, output}
use Rattle.packed_calls.specs.Laws.{HoldsPages, PackedKept, BytesKept, AskedPacked, bytes_after, ran_packed}
use Rattle.packed_calls.proofs.Writable.{Packs, rule_packs}

-- a packed plan holds its cells
pub holds : (before : ℕ) (new : List Cell) → Packs before new → unpacked (packed_plan new) ≡ Ok new
holds before new p =
    let long = length_packed new in
    enough (packed_plan new) (length (packed_plan new)) (length new) (omega arith) (omega arith) ∙ plan_forth new p.kinds p.fit p.fields

module _ (a : Answers) where
  -- what a granted answer was made of
  pub record Made (rule : Rule) (cells new : List Cell) (room : ℕ) : Type 0 where
    pub accepted : Accepted a cells
    pub rewritten : rule_answer a rule cells ≡ Ok new

  pub made_of : (rule : Rule) (cells new : List Cell) (room : ℕ) → cells_answer a rule cells room ≡ Ok new → Made rule cells new room
  made_of rule cells new room e =
      let last = λ (u : ℕ). rule_answer a rule cells in
      let counts = granted_then (count_answer (length cells) (length cells)) (λ _. then (room_answer room (node_room * length cells)) (λ _. then (plan_answer a cells) last)) new e in
      let rooms = granted_then (room_answer room (node_room * length cells)) (λ _. then (plan_answer a cells) last) new counts.2 in
      let plan = granted_then (plan_answer a cells) last new rooms.2 in
      record { accepted = ap is_ok plan.1; rewritten = plan.2 }

  pub unpacked_packs : (rule : Rule) (bytes : List ℕ) (room : ℕ) (cells new : List Cell) → unpacked bytes ≡ Ok cells → cells_answer a rule cells room ≡ Ok new → Packs (length cells) new
  unpacked_packs rule bytes room cells new u e = let made = made_of rule cells new room e in rule_packs a rule cells new (read_cells bytes (length bytes) cells u).kinds made.accepted made.rewritten

  pub unpacked_keeps : (rule : Rule) (bytes : List ℕ) (room : ℕ) (new : List Cell) → unpacked_answer a rule bytes room ≡ Ok new → PackedKept a bytes (packed_plan new)
  unpacked_keeps rule bytes room new e =
      let parts = granted_then (unpacked bytes) (λ cs. cells_answer a rule cs room) new e in
      let cells = parts.0 in
      let made = made_of rule cells new room parts.2 in
      record {
        before = cells;
        held = parts.1;
        kept = record {
          after = new;
          held = holds (length cells) new (unpacked_packs rule bytes room cells new parts.1 parts.2);
          pages = λ m rules. rule_keeps a m rules rule cells new made.accepted made.rewritten;
        };
      }

  -- the plan that bytes hold is one
  pub any_plan : (bytes new : List ℕ) → PackedKept a bytes new → BytesKept a bytes new
  any_plan bytes new p cells u = subst (λ (before : List Cell). HoldsPages a before new) (unpacked_ok p.before cells (sym p.held ∙ u)) p.kept

  same_bytes : (bytes : List ℕ) → BytesKept a bytes bytes
  same_bytes bytes cells u = record { after = cells; held = u; pages = λ m rules. same_page a m cells }

  next_bytes : (x y z : List ℕ) → BytesKept a x y → BytesKept a y z → BytesKept a x z
  next_bytes x y z p q cells u =
      let first = p cells u in
      let second = q first.after first.held in
      record { after = second.after; held = second.held; pages = λ m rules. next_page a m rules cells first.after second.after (first.pages m rules) (second.pages m rules) }

  -- one call
  call_keeps : (most : ℕ) (rule : Rule) (bytes : List ℕ) (room : ℕ) (new : List Cell) → packed_answer a most rule bytes room ≡ Ok new → PackedKept a bytes (packed_plan new)
  call_keeps most rule bytes room new is = unpacked_keeps rule bytes room new (granted_then (size_answer most (length bytes)) (λ _. unpacked_answer a rule bytes room) new is).2

  call_keeps_bytes : (most : ℕ) (rule : Rule) (bytes : List ℕ) (room : ℕ) → BytesKept a bytes (bytes_after (packed_up (packed_answer a most rule bytes room)) bytes)
  call_keeps_bytes most rule bytes room = go (packed_answer a most rule bytes room) refl
    where
      go : (r : Result (List Cell) Fault) → packed_answer a most rule bytes room ≡ r → BytesKept a bytes (bytes_after (packed_up r) bytes)
      go (Err e) is = same_bytes bytes
      go (Ok new) is = any_plan bytes (packed_plan new) (call_keeps most rule bytes room new is)

  pub runs_keep_bytes : (most : ℕ) (calls : List AskedPacked) (bytes : List ℕ) → BytesKept a bytes (ran_packed a most calls bytes)
  runs_keep_bytes most [] bytes = same_bytes bytes
  runs_keep_bytes most (c ∷ cs) bytes =
      let next = bytes_after (packed_up (packed_answer a most c.rule bytes c.room)) bytes in
      next_bytes bytes next (ran_packed a most cs next) (call_keeps_bytes most c.rule bytes c.room) (runs_keep_bytes most cs next)

  -- the front of the output is the new plan's bytes
  pub output_keeps : (most : ℕ) (rule : Rule) (bytes : List ℕ) (room : ℕ) (out : List ℕ) → out ≡ output a most rule bytes room
      → made (counted (packed_answer a most rule bytes room)) (λ n. PackedKept a bytes (take (record_size * n) out))
  output_keeps most rule bytes room out is = go (packed_answer a most rule bytes room) (call_keeps most rule bytes room) is
    where
      go : (r : Result (List Cell) Fault) → ((new : List Cell) → r ≡ Ok new → PackedKept a bytes (packed_plan new)) → out ≡ laid 0 (packed_up r) (replicate room 0)
          → made (counted r) (λ n. PackedKept a bytes (take (record_size * n) out))
      go (Err e) kept is = tt
      go (Ok new) kept is =
          let new_bytes = packed_plan new in
          let front : take (record_size * length new) out ≡ new_bytes = ap (take (record_size * length new)) is ∙ take_at new_bytes (replicate (length (replicate room 0) - length new_bytes) 0) (record_size * length new) (length_packed new) in
          subst (PackedKept a bytes) (sym front) (kept new refl)
