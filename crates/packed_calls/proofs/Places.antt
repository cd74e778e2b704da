-- Every place of a refusal is at most the number of cells. Assumes nothing.
use Rattle.std.proofs.Common.{◌≡◌, ℕ, ◌+◌, ◌*◌, ◌/◌, ◌%◌, ◌≤◌, Bool, true, false, cond, not, ◌||◌, eqb, ltb, List, [], ◌∷◌, ◌++◌, map, length, replicate, Ok, Err, Result, refl, subst, arith, ltb-false}
use Rattle.plan.specs.declared.cells.Cell.{Cell}
use Rattle.plan.specs.declared.refusals.Fault.{Fault}
use Rattle.plan.specs.declared.refusals.Refusal.{Refusal}
use Rattle.plan.specs.declared.refusals.Refusal.TheVariants.{Packed, Count, Room, Sum}
use Rattle.plan.specs.Numbers.{max_nodes}
use Rattle.plan.specs.Refusals.{refused_at, then}
use Rattle.plan.specs.Tables.{counted}
use Rattle.records.specs.Record.{record_size, cell_of, sound}
use Rattle.records.specs.Plans.{plan_values, all_pass}
use Rattle.records.proofs.Chunks.{length_values}
use Rattle.records.proofs.Rooms.{read_cells}
use Rattle.operators.specs.Answers.{Answers}
use Rattle.checks.specs.Accepts.{count_answer, room_answer, plan_answer}
use Rattle.checks.specs.Facts.{facts}
use Rattle.checks.specs.Windows.{windows_answer}
use Rattle.checks.proofs.Places.{Within, within_then, within_either, windows_answer_within, plan_within}
use Rattle.rows.specs.declared.growing.TraverseState.{TraverseState}
use Rattle.rows.specs.Sums.{too_large}
use Rattle.rows.specs.Grow.{grow_first, grow_sum, grow_next, grow_sums_from, grow_sums}
use Rattle.rows.specs.Hint.{hint_sum, hint_sums_from, hint_sums}
use Rattle.sinks.specs.declared.requirements.GlobalRequirements.{GlobalRequirements}
use Rattle.sinks.specs.Sink.{at_first, step, sink_sum, sink_sums_from, sink_sums}
use Rattle.limits.specs.declared.rules.Rule.{Rule}
use Rattle.limits.specs.declared.rules.Rule.TheVariants.{Sink, Grow, Hint}
use Rattle.limits.specs.Calls.{rule_answer}
use Rattle.limits.proofs.Keeping.{granted_then}
use Rattle.packed_calls.specs.Codes.{HasCode}
use Rattle.packed_calls.specs.Converts.{unpacked, node_room, cells_answer, unpacked_answer, packed_answer}
use Rattle.packed_calls.proofs.Keeping.{unpacked_packs}

records_within : {A : Type 0} (refusal : Refusal) (test : A → Bool) (n at : ℕ) (xs : List A) → at + length xs ≤ n → Within n (all_pass refusal test at xs)
records_within refusal test n at [] h = tt
records_within refusal test n at (x ∷ xs) h =
    within_either n (test x) (all_pass refusal test (at + 1) xs) (refused_at refusal at) (records_within refusal test n (at + 1) xs (omega arith)) (omega arith)

hint_within : (n at : ℕ) (cs : List Cell) → at + length cs ≤ n → Within n (hint_sums_from at cs)
unfolding hint_sums_from
hint_within n at [] h = tt
hint_within n at (c ∷ cs) h = within_either n (too_large (hint_sum c)) (refused_at Sum at) (hint_sums_from (at + 1) cs) (omega arith) (hint_within n (at + 1) cs (omega arith))

module _ (a : Answers) where
  grow_within : (s : TraverseState) (n at : ℕ) (cs : List Cell) → at + length cs ≤ n → Within n (grow_sums_from a s at cs)
  unfolding grow_sums_from
  grow_within s n at [] h = tt
  grow_within s n at (c ∷ cs) h =
      within_either n (too_large (grow_sum a s c)) (refused_at Sum at) (grow_sums_from a (grow_next a s c) (at + 1) cs) (omega arith) (grow_within (grow_next a s c) n (at + 1) cs (omega arith))

  sink_within : (rs : List GlobalRequirements) (n at : ℕ) (cs : List Cell) → at + length cs ≤ n → Within n (sink_sums_from a rs at cs)
  unfolding sink_sums_from
  sink_within rs n at [] h = tt
  sink_within [] n at (c ∷ cs) h = tt
  sink_within (r ∷ rs) n at (c ∷ cs) h =
      let next = replicate c.children (step a r c (facts a cs)).1 ++ rs in
      within_either n (too_large (sink_sum r c)) (refused_at Sum at) (sink_sums_from a next (at + 1) cs) (omega arith) (sink_within next n (at + 1) cs (omega arith))

  rule_within : (rule : Rule) (cs : List Cell) → Within (length cs) (rule_answer a rule cs)
  rule_within Sink cs = within_then (length cs) (sink_sums a cs) _ (sink_within (at_first ∷ []) (length cs) 0 cs (omega arith)) (λ _. tt)
  rule_within Grow cs =
      within_then (length cs) (windows_answer a cs) _ (windows_answer_within a cs) (λ _. within_then (length cs) (grow_sums a cs) _ (grow_within grow_first (length cs) 0 cs (omega arith)) (λ _. tt))
  rule_within Hint cs = within_then (length cs) (hint_sums cs) _ (hint_within (length cs) 0 cs (omega arith)) (λ _. tt)

  cells_within : (rule : Rule) (cs : List Cell) (room : ℕ) → Within (length cs) (cells_answer a rule cs room)
  cells_within rule cs room =
      let n = length cs in
      within_then n (count_answer n n) _ (within_either n (eqb n 0 || ltb max_nodes n || ltb n n) (refused_at Count 0) (Ok tt) (omega arith) tt)
      (λ _. within_then n (room_answer room (node_room * n)) _ (within_either n (ltb room (node_room * n)) (refused_at Room 0) (Ok tt) (omega arith) tt)
      (λ _. within_then n (plan_answer a cs) _ (plan_within a cs) (λ _. rule_within rule cs)))

  -- of bytes, too: no place is beyond the number of records
  pub unpacked_within : (rule : Rule) (bytes : List ℕ) (room : ℕ) → Within (length bytes / record_size) (unpacked_answer a rule bytes room)
  unpacked_within rule bytes room = go (unpacked bytes) refl read
    where
      n : ℕ
      n = length bytes / record_size

      sounds : Within n (all_pass Packed sound 0 (plan_values bytes))
      sounds = let long = length_values bytes in records_within Packed sound n 0 (plan_values bytes) (omega arith)

      read : Within n (unpacked bytes)
      read =
          within_either n (not (eqb (length bytes % record_size) 0)) (refused_at Packed 0) _ (omega arith)
          (within_then n (all_pass Packed sound 0 (plan_values bytes)) _ sounds (λ _. within_either n (ltb (length bytes) n) (refused_at Room 0) (Ok (map cell_of (plan_values bytes))) (omega arith) tt))

      go : (r : Result (List Cell) Fault) → unpacked bytes ≡ r → Within n r → Within n (then r (λ cells. cells_answer a rule cells room))
      go (Err e) is w = w
      go (Ok cells) is w =
          let whole = (read_cells bytes (length bytes) cells is).whole in
          let same : length cells ≡ n = omega arith in
          subst (λ k. Within k (cells_answer a rule cells room)) same (cells_within rule cells room)

  -- so every answer has a code of its own
  pub coded : (most : ℕ) → most ≤ 4096 → (rule : Rule) (bytes : List ℕ) (room : ℕ) → HasCode (counted (packed_answer a most rule bytes room))
  coded most m rule bytes room = by_size (ltb (record_size * most) (length bytes)) refl
    where
      by_answer : length bytes ≤ record_size * most → (r : Result (List Cell) Fault) → unpacked_answer a rule bytes room ≡ r → Within (length bytes / record_size) r → HasCode (counted r)
      by_answer short (Err e) is w = omega arith
      by_answer short (Ok new) is w =
          let parts = granted_then (unpacked bytes) (λ cs. cells_answer a rule cs room) new is in
          let few = (unpacked_packs a rule bytes room parts.0 new parts.1 parts.2).few in
          let whole = (read_cells bytes (length bytes) parts.0 parts.1).whole in
          omega arith

      by_size : (b : Bool) → ltb (record_size * most) (length bytes) ≡ b → HasCode (counted (then (cond b (refused_at {A = Unit {0}} Count 0) (Ok tt)) (λ _. unpacked_answer a rule bytes room)))
      by_size true e = omega arith
      by_size false e = by_answer (ltb-false (record_size * most) (length bytes) e) (unpacked_answer a rule bytes room) refl (unpacked_within rule bytes room)
