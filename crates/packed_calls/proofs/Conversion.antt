-- What unpacking, the call and packing come to, one after another, in memory that is large enough. Assumes nothing.
use Rattle.std.proofs.Common.{◌≡◌, ℕ, ◌+◌, ◌-◌, ◌*◌, ◌/◌, ◌≤◌, List, ◌++◌, length, take, replicate, Ok, Err, Result, sym, refl, ap, ◌∙◌, subst, arith, le-ltb}
use Rattle.std.proofs.lemmas.List.{take_at, length-append, length-replicate}
use Rattle.std.proofs.lemmas.Bool.Decides.{nat_tests}
use Rattle.plan.specs.declared.cells.Cell.{Cell}
use Rattle.plan.specs.declared.refusals.Fault.{Fault}
use Rattle.plan.specs.Cells.{blank}
use Rattle.plan.specs.Refusals.{then}
use Rattle.plan.specs.Tables.{counted, laid}
use Rattle.records.specs.Record.{record_size}
use Rattle.records.specs.Plans.{packed_plan, packing, unpacking}
use Rattle.records.proofs.Rooms.{enough, read_cells}
use Rattle.operators.specs.Answers.{Answers}
use Rattle.checks.specs.Accepts.{count_answer, room_answer, plan_answer}
use Rattle.limits.specs.declared.rules.Rule.{Rule}
use Rattle.limits.specs.Calls.{lent_of, rule_answer, call_answer}
use Rattle.packed_calls.specs.Converts.{unpacked, node_room, cells_answer, unpacked_answer}
use Rattle.packed_calls.proofs.Keeping.{unpacked_packs}

-- what a count tells of the list that was counted
pub granted_back : {A : Type 0} (x : Result (List A) Fault) (n : ℕ) → Ok n ≡ counted x → (xs : List A) × (x ≡ Ok xs) × (n ≡ length xs)
granted_back (Ok xs) n h = (xs, refl, cc)
granted_back (Err e) n h = absurd (let z : ◌≡◌ {A = ℕ} 0 1 = cc in omega arith)

-- a room that is wide enough, and what a test of one tells
room_fits : (entries wanted : ℕ) → wanted ≤ entries → room_answer entries wanted ≡ Ok tt
room_fits entries wanted h = grind (arith, nat_tests)

room_told : (entries wanted : ℕ) → Ok tt ≡ room_answer entries wanted → wanted ≤ entries
room_told entries wanted h = grind (arith, nat_tests)

-- a count that fits a table fits a larger one
count_wider : (small large count : ℕ) → small ≤ large → Ok tt ≡ count_answer small count → count_answer large count ≡ Ok tt
count_wider small large count h is = grind (arith, nat_tests)

module _ (a : Answers) (rule : Rule) (bytes : List ℕ) (room : ℕ) where
  -- the call grants: what it left in the table's front packs, and is the answer
  pub record Granted (n : ℕ) (after : List Cell) : Type 0 where
    pub whole : n ≡ length (take n after)
    pub answer : unpacked_answer a rule bytes room ≡ Ok (take n after)
    pub packs : packing (take n after) room ≡ Ok (packed_plan (take n after))

  pub granted : (before table : List Cell) (count work requirements facts n : ℕ) (after : List Cell) → 2 * (length bytes / record_size) ≤ length before → 2 * (length bytes / record_size) ≤ work
      → length bytes / record_size ≤ requirements → length bytes / record_size ≤ facts → Ok count ≡ counted (unpacking bytes (length before)) → table ≡ laid blank (unpacking bytes (length before)) before
      → Ok tt ≡ count_answer count count → Ok tt ≡ room_answer room (node_room * count) → Ok n ≡ counted (call_answer a rule table count (lent_of work requirements facts))
      → after ≡ laid blank (call_answer a rule table count (lent_of work requirements facts)) table → Granted n after
  granted before table count work requirements facts n after b w q f u t c r h l =
      let lent = lent_of work requirements facts in
      let unpacks = granted_back (unpacking bytes (length before)) count u in
      let cells = unpacks.0 in
      let many : count ≡ length cells = unpacks.2 in
      let held : unpacked bytes ≡ Ok cells = sym (enough bytes (length before) (length bytes) (omega arith) (omega arith)) ∙ unpacks.1 in
      let whole = (read_cells bytes (length bytes) cells held).whole in
      let behind = replicate (length before - length cells) blank in
      let filled : table ≡ cells ++ behind = t ∙ ap (λ (x : Result (List Cell) Fault). laid blank x before) unpacks.1 in
      let front : take count table ≡ cells = ap (take count) filled ∙ take_at cells behind count (sym many) in
      let long : length table ≡ length cells + length behind = ap length filled ∙ length-append cells behind in
      let rest = length-replicate (length before - length cells) blank in
      let counts : count_answer (length table) count ≡ Ok tt = count_wider count (length table) count (omega arith) c in
      let one = room_fits (length table) (2 * count) (omega arith) in
      let two = room_fits work (2 * count) (omega arith) in
      let three = room_fits requirements count (omega arith) in
      let four = room_fits facts count (omega arith) in
      let last = λ (cs : List Cell). then (plan_answer a cs) (λ _. rule_answer a rule cs) in
      let theirs : call_answer a rule table count lent ≡ last cells =
      λ i. then (counts i) (λ _. then (then (one i) (λ _. then (two i) (λ _. then (three i) (λ _. four i)))) (λ _. last (front i))) in
      let ours : cells_answer a rule cells room ≡ last cells =
      (λ i. then (count_answer (sym many i) (sym many i)) (λ _. then (room_answer room (node_room * sym many i)) (λ _. last cells))) ∙ (λ i. then (sym c i) (λ _. then (sym r i) (λ _. last cells))) in
      let grant = granted_back (call_answer a rule table count lent) n h in
      let new = grant.0 in
      let left : cells_answer a rule cells room ≡ Ok new = ours ∙ sym theirs ∙ grant.1 in
      let front_new : take n after ≡ new = ap (take n) (l ∙ ap (λ (x : Result (List Cell) Fault). laid blank x table) grant.1) ∙ take_at new (replicate (length table - length new) blank) n (sym grant.2) in
      let fit = unpacked_packs a rule bytes room cells new held left in
      let few = fit.few in
      let much = room_told room (node_room * count) r in
      let packs : packing new room ≡ Ok (packed_plan new) = rw (le-ltb room (record_size * length new) (omega arith), fit.fit, fit.fields) in
      record {
        whole = grant.2 ∙ sym (ap length front_new);
        answer = ap (λ (x : Result (List Cell) Fault). then x (λ cs. cells_answer a rule cs room)) held ∙ left ∙ ap Ok (sym front_new);
        packs = subst (λ (cs : List Cell). packing cs room ≡ Ok (packed_plan cs)) (sym front_new) packs;
      }
