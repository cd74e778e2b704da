-- What a rule leaves of an accepted plan has a record for each cell, and at most twice as many. Assumes nothing.
use Rattle.std.proofs.Common.{◌≡◌, ℕ, ◌*◌, ◌<◌, ◌≤◌, true, not, ◌&&◌, ◌||◌, eqb, leb, List, [], ◌∷◌, length, is_some, Some, None, Ok, Option, unwrap_or, subst, arith}
use Rattle.std.specs.List.{AllByRecursion}
use Rattle.std.proofs.lemmas.Bool.{and_parts}
use Rattle.std.proofs.lemmas.Bool.Decides.{nat_tests}
use Rattle.plan.specs.declared.cells.Cell.{Cell}
use Rattle.plan.specs.declared.refusals.Refusal.TheVariants.{Fit, Fields}
use Rattle.plan.specs.Kinds.{global_limit, local_limit, aggregate}
use Rattle.plan.specs.Numbers.{max_number, max_children, max_parameter}
use Rattle.plan.specs.Refusals.{then}
use Rattle.records.specs.Plans.{fits, in_range, all_pass}
use Rattle.records.proofs.Passes.{pass_each}
use Rattle.operators.specs.Answers.{Answers}
use Rattle.operators.specs.Questions.{fits_kind}
use Rattle.checks.specs.Accepts.{Accepted}
use Rattle.checks.specs.Cells.{fit_cell, small, small_cell, placed_cell, taken_cell, fields_cell}
use Rattle.checks.specs.Windows.{windows_answer}
use Rattle.rows.specs.Grow.{grow_first, grown_plan, grow_sums}
use Rattle.rows.specs.Hint.{hinted_plan, hint_sums}
use Rattle.rows.proofs.Passed.{passed}
use Rattle.rows.proofs.Passed.{Fit as AllFit}
use Rattle.rows.proofs.Passed.{Fields as AllFields}
use Rattle.rows.proofs.Alike.{kinds_alike}
use Rattle.rows.proofs.HintKeeps.{hinted_alike}
use Rattle.rows.proofs.Accepting.{grown_alike, grow_keeps_accepted, hint_keeps_accepted}
use Rattle.sinks.specs.Sink.{at_first, sunk_plan, sink_sums}
use Rattle.sinks.proofs.Visiting.{sunk_length}
use Rattle.sinks.proofs.Settling.{sunk_fit, sunk_kinds}
use Rattle.sinks.proofs.Accepting.{sunk_fields}
use Rattle.limits.specs.declared.rules.Rule.{Rule}
use Rattle.limits.specs.declared.rules.Rule.TheVariants.{Sink, Grow, Hint}
use Rattle.limits.specs.Calls.{rule_answer}
use Rattle.limits.proofs.Keeping.{granted_then, unpacked_ok}

-- what packing asks of cells, and how many they may be
pub record Packs (before : ℕ) (new : List Cell) : Type 0 where
  pub kinds : AllByRecursion (λ c. c.kind < 256) new
  pub fit : all_pass Fit fits 0 new ≡ Ok tt
  pub fields : all_pass Fields in_range 0 new ≡ Ok tt
  pub few : length new ≤ 2 * before

each_weaker : (T U : Cell → Type 0) → ((c : Cell) → T c → U c) → (cs : List Cell) → AllByRecursion T cs → AllByRecursion U cs
each_weaker T U e [] h = tt
each_weaker T U e (c ∷ cs) h = (e c h.0, each_weaker T U e cs h.1)

-- numbers that are small and in their places fit their fields
in_range_by : (f h : Option ℕ) (s k : ℕ) → (leb s max_number && small f && small h) ≡ true
    → ((eqb s 0 || eqb k global_limit) && (not (eqb k local_limit) || is_some f) && (not (is_some h) || eqb k aggregate)) ≡ true
    → (leb (unwrap_or f 0) max_number && leb (unwrap_or h 0) max_number && leb s max_number && (not (is_some h) || eqb s 0)) ≡ true
in_range_by None None s k e p = grind (arith, nat_tests)
in_range_by None (Some h) s k e p = grind (arith, nat_tests)
in_range_by (Some f) None s k e p = grind (arith, nat_tests)
in_range_by (Some f) (Some h) s k e p = grind (arith, nat_tests)

module _ (a : Answers) where
  fits_each : (c : Cell) → fit_cell a c ≡ true → fits c ≡ true
  fits_each c h = (and_parts (leb c.children max_children && leb c.parameter max_parameter) (fits_kind a c.kind c.parameter c.children) h).0

  range_each : (c : Cell) → fields_cell a c ≡ true → in_range c ≡ true
  range_each c h =
      let parts = and_parts (small_cell c && placed_cell c) (taken_cell a c) h in
      let both = and_parts (small_cell c) (placed_cell c) parts.0 in
      in_range_by c.fetch c.hint c.skip c.kind both.0 both.1

  packs : (before : ℕ) (new : List Cell) → AllByRecursion (λ c. c.kind < 256) new → AllFit a new → AllFields a new → length new ≤ 2 * before → Packs before new
  packs before new k fit fields few = record {
    kinds = k;
    fit = pass_each Fit fits 0 new (each_weaker (λ c. fit_cell a c ≡ true) (λ c. fits c ≡ true) fits_each new fit);
    fields = pass_each Fields in_range 0 new (each_weaker (λ c. fields_cell a c ≡ true) (λ c. in_range c ≡ true) range_each new fields);
    few = few;
  }

  pub rule_packs : (rule : Rule) (cells new : List Cell) → AllByRecursion (λ c. c.kind < 256) cells → Accepted a cells → rule_answer a rule cells ≡ Ok new → Packs (length cells) new
  rule_packs Sink cells new k h e =
      let sums = granted_then (sink_sums a cells) (λ _. Ok (sunk_plan a cells)) new e in
      let p = passed a cells h in
      let first = at_first ∷ [] in
      subst (Packs (length cells)) (unpacked_ok (sunk_plan a cells) new sums.2)
      (packs (length cells) (sunk_plan a cells) (sunk_kinds a 256 (omega arith) cells first k) (sunk_fit a cells first p.fit) (sunk_fields a cells p.fields sums.1) (sunk_length a cells first))
  rule_packs Grow cells new k h e =
      let windows = granted_then (windows_answer a cells) (λ _. then (grow_sums a cells) (λ _. Ok (grown_plan a cells))) new e in
      let sums = granted_then (grow_sums a cells) (λ _. Ok (grown_plan a cells)) new windows.2 in
      let kept = grow_keeps_accepted a cells h sums.1 in
      let p = passed a (grown_plan a cells) kept.0.accepted in
      let long = kept.1 in
      subst (Packs (length cells)) (unpacked_ok (grown_plan a cells) new sums.2)
      (packs (length cells) (grown_plan a cells) (kinds_alike 256 cells (grown_plan a cells) (grown_alike a cells grow_first) k) p.fit p.fields (omega arith))
  rule_packs Hint cells new k h e =
      let sums = granted_then (hint_sums cells) (λ _. Ok (hinted_plan a cells)) new e in
      let kept = hint_keeps_accepted a cells h sums.1 in
      let p = passed a (hinted_plan a cells) kept.0.accepted in
      let long = kept.1 in
      subst (Packs (length cells)) (unpacked_ok (hinted_plan a cells) new sums.2)
      (packs (length cells) (hinted_plan a cells) (kinds_alike 256 cells (hinted_plan a cells) (hinted_alike a cells None) k) p.fit p.fields (omega arith))
