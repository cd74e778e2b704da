-- A granted call leaves what its rule makes of an accepted plan, a refused one the plan that it got: so the rules' laws hold of calls,
-- and of runs of them. Assumes nothing.
use Rattle.std.proofs.Common.{◌≡◌, ℕ, ◌-◌, List, [], ◌∷◌, length, take, replicate, is_ok, Ok, Err, Result, sym, refl, ap, ◌∙◌, subst}
use Rattle.std.proofs.lemmas.List.{take_at}
use Rattle.plan.specs.declared.cells.Cell.{Cell}
use Rattle.plan.specs.declared.refusals.Fault.{Fault}
use Rattle.plan.specs.Cells.{blank}
use Rattle.plan.specs.Refusals.{then}
use Rattle.plan.specs.Tables.{counted, laid}
use Rattle.operators.specs.Answers.{Answers}
use Rattle.operators.specs.Rows.{Meaning}
use Rattle.operators.specs.Rules.{Rules}
use Rattle.checks.specs.Accepts.{count_answer, plan_answer, Accepted}
use Rattle.checks.specs.Windows.{windows_answer}
use Rattle.rows.specs.Grow.{grown_plan, grow_sums}
use Rattle.rows.specs.Hint.{hinted_plan, hint_sums}
use Rattle.rows.proofs.Passed.{passed, windows_pass}
use Rattle.rows.proofs.GrowKeeps.{grow_keeps}
use Rattle.rows.proofs.HintKeeps.{hint_keeps}
use Rattle.rows.proofs.Accepting.{grow_keeps_accepted, hint_keeps_accepted}
use Rattle.sinks.specs.Sink.{sunk_plan, sink_sums}
use Rattle.sinks.proofs.Sinking.{sunk_rows}
use Rattle.sinks.proofs.Accepting.{sunk_accepted}
use Rattle.limits.specs.declared.rules.Rule.{Rule}
use Rattle.limits.specs.declared.rules.Rule.TheVariants.{Sink, Grow, Hint}
use Rattle.limits.specs.Calls.{Lent, rule_answer, rooms_answer, call_answer}
use Rattle.limits.specs.Laws.{count_after, PageKept, Asked, ran}

-- what went on behind a `?` that granted
pub granted_then : {A B : Type 0} (r : Result A Fault) (f : A → Result B Fault) (y : B) → then r f ≡ Ok y → (x : A) × (r ≡ Ok x) × (f x ≡ Ok y)
granted_then (Ok x) f y e = (x, refl, e)
granted_then (Err g) f y e = absurd cc

pub unpacked_ok : (x y : List Cell) → ◌≡◌ {A = Result (List Cell) Fault} (Ok x) (Ok y) → x ≡ y
unpacked_ok x y e = cc

pub same_page : (a : Answers) (m : Meaning) (cells : List Cell) → PageKept a m cells cells
same_page a m cells = record { rows_kept = refl; shape_kept = λ h. record { accepted = h; partitions = refl } }

module _ (a : Answers) (m : Meaning) (rules : Rules a m) where
  pub next_page : (x y z : List Cell) → PageKept a m x y → PageKept a m y z → PageKept a m x z
  next_page x y z p q = record {
    rows_kept = q.rows_kept ∙ p.rows_kept;
    shape_kept = λ h. let s = p.shape_kept h in let t = q.shape_kept s.accepted in record { accepted = t.accepted; partitions = t.partitions ∙ s.partitions };
  }

  -- what a rule makes of an accepted plan
  pub rule_keeps : (rule : Rule) (cells new : List Cell) → Accepted a cells → rule_answer a rule cells ≡ Ok new → PageKept a m cells new
  rule_keeps Sink cells new h e =
      let sums = granted_then (sink_sums a cells) (λ _. Ok (sunk_plan a cells)) new e in
      let p = passed a cells h in
      subst (PageKept a m cells) (unpacked_ok (sunk_plan a cells) new sums.2)
      (record { rows_kept = sunk_rows a m rules cells p.tree p.fit p.fields; shape_kept = λ _. sunk_accepted a rules.passing cells h sums.1 })
  rule_keeps Grow cells new h e =
      let windows = granted_then (windows_answer a cells) (λ _. then (grow_sums a cells) (λ _. Ok (grown_plan a cells))) new e in
      let sums = granted_then (grow_sums a cells) (λ _. Ok (grown_plan a cells)) new windows.2 in
      subst (PageKept a m cells) (unpacked_ok (grown_plan a cells) new sums.2)
      (record { rows_kept = grow_keeps a m rules cells (passed a cells h).fit (windows_pass a 0 0 cells windows.1); shape_kept = λ _. (grow_keeps_accepted a cells h sums.1).0 })
  rule_keeps Hint cells new h e =
      let sums = granted_then (hint_sums cells) (λ _. Ok (hinted_plan a cells)) new e in
      let p = passed a cells h in
      subst (PageKept a m cells) (unpacked_ok (hinted_plan a cells) new sums.2)
      (record { rows_kept = hint_keeps a m rules cells p.tree p.fit p.fields p.hints; shape_kept = λ _. (hint_keeps_accepted a cells h sums.1).0 })

  -- what a call leaves of the plan in a table
  pub call_keeps : (rule : Rule) (table : List Cell) (count : ℕ) (lent : Lent) → let answer = call_answer a rule table count lent in
      PageKept a m (take count table) (take (count_after (counted answer) count) (laid blank answer table))
  call_keeps rule table count lent = go (call_answer a rule table count lent) refl
    where
      go : (r : Result (List Cell) Fault) → call_answer a rule table count lent ≡ r → PageKept a m (take count table) (take (count_after (counted r) count) (laid blank r table))
      go (Err e) is = same_page a m (take count table)
      go (Ok new) is =
          let counts = granted_then (count_answer (length table) count) (λ _. then (rooms_answer (length table) count lent) (λ _. then (plan_answer a (take count table)) (λ _. rule_answer a rule (take count table)))) new is in
          let rooms = granted_then (rooms_answer (length table) count lent) (λ _. then (plan_answer a (take count table)) (λ _. rule_answer a rule (take count table))) new counts.2 in
          let plan = granted_then (plan_answer a (take count table)) (λ _. rule_answer a rule (take count table)) new rooms.2 in
          subst (PageKept a m (take count table)) (sym (take_at new (replicate (length table - length new) blank) (length new) refl))
          (rule_keeps rule (take count table) new (ap is_ok plan.1) plan.2)

  pub run_keeps : (calls : List Asked) (table : List Cell) (count : ℕ) → let after = ran a calls table count in PageKept a m (take count table) (take after.count after.table)
  run_keeps [] table count = same_page a m (take count table)
  run_keeps (c ∷ cs) table count =
      let answer = call_answer a c.rule table count c.lent in
      let next = count_after (counted answer) count in
      let after = ran a cs (laid blank answer table) next in
      next_page (take count table) (take next (laid blank answer table)) (take after.count after.table) (call_keeps c.rule table count c.lent) (run_keeps cs (laid blank answer table) next)
