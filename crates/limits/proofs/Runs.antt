-- One call more of a run. Assumes nothing.
use Rattle.std.proofs.Common.{◌≡◌, ℕ, ◌+◌, ◌<◌, ◌≤◌, List, [], ◌∷◌, ◌++◌, length, get_or, take, drop, set, Some, None, Result, sym, refl, ap, ◌∙◌, arith}
use Rattle.std.proofs.lemmas.List.{append_assoc, append-nil, drop_more, drop_all, take_all, take_more_set, drop-set-lt}
use Rattle.plan.specs.declared.cells.Cell.{Cell}
use Rattle.plan.specs.declared.refusals.Fault.{Fault}
use Rattle.plan.specs.Cells.{blank}
use Rattle.plan.specs.Tables.{counted, laid}
use Rattle.operators.specs.Answers.{Answers}
use Rattle.limits.specs.declared.rules.Rule.TheVariants.{Sink}
use Rattle.limits.specs.declared.rules.RuleCall.{RuleCall}
use Rattle.limits.specs.Calls.{Lent, call_answer}
use Rattle.limits.specs.Laws.{count_after, Called, Ran, ran, asked, answered_calls}

-- what is read past the end
abbrev pub no_call : RuleCall
no_call = record { rule = Sink; answer = None }

-- so far: what is done, with what the rest of the run gives, is what the whole run gives
pub record SoFar (a : Answers) (lent : Lent) (asks calls : List RuleCall) (all : Ran) (place : ℕ) (table : List Cell) (count : ℕ) : Type 0 where
  pub same : drop place calls ≡ drop place asks
  pub table_is : (ran a (asked lent (drop place asks)) table count).table ≡ all.table
  pub count_is : (ran a (asked lent (drop place asks)) table count).count ≡ all.count
  pub answers_are : take place calls ++ answered_calls (drop place asks) (ran a (asked lent (drop place asks)) table count).answers ≡ answered_calls asks all.answers

pub begun : (a : Answers) (lent : Lent) (asks : List RuleCall) (table : List Cell) (count : ℕ) → SoFar a lent asks asks (ran a (asked lent asks) table count) 0 table count
begun a lent asks table count = record { same = refl; table_is = refl; count_is = refl; answers_are = refl }

module _ (a : Answers) (lent : Lent) (asks calls : List RuleCall) (all : Ran) (p : ℕ) (table : List Cell) (count : ℕ) (s : SoFar a lent asks calls all p table count) where
  pub run_more : p < length asks → p < length calls → (memory : Lent) → memory ≡ lent → (answer : Result ℕ Fault) (new : List Cell) (nodes : ℕ)
      → Called a (get_or calls p no_call).rule memory count table new answer → nodes ≡ count_after answer count
      → SoFar a lent asks (set calls p (record { rule = (get_or calls p no_call).rule; answer = Some answer })) all (p + 1) new nodes
  run_more h l memory same answer new nodes called passed =
      let k = get_or asks p no_call in
      let rest = drop (p + 1) asks in
      let more : drop p asks ≡ k ∷ rest = drop_more asks p no_call h in
      let both : get_or calls p no_call ∷ drop (p + 1) calls ≡ k ∷ rest = sym (drop_more calls p no_call l) ∙ s.same ∙ more in
      let here : get_or calls p no_call ≡ k = cc in
      let behind : drop (p + 1) calls ≡ rest = cc in
      let whole = call_answer a k.rule table count lent in
      let rule_is : call_answer a (get_or calls p no_call).rule table count memory ≡ whole = λ i. call_answer a (here i).rule table count (same i) in
      let answer_is : answer ≡ counted whole = called.answered ∙ ap counted rule_is in
      let table_is : new ≡ laid blank whole table = called.written ∙ ap (λ (r : Result (List Cell) Fault). laid blank r table) rule_is in
      let count_is : nodes ≡ count_after (counted whole) count = passed ∙ ap (λ (r : Result ℕ Fault). count_after r count) answer_is in
      let made : RuleCall = record { rule = (get_or calls p no_call).rule; answer = Some answer } in
      let made_is : made ≡ record { rule = k.rule; answer = Some (counted whole) } = λ i. record { rule = (here i).rule; answer = Some (answer_is i) } in
      let after : ran a (asked lent rest) new nodes ≡ ran a (asked lent rest) (laid blank whole table) (count_after (counted whole) count) = λ i. ran a (asked lent rest) (table_is i) (count_is i) in
      record {
        same = drop-set-lt (p + 1) calls p made (omega arith) ∙ behind;
        table_is = ap (λ (r : Ran). r.table) after ∙ sym (ap (λ (ds : List RuleCall). (ran a (asked lent ds) table count).table) more) ∙ s.table_is;
        count_is = ap (λ (r : Ran). r.count) after ∙ sym (ap (λ (ds : List RuleCall). (ran a (asked lent ds) table count).count) more) ∙ s.count_is;
        answers_are =
            ap (λ (cs : List RuleCall). cs ++ answered_calls rest (ran a (asked lent rest) new nodes).answers) (take_more_set calls p made l)
            ∙ append_assoc (take p calls) (made ∷ []) (answered_calls rest (ran a (asked lent rest) new nodes).answers)
            ∙ (λ i. take p calls ++ (made_is i ∷ answered_calls rest (after i).answers))
            ∙ sym (ap (λ (ds : List RuleCall). take p calls ++ answered_calls ds (ran a (asked lent ds) table count).answers) more)
            ∙ s.answers_are;
      }

  pub run_all : length asks ≤ p → length calls ≤ p → (calls ≡ answered_calls asks all.answers) × (table ≡ all.table) × (count ≡ all.count)
  run_all h l =
      let none : drop p asks ≡ [] = drop_all p asks h in (
        sym (append-nil calls) ∙ ap (λ (cs : List RuleCall). cs ++ []) (sym (take_all p calls l)) ∙ sym (ap (λ (ds : List RuleCall). take p calls ++ answered_calls ds (ran a (asked lent ds) table count).answers) none) ∙ s.answers_are,
        sym (ap (λ (ds : List RuleCall). (ran a (asked lent ds) table count).table) none) ∙ s.table_is,
        sym (ap (λ (ds : List RuleCall). (ran a (asked lent ds) table count).count) none) ∙ s.count_is,
      )
