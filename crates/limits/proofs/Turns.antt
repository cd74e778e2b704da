-- What a turn of sink's walk reads off its stacks, and what it leaves. Assumes nothing.
use Rattle.std.proofs.Common.{◌≡◌, ℕ, zero, suc, ◌+◌, ◌-◌, ◌<◌, ◌≤◌, Bool, true, false, cond, List, [], ◌∷◌, ◌++◌, length, get_or, drop, replicate, Some, None, Ok, Err, Option, Result, sym, refl, ap, ◌∙◌, subst, arith}
use Rattle.std.specs.Option.{option_to_list}
use Rattle.std.proofs.lemmas.List.{append_assoc, length-append, length-replicate}
use Rattle.plan.specs.declared.cells.Cell.{Cell}
use Rattle.plan.specs.declared.refusals.Fault.{Fault}
use Rattle.plan.specs.declared.refusals.Refusal.TheVariants.{Sum}
use Rattle.plan.specs.Cells.{blank}
use Rattle.plan.specs.Refusals.{refused_at, then}
use Rattle.operators.specs.Answers.{Answers}
use Rattle.checks.specs.declared.facts.Fact.{Fact}
use Rattle.checks.specs.Facts.{head_fact, fact_of, facts, every_fact}
use Rattle.checks.proofs.Subtrees.{head_every}
use Rattle.checks.proofs.Walks.{cells_more}
use Rattle.rows.specs.Sums.{too_large}
use Rattle.rows.proofs.Passed.{Trees}
use Rattle.sinks.specs.declared.requirements.GlobalRequirements.{GlobalRequirements}
use Rattle.sinks.specs.Sink.{sunk, sink_sum, sink_sums_from}
use Rattle.limits.specs.declared.limit_pushdown.Stepped.{Stepped}
use Rattle.limits.specs.Pending.{InRange, fetch_in_range, stepped}
use Rattle.limits.specs.Sums.{sum_answer}
use Rattle.limits.proofs.Steps.{cells_of, sunk_more, sums_more, range_stepped, trees_next}

abbrev refusing : Bool → ℕ → Result (Unit {0}) Fault
refusing b p = cond b (refused_at Sum p) (Ok tt)

refused_by : (b : Bool) (p : ℕ) (s : Stepped) (rest : Result (Unit {0}) Fault) (f : Fault) → then (refusing b p) (λ _. Ok s) ≡ Err f → cond b (refused_at Sum p) rest ≡ Err f
refused_by true p s rest f e = let is : ◌≡◌ {A = Fault} (record { refusal = Sum; place = p }) f = cc in ap Err is
refused_by false p s rest f e = absurd cc

granted_by : (b : Bool) (p : ℕ) (s t : Stepped) → then (refusing b p) (λ _. Ok s) ≡ Ok t → (b ≡ false) × (t ≡ s)
granted_by true p s t e = absurd cc
granted_by false p s t e = (refl, cc)

-- the fact at a place is that of the subtree there
fact_at : (a : Answers) (cells : List Cell) (p : ℕ) → head_fact (drop p (every_fact a cells)) ≡ head_fact (facts a (drop p cells))
unfolding every_fact
fact_at a cells zero = head_every a cells
fact_at a [] (suc p) = head_every a []
fact_at a (c ∷ cells) (suc p) = fact_at a cells p

-- a turn at a place: the requirement that it takes off, the facts there and behind, and what the step answers
pub record Turn (a : Answers) (cells : List Cell) (p : ℕ) (rs qs : List GlobalRequirements) (r : GlobalRequirements) (own child : Fact) (result : Result Stepped Fault) : Type 0 where
  pub more : p < length cells
  pub taken : rs ≡ r ∷ qs
  pub there : own ≡ head_fact (facts a (drop p cells))
  pub next : child ≡ head_fact (facts a (drop (p + 1) cells))
  pub stepping : result ≡ then (sum_answer p (sink_sum r (get_or cells p blank))) (λ _. Ok (stepped a r (get_or cells p blank) own.partitions child))

pub turn : (a : Answers) (cells : List Cell) (p : ℕ) (rs qs : List GlobalRequirements) (r : GlobalRequirements) (known : List Fact) (own child : Fact) (result : Result Stepped Fault)
    → p < length cells → rs ≡ r ∷ qs → known ≡ every_fact a cells → own ≡ head_fact (drop p known) → child ≡ head_fact (drop (p + 1) known)
    → result ≡ then (sum_answer p (sink_sum r (get_or cells p blank))) (λ _. Ok (stepped a r (get_or cells p blank) own.partitions child))
    → Turn a cells p rs qs r own child result
turn a cells p rs qs r known own child result more taken whole there next stepping = record {
  more = more;
  taken = taken;
  there = there ∙ ap (λ ks. head_fact (drop p ks)) whole ∙ fact_at a cells p;
  next = next ∙ ap (λ ks. head_fact (drop (p + 1) ks)) whole ∙ fact_at a cells (p + 1);
  stepping = stepping;
}

module _ {a : Answers} {cells : List Cell} {p : ℕ} {rs qs : List GlobalRequirements} {r : GlobalRequirements} {own child : Fact} {result : Result Stepped Fault} (t : Turn a cells p rs qs r own child result) where
  abbrev here : Cell
  here = get_or cells p blank

  abbrev behind : List Cell
  behind = drop (p + 1) cells

  own_is : own ≡ fact_of a here (facts a behind)
  unfolding facts
  own_is = t.there ∙ ap (λ cs. head_fact (facts a cs)) (cells_more cells p t.more)

  abbrev truly : Stepped
  truly = stepped a r here (fact_of a here (facts a behind)).partitions (head_fact (facts a behind))

  stepping_truly : result ≡ then (sum_answer p (sink_sum r here)) (λ _. Ok truly)
  stepping_truly = t.stepping ∙ (λ i. then (sum_answer p (sink_sum r here)) (λ _. Ok (stepped a r here (own_is i).partitions (t.next i))))

  abbrev rest_sums : Result (Unit {0}) Fault
  rest_sums = sink_sums_from a (replicate here.children truly.next ++ qs) (p + 1) behind

  sums_here : sink_sums_from a rs p (drop p cells) ≡ cond (too_large (sink_sum r here)) (refused_at Sum p) rest_sums
  sums_here = (λ i. sink_sums_from a (t.taken i) p (cells_more cells p t.more i)) ∙ sums_more a r qs p here behind

  pub turn_refused : (f : Fault) → result ≡ Err f → sink_sums_from a rs p (drop p cells) ≡ Err f
  turn_refused f e = sums_here ∙ refused_by (too_large (sink_sum r here)) p truly rest_sums f (sym stepping_truly ∙ e)

  module _ (s : Stepped) (ok : result ≡ Ok s) where
    parts : (too_large (sink_sum r here) ≡ false) × (s ≡ truly)
    parts = granted_by (too_large (sink_sum r here)) p truly s (sym stepping_truly ∙ ok)

    pub turn_range : InRange r → fetch_in_range here.fetch → InRange s.next
    turn_range h q = subst (λ (u : Stepped). InRange u.next) (sym parts.1) (range_stepped a r here (fact_of a here (facts a behind)).partitions (head_fact (facts a behind)) h q parts.0)

    pub turn_sums : (new : List GlobalRequirements) → new ≡ replicate here.children s.next ++ qs → sink_sums_from a new (p + 1) behind ≡ sink_sums_from a rs p (drop p cells)
    turn_sums new e =
        ap (λ (ns : List GlobalRequirements). sink_sums_from a ns (p + 1) behind) (e ∙ ap (λ (u : Stepped). replicate here.children u.next ++ qs) parts.1)
        ∙ sym (sums_here ∙ ap (λ b. cond b (refused_at Sum p) rest_sums) parts.0)

    pub turn_cells : (new : List GlobalRequirements) (before one after : List Cell) → new ≡ replicate here.children s.next ++ qs → one ≡ before ++ option_to_list s.above → after ≡ one ++ option_to_list s.node
        → after ++ sunk a new behind ≡ before ++ sunk a rs (drop p cells)
    turn_cells new before one after e f g =
        let written : after ≡ before ++ cells_of s = g ∙ ap (λ (cs : List Cell). cs ++ option_to_list s.node) f ∙ append_assoc before (option_to_list s.above) (option_to_list s.node) in
        let tail : cells_of s ++ sunk a new behind ≡ sunk a rs (drop p cells) =
        ap (λ (ns : List GlobalRequirements). cells_of s ++ sunk a ns behind) e
        ∙ ap (λ (u : Stepped). cells_of u ++ sunk a (replicate here.children u.next ++ qs) behind) parts.1
        ∙ sym ((λ i. sunk a (t.taken i) (cells_more cells p t.more i)) ∙ sunk_more a r qs here behind) in
        ap (λ (cs : List Cell). cs ++ sunk a new behind) written ∙ append_assoc before (cells_of s) (sunk a new behind) ∙ ap (λ (cs : List Cell). before ++ cs) tail

    pub turn_trees : (new : List GlobalRequirements) → new ≡ replicate here.children s.next ++ qs → Trees (length rs) (drop p cells) → Trees (length new) behind
    turn_trees new e trees =
        let next = trees_next cells p (length rs) t.more trees in
        let old = ap length t.taken in
        let l = ap length e ∙ length-append (replicate here.children s.next) qs in
        let m = length-replicate here.children s.next in
        let low = next.0 in
        let same : length rs - 1 + here.children ≡ length new = omega arith in
        subst (λ n. Trees n behind) same next.1

pub at_most_one : (o : Option Cell) → length (option_to_list o) ≤ 1
at_most_one None = omega arith
at_most_one (Some c) = omega arith
