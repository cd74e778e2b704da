-- If no sum is too large, no number of the new cells is. Assumes nothing.
use Rattle.std.proofs.Common.{◌≡◌, ℕ, ◌+◌, ◌-◌, ◌≤◌, min, Bool, true, false, cond, not, ◌&&◌, ◌||◌, eqb, ltb, List, [], ◌∷◌, ◌++◌, replicate, is_some, Some, None, Ok, Option, sym, refl, ap, ◌∙◌, subst, arith}
use Rattle.std.specs.Option.{option_to_list}
use Rattle.std.specs.List.{AllByRecursion}
use Rattle.std.proofs.ByRecursion.{All-append}
use Rattle.std.proofs.lemmas.Bool.{false≢true}
use Rattle.std.proofs.lemmas.Bool.Decides.{nat_tests}
use Rattle.plan.specs.declared.cells.Cell.{Cell}
use Rattle.plan.specs.declared.refusals.Refusal.TheVariants.{Sum}
use Rattle.plan.specs.Kinds.{is_limit}
use Rattle.plan.specs.Numbers.{max_number}
use Rattle.operators.specs.Answers.{Answers}
use Rattle.operators.specs.Questions.{passes_limits, takes_fetch, takes_mark}
use Rattle.checks.specs.declared.facts.Fact.{Fact}
use Rattle.checks.specs.Cells.{small, small_cell, taken_cell}
use Rattle.checks.specs.Facts.{head_fact, fact_of, facts}
use Rattle.rows.specs.Sums.{too_large}
use Rattle.rows.proofs.Passed.{refused_not}
use Rattle.sinks.specs.declared.requirements.GlobalRequirements.{GlobalRequirements}
use Rattle.sinks.specs.declared.requirements.Visited.{Visited}
use Rattle.sinks.specs.Sink.{at_first, combined_fetch, past_limit, past_fetch, new_global, only_if, onward, satisfied_to, skipped_by, limit_over, fetching_by, combines_partitions, visited_by, visited, step, sunk, sunk_plan, total_of, visit_sum, sink_sum_by, sink_sum, sink_sums_from, sink_sums}
use Rattle.sinks.proofs.Visiting.{renewed, own_skip, own_fetch, none_both, step_limit, step_node, sunk_limit, sunk_node}
use Rattle.sinks.proofs.Sinking.{all_copies}

abbrev SmallCell : Cell → Type 0
SmallCell c = small_cell c ≡ true

abbrev Small : GlobalRequirements → Type 0
Small r = (r.skip ≤ max_number) × (small r.fetch ≡ true)

-- what a visit leaves is small
abbrev SmallVisit : Visited → Type 0
SmallVisit v = AllByRecursion SmallCell (option_to_list v.above) × SmallCell v.node × Small v.next

combined_small : (s : ℕ) (f g : Option ℕ) → small f ≡ true → small g ≡ true → small (combined_fetch s f g) ≡ true
combined_small s None None x y = refl
combined_small s None (Some g) x y = grind (arith, nat_tests)
combined_small s (Some f) None x y = x
combined_small s (Some f) (Some g) x y = grind (arith, nat_tests)

fetch_small : (c : Cell) → SmallCell c → small c.fetch ≡ true
fetch_small c h = grind (arith, nat_tests)

limit_small : (r : GlobalRequirements) (c : Cell) (f : Fact) → Small r → SmallCell c → r.skip + c.skip ≤ max_number → Small (past_limit r c f)
limit_small r c f k s e = (e, combined_small r.skip r.fetch c.fetch k.1 (fetch_small c s))

own_small : (r : GlobalRequirements) (f : Option ℕ) → Small r → small f ≡ true → Small (past_fetch r f)
own_small r None k e = k
own_small r (Some f) k e = (subst (λ n. n ≤ max_number) (sym (own_skip r (Some f))) k.0, combined_small r.skip r.fetch (Some f) k.1 e)

onward_small : (r : GlobalRequirements) → Small r → Small (onward r)
onward_small r k = (go r.satisfied, k.1)
  where
    go : (b : Bool) → cond b 0 r.skip ≤ max_number
    go true = omega arith
    go false = k.0

module _ (a : Answers) (r : GlobalRequirements) (c : Cell) (k : Small r) (s : SmallCell c) where
  global_small : (f : Option ℕ) → small f ≡ true → SmallCell (new_global r.skip f)
  global_small f e = let low = k.0 in grind (arith, nat_tests)

  above_small : (b : Bool) (l : Cell) → SmallCell l → AllByRecursion SmallCell (option_to_list (only_if b l))
  above_small true l h = (h, tt)
  above_small false l h = tt

  other_small : (n : ℕ) (b : Bool) → n ≤ max_number → SmallCell (renewed c n b)
  other_small n b e = grind (arith, nat_tests)

  over_small : (b : Bool) (n : ℕ) → n + r.skip ≤ max_number → SmallCell (limit_over b r n)
  over_small true n e = global_small (Some n) (grind (arith, nat_tests))
  over_small false n e = grind (arith, nat_tests)

  skipped_small : (b : Bool) → SmallVisit (skipped_by b r c)
  skipped_small true = ((global_small None refl, tt), s, (omega arith, refl))
  skipped_small false = (tt, s, onward_small r k)

  fetching_small : (x t y : Bool) (P n : ℕ) → n + r.skip ≤ max_number → SmallVisit (fetching_by x t y a r c P n)
  fetching_small true t y P n e = (above_small (ltb 0 r.skip) (new_global r.skip (Some n)) (over_small true n e), other_small (n + r.skip) c.mark e, (omega arith, grind (arith, nat_tests)))
  fetching_small false true y P n e = (tt, s, onward_small r k)
  fetching_small false false true P n e =
      let mark = cond (takes_mark a c.kind c.parameter) r.preserve_order c.mark in
      (above_small (ltb 0 r.skip && not r.satisfied) (new_global r.skip (Some n)) (over_small true n e), other_small (n + r.skip) mark e, (omega arith, refl))
  fetching_small false false false P n e =
      let x = ltb 0 r.skip || eqb P 1 in
      (above_small (not r.satisfied) (limit_over x r n) (over_small x n e), s, (omega arith, refl))

  visited_by_small : (P : ℕ) (f : Option ℕ) → too_large (total_of r f) ≡ false → SmallVisit (visited_by a r c P f)
  visited_by_small P None e = skipped_small (ltb 0 r.skip && not r.satisfied)
  visited_by_small P (Some n) e = fetching_small (combines_partitions c.kind) (passes_limits a c.kind c.parameter) (takes_fetch a c.kind c.parameter) P n (grind (arith, nat_tests))

visited_small : (a : Answers) (r : GlobalRequirements) (c : Cell) (P : ℕ) → Small r → SmallCell c → too_large (visit_sum r c) ≡ false → SmallVisit (visited a r c P)
visited_small a r c P k s e =
    let own = past_fetch r c.fetch in
    visited_by_small a own c (own_small r c.fetch k (fetch_small c s)) s P own.fetch e

module _ (a : Answers) where
  node_small : (r : GlobalRequirements) (rs : List GlobalRequirements) (at : ℕ) (c : Cell) (cs : List Cell) → SmallCell c → sink_sums_from a (r ∷ rs) at (c ∷ cs) ≡ Ok tt → Small r → AllByRecursion Small rs → ((qs : List GlobalRequirements) → sink_sums_from a qs (at + 1) cs ≡ Ok tt → AllByRecursion Small qs → AllByRecursion SmallCell (sunk a qs cs)) → AllByRecursion SmallCell (sunk a (r ∷ rs) (c ∷ cs))
  unfolding sink_sums_from
  node_small r rs at c cs s e k ks ih = go (is_limit c.kind) refl
    where
      n : ℕ
      n = c.children

      next : GlobalRequirements
      next = (step a r c (facts a cs)).1

      parts : (too_large (sink_sum r c) ≡ false) × (sink_sums_from a (replicate n next ++ rs) (at + 1) cs ≡ Ok tt)
      parts = refused_not (too_large (sink_sum r c)) Sum at (sink_sums_from a (replicate n next ++ rs) (at + 1) cs) tt e

      below : (q : GlobalRequirements) → next ≡ q → Small q → AllByRecursion SmallCell (sunk a (replicate n q ++ rs) cs)
      below q is small = ih (replicate n q ++ rs) (subst (λ x. sink_sums_from a (replicate n x ++ rs) (at + 1) cs ≡ Ok tt) is parts.1) (all_copies Small n q rs small ks)

      go : (b : Bool) → is_limit c.kind ≡ b → AllByRecursion SmallCell (sunk a (r ∷ rs) (c ∷ cs))
      go true eb =
          let sum : ltb max_number (r.skip + c.skip) ≡ false = subst (λ b. too_large (sink_sum_by b r c) ≡ false) eb parts.0 in
          let child = head_fact (facts a cs) in
          subst (AllByRecursion SmallCell) (sym (sunk_limit a r rs c cs eb)) (below (past_limit r c child) (ap (λ s. s.1) (step_limit a r c (facts a cs) eb)) (limit_small r c child k s (grind (arith, nat_tests))))
      go false eb =
          let P = (fact_of a c (facts a cs)).partitions in
          let v = visited a r c P in
          let here = visited_small a r c P k s (subst (λ b. too_large (sink_sum_by b r c) ≡ false) eb parts.0) in
          subst (AllByRecursion SmallCell) (sym (sunk_node a r rs c cs eb))
          (All-append SmallCell (option_to_list v.above) (v.node ∷ sunk a (replicate n v.next ++ rs) cs) here.0 (here.1, below v.next (ap (λ s. s.1) (step_node a r c (facts a cs) eb)) here.2))

  sunk_small_by : (cs : List Cell) (rs : List GlobalRequirements) (at : ℕ) → AllByRecursion SmallCell cs → sink_sums_from a rs at cs ≡ Ok tt → AllByRecursion Small rs → AllByRecursion SmallCell (sunk a rs cs)
  unfolding sunk
  sunk_small_by [] rs at h e k = tt
  sunk_small_by (c ∷ cs) [] at h e k = tt
  sunk_small_by (c ∷ cs) (r ∷ rs) at h e k = node_small r rs at c cs h.0 e k.0 k.1 (λ qs e2 k2. sunk_small_by cs qs (at + 1) h.1 e2 k2)

  pub sunk_small : (cs : List Cell) → AllByRecursion SmallCell cs → sink_sums a cs ≡ Ok tt → AllByRecursion SmallCell (sunk_plan a cs)
  sunk_small cs h e = sunk_small_by cs (at_first ∷ []) 0 h e ((omega arith, refl), tt)

-- a second visit forms no larger sum than the first
module _ (a : Answers) (r : GlobalRequirements) (c : Cell) (P : ℕ) (taken : taken_cell a c ≡ true) where
  abbrev own : GlobalRequirements
  own = past_fetch r c.fetch

  abbrev Fine : Visited → Type 0
  Fine v = too_large (visit_sum v.next v.node) ≡ false

  -- with no fetch of its own the node forms no sum where none is pending
  fetchless_sum : (q : GlobalRequirements) → q.fetch ≡ None → c.fetch ≡ None → too_large (visit_sum q c) ≡ false
  fetchless_sum q eq e = ap (λ f. let next = past_fetch q f in too_large (total_of next next.fetch)) e ∙ ap (λ f. too_large (total_of q f)) eq

  fetchless : (f : Option ℕ) → c.fetch ≡ f → takes_fetch a c.kind c.parameter ≡ false → f ≡ None
  fetchless None e h = refl
  fetchless (Some n) e h = absurd (let some : is_some c.fetch ≡ true = ap is_some e in grind (arith, nat_tests))

  skipped_fine : (b : Bool) → c.fetch ≡ None → is_some (skipped_by b own c).above ≡ true → Fine (skipped_by b own c)
  skipped_fine true e some = fetchless_sum (satisfied_to own None) refl e
  skipped_fine false e some = absurd (false≢true some)

  fetching_fine : (x t y : Bool) (n : ℕ) → takes_fetch a c.kind c.parameter ≡ y → is_some (fetching_by x t y a own c P n).above ≡ true → ltb max_number (n + own.skip) ≡ false → Fine (fetching_by x t y a own c P n)
  fetching_fine true t y n e some fine = let total = n + own.skip in let same : min total (total - 0) + (0 + 0) ≡ total = omega arith in ap (ltb max_number) same ∙ fine
  fetching_fine false true y n e some fine = absurd (false≢true some)
  fetching_fine false false true n e some fine = let total = n + own.skip in let same : (total - 0) + (0 + 0) ≡ total = omega arith in ap (ltb max_number) same ∙ fine
  fetching_fine false false false n e some fine = fetchless_sum (satisfied_to own None) refl (fetchless c.fetch refl e)

  pub second_sum : is_some (visited a r c P).above ≡ true → too_large (visit_sum r c) ≡ false → Fine (visited a r c P)
  second_sum = go own.fetch refl
    where
      go : (f : Option ℕ) → (past_fetch r c.fetch).fetch ≡ f → is_some (visited_by a own c P f).above ≡ true → too_large (total_of own f) ≡ false → Fine (visited_by a own c P f)
      go None e some fine = skipped_fine (ltb 0 own.skip && not own.satisfied) (none_both r.skip r.fetch c.fetch (sym (own_fetch r c.fetch) ∙ e)).1 some
      go (Some n) e some fine = fetching_fine (combines_partitions c.kind) (passes_limits a c.kind c.parameter) (takes_fetch a c.kind c.parameter) n refl some fine
