-- After sink each subtree has as many partitions as before, and none is miscounted. Assumes nothing.
use Rattle.std.proofs.Common.{◌≡◌, ℕ, zero, suc, ◌+◌, ◌-◌, ◌<◌, ◌≤◌, Bool, true, false, cond, not, ◌&&◌, ◌||◌, eqb, ltb, leb, List, [], ◌∷◌, ◌++◌, length, take, drop, replicate, Some, None, Option, sym, refl, ap, ◌∙◌, subst, arith}
use Rattle.std.specs.Option.{option_to_list}
use Rattle.std.specs.List.{AllByRecursion}
use Rattle.std.proofs.ByRecursion.{All-drop}
use Rattle.std.proofs.lemmas.Bool.{false≢true, eqb-true, ltb-true}
use Rattle.std.proofs.lemmas.Bool.Decides.{nat_tests}
use Rattle.plan.specs.declared.cells.Cell.{Cell}
use Rattle.plan.specs.Kinds.{global_limit, first_operator, is_limit}
use Rattle.plan.specs.Numbers.{max_partitions}
use Rattle.operators.specs.declared.answers.LimitsPass.{LimitsPass}
use Rattle.operators.specs.declared.answers.LimitsPass.TheVariants.{No, RowForRow}
use Rattle.operators.specs.Answers.{Answers}
use Rattle.operators.specs.Questions.{passes, passes_limits, takes_fetch, one_partition, count_by, partitions_of}
use Rattle.checks.specs.declared.facts.Fact.{Fact}
use Rattle.checks.specs.Cells.{fit_cell, placed_cell}
use Rattle.checks.specs.Facts.{head_fact, together, fact_of, facts, miscounted}
use Rattle.checks.specs.Accepts.{root_partitions}
use Rattle.checks.proofs.Subtrees.{tree_facts}
use Rattle.rows.proofs.Passed.{Trees, Fit, Counted, from_trees}
use Rattle.rows.proofs.Base.{kind_one, limit_kind}
use Rattle.sinks.specs.declared.requirements.GlobalRequirements.{GlobalRequirements}
use Rattle.sinks.specs.declared.requirements.Visited.{Visited}
use Rattle.sinks.specs.Sink.{at_first, past_limit, past_fetch, new_global, new_local, only_if, skipped_by, limit_over, fetching_by, combines_partitions, visited_by, visited, sunk, sunk_plan}
use Rattle.sinks.specs.Laws.{AnswerRules}
use Rattle.sinks.proofs.Visiting.{put, renewed, own_skip, sunk_limit, sunk_node}
use Rattle.sinks.proofs.Sinking.{trees_behind}

-- where something is pending to be skipped, there is one partition
abbrev Singles : List GlobalRequirements → List Fact → Type 0
Singles [] fs = Unit {0}
Singles (r ∷ rs) [] = ⊥
Singles (r ∷ rs) (f ∷ fs) = (0 < r.skip → f.partitions ≡ 1) × Singles rs fs

-- the new subtrees have as many partitions as the old
abbrev Sames : List GlobalRequirements → List Fact → List Fact → Type 0
Sames [] fs gs = Unit {0}
Sames (r ∷ rs) [] gs = ⊥
Sames (r ∷ rs) (f ∷ fs) [] = ⊥
Sames (r ∷ rs) (f ∷ fs) (g ∷ gs) = (g.partitions ≡ f.partitions) × Sames rs fs gs

sames_split : (k : ℕ) (q : GlobalRequirements) (rs : List GlobalRequirements) (fs gs : List Fact) → Sames (replicate k q ++ rs) fs gs → ((together (take k gs)).partitions ≡ (together (take k fs)).partitions) × Sames rs (drop k fs) (drop k gs)
sames_split zero q rs fs gs h = (refl, h)
sames_split (suc k) q rs [] gs h = absurd h
sames_split (suc k) q rs (f ∷ fs) [] h = absurd h
sames_split (suc k) q rs (f ∷ fs) (g ∷ gs) h = let t = sames_split k q rs fs gs h.1 in ((λ i. h.0 i + t.0 i), t.1)

singles_join : (k : ℕ) (q : GlobalRequirements) (rs : List GlobalRequirements) (fs : List Fact) → AllByRecursion (λ f. 1 ≤ f.partitions) fs → k ≤ length fs → (0 < q.skip → (together (take k fs)).partitions ≤ 1) → Singles rs (drop k fs) → Singles (replicate k q ++ rs) fs
singles_join zero q rs fs pos l few h = h
singles_join (suc k) q rs [] pos l few h = absurd (let z : suc k ≤ 0 = l in omega arith)
singles_join (suc k) q rs (f ∷ fs) pos l few h = (
  (λ s. let e : f.partitions + (together (take k fs)).partitions ≤ 1 = few s in let o = pos.0 in omega arith),
  singles_join k q rs fs pos.1 (let z : suc k ≤ suc (length fs) = l in omega arith) (λ s. let e : f.partitions + (together (take k fs)).partitions ≤ 1 = few s in omega arith) h,
)

-- kind 2 stands over one partition
abbrev OverOne : Cell → ℕ → Type 0
OverOne c child = (not (eqb c.kind global_limit) || eqb child 1) ≡ true

counted_parts : (c : Cell) (own child : ℕ) → miscounted c own child ≡ false → (1 ≤ own) × (own ≤ max_partitions) × OverOne c child
counted_parts c own child h = (grind (arith, nat_tests), grind (arith, nat_tests), grind (arith, nat_tests))

counted_from : (c : Cell) (own child : ℕ) → 1 ≤ own → own ≤ max_partitions → OverOne c child → miscounted c own child ≡ false
counted_from c own child lo hi k = grind (arith, nat_tests)

module _ (a : Answers) where
  facts_count : (n : ℕ) (cs : List Cell) → Trees n cs → length (facts a cs) ≡ n
  facts_count n cs h = tree_facts a cs n 0 (from_trees n 0 cs h)

  positive : (cs : List Cell) → Counted a cs → AllByRecursion (λ f. 1 ≤ f.partitions) (facts a cs)
  unfolding facts
  positive [] h = tt
  positive (c ∷ cs) h =
      let here = counted_parts c (fact_of a c (facts a cs)).partitions (head_fact (facts a cs)).partitions h.0 in
      (here.0, All-drop (λ f. 1 ≤ f.partitions) c.children (facts a cs) (positive cs h.1))

  -- the new cells in a node's place: one subtree, with so many partitions, and counted
  abbrev Counts : List Cell → List Fact → ℕ → Type 0
  Counts cells gs n = (g : Fact) × (facts a cells ≡ g ∷ gs) × (g.partitions ≡ n) × Counted a cells

  -- d stands in the place of a node whose children had T partitions
  module _ (d : Cell) (T : ℕ) (rest : List Cell) (lim : is_limit d.kind ≡ false) (same : (together (take d.children (facts a rest))).partitions ≡ T) (rest_counted : Counted a rest)
      (lo : 1 ≤ partitions_of a d.kind d.parameter T) (hi : partitions_of a d.kind d.parameter T ≤ max_partitions) where
    abbrev N : ℕ
    N = partitions_of a d.kind d.parameter T

    abbrev after : List Fact
    after = drop d.children (facts a rest)

    own_count : (fact_of a d (facts a rest)).partitions ≡ N
    own_count = ap (partitions_of a d.kind d.parameter) same

    one_counts : Counts (d ∷ rest) after N
    unfolding facts
    one_counts =
        let lo2 = subst (λ n. 1 ≤ n) (sym own_count) lo in
        let hi2 = subst (λ n. n ≤ max_partitions) (sym own_count) hi in
        (fact_of a d (facts a rest), refl, own_count, (counted_from d (fact_of a d (facts a rest)).partitions (head_fact (facts a rest)).partitions lo2 hi2 (grind (arith, nat_tests)), rest_counted))

    above_counts : (b : Bool) (s : ℕ) (f : Option ℕ) → (b ≡ true → N ≡ 1) → Counts (option_to_list (only_if b (new_global s f)) ++ d ∷ rest) after N
    unfolding facts
    above_counts true s f single =
        let below = one_counts in
        let child : (fact_of a d (facts a rest)).partitions ≡ 1 = own_count ∙ single refl in
        let over : OverOne (new_global s f) (fact_of a d (facts a rest)).partitions = ap (λ n. eqb n 1) child in
        (fact_of a (new_global s f) (facts a (d ∷ rest)), refl, sym (single refl), (counted_from (new_global s f) 1 (fact_of a d (facts a rest)).partitions (omega arith) (omega arith) over, below.3))
    above_counts false s f single = one_counts

    local_counts : (n : ℕ) → Counts (new_local n ∷ d ∷ rest) after N
    unfolding facts
    local_counts n =
        let below = one_counts in
        let P = (fact_of a d (facts a rest)).partitions in
        let e : P + 0 ≡ N = omega (arith, own_count) in
        (fact_of a (new_local n) (facts a (d ∷ rest)), refl, e, (counted_from (new_local n) (P + 0) P (subst (λ k. 1 ≤ k) (sym e) lo) (subst (λ k. k ≤ max_partitions) (sym e) hi) refl, below.3))

  -- a visit of c
  module _ (c : Cell) (T : ℕ) (rest : List Cell) (lim : is_limit c.kind ≡ false) (same : (together (take c.children (facts a rest))).partitions ≡ T) (rest_counted : Counted a rest)
      (lo : 1 ≤ partitions_of a c.kind c.parameter T) (hi : partitions_of a c.kind c.parameter T ≤ max_partitions)
      (r : GlobalRequirements) (single : 0 < r.skip → partitions_of a c.kind c.parameter T ≡ 1) where
    abbrev M : ℕ
    M = partitions_of a c.kind c.parameter T

    abbrev Here : Visited → Type 0
    Here v = Counts (put v rest) (drop c.children (facts a rest)) M

    skipped_counts : (b : Bool) → (ltb 0 r.skip && not r.satisfied) ≡ b → Here (skipped_by b r c)
    skipped_counts true e = above_counts c T rest lim same rest_counted lo hi true r.skip None (λ _. single (grind (arith, nat_tests)))
    skipped_counts false e = one_counts c T rest lim same rest_counted lo hi

    limit_counts : (n : ℕ) (b : Bool) → (ltb 0 r.skip || eqb M 1) ≡ b → Counts (limit_over b r n ∷ c ∷ rest) (drop c.children (facts a rest)) M
    limit_counts n true e = above_counts c T rest lim same rest_counted lo hi true r.skip (Some n) (λ _. alone (ltb 0 r.skip) refl e)
      where
        alone : (y : Bool) → ltb 0 r.skip ≡ y → (y || eqb M 1) ≡ true → M ≡ 1
        alone true ey h = single (ltb-true 0 r.skip ey)
        alone false ey h = eqb-true M 1 h
    limit_counts n false e = local_counts c T rest lim same rest_counted lo hi (n + r.skip)

    limited_counts : (n : ℕ) (b : Bool) → Counts (option_to_list (only_if (not b) (limit_over (ltb 0 r.skip || eqb M 1) r n)) ++ c ∷ rest) (drop c.children (facts a rest)) M
    limited_counts n true = one_counts c T rest lim same rest_counted lo hi
    limited_counts n false = limit_counts n (ltb 0 r.skip || eqb M 1) refl

    fetching_counts : (x t y : Bool) (n : ℕ) → Here (fetching_by x t y a r c M n)
    fetching_counts true t y n = above_counts (renewed c (n + r.skip) c.mark) T rest lim same rest_counted lo hi (ltb 0 r.skip) r.skip (Some n) (λ e. single (ltb-true 0 r.skip e))
    fetching_counts false true y n = one_counts c T rest lim same rest_counted lo hi
    fetching_counts false false true n = above_counts (fetching_by false false true a r c M n).node T rest lim same rest_counted lo hi (ltb 0 r.skip && not r.satisfied) r.skip (Some n) (λ e. single (grind (arith, nat_tests)))
    fetching_counts false false false n = limited_counts n r.satisfied

    visited_counts : (f : Option ℕ) → Here (visited_by a r c M f)
    visited_counts None = skipped_counts (ltb 0 r.skip && not r.satisfied) refl
    visited_counts (Some n) = fetching_counts (combines_partitions c.kind) (passes_limits a c.kind c.parameter) (takes_fetch a c.kind c.parameter) n

  -- with the subtrees behind it
  counts_join : (r : GlobalRequirements) (rs : List GlobalRequirements) (f : Fact) (fs gs : List Fact) (cells : List Cell) → Counts cells gs f.partitions → Sames rs fs gs → Sames (r ∷ rs) (f ∷ fs) (facts a cells) × Counted a cells
  counts_join r rs f fs gs cells h same = (subst (λ z. Sames (r ∷ rs) (f ∷ fs) z) (sym h.1) (h.2, same), h.3)

  -- a limit has as many partitions as its child
  limit_parts : (c : Cell) (n : ℕ) → is_limit c.kind ≡ true → OverOne c n → partitions_of a c.kind c.parameter (n + 0) ≡ n
  limit_parts c n lim h = grind (arith, nat_tests)

  limit_singles : (r : GlobalRequirements) (c : Cell) (rs : List GlobalRequirements) (fs : List Fact) → is_limit c.kind ≡ true → placed_cell c ≡ true → 1 ≤ length fs → OverOne c (head_fact fs).partitions → (0 < r.skip → partitions_of a c.kind c.parameter (together (take 1 fs)).partitions ≡ 1) → Singles rs (drop 1 fs) → Singles (past_limit r c (head_fact fs) ∷ rs) fs
  limit_singles r c rs [] lim placed l h s t = absurd (let z : 1 ≤ 0 = l in omega arith)
  limit_singles r c rs (f ∷ fs) lim placed l h s t = ((λ k. go (eqb c.kind global_limit) refl k), t)
    where
      go : (b : Bool) → eqb c.kind global_limit ≡ b → 0 < r.skip + c.skip → f.partitions ≡ 1
      go true e k = grind (arith, nat_tests)
      go false e k =
          let no_skip : c.skip ≡ 0 = grind (arith, nat_tests) in
          let more : 0 < r.skip = omega arith in
          sym (limit_parts c f.partitions lim h) ∙ s more

  limit_sames : (q r : GlobalRequirements) (c : Cell) (rs : List GlobalRequirements) (fs gs : List Fact) (g : Fact) → is_limit c.kind ≡ true → OverOne c (head_fact fs).partitions → g.partitions ≡ partitions_of a c.kind c.parameter (together (take 1 fs)).partitions → Sames (q ∷ rs) fs gs → Sames (r ∷ rs) (g ∷ drop 1 fs) gs
  limit_sames q r c rs [] gs g lim h e s = absurd s
  limit_sames q r c rs (f ∷ fs) [] g lim h e s = absurd s
  limit_sames q r c rs (f ∷ fs) (n ∷ gs) g lim h e s = (s.0 ∙ sym (e ∙ limit_parts c f.partitions lim h), s.1)

row_passes : (l : LimitsPass) → passes l ≡ true → l ≡ RowForRow
row_passes No e = absurd (false≢true e)
row_passes RowForRow e = refl

module _ (a : Answers) (shown : AnswerRules a) where
  -- what passes limits, and does not combine partitions, adds them up
  through_sums : (k p total : ℕ) → combines_partitions k ≡ false → passes_limits a k p ≡ true → partitions_of a k p total ≡ total
  through_sums k p total e pass = go (ltb k first_operator) refl
    where
      go : (b : Bool) → ltb k first_operator ≡ b → partitions_of a k p total ≡ total
      go true eb = let four : k ≡ 4 = grind (arith, nat_tests) in ap (λ j. partitions_of a j p total) four
      go false eb =
          let through : passes (a.limits_pass k p) ≡ true = subst (λ b. cond b (leb 4 k && leb k 6) (passes (a.limits_pass k p)) ≡ true) eb pass in
          let adds = (shown k p (grind (arith, nat_tests)) (row_passes (a.limits_pass k p) through)).adds_up in
          ap (λ b. cond b (cond (one_partition k) 1 total) (count_by (a.partitions k p) total)) eb ∙ ap (λ s. count_by s total) adds

  -- what goes on down skips only where the children have one partition in all
  module _ (c : Cell) (T : ℕ) (r : GlobalRequirements) (single : 0 < r.skip → partitions_of a c.kind c.parameter T ≡ 1) where
    skipped_single : (b : Bool) → (ltb 0 r.skip && not r.satisfied) ≡ b → 0 < (skipped_by b r c).next.skip → T ≤ 1
    skipped_single true e h = absurd (let t : 0 < 0 = h in omega arith)
    skipped_single false e h = absurd (let u : 0 < cond r.satisfied 0 r.skip = h in grind (arith, nat_tests))

    fetching_single : (x t y : Bool) (P n : ℕ) → combines_partitions c.kind ≡ x → passes_limits a c.kind c.parameter ≡ t → 0 < (fetching_by x t y a r c P n).next.skip → T ≤ 1
    fetching_single true t y P n e1 e2 h = absurd (let t : 0 < 0 = h in omega arith)
    fetching_single false true y P n e1 e2 h =
        let more : 0 < r.skip = (let u : 0 < cond r.satisfied 0 r.skip = h in grind (arith, nat_tests)) in
        let e = through_sums c.kind c.parameter T e1 e2 in
        let o = single more in
        omega (arith, e, o)
    fetching_single false false true P n e1 e2 h = absurd (let t : 0 < 0 = h in omega arith)
    fetching_single false false false P n e1 e2 h = absurd (let t : 0 < 0 = h in omega arith)

    visited_single : (P : ℕ) (f : Option ℕ) → 0 < (visited_by a r c P f).next.skip → T ≤ 1
    visited_single P None = skipped_single (ltb 0 r.skip && not r.satisfied) refl
    visited_single P (Some n) = fetching_single (combines_partitions c.kind) (passes_limits a c.kind c.parameter) (takes_fetch a c.kind c.parameter) P n refl refl

  abbrev AllCounted : List Cell → List GlobalRequirements → Type 0
  AllCounted cs rs = Sames rs (facts a cs) (facts a (sunk a rs cs)) × Counted a (sunk a rs cs)

  node_counted : (r : GlobalRequirements) (rs : List GlobalRequirements) (c : Cell) (cs : List Cell) → Trees (suc (length rs) - 1 + c.children) cs → fit_cell a c ≡ true → placed_cell c ≡ true → Counted a (c ∷ cs) → Singles (r ∷ rs) (facts a (c ∷ cs)) → ((qs : List GlobalRequirements) → Trees (length qs) cs → Singles qs (facts a cs) → AllCounted cs qs) → AllCounted (c ∷ cs) (r ∷ rs)
  unfolding facts
  node_counted r rs c cs tree fit placed count single ih = go (is_limit c.kind) refl
    where
      k : ℕ
      k = c.children

      long : length (facts a cs) ≡ suc (length rs) - 1 + k
      long = facts_count a (suc (length rs) - 1 + k) cs tree

      T : ℕ
      T = (together (take k (facts a cs))).partitions

      here : (1 ≤ (fact_of a c (facts a cs)).partitions) × ((fact_of a c (facts a cs)).partitions ≤ max_partitions) × OverOne c (head_fact (facts a cs)).partitions
      here = counted_parts c (fact_of a c (facts a cs)).partitions (head_fact (facts a cs)).partitions count.0

      go : (b : Bool) → is_limit c.kind ≡ b → AllCounted (c ∷ cs) (r ∷ rs)
      go true e =
          let q = past_limit r c (head_fact (facts a cs)) in
          let kind = limit_kind c.kind e in
          let one_child : k ≡ 1 = kind_one a c.kind c.parameter k fit kind.0 kind.1 in
          let old = facts a cs in
          let alone : 0 < r.skip → partitions_of a c.kind c.parameter (together (take 1 old)).partitions ≡ 1 = subst (λ j. 0 < r.skip → partitions_of a c.kind c.parameter (together (take j old)).partitions ≡ 1) one_child single.0 in
          let others : Singles rs (drop 1 old) = subst (λ j. Singles rs (drop j old)) one_child single.1 in
          let singles : Singles (q ∷ rs) old = limit_singles a r c rs old e placed (omega (arith, long)) here.2 alone others in
          let below = ih (replicate k q ++ rs) (trees_behind k q rs cs tree) (subst (λ j. Singles (replicate j q ++ rs) old) (sym one_child) singles) in
          let new = facts a (sunk a (replicate k q ++ rs) cs) in
          let one_below : Sames (q ∷ rs) old new = subst (λ j. Sames (replicate j q ++ rs) old new) one_child below.0 in
          let sames : Sames (r ∷ rs) (fact_of a c old ∷ drop 1 old) new = limit_sames a q r c rs old new (fact_of a c old) e here.2 (ap (λ j. partitions_of a c.kind c.parameter (together (take j old)).partitions) one_child) one_below in
          subst (λ z. Sames (r ∷ rs) (facts a (c ∷ cs)) (facts a z) × Counted a z) (sym (sunk_limit a r rs c cs e))
          (subst (λ j. Sames (r ∷ rs) (fact_of a c old ∷ drop j old) new) (sym one_child) sames, below.1)
      go false e =
          let own = past_fetch r c.fetch in
          let P = (fact_of a c (facts a cs)).partitions in
          let v = visited a r c P in
          let alone : 0 < own.skip → P ≡ 1 = λ h. single.0 (subst (λ n. 0 < n) (own_skip r c.fetch) h) in
          let few = visited_single c T own alone P own.fetch in
          let singles = singles_join k v.next rs (facts a cs) (positive a cs count.1) (omega (arith, long)) few single.1 in
          let below = ih (replicate k v.next ++ rs) (trees_behind k v.next rs cs tree) singles in
          let rest = sunk a (replicate k v.next ++ rs) cs in
          let parts = sames_split k v.next rs (facts a cs) (facts a rest) below.0 in
          let new = visited_counts a c T rest e parts.0 below.1 here.0 here.1 own alone own.fetch in
          subst (λ z. Sames (r ∷ rs) (facts a (c ∷ cs)) (facts a z) × Counted a z) (sym (sunk_node a r rs c cs e))
          (counts_join a r rs (fact_of a c (facts a cs)) (drop k (facts a cs)) (drop k (facts a rest)) (put v rest) new parts.1)

  sunk_counted : (cs : List Cell) (rs : List GlobalRequirements) → Trees (length rs) cs → Fit a cs → AllByRecursion (λ c. placed_cell c ≡ true) cs → Counted a cs → Singles rs (facts a cs) → AllCounted cs rs
  unfolding sunk
  sunk_counted [] [] tree fit placed count single = (tt, tt)
  sunk_counted [] (r ∷ rs) tree fit placed count single = absurd (let z : suc (length rs) ≡ 0 = tree in omega arith)
  sunk_counted (c ∷ cs) [] tree fit placed count single = (tt, tt)
  sunk_counted (c ∷ cs) (r ∷ rs) tree fit placed count single =
      node_counted r rs c cs tree.1 fit.0 placed.0 count single (λ qs t s. sunk_counted cs qs t fit.1 placed.1 count.1 s)

  first_single : (fs : List Fact) → length fs ≡ 1 → Singles (at_first ∷ []) fs
  first_single [] e = absurd (let z : ◌≡◌ {A = ℕ} 0 1 = e in omega arith)
  first_single (f ∷ fs) e = ((λ h. absurd (let z : 0 < 0 = h in omega arith)), tt)

  first_same : (fs gs : List Fact) → Sames (at_first ∷ []) fs gs → (head_fact gs).partitions ≡ (head_fact fs).partitions
  first_same [] gs h = absurd h
  first_same (f ∷ fs) [] h = absurd h
  first_same (f ∷ fs) (g ∷ gs) h = h.0

  pub sunk_counts : (cs : List Cell) → Trees 1 cs → Fit a cs → AllByRecursion (λ c. placed_cell c ≡ true) cs → Counted a cs → Counted a (sunk_plan a cs) × (root_partitions a (sunk_plan a cs) ≡ root_partitions a cs)
  sunk_counts cs tree fit placed count =
      let h = sunk_counted cs (at_first ∷ []) tree fit placed count (first_single (facts a cs) (facts_count a 1 cs tree)) in
      (h.1, first_same (facts a cs) (facts a (sunk_plan a cs)) h.0)
