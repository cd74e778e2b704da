-- After sink each hint is still borne out. Assumes nothing.
use Rattle.std.proofs.Common.{◌≡◌, ℕ, zero, suc, ◌+◌, ◌-◌, ◌≤◌, min, Bool, true, false, cond, not, ◌&&◌, ◌||◌, eqb, ltb, leb, ◌⊎◌, List, [], ◌∷◌, ◌++◌, take, replicate, is_some, Some, None, Option, sym, refl, ap, ◌∙◌, subst, inl, inr, arith}
use Rattle.std.specs.Option.{option_to_list}
use Rattle.std.specs.List.{AllByRecursion}
use Rattle.std.proofs.lemmas.Bool.{and_parts, and_from, false≢true, le-leb, or_left}
use Rattle.std.proofs.lemmas.Bool.Decides.{nat_tests}
use Rattle.plan.specs.declared.cells.Cell.{Cell}
use Rattle.plan.specs.Kinds.{placeholder_row, projection, aggregate, is_limit}
use Rattle.operators.specs.Answers.{Answers}
use Rattle.operators.specs.Questions.{passes_limits, takes_fetch, empty_of}
use Rattle.checks.specs.declared.facts.KnownRows.{KnownRows}
use Rattle.checks.specs.declared.facts.KnownRows.TheVariants.{Unknown, NoRow, OneRow}
use Rattle.checks.specs.declared.facts.Fact.{Fact}
use Rattle.checks.specs.Cells.{fit_cell, fields_cell, need_of, limit_bears, aggregate_bears, borne_out, hint_cell}
use Rattle.checks.specs.Facts.{head_fact, together, fact_of, facts}
use Rattle.rows.proofs.Passed.{Fit, Fields, Hints}
use Rattle.rows.proofs.Base.{fields_fetch, kind_one, limit_kind}
use Rattle.sinks.specs.declared.requirements.GlobalRequirements.{GlobalRequirements}
use Rattle.sinks.specs.declared.requirements.Visited.{Visited}
use Rattle.sinks.specs.Sink.{at_first, combined_fetch, known_within, past_limit, past_fetch, only_if, skipped_by, skipped, limit_over, limited, fetching_by, combines_partitions, visited_by, visited, sunk, sunk_plan}
use Rattle.sinks.proofs.Visiting.{put, visited_above, visited_node, sunk_limit, sunk_node}

-- the hint of a cell stands on an aggregate
hint_nine : (a : Answers) (c : Cell) (o : Option ℕ) → c.hint ≡ o → is_some o ≡ true → fields_cell a c ≡ true → c.kind ≡ aggregate
hint_nine a c o e some fields =
    let has : is_some c.hint ≡ true = ap is_some e ∙ some in
    grind (arith, nat_tests)

module _ (a : Answers) where
  -- over a cell with the parameter p and the hint h, of whose subtree f is known: u stands before it in the new plan and bears the hint out with
  -- nothing pending, or a limit is pending that will
  abbrev Good : GlobalRequirements → Fact → Option Cell → ℕ → ℕ → Type 0
  Good r f u p h =
      ((r.fetch ≡ None) × ((r.skip ≡ 0) ⊎ (r.satisfied ≡ true)) × (borne_out a u p h ≡ true))
      ⊎ ((f.rows ≡ Unknown → r.satisfied ≡ false) × ((n : ℕ) × (r.fetch ≡ Some n) × (need_of r.skip n ≤ h)))

  -- what t, before the next cell in the old plan, bears out, is good with u before it in the new plan
  abbrev Handing : Option Cell → Option Cell → List GlobalRequirements → List Fact → Type 0
  Handing t u [] fs = Unit {0}
  Handing t u (r ∷ rs) fs = (p h : ℕ) → borne_out a t p h ≡ true → Good r (head_fact fs) u p h

  -- a new limit has no hint
  put_hints : (u o : Option Cell) (d : Cell) (rest : List Cell) → AllByRecursion (λ l. l.hint ≡ None) (option_to_list o) → d.hint ≡ None → Hints a (Some d) rest → Hints a u (option_to_list o ++ d ∷ rest)
  put_hints u None d rest eo ed h = (ap (hint_cell a u d) ed, h)
  put_hints u (Some l) d rest eo ed h = (ap (hint_cell a u l) eo.0, (ap (hint_cell a (Some l) d) ed, h))

  -- an aggregate takes no fetch, and limits do not pass it
  nine_by : GlobalRequirements → Cell → ℕ → Option ℕ → Visited
  nine_by r c P None = skipped r c
  nine_by r c P (Some n) = limited r c P n

  nine_visited : (r : GlobalRequirements) (c : Cell) (P : ℕ) → c.kind ≡ aggregate → c.fetch ≡ None → visited a r c P ≡ nine_by r c P r.fetch
  unfolding nine_by
  nine_visited r c P nine cutless = ap (λ f. let own = past_fetch r f in visited_by a own c P own.fetch) cutless ∙ go r.fetch
    where
      go : (g : Option ℕ) → visited_by a r c P g ≡ nine_by r c P g
      go None = refl
      go (Some n) = ap (λ k. fetching_by (combines_partitions k) (passes_limits a k c.parameter) (takes_fetch a k c.parameter) a r c P n) nine

  nine_fetchless : (c : Cell) (f : Option ℕ) → c.kind ≡ aggregate → (not (is_some f) || takes_fetch a c.kind c.parameter) ≡ true → f ≡ None
  nine_fetchless c None e h = refl
  nine_fetchless c (Some f) e h = absurd (grind (arith, nat_tests))

  nine_unknown : (c : Cell) (below : List Fact) → c.kind ≡ aggregate → (fact_of a c below).rows ≡ Unknown
  nine_unknown c below e =
      ap (λ k. cond (eqb k placeholder_row) OneRow (cond (eqb k projection) (head_fact below).rows (cond (empty_of a k c.parameter (together (take c.children below)).empty) NoRow Unknown))) e

  -- a hinted aggregate under the limit that is put above it
  limit_bears_over : (b : Bool) (r : GlobalRequirements) (p n h : ℕ) → (b ≡ false → r.skip ≡ 0) → need_of r.skip n ≤ h → borne_out a (Some (limit_over b r n)) p h ≡ true
  limit_bears_over true r p n h k l = or_left (leb (need_of r.skip n) h) false (le-leb (need_of r.skip n) h l)
  limit_bears_over false r p n h k l =
      let s0 : r.skip ≡ 0 = k refl in
      let l2 : need_of 0 (n + r.skip) ≤ h = grind (arith, nat_tests) in
      or_left (leb (need_of 0 (n + r.skip)) h) false (le-leb (need_of 0 (n + r.skip)) h l2)

  limit_hintless : (b : Bool) (r : GlobalRequirements) (n : ℕ) → (limit_over b r n).hint ≡ None
  limit_hintless true r n = refl
  limit_hintless false r n = refl

  -- a hinted aggregate keeps its hint
  module _ (u : Option Cell) (r : GlobalRequirements) (c : Cell) (f : Fact) (h : ℕ) (rest : List Cell) (hinted : c.hint ≡ Some h) (distinct : a.plain_distinct c.parameter ≡ true) (unknown : f.rows ≡ Unknown) (tail : Hints a (Some c) rest) where
    borne : (t : Option Cell) → borne_out a t c.parameter h ≡ true → hint_cell a t c c.hint ≡ true
    borne t e = ap (hint_cell a t c) hinted ∙ and_from (a.plain_distinct c.parameter) (borne_out a t c.parameter h) distinct e

    hinted_put : Good r f u c.parameter h → (g : Option ℕ) → r.fetch ≡ g → Hints a u (put (nine_by r c f.partitions g) rest)
    unfolding nine_by
    hinted_put (inl k) None eg = go (ltb 0 r.skip && not r.satisfied) refl
      where
        go : (b : Bool) → (ltb 0 r.skip && not r.satisfied) ≡ b → Hints a u (put (skipped_by b r c) rest)
        go true e = absurd (let either = k.1 in grind (arith, nat_tests))
        go false e = (borne u k.2, tail)
    hinted_put (inl k) (Some n) eg = absurd (let x = k.0 in cc)
    hinted_put (inr k) None eg = absurd (let x = k.1.1 in cc)
    hinted_put (inr k) (Some n) eg =
        subst (λ b. Hints a u (option_to_list (only_if (not b) L) ++ c ∷ rest)) (sym (k.0 unknown))
        (ap (hint_cell a u L) (limit_hintless X r n), (borne (Some L) (limit_bears_over X r c.parameter n h (λ e. grind (arith, nat_tests)) need), tail))
      where
        X : Bool
        X = ltb 0 r.skip || eqb f.partitions 1

        L : Cell
        L = limit_over X r n

        same : k.1.0 ≡ n
        same = let x = k.1.1 in cc

        need : need_of r.skip n ≤ h
        need = subst (λ j. need_of r.skip j ≤ h) same k.1.2

  -- what bears a hint out and is no limit is an aggregate
  no_limit : (c : Cell) (f : Option ℕ) (h : ℕ) → is_limit c.kind ≡ false → limit_bears c f h ≡ false
  no_limit c None h e = refl
  no_limit c (Some f) h e = ap (λ b. b && leb (need_of c.skip f) h) e

  bears_nine : (c : Cell) (p h : ℕ) → fields_cell a c ≡ true → is_limit c.kind ≡ false → borne_out a (Some c) p h ≡ true → c.kind ≡ aggregate
  bears_nine c p h fields lim out = go c.hint refl (subst (λ b. (b || aggregate_bears a c c.hint p h) ≡ true) (no_limit c c.fetch h lim) out)
    where
      go : (o : Option ℕ) → c.hint ≡ o → aggregate_bears a c o p h ≡ true → c.kind ≡ aggregate
      go None e out = absurd (false≢true out)
      go (Some g) e out = hint_nine a c (Some g) e refl fields

  -- below an aggregate nothing is pending, and it stays
  nine_next : (r : GlobalRequirements) (c : Cell) (P : ℕ) (g : Option ℕ) → r.fetch ≡ g → let v = nine_by r c P g in (v.next.fetch ≡ None) × ((v.next.skip ≡ 0) ⊎ (v.next.satisfied ≡ true)) × (v.node ≡ c)
  unfolding nine_by
  nine_next r c P None e = go (ltb 0 r.skip && not r.satisfied) refl
    where
      skips : (b : Bool) → r.satisfied ≡ b → (ltb 0 r.skip && not b) ≡ false → cond b 0 r.skip ≡ 0
      skips true es eb = refl
      skips false es eb = grind (arith, nat_tests)

      go : (b : Bool) → (ltb 0 r.skip && not r.satisfied) ≡ b → let v = skipped_by b r c in (v.next.fetch ≡ None) × ((v.next.skip ≡ 0) ⊎ (v.next.satisfied ≡ true)) × (v.node ≡ c)
      go true eb = (refl, inr refl, refl)
      go false eb = (e, inl (skips r.satisfied refl eb), refl)
  nine_next r c P (Some n) e = (refl, inl refl, refl)

  next_handing : (r : GlobalRequirements) (c : Cell) (P k : ℕ) (rs : List GlobalRequirements) (fs : List Fact) → fields_cell a c ≡ true → is_limit c.kind ≡ false → (c.kind ≡ aggregate → k ≡ 1) → let v = visited a r c P in Handing (Some c) (Some v.node) (replicate k v.next ++ rs) fs
  next_handing r c P zero [] fs fields lim one_kid = tt
  next_handing r c P zero (q ∷ rs) fs fields lim one_kid = λ p h out. absurd (let z : zero ≡ 1 = one_kid (bears_nine c p h fields lim out) in omega arith)
  next_handing r c P (suc k) rs fs fields lim one_kid = λ p h out.
      let nine = bears_nine c p h fields lim out in
      let cutless = nine_fetchless c c.fetch nine (fields_fetch a c fields) in
      let t = nine_next r c P r.fetch refl in
      subst (λ v. Good v.next (head_fact fs) (Some v.node) p h) (sym (nine_visited r c P nine cutless))
      (inl (t.0, t.1, subst (λ d. borne_out a (Some d) p h ≡ true) (sym t.2) out))

  -- a combined need is never above the inner limit's
  combined_need : (s : ℕ) (f : Option ℕ) (t g h : ℕ) → need_of t g ≤ h → (n : ℕ) × (combined_fetch s f (Some g) ≡ Some n) × (need_of (s + t) n ≤ h)
  combined_need s None t g h l = (g - s, refl, grind (arith, nat_tests))
  combined_need s (Some f) t g h l = (min f (g - s), refl, grind (arith, nat_tests))

  limit_handing : (r : GlobalRequirements) (c : Cell) (u : Option Cell) (rs : List GlobalRequirements) (fs : List Fact) → fields_cell a c ≡ true → is_limit c.kind ≡ true → Handing (Some c) u (past_limit r c (head_fact fs) ∷ rs) fs
  limit_handing r c u rs fs fields lim = λ p h out. go p h c.fetch refl (subst (λ b. (limit_bears c c.fetch h || b) ≡ true) (hintless p h c.hint refl) out)
    where
      q : GlobalRequirements
      q = past_limit r c (head_fact fs)

      hintless : (p h : ℕ) (o : Option ℕ) → c.hint ≡ o → aggregate_bears a c o p h ≡ false
      hintless p h None e = refl
      hintless p h (Some g) e = absurd (let nine = hint_nine a c (Some g) e refl fields in grind (arith, nat_tests))

      unmet : (k : KnownRows) (F : Option ℕ) (b : Bool) → k ≡ Unknown → (b && known_within k F) ≡ false
      unmet k F b e = ap (λ z. b && known_within z F) e ∙ none_met F b
        where
          none_met : (F : Option ℕ) (b : Bool) → (b && known_within Unknown F) ≡ false
          none_met None true = refl
          none_met None false = refl
          none_met (Some n) true = refl
          none_met (Some n) false = refl

      go : (p h : ℕ) (g : Option ℕ) → c.fetch ≡ g → (limit_bears c g h || false) ≡ true → Good q (head_fact fs) u p h
      go p h None e out = absurd (false≢true out)
      go p h (Some g) e out =
          let l : need_of c.skip g ≤ h = grind (arith, nat_tests) in
          let known = λ (k : (head_fact fs).rows ≡ Unknown). unmet (head_fact fs).rows (combined_fetch r.skip r.fetch c.fetch) (eqb (r.skip + c.skip) 0 && eqb (head_fact fs).partitions 1) k in
          inr (known, subst (λ o. (n : ℕ) × (combined_fetch r.skip r.fetch o ≡ Some n) × (need_of (r.skip + c.skip) n ≤ h)) (sym e) (combined_need r.skip r.fetch c.skip g h l))

  node_hints : (r : GlobalRequirements) (rs : List GlobalRequirements) (c : Cell) (cs : List Cell) (t u : Option Cell) → fit_cell a c ≡ true → fields_cell a c ≡ true → hint_cell a t c c.hint ≡ true → Handing t u (r ∷ rs) (facts a (c ∷ cs)) → ((qs : List GlobalRequirements) (w : Option Cell) → Handing (Some c) w qs (facts a cs) → Hints a w (sunk a qs cs)) → Hints a u (sunk a (r ∷ rs) (c ∷ cs))
  unfolding facts
  node_hints r rs c cs t u fit fields hint hand ih = go (is_limit c.kind) refl
    where
      k : ℕ
      k = c.children

      P : ℕ
      P = (fact_of a c (facts a cs)).partitions

      v : Visited
      v = visited a r c P

      rest : List Cell
      rest = sunk a (replicate k v.next ++ rs) cs

      by : is_limit c.kind ≡ false → (o : Option ℕ) → c.hint ≡ o → hint_cell a t c o ≡ true → Hints a (Some v.node) rest → Hints a u (put v rest)
      by lim None e ok tail =
          put_hints u v.above v.node rest (visited_above (λ l. l.hint ≡ None) (λ s f. refl) (λ n. refl) a r c P) (visited_node a c (λ d. d.hint ≡ None) e (λ n b x y. e) r P) tail
      by lim (Some h) e ok tail =
          let nine = hint_nine a c (Some h) e refl fields in
          let cutless = nine_fetchless c c.fetch nine (fields_fetch a c fields) in
          let parts = and_parts (a.plain_distinct c.parameter) (borne_out a t c.parameter h) ok in
          let is = nine_visited r c P nine cutless in
          let stays : v.node ≡ c = ap (λ w. w.node) is ∙ (nine_next r c P r.fetch refl).2 in
          subst (λ w. Hints a u (put w rest)) (sym is)
          (hinted_put u r c (fact_of a c (facts a cs)) h rest e parts.0 (nine_unknown c (facts a cs) nine) (subst (λ d. Hints a (Some d) rest) stays tail) (hand c.parameter h parts.1) r.fetch refl)

      go : (b : Bool) → is_limit c.kind ≡ b → Hints a u (sunk a (r ∷ rs) (c ∷ cs))
      go true e =
          let q = past_limit r c (head_fact (facts a cs)) in
          let kind = limit_kind c.kind e in
          let one : k ≡ 1 = kind_one a c.kind c.parameter k fit kind.0 kind.1 in
          subst (Hints a u) (sym (sunk_limit a r rs c cs e)) (ih (replicate k q ++ rs) u (subst (λ j. Handing (Some c) u (replicate j q ++ rs) (facts a cs)) (sym one) (limit_handing r c u rs (facts a cs) fields e)))
      go false e =
          let one_kid : c.kind ≡ aggregate → k ≡ 1 = λ nine. kind_one a c.kind c.parameter k fit (omega arith) (omega arith) in
          let tail = ih (replicate k v.next ++ rs) (Some v.node) (next_handing r c P k rs (facts a cs) fields e one_kid) in
          subst (Hints a u) (sym (sunk_node a r rs c cs e)) (by e c.hint refl hint tail)

  sunk_hints_by : (cs : List Cell) (rs : List GlobalRequirements) (t u : Option Cell) → Fit a cs → Fields a cs → Hints a t cs → Handing t u rs (facts a cs) → Hints a u (sunk a rs cs)
  unfolding sunk
  sunk_hints_by [] rs t u fit fields h hand = tt
  sunk_hints_by (c ∷ cs) [] t u fit fields h hand = tt
  sunk_hints_by (c ∷ cs) (r ∷ rs) t u fit fields h hand =
      node_hints r rs c cs t u fit.0 fields.0 h.0 hand (λ qs w k. sunk_hints_by cs qs (Some c) w fit.1 fields.1 h.1 k)

  pub sunk_hints : (cs : List Cell) → Fit a cs → Fields a cs → Hints a None cs → Hints a None (sunk_plan a cs)
  sunk_hints cs fit fields h = sunk_hints_by cs (at_first ∷ []) None None fit fields h (λ p k out. absurd (false≢true out))
