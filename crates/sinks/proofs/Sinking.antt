-- Sink keeps the rows. Assumes nothing.
use Rattle.std.proofs.Common.{◌≡◌, ℕ, zero, suc, ◌+◌, ◌-◌, ◌<◌, Bool, true, false, cond, not, ◌&&◌, ◌||◌, eqb, ltb, ◌⊎◌, List, [], ◌∷◌, ◌++◌, map, length, take, drop, replicate, is_some, Some, None, Option, sym, refl, ap, ◌∙◌, subst, arith}
use mathlib.Core.List.{map-append}
use Rattle.std.specs.Option.{option_to_list}
use Rattle.std.specs.List.{AllByRecursion}
use Rattle.std.proofs.lemmas.List.{length-map, length-append, length-replicate, nil_from_length}
use Rattle.std.proofs.lemmas.Bool.{and_parts, false≢true, eqb-true}
use Rattle.std.proofs.lemmas.Bool.Decides.{nat_tests}
use Rattle.plan.specs.declared.cells.Cell.{Cell}
use Rattle.plan.specs.Kinds.{placeholder_row, projection, coalesce_partitions, first_operator, is_limit}
use Rattle.operators.specs.Answers.{Answers}
use Rattle.operators.specs.Questions.{fits_of, passes_limits, takes_fetch, takes_mark, empty_of}
use Rattle.operators.specs.Rows.{Row, Partitions, Meaning, cut, concat, made_by, made, node_rows, rows}
use Rattle.operators.specs.Rules.{Agree, AtMost, each, row_for_row, Rules}
use Rattle.checks.specs.declared.facts.KnownRows.{KnownRows}
use Rattle.checks.specs.declared.facts.KnownRows.TheVariants.{Unknown, NoRow, OneRow}
use Rattle.checks.specs.declared.facts.Fact.{Fact}
use Rattle.checks.specs.Cells.{fit_cell}
use Rattle.checks.specs.Facts.{head_fact, together, fact_of, facts}
use Rattle.rows.proofs.Passed.{Trees, Fit, Fields}
use Rattle.rows.proofs.Agreeing.{map_none, agree_count, agree_join, agree_rows, at_most_more, empty_same, concat_one}
use Rattle.rows.proofs.Base.{fetch_taken, fields_fetch, kind_one, limit_kind, passing_at, made_limit, made_joined, made_meant, rows_count}
use Rattle.sinks.specs.declared.requirements.GlobalRequirements.{GlobalRequirements}
use Rattle.sinks.specs.declared.requirements.Visited.{Visited}
use Rattle.sinks.specs.Sink.{at_first, combined_fetch, known_few, known_within, past_limit, past_fetch, new_global, new_local, only_if, onward, satisfied_to, stayed, skipped_by, skipped, gathered, fetched, limit_over, limited, fetching_by, combines_partitions, visited_by, visited, sunk, sunk_plan}
use Rattle.sinks.proofs.Visiting.{put, renewed, own_skip, own_fetch, none_both, visited_above, visited_node, sunk_limit, sunk_node}
use Rattle.sinks.proofs.Truth.{TrueOf, Trues, own_fact, fact_own, trues_take, node_true, fits_children, facts_true}
use Rattle.sinks.proofs.Cutting.{cutted, cutted_same, cutted_fetch, cutted_cutted, cutted_append, cutted_rows, cutted_total, take_again}

abbrev is_known : KnownRows → Bool
is_known Unknown = false
is_known NoRow = true
is_known OneRow = true

-- what the new partitions n of a node are to the old o, by what was pending there
abbrev HeldBy : Bool → Option ℕ → ℕ → KnownRows → Partitions → Partitions → Type 0
HeldBy false f s k o n = n ≡ cutted s f o
HeldBy true None s k o n = n ≡ o
HeldBy true (Some f) s k o n = Agree f o n × (is_known k ≡ true → n ≡ o)

abbrev Held : GlobalRequirements → Fact → Partitions → Partitions → Type 0
Held r f o n = HeldBy r.satisfied r.fetch r.skip f.rows o n

-- each subtree still to come, by its own requirement
abbrev Helds : List GlobalRequirements → List Fact → List Partitions → List Partitions → Type 0
Helds [] fs os ns = Unit {0}
Helds (r ∷ rs) [] os ns = ⊥
Helds (r ∷ rs) (f ∷ fs) [] ns = ⊥
Helds (r ∷ rs) (f ∷ fs) (o ∷ os) [] = ⊥
Helds (r ∷ rs) (f ∷ fs) (o ∷ os) (n ∷ ns) = Held r f o n × Helds rs fs os ns

-- children that were handed the same
abbrev Kids : GlobalRequirements → List Fact → List Partitions → List Partitions → Type 0
Kids q [] [] [] = Unit {0}
Kids q [] [] (n ∷ ns) = ⊥
Kids q [] (o ∷ os) ns = ⊥
Kids q (f ∷ fs) [] ns = ⊥
Kids q (f ∷ fs) (o ∷ os) [] = ⊥
Kids q (f ∷ fs) (o ∷ os) (n ∷ ns) = Held q f o n × Kids q fs os ns

-- satisfied only where nothing is skipped
abbrev Ready : GlobalRequirements → Type 0
Ready r = r.satisfied ≡ true → r.skip ≡ 0

split : (k : ℕ) (q : GlobalRequirements) (rs : List GlobalRequirements) (fs : List Fact) (os ns : List Partitions) → Helds (replicate k q ++ rs) fs os ns → Kids q (take k fs) (take k os) (take k ns) × Helds rs (drop k fs) (drop k os) (drop k ns)
split zero q rs fs os ns h = (tt, h)
split (suc k) q rs [] os ns h = absurd h
split (suc k) q rs (f ∷ fs) [] ns h = absurd h
split (suc k) q rs (f ∷ fs) (o ∷ os) [] h = absurd h
split (suc k) q rs (f ∷ fs) (o ∷ os) (n ∷ ns) h =
    let t = split k q rs fs os ns h.1 in
    ((h.0, t.0), t.1)

-- children
held_count : (b : Bool) (g : Option ℕ) (s : ℕ) (k : KnownRows) (o n : Partitions) → HeldBy b g s k o n → length n ≡ length o
held_count false g s k o n h = ap length h ∙ length-map (map (drop s) o) (cut g) ∙ length-map o (drop s)
held_count true None s k o n h = ap length h
held_count true (Some f) s k o n h = sym (agree_count f o n h.0)

module _ (q : GlobalRequirements) where
  kids_same : ((f : Fact) (o n : Partitions) → Held q f o n → n ≡ o) → (fs : List Fact) (os ns : List Partitions) → Kids q fs os ns → ns ≡ os
  kids_same e [] [] [] h = refl
  kids_same e [] [] (n ∷ ns) h = absurd h
  kids_same e [] (o ∷ os) ns h = absurd h
  kids_same e (f ∷ fs) [] ns h = absurd h
  kids_same e (f ∷ fs) (o ∷ os) [] h = absurd h
  kids_same e (f ∷ fs) (o ∷ os) (n ∷ ns) h = let t = kids_same e fs os ns h.1 in λ i. e f o n h.0 i ∷ t i

  kids_cut : (s : ℕ) (g : Option ℕ) → ((f : Fact) (o n : Partitions) → Held q f o n → n ≡ cutted s g o) → (fs : List Fact) (os ns : List Partitions) → Kids q fs os ns → concat ns ≡ cutted s g (concat os)
  kids_cut s g e [] [] [] h = refl
  kids_cut s g e [] [] (n ∷ ns) h = absurd h
  kids_cut s g e [] (o ∷ os) ns h = absurd h
  kids_cut s g e (f ∷ fs) [] ns h = absurd h
  kids_cut s g e (f ∷ fs) (o ∷ os) [] h = absurd h
  kids_cut s g e (f ∷ fs) (o ∷ os) (n ∷ ns) h =
      let t = kids_cut s g e fs os ns h.1 in
      (λ i. e f o n h.0 i ++ t i) ∙ cutted_append s g o (concat os)

  kids_agree : (N : ℕ) → ((f : Fact) (o n : Partitions) → Held q f o n → Agree N o n) → (fs : List Fact) (os ns : List Partitions) → Kids q fs os ns → Agree N (concat os) (concat ns)
  kids_agree N e [] [] [] h = refl
  kids_agree N e [] [] (n ∷ ns) h = absurd h
  kids_agree N e [] (o ∷ os) ns h = absurd h
  kids_agree N e (f ∷ fs) [] ns h = absurd h
  kids_agree N e (f ∷ fs) (o ∷ os) [] h = absurd h
  kids_agree N e (f ∷ fs) (o ∷ os) (n ∷ ns) h =
      let t = kids_agree N e fs os ns h.1 in
      map-append (take N) o (concat os) ∙ (λ i. e f o n h.0 i ++ t i) ∙ sym (map-append (take N) n (concat ns))

  kids_true : ((f : Fact) (o n : Partitions) → Held q f o n → is_known f.rows ≡ true → n ≡ o) → (fs : List Fact) (os ns : List Partitions) → Kids q fs os ns → Trues fs os → Trues fs ns
  kids_true e [] [] [] h t = tt
  kids_true e [] [] (n ∷ ns) h t = absurd h
  kids_true e [] (o ∷ os) ns h t = absurd h
  kids_true e (f ∷ fs) [] ns h t = absurd h
  kids_true e (f ∷ fs) (o ∷ os) [] h t = absurd h
  kids_true e (f ∷ fs) (o ∷ os) (n ∷ ns) h t = (go f.rows (e f o n h.0) t.0, kids_true e fs os ns h.1 t.1)
    where
      go : (k : KnownRows) → (is_known k ≡ true → n ≡ o) → TrueOf k o → TrueOf k n
      go Unknown same u = tt
      go NoRow same u = subst (AtMost 0) (sym (same refl)) u
      go OneRow same u = subst (AtMost 1) (sym (same refl)) u

  -- each child has as many partitions as before
  kids_counts : (fs : List Fact) (os ns : List Partitions) → Kids q fs os ns → map length ns ≡ map length os
  kids_counts [] [] [] h = refl
  kids_counts [] [] (n ∷ ns) h = absurd h
  kids_counts [] (o ∷ os) ns h = absurd h
  kids_counts (f ∷ fs) [] ns h = absurd h
  kids_counts (f ∷ fs) (o ∷ os) [] h = absurd h
  kids_counts (f ∷ fs) (o ∷ os) (n ∷ ns) h =
      let t = kids_counts fs os ns h.1 in
      λ i. held_count q.satisfied q.fetch q.skip f.rows o n h.0 i ∷ t i

  kids_length : (fs : List Fact) (os ns : List Partitions) → Kids q fs os ns → length ns ≡ length os
  kids_length fs os ns h = sym (length-map ns length) ∙ ap length (kids_counts fs os ns h) ∙ length-map os length

-- a node whose new rows are what the limit leaves of the old ones
held_cut : (r : GlobalRequirements) (f : Fact) (o n : Partitions) → Ready r → (is_known f.rows ≡ true → AtMost 0 o) → n ≡ cutted r.skip r.fetch o → Held r f o n
held_cut r f o n ready empty e = go r.satisfied r.fetch refl refl
  where
    go : (b : Bool) (g : Option ℕ) → r.satisfied ≡ b → r.fetch ≡ g → HeldBy b g r.skip f.rows o n
    go false g eb eg = e ∙ ap (λ z. cutted r.skip z o) eg
    go true None eb eg = e ∙ (λ i. cutted (ready eb i) (eg i) o) ∙ cutted_same o
    go true (Some g) eb eg =
        let n_is : n ≡ map (take g) o = e ∙ (λ i. cutted (ready eb i) (eg i) o) ∙ cutted_fetch (Some g) o in
        (sym (ap (map (take g)) n_is ∙ take_again g o), λ k. n_is ∙ at_most_more 0 g o (omega arith) (empty k))

held_same : (r : GlobalRequirements) (f : Fact) (o n : Partitions) → r.satisfied ≡ true → n ≡ o → Held r f o n
held_same r f o n sat e = subst (λ b. HeldBy b r.fetch r.skip f.rows o n) (sym sat) (go r.fetch)
  where
    go : (g : Option ℕ) → HeldBy true g r.skip f.rows o n
    go None = e
    go (Some g) = (ap (map (take g)) (sym e), λ k. e)

one_list : (xs : List Partitions) → length xs ≡ 1 → xs ≡ concat xs ∷ []
one_list [] e = absurd (let z : ◌≡◌ {A = ℕ} 0 1 = e in omega arith)
one_list (x ∷ []) e = ap (λ z. z ∷ []) (sym (concat_one x))
one_list (x ∷ (y ∷ xs)) e = absurd (let z : suc (suc (length xs)) ≡ 1 = e in omega arith)

-- below a limit that is taken out, and back above it
few_same : (k : KnownRows) (N : ℕ) (o n : Partitions) → known_few k N ≡ true → TrueOf k o → (is_known k ≡ true → n ≡ o) → n ≡ map (take N) o
few_same Unknown N o n e t same = absurd (false≢true e)
few_same NoRow N o n e t same = same refl ∙ sym (at_most_more 0 N o (omega arith) t)
few_same OneRow N o n e t same = same refl ∙ sym (at_most_more 1 N o (grind (arith, nat_tests)) t)

limit_below : (s : ℕ) (F : Option ℕ) (b : Bool) (k : KnownRows) (o n : Partitions) → (eqb s 0 && b && known_within k F) ≡ true → TrueOf k o → HeldBy true F s k o n → n ≡ cutted s F o
limit_below s None b k o n e t h = absurd (false≢true (and_parts (eqb s 0 && b) false e).1)
limit_below s (Some N) b k o n e t h =
    let es = and_parts (eqb s 0 && b) (known_few k N) e in
    let s0 : s ≡ 0 = eqb-true s 0 (and_parts (eqb s 0) b es.0).0 in
    few_same k N o n es.1 t h.1 ∙ sym (ap (λ z. cutted z (Some N) o) s0 ∙ cutted_fetch (Some N) o)

limit_held : (m : Meaning) (r : GlobalRequirements) (c : Cell) (f : Fact) (o n : Partitions) → is_limit c.kind ≡ true → TrueOf f.rows o → Held (past_limit r c f) f o n → n ≡ cutted r.skip r.fetch (node_rows m c (o ∷ []))
limit_held m r c f o n lim t h =
    below (eqb S 0 && eqb f.partitions 1 && known_within f.rows F) refl h
    ∙ sym (ap (cutted r.skip r.fetch) at ∙ cutted_cutted r.skip r.fetch c.skip c.fetch o)
  where
    S : ℕ
    S = r.skip + c.skip

    F : Option ℕ
    F = combined_fetch r.skip r.fetch c.fetch

    at : node_rows m c (o ∷ []) ≡ cutted c.skip c.fetch o
    at = ap (map (cut c.fetch)) (made_limit m c (o ∷ []) lim ∙ ap (map (drop c.skip)) (concat_one o))

    below : (b : Bool) → (eqb S 0 && eqb f.partitions 1 && known_within f.rows F) ≡ b → HeldBy b F S f.rows o n → n ≡ cutted S F o
    below false e k = k
    below true e k = limit_below S F (eqb f.partitions 1) f.rows o n e t k

-- of what is no placeholder and no projection, only that it is empty can be known
known_empty : (a : Answers) (c : Cell) (fs : List Fact) (o : Partitions) → eqb c.kind placeholder_row ≡ false → eqb c.kind projection ≡ false → TrueOf (own_fact a c fs).rows o → is_known (own_fact a c fs).rows ≡ true → AtMost 0 o
known_empty a c fs o e1 e4 = go (eqb c.kind placeholder_row) (eqb c.kind projection) (empty_of a c.kind c.parameter (together fs).empty) e1 e4
  where
    go : (x y e : Bool) → x ≡ false → y ≡ false → TrueOf (cond x OneRow (cond y (head_fact fs).rows (cond e NoRow Unknown))) o → is_known (cond x OneRow (cond y (head_fact fs).rows (cond e NoRow Unknown))) ≡ true → AtMost 0 o
    go true y e ex ey = absurd (false≢true (sym ex))
    go false true e ex ey = absurd (false≢true (sym ey))
    go false false true ex ey = λ t k. t
    go false false false ex ey = λ t k. absurd (false≢true k)

-- the rows of a node, and of a new limit over it
module _ (m : Meaning) (c : Cell) (rest : List Cell) where
  abbrev Y : Partitions
  Y = node_rows m c (take c.children (rows m rest))

  above_rows : (b : Bool) (s : ℕ) (f : Option ℕ) → rows m (option_to_list (only_if b (new_global s f)) ++ c ∷ rest) ≡ cond b (cutted s f Y) Y ∷ drop c.children (rows m rest)
  unfolding rows made_by
  above_rows true s f = ap (λ z. map (cut f) (map (drop s) z) ∷ drop c.children (rows m rest)) (concat_one Y)
  above_rows false s f = refl

  local_rows : (n : ℕ) → rows m (new_local n ∷ c ∷ rest) ≡ cutted 0 (Some n) Y ∷ drop c.children (rows m rest)
  unfolding rows made_by
  local_rows n = ap (λ z. map (take n) (map (drop 0) z) ∷ drop c.children (rows m rest)) (concat_one Y)

  one_rows : rows m (c ∷ rest) ≡ Y ∷ drop c.children (rows m rest)
  unfolding rows
  one_rows = refl

-- what skips is not satisfied
own_unmet : (r : GlobalRequirements) (f : Option ℕ) → Ready r → ltb 0 r.skip ≡ true → (past_fetch r f).satisfied ≡ false
own_unmet r None ready e = go r.satisfied refl
  where
    go : (b : Bool) → r.satisfied ≡ b → r.satisfied ≡ false
    go true eb = absurd (let z : r.skip ≡ 0 = ready eb in grind (arith, nat_tests))
    go false eb = eb
own_unmet r (Some f) ready e = go r.satisfied refl
  where
    go : (b : Bool) → r.satisfied ≡ b → (r.satisfied || eqb r.skip 0) ≡ false
    go true eb = absurd (let z : r.skip ≡ 0 = ready eb in grind (arith, nat_tests))
    go false eb = grind (arith, nat_tests)

-- another fetch or mark changes nothing of what is made
made_other : (a : Answers) (m : Meaning) → Rules a m → (c : Cell) (n : ℕ) (b : Bool) (os : List Partitions) → fits_of a c.kind c.parameter (length os) ≡ true → made m (renewed c n b) os ≡ made m c os
unfolding made_by
made_other a m rules c n b os fit = go (is_limit c.kind) (eqb c.kind coalesce_partitions)
  where
    go : (l j : Bool) → made_by l j m (renewed c n b) os ≡ made_by l j m c os
    go true j = refl
    go false true = refl
    go false false = (rules.at c.kind c.parameter).mark b c.mark c.hint os fit

-- the new cells in a node's place have one new subtree, which is to the old as r says
abbrev Placed : Meaning → GlobalRequirements → Fact → Partitions → List Cell → List Partitions → Type 0
Placed m r f o cells ns = (n : Partitions) × (rows m cells ≡ n ∷ ns) × Held r f o n

module _ (a : Answers) (m : Meaning) (rules : Rules a m) where
  -- a node that is no limit: fs and os are its children's facts and old rows
  module _ (r : GlobalRequirements) (c : Cell) (fs : List Fact) (os : List Partitions) (rest : List Cell) (ready : Ready r) (lim : is_limit c.kind ≡ false) (fit : fits_of a c.kind c.parameter (length os) ≡ true) (true_kids : Trues fs os) where
    abbrev F : Fact
    F = own_fact a c fs

    abbrev O : Partitions
    O = node_rows m c os

    abbrev ns : List Partitions
    ns = take c.children (rows m rest)

    abbrev after : List Partitions
    after = drop c.children (rows m rest)

    abbrev own : GlobalRequirements
    own = past_fetch r c.fetch

    -- what is pending, over the rows before the node's own fetch
    wanted : cutted r.skip r.fetch O ≡ cutted r.skip own.fetch (made m c os)
    wanted =
        let z = made m c os in
        let zero_more : r.skip + 0 ≡ r.skip = omega arith in
        ap (cutted r.skip r.fetch) (sym (cutted_fetch c.fetch z))
        ∙ cutted_cutted r.skip r.fetch 0 c.fetch z
        ∙ (λ i. cutted (zero_more i) (sym (own_fetch r c.fetch) i) z)

    empty_node : eqb c.kind placeholder_row ≡ false → eqb c.kind projection ≡ false → is_known F.rows ≡ true → AtMost 0 O
    empty_node e1 e4 = known_empty a c fs O e1 e4 (node_true a m rules c fs os fit true_kids)

    -- a node that gets the total as its fetch, under a limit if something is skipped
    total_placed : (n : ℕ) (b mk : Bool) → own.fetch ≡ Some n → b ≡ ltb 0 r.skip → eqb c.kind placeholder_row ≡ false → eqb c.kind projection ≡ false → length ns ≡ length os → Agree (n + r.skip) (made m c os) (made m c ns) → Placed m r F O (option_to_list (only_if b (new_global r.skip (Some n))) ++ renewed c (n + r.skip) mk ∷ rest) after
    total_placed n b mk eo eb e1 e4 count agree = (
      cond b (cutted r.skip (Some n) X) X,
      above_rows m (renewed c (n + r.skip) mk) rest b r.skip (Some n),
      held_cut r F O (cond b (cutted r.skip (Some n) X) X) ready (empty_node e1 e4) (top b eb ∙ sym (wanted ∙ ap (λ z. cutted r.skip z (made m c os)) eo)),
    )
      where
        X : Partitions
        X = node_rows m (renewed c (n + r.skip) mk) ns

        x_is : X ≡ map (take (n + r.skip)) (made m c os)
        x_is = ap (map (take (n + r.skip))) (made_other a m rules c (n + r.skip) mk ns (subst (λ k. fits_of a c.kind c.parameter k ≡ true) (sym count) fit)) ∙ sym agree

        top : (b : Bool) → b ≡ ltb 0 r.skip → cond b (cutted r.skip (Some n) X) X ≡ cutted r.skip (Some n) (made m c os)
        top true e = ap (cutted r.skip (Some n)) x_is ∙ cutted_total r.skip n (made m c os)
        top false e =
            let s0 : r.skip ≡ 0 = grind (arith, nat_tests) in
            let n0 : n + r.skip ≡ n = omega arith in
            x_is ∙ ap (λ k. map (take k) (made m c os)) n0 ∙ sym (ap (λ k. cutted k (Some n) (made m c os)) s0 ∙ cutted_fetch (Some n) (made m c os))

    combines_agree : (N : ℕ) (q : GlobalRequirements) → q.satisfied ≡ true → q.fetch ≡ Some N → combines_partitions c.kind ≡ true → Kids q fs os ns → Agree N (made m c os) (made m c ns)
    combines_agree N q es ef k kids = go (eqb c.kind coalesce_partitions) refl
      where
        one : (f : Fact) (o n : Partitions) → Held q f o n → Agree N o n
        one f o n h = (subst (λ b. HeldBy b (Some N) q.skip f.rows o n) es (subst (λ g. HeldBy q.satisfied g q.skip f.rows o n) ef h)).0

        all : Agree N (concat os) (concat ns)
        all = kids_agree q N one fs os ns kids

        go : (b : Bool) → eqb c.kind coalesce_partitions ≡ b → Agree N (made m c os) (made m c ns)
        go true e = ap (map (take N)) (made_joined m c os lim e) ∙ agree_join N (concat os) (concat ns) all ∙ ap (map (take N)) (sym (made_joined m c ns lim e))
        go false e =
            let six : c.kind ≡ 6 = grind (arith, nat_tests) in
            let single : length os ≡ 1 = kind_one a c.kind c.parameter (length os) fit (omega arith) (omega arith) in
            let single2 : length ns ≡ 1 = kids_length q fs os ns kids ∙ single in
            let at : (z : List Partitions) → length z ≡ 1 → made m c z ≡ m c.kind c.parameter c.mark c.hint (concat z ∷ []) =
            λ z l. made_meant m c z lim e ∙ ap (m c.kind c.parameter c.mark c.hint) (one_list z l) in
            ap (map (take N)) (at os single) ∙ (rules.at c.kind c.parameter).merge six c.mark c.hint N (concat os) (concat ns) (subst (λ n. fits_of a c.kind c.parameter n ≡ true) single fit) all ∙ ap (map (take N)) (sym (at ns single2))

    satisfied_same : (q : GlobalRequirements) → Kids (satisfied_to q None) fs os ns → ns ≡ os
    satisfied_same q kids = kids_same (satisfied_to q None) (λ f o n h. h) fs os ns kids

    gathered_placed : (n : ℕ) → own.fetch ≡ Some n → combines_partitions c.kind ≡ true → Kids (gathered own c n).next fs os ns → Placed m r F O (put (gathered own c n) rest) after
    gathered_placed n eo k kids =
        let es = own_skip r c.fetch in
        let next = satisfied_to own (Some (n + own.skip)) in
        let agree : Agree (n + r.skip) (made m c os) (made m c ns) = subst (λ s. Agree (n + s) (made m c os) (made m c ns)) es (combines_agree (n + own.skip) next refl refl k kids) in
        subst (λ s. Placed m r F O (option_to_list (only_if (ltb 0 s) (new_global s (Some n))) ++ renewed c (n + s) c.mark ∷ rest) after) (sym es)
        (total_placed n (ltb 0 r.skip) c.mark eo refl (grind (arith, nat_tests)) (grind (arith, nat_tests)) (kids_length next fs os ns kids) agree)

    fetched_placed : (n : ℕ) → own.fetch ≡ Some n → takes_fetch a c.kind c.parameter ≡ true → Kids (fetched a own c n).next fs os ns → Placed m r F O (put (fetched a own c n) rest) after
    fetched_placed n eo k kids =
        let es = own_skip r c.fetch in
        let same = satisfied_same own kids in
        let mk = cond (takes_mark a c.kind c.parameter) own.preserve_order c.mark in
        let eb : (ltb 0 r.skip && not own.satisfied) ≡ ltb 0 r.skip = unmet (ltb 0 r.skip) refl in
        subst (λ s. Placed m r F O (option_to_list (only_if (ltb 0 s && not own.satisfied) (new_global s (Some n))) ++ renewed c (n + s) mk ∷ rest) after) (sym es)
        (total_placed n (ltb 0 r.skip && not own.satisfied) mk eo eb (grind (arith, nat_tests)) (grind (arith, nat_tests)) (ap length same) (ap (λ z. map (take (n + r.skip)) (made m c z)) (sym same)))
      where
        unmet : (b : Bool) → ltb 0 r.skip ≡ b → (b && not own.satisfied) ≡ b
        unmet true e = ap not (own_unmet r c.fetch ready e)
        unmet false e = refl

    -- from here on the node has no fetch of its own
    onward_same : (f : Fact) (o n : Partitions) → r.fetch ≡ None → r.skip ≡ 0 ⊎ r.satisfied ≡ true → Held (onward r) f o n → n ≡ o
    onward_same f o n ef either h = go r.satisfied refl
      where
        h2 : HeldBy r.satisfied None (cond r.satisfied 0 r.skip) f.rows o n
        h2 = subst (λ g. HeldBy r.satisfied g (cond r.satisfied 0 r.skip) f.rows o n) ef h

        go : (b : Bool) → r.satisfied ≡ b → n ≡ o
        go true e = subst (λ b. HeldBy b None (cond b 0 r.skip) f.rows o n) e h2
        go false e =
            let s0 : r.skip ≡ 0 = grind (arith, nat_tests) in
            subst (λ b. HeldBy b None (cond b 0 r.skip) f.rows o n) e h2 ∙ ap (λ s. cutted s None o) s0 ∙ cutted_same o

    skipped_placed : r.fetch ≡ None → Kids (skipped r c).next fs os ns → Placed m r F O (put (skipped r c) rest) after
    skipped_placed ef kids = go (ltb 0 r.skip && not r.satisfied) refl kids
      where
        N : Partitions
        N = node_rows m c ns

        kept : (b : Bool) → r.satisfied ≡ b → (ltb 0 r.skip && not r.satisfied) ≡ false → N ≡ O → Held r F O N
        kept true eb e eq = held_same r F O N eb eq
        kept false eb e eq =
            let s0 : r.skip ≡ 0 = grind (arith, nat_tests) in
            subst (λ b. HeldBy b r.fetch r.skip F.rows O N) (sym eb) (eq ∙ sym ((λ i. cutted (s0 i) (ef i) O) ∙ cutted_same O))

        go : (b : Bool) → (ltb 0 r.skip && not r.satisfied) ≡ b → Kids (skipped_by b r c).next fs os ns → Placed m r F O (put (skipped_by b r c) rest) after
        go true e kids =
            let same = satisfied_same r kids in
            let sat : r.satisfied ≡ false = grind (arith, nat_tests) in
            let eq : cutted r.skip None N ≡ cutted r.skip r.fetch O = (λ i. cutted r.skip (sym ef i) (node_rows m c (same i))) in
            (cutted r.skip None N, above_rows m c rest true r.skip None, subst (λ b. HeldBy b r.fetch r.skip F.rows O (cutted r.skip None N)) (sym sat) eq)
        go false e kids =
            let same = kids_same (onward r) (λ f o n h. onward_same f o n ef (grind (arith, nat_tests)) h) fs os ns kids in
            (N, one_rows m c rest, kept r.satisfied refl e (ap (node_rows m c) same))

    limited_placed : (n : ℕ) → r.fetch ≡ Some n → Kids (limited r c F.partitions n).next fs os ns → Placed m r F O (put (limited r c F.partitions n) rest) after
    limited_placed n ef kids = go r.satisfied refl
      where
        X : Partitions
        X = node_rows m c ns

        same : X ≡ O
        same = ap (node_rows m c) (satisfied_same r kids)

        cut_held : (N : Partitions) → r.satisfied ≡ false → N ≡ cutted r.skip (Some n) X → Held r F O N
        cut_held N eb e = subst (λ b. HeldBy b r.fetch r.skip F.rows O N) (sym eb) (e ∙ (λ i. cutted r.skip (sym ef i) (same i)))

        limit : (x : Bool) → (ltb 0 r.skip || eqb F.partitions 1) ≡ x → r.satisfied ≡ false → Placed m r F O (limit_over x r n ∷ c ∷ rest) after
        limit true ex eb = (cutted r.skip (Some n) X, above_rows m c rest true r.skip (Some n), cut_held (cutted r.skip (Some n) X) eb refl)
        limit false ex eb =
            let s0 : r.skip ≡ 0 = grind (arith, nat_tests) in
            let n0 : n + r.skip ≡ n = omega arith in (
              cutted 0 (Some (n + r.skip)) X,
              local_rows m c rest (n + r.skip),
              cut_held (cutted 0 (Some (n + r.skip)) X) eb (λ i. cutted (sym s0 i) (Some (n0 i)) X),
            )

        go : (b : Bool) → r.satisfied ≡ b → Placed m r F O (option_to_list (only_if (not b) (limit_over (ltb 0 r.skip || eqb F.partitions 1) r n)) ++ c ∷ rest) after
        go true eb = (X, one_rows m c rest, held_same r F O X eb same)
        go false eb = limit (ltb 0 r.skip || eqb F.partitions 1) refl eb

    -- a node that makes each row from the row at its place
    stayed_placed : (n : ℕ) → c.fetch ≡ None → r.fetch ≡ Some n → passes_limits a c.kind c.parameter ≡ true → combines_partitions c.kind ≡ false → Kids (onward r) fs os ns → Placed m r F O (c ∷ rest) after
    stayed_placed n cutless ef pass not56 kids = (N, one_rows m c rest, go r.satisfied refl)
      where
        N : Partitions
        N = node_rows m c ns

        not5 : eqb c.kind coalesce_partitions ≡ false
        not5 = grind (arith, nat_tests)

        by_row : row_for_row a c.kind c.parameter ≡ true
        by_row = grind (arith, nat_tests)

        counts : map length ns ≡ map length os
        counts = kids_counts (onward r) fs os ns kids

        f : List ℕ → ℕ → Row → Row
        f = ((rules.at c.kind c.parameter).each_row by_row c.mark c.hint).0

        g : ℕ → Row → Row
        g = f (map length os)

        fit_new : fits_of a c.kind c.parameter (length ns) ≡ true
        fit_new = subst (λ k. fits_of a c.kind c.parameter k ≡ true) (sym (kids_length (onward r) fs os ns kids)) fit

        at : (z : List Partitions) → fits_of a c.kind c.parameter (length z) ≡ true → node_rows m c z ≡ each (λ i. map (f (map length z) i)) 0 (concat z)
        at z e =
            ap (λ g. map (cut g) (made m c z)) cutless ∙ map_none (cut None) (λ x. refl) (made m c z) ∙ made_meant m c z lim not5
            ∙ ((rules.at c.kind c.parameter).each_row by_row c.mark c.hint).1 z e

        old : O ≡ each (λ i. map (g i)) 0 (concat os)
        old = at os fit

        new : N ≡ each (λ i. map (g i)) 0 (concat ns)
        new = at ns fit_new ∙ ap (λ l. each (λ i. map (f l i)) 0 (concat ns)) counts

        onward_is : (b : Bool) → r.satisfied ≡ b → (g : Fact) (o x : Partitions) → Held (onward r) g o x → HeldBy b (Some n) (cond b 0 r.skip) g.rows o x
        onward_is b e g o x h = subst (λ b. HeldBy b (Some n) (cond b 0 r.skip) g.rows o x) e (subst (λ y. HeldBy r.satisfied y (cond r.satisfied 0 r.skip) g.rows o x) ef h)

        known_same : r.satisfied ≡ true → Agree n O N → is_known F.rows ≡ true → N ≡ O
        known_same sat agree k = by (eqb c.kind projection) refl
          where
            kid : (g : Fact) (o x : Partitions) → Held (onward r) g o x → is_known g.rows ≡ true → x ≡ o
            kid g o x h = (onward_is true sat g o x h).1

            first : (fs : List Fact) (os ns : List Partitions) → length os ≡ 1 → Kids (onward r) fs os ns → is_known (head_fact fs).rows ≡ true → ns ≡ os
            first [] [] ns e h k = absurd (let z : ◌≡◌ {A = ℕ} 0 1 = e in omega arith)
            first [] (o ∷ os) ns e h k = absurd h
            first (g ∷ fs) [] ns e h k = absurd h
            first (g ∷ fs) (o ∷ os) [] e h k = absurd h
            first (g ∷ []) (o ∷ []) (x ∷ []) e h k = ap (λ z. z ∷ []) (kid g o x h.0 k)
            first (g ∷ []) (o ∷ []) (x ∷ (y ∷ ns)) e h k = absurd h.1
            first (g ∷ []) (o ∷ (u ∷ os)) (x ∷ ns) e h k = absurd h.1
            first (g ∷ (v ∷ fs)) (o ∷ []) (x ∷ ns) e h k = absurd h.1
            first (g ∷ (v ∷ fs)) (o ∷ (u ∷ os)) (x ∷ ns) e h k = absurd (let z : suc (suc (length os)) ≡ 1 = e in omega arith)

            not1 : eqb c.kind placeholder_row ≡ false
            not1 = grind (arith, nat_tests)

            by : (b : Bool) → eqb c.kind projection ≡ b → N ≡ O
            by true e4 =
                let four : c.kind ≡ 4 = eqb-true c.kind 4 e4 in
                let single : length os ≡ 1 = kind_one a c.kind c.parameter (length os) fit (omega arith) (omega arith) in
                let E = cond (empty_of a c.kind c.parameter (together fs).empty) NoRow Unknown in
                let k4 : is_known (head_fact fs).rows ≡ true = subst (λ x. is_known (cond x OneRow (cond true (head_fact fs).rows E)) ≡ true) not1 (subst (λ x. is_known (cond (eqb c.kind placeholder_row) OneRow (cond x (head_fact fs).rows E)) ≡ true) e4 k) in
                ap (node_rows m c) (first fs os ns single kids k4)
            by false e4 =
                let new_true = kids_true (onward r) kid fs os ns kids true_kids in
                let new_empty = known_empty a c fs N not1 e4 (node_true a m rules c fs ns fit_new new_true) k in
                sym (empty_same n O N (empty_node not1 e4 k) new_empty agree)

        go : (b : Bool) → r.satisfied ≡ b → Held r F O N
        go false e =
            let cutk : concat ns ≡ cutted r.skip (Some n) (concat os) = kids_cut (onward r) r.skip (Some n) (λ g o x h. onward_is false e g o x h) fs os ns kids in
            subst (λ b. HeldBy b r.fetch r.skip F.rows O N) (sym e)
            (new ∙ ap (each (λ i. map (g i)) 0) cutk ∙ sym (cutted_rows r.skip (Some n) g (concat os)) ∙ (λ i. cutted r.skip (sym ef i) (sym old i)))
        go true e =
            let agree : Agree n O N = ap (map (take n)) old ∙ agree_rows n g (concat os) (concat ns) (kids_agree (onward r) n (λ g o x h. (onward_is true e g o x h).0) fs os ns kids) ∙ ap (map (take n)) (sym new) in
            subst (λ b. HeldBy b r.fetch r.skip F.rows O N) (sym e) (subst (λ g. HeldBy true g r.skip F.rows O N) (sym ef) (agree, known_same e agree))

    fetchless : (g : Option ℕ) → (not (is_some g) || takes_fetch a c.kind c.parameter) ≡ true → takes_fetch a c.kind c.parameter ≡ false → g ≡ None
    fetchless None h e = refl
    fetchless (Some g) h e = absurd (grind (arith, nat_tests))

    -- a node that limits pass takes no fetch
    passing_fetchless : passes_limits a c.kind c.parameter ≡ true → combines_partitions c.kind ≡ false → takes_fetch a c.kind c.parameter ≡ false
    passing_fetchless pass not56 = go (ltb c.kind first_operator) refl
      where
        go : (b : Bool) → ltb c.kind first_operator ≡ b → takes_fetch a c.kind c.parameter ≡ false
        go true low = grind (arith, nat_tests)
        go false high = let none = (passing_at a m rules c.kind c.parameter high pass).no_fetch in grind (arith, nat_tests)

    -- with no own fetch, what is said of r is said of what is pending after it
    as_own : (V : GlobalRequirements → Visited) → c.fetch ≡ None → (Kids (V r).next fs os ns → Placed m r F O (put (V r) rest) after) → Kids (V own).next fs os ns → Placed m r F O (put (V own) rest) after
    as_own V cutless h = subst (λ q. Kids (V q).next fs os ns → Placed m r F O (put (V q) rest) after) (sym (ap (past_fetch r) cutless)) h

    fetching_placed : (x t y : Bool) → combines_partitions c.kind ≡ x → passes_limits a c.kind c.parameter ≡ t → takes_fetch a c.kind c.parameter ≡ y → fetch_taken a c → (n : ℕ) → own.fetch ≡ Some n → Kids (fetching_by x t y a own c F.partitions n).next fs os ns → Placed m r F O (put (fetching_by x t y a own c F.partitions n) rest) after
    fetching_placed true t y e1 e2 e3 taken n eo kids = gathered_placed n eo e1 kids
    fetching_placed false true y e1 e2 e3 taken n eo kids =
        let cutless = fetchless c.fetch taken (passing_fetchless e2 e1) in
        let ef : r.fetch ≡ Some n = ap (λ q. q.fetch) (sym (ap (past_fetch r) cutless)) ∙ eo in
        as_own (λ q. stayed q c) cutless (stayed_placed n cutless ef e2 e1) kids
    fetching_placed false false true e1 e2 e3 taken n eo kids = fetched_placed n eo e3 kids
    fetching_placed false false false e1 e2 e3 taken n eo kids =
        let cutless = fetchless c.fetch taken e3 in
        let ef : r.fetch ≡ Some n = ap (λ q. q.fetch) (sym (ap (past_fetch r) cutless)) ∙ eo in
        as_own (λ q. limited q c F.partitions n) cutless (limited_placed n ef) kids

    visited_placed : fetch_taken a c → (g : Option ℕ) → own.fetch ≡ g → Kids (visited_by a own c F.partitions g).next fs os ns → Placed m r F O (put (visited_by a own c F.partitions g) rest) after
    visited_placed taken None eo kids =
        let both = none_both r.skip r.fetch c.fetch (sym (own_fetch r c.fetch) ∙ eo) in
        as_own (λ q. skipped q c) both.1 (skipped_placed both.0) kids
    visited_placed taken (Some n) eo kids = fetching_placed (combines_partitions c.kind) (passes_limits a c.kind c.parameter) (takes_fetch a c.kind c.parameter) refl refl refl taken n eo kids

    placed : fetch_taken a c → Kids (visited a r c F.partitions).next fs os ns → Placed m r F O (put (visited a r c F.partitions) rest) after
    placed taken kids = visited_placed taken own.fetch refl kids

  limit_node : (r : GlobalRequirements) (c : Cell) (rs : List GlobalRequirements) (fs : List Fact) (os ns : List Partitions) → Ready r → is_limit c.kind ≡ true → fit_cell a c ≡ true → c.children ≡ 1 → Trues fs os → Helds (past_limit r c (head_fact fs) ∷ rs) fs os ns → Helds (r ∷ rs) (own_fact a c (take c.children fs) ∷ drop c.children fs) (node_rows m c (take c.children os) ∷ drop c.children os) ns
  limit_node r c rs [] os ns ready lim fit single t h = absurd h
  limit_node r c rs (f ∷ fs) [] ns ready lim fit single t h = absurd h
  limit_node r c rs (f ∷ fs) (o ∷ os) [] ready lim fit single t h = absurd h
  limit_node r c rs (f ∷ fs) (o ∷ os) (n ∷ ns) ready lim fit single t h =
      let fit1 : fits_of a c.kind c.parameter 1 ≡ true = subst (λ k. fits_of a c.kind c.parameter k ≡ true) single fit in
      let empty = known_empty a c (f ∷ []) (node_rows m c (o ∷ [])) (grind (arith, nat_tests)) (grind (arith, nat_tests)) (node_true a m rules c (f ∷ []) (o ∷ []) fit1 (t.0, tt)) in
      let top = held_cut r (own_fact a c (f ∷ [])) (node_rows m c (o ∷ [])) n ready empty (limit_held m r c f o n lim t.0 h.0) in
      subst (λ k. Helds (r ∷ rs) (own_fact a c (take k (f ∷ fs)) ∷ drop k (f ∷ fs)) (node_rows m c (take k (o ∷ os)) ∷ drop k (o ∷ os)) (n ∷ ns)) (sym single) (top, h.1)

-- nothing is skipped once it is satisfied
ready_limit : (r : GlobalRequirements) (c : Cell) (f : Fact) → Ready (past_limit r c f)
ready_limit r c f e = eqb-true _ 0 (and_parts _ _ (and_parts _ _ e).0).0

ready_onward : (r : GlobalRequirements) → Ready (onward r)
ready_onward r e = ap (λ b. cond b 0 r.skip) e

ready_skipped : (b : Bool) (r : GlobalRequirements) (c : Cell) → Ready (skipped_by b r c).next
ready_skipped true r c = λ e. refl
ready_skipped false r c = ready_onward r

ready_fetching : (x t y : Bool) (a : Answers) (r : GlobalRequirements) (c : Cell) (partitions n : ℕ) → Ready (fetching_by x t y a r c partitions n).next
ready_fetching true t y a r c partitions n = λ e. refl
ready_fetching false true y a r c partitions n = ready_onward r
ready_fetching false false true a r c partitions n = λ e. refl
ready_fetching false false false a r c partitions n = λ e. refl

ready_visited : (a : Answers) (r : GlobalRequirements) (c : Cell) (partitions : ℕ) (g : Option ℕ) → Ready (visited_by a r c partitions g).next
ready_visited a r c partitions None = ready_skipped (ltb 0 r.skip && not r.satisfied) r c
ready_visited a r c partitions (Some n) = ready_fetching (combines_partitions c.kind) (passes_limits a c.kind c.parameter) (takes_fetch a c.kind c.parameter) a r c partitions n

-- what holds of a requirement holds of its copies
pub all_copies : (P : GlobalRequirements → Type 0) (k : ℕ) (q : GlobalRequirements) (rs : List GlobalRequirements) → P q → AllByRecursion P rs → AllByRecursion P (replicate k q ++ rs)
all_copies P zero q rs h hs = hs
all_copies P (suc k) q rs h hs = (h, all_copies P k q rs h hs)

-- as many trees as requirements, behind a cell too
pub trees_behind : (k : ℕ) (q : GlobalRequirements) (rs : List GlobalRequirements) (cs : List Cell) → Trees (suc (length rs) - 1 + k) cs → Trees (length (replicate k q ++ rs)) cs
trees_behind k q rs cs h =
    let count : suc (length rs) - 1 + k ≡ length (replicate k q ++ rs) = omega (arith, length-append (replicate k q) rs, length-replicate k q) in
    subst (λ n. Trees n cs) count h

module _ (a : Answers) (m : Meaning) (rules : Rules a m) where
  -- one node, from what holds of the cells behind it under any requirements
  node_held : (r : GlobalRequirements) (rs : List GlobalRequirements) (c : Cell) (cs : List Cell) → Trees (suc (length rs) - 1 + c.children) cs → fit_cell a c ≡ true → fetch_taken a c → Trues (facts a cs) (rows m cs) → Ready r → AllByRecursion Ready rs → ((qs : List GlobalRequirements) → Trees (length qs) cs → AllByRecursion Ready qs → Helds qs (facts a cs) (rows m cs) (rows m (sunk a qs cs))) → Helds (r ∷ rs) (facts a (c ∷ cs)) (rows m (c ∷ cs)) (rows m (sunk a (r ∷ rs) (c ∷ cs)))
  unfolding facts rows
  node_held r rs c cs tree fit taken t ready readys ih =
      subst (λ f. Helds (r ∷ rs) (f ∷ drop k (facts a cs)) (rows m (c ∷ cs)) (rows m (sunk a (r ∷ rs) (c ∷ cs)))) (sym (fact_own a c (facts a cs) fit)) (go (is_limit c.kind) refl)
    where
      k : ℕ
      k = c.children

      fs : List Fact
      fs = own_fact a c (take k (facts a cs)) ∷ drop k (facts a cs)

      below : (q : GlobalRequirements) → Ready q → Helds (replicate k q ++ rs) (facts a cs) (rows m cs) (rows m (sunk a (replicate k q ++ rs) cs))
      below q rq = ih (replicate k q ++ rs) (trees_behind k q rs cs tree) (all_copies Ready k q rs rq readys)

      go : (b : Bool) → is_limit c.kind ≡ b → Helds (r ∷ rs) fs (rows m (c ∷ cs)) (rows m (sunk a (r ∷ rs) (c ∷ cs)))
      go true e =
          let q = past_limit r c (head_fact (facts a cs)) in
          let kind = limit_kind c.kind e in
          let single : k ≡ 1 = kind_one a c.kind c.parameter k fit kind.0 kind.1 in
          let new = rows m (sunk a (replicate k q ++ rs) cs) in
          let one : Helds (q ∷ rs) (facts a cs) (rows m cs) new = subst (λ j. Helds (replicate j q ++ rs) (facts a cs) (rows m cs) new) single (below q (ready_limit r c (head_fact (facts a cs)))) in
          subst (λ z. Helds (r ∷ rs) fs (rows m (c ∷ cs)) (rows m z)) (sym (sunk_limit a r rs c cs e))
          (limit_node a m rules r c rs (facts a cs) (rows m cs) new ready e fit single t one)
      go false e =
          let own = past_fetch r c.fetch in
          let P = (fact_of a c (facts a cs)).partitions in
          let v = visited a r c P in
          let rest = sunk a (replicate k v.next ++ rs) cs in
          let parts = split k v.next rs (facts a cs) (rows m cs) (rows m rest) (below v.next (ready_visited a own c P own.fetch)) in
          let fits = fits_children a c (suc (length rs)) (rows m cs) fit (rows_count m (suc (length rs) - 1 + k) cs tree) in
          let here = placed a m rules r c (take k (facts a cs)) (take k (rows m cs)) rest ready e fits (trues_take k (facts a cs) (rows m cs) t) taken parts.0 in
          subst (λ z. Helds (r ∷ rs) fs (rows m (c ∷ cs)) (rows m z)) (sym (sunk_node a r rs c cs e))
          (subst (λ z. Helds (r ∷ rs) fs (rows m (c ∷ cs)) z) (sym here.1) (here.2, parts.1))

  sunk_held : (cs : List Cell) (rs : List GlobalRequirements) → Trees (length rs) cs → Fit a cs → Fields a cs → AllByRecursion Ready rs → Helds rs (facts a cs) (rows m cs) (rows m (sunk a rs cs))
  sunk_held [] [] tree fit fields ready = tt
  sunk_held [] (r ∷ rs) tree fit fields ready = absurd (let z : suc (length rs) ≡ 0 = tree in omega arith)
  sunk_held (c ∷ cs) [] tree fit fields ready = tt
  sunk_held (c ∷ cs) (r ∷ rs) tree fit fields ready =
      node_held r rs c cs tree.1 fit.0 (fields_fetch a c fields.0) (facts_true a m rules cs (suc (length rs) - 1 + c.children) tree.1 fit.1) ready.0 ready.1
      (λ qs t rd. sunk_held cs qs t fit.1 fields.1 rd)

-- the new cells are as many trees
put_trees : (n : ℕ) (o : Option Cell) (d : Cell) (rest : List Cell) → 0 < n → AllByRecursion (λ l. l.children ≡ 1) (option_to_list o) → Trees (n - 1 + d.children) rest → Trees n (option_to_list o ++ d ∷ rest)
put_trees n None d rest low one h = (low, h)
put_trees n (Some l) d rest low one h =
    let single = one.0 in
    let count : n ≡ n - 1 + l.children = omega arith in
    (low, (omega arith, subst (λ j. Trees (j - 1 + d.children) rest) count h))

module _ (a : Answers) where
  node_trees : (r : GlobalRequirements) (rs : List GlobalRequirements) (c : Cell) (cs : List Cell) → Trees (suc (length rs) - 1 + c.children) cs → fit_cell a c ≡ true → ((qs : List GlobalRequirements) → Trees (length qs) cs → Trees (length qs) (sunk a qs cs)) → Trees (suc (length rs)) (sunk a (r ∷ rs) (c ∷ cs))
  node_trees r rs c cs tree fit ih = go (is_limit c.kind) refl
    where
      k : ℕ
      k = c.children

      below : (q : GlobalRequirements) → Trees (suc (length rs) - 1 + k) (sunk a (replicate k q ++ rs) cs)
      below q =
          let count : length (replicate k q ++ rs) ≡ suc (length rs) - 1 + k = omega (arith, length-append (replicate k q) rs, length-replicate k q) in
          subst (λ n. Trees n (sunk a (replicate k q ++ rs) cs)) count (ih (replicate k q ++ rs) (trees_behind k q rs cs tree))

      go : (b : Bool) → is_limit c.kind ≡ b → Trees (suc (length rs)) (sunk a (r ∷ rs) (c ∷ cs))
      go true e =
          let kind = limit_kind c.kind e in
          let single : k ≡ 1 = kind_one a c.kind c.parameter k fit kind.0 kind.1 in
          let count : suc (length rs) - 1 + k ≡ suc (length rs) = omega arith in
          let q = past_limit r c (head_fact (facts a cs)) in
          subst (λ z. Trees (suc (length rs)) z) (sym (sunk_limit a r rs c cs e)) (subst (λ n. Trees n (sunk a (replicate k q ++ rs) cs)) count (below q))
      go false e =
          let P = (fact_of a c (facts a cs)).partitions in
          let v = visited a r c P in
          let rest = sunk a (replicate k v.next ++ rs) cs in
          let same : v.node.children ≡ k = visited_node a c (λ d. d.children ≡ c.children) refl (λ n b e f. refl) r P in
          let ones = visited_above (λ l. l.children ≡ 1) (λ s f. refl) (λ n. refl) a r c P in
          subst (λ z. Trees (suc (length rs)) z) (sym (sunk_node a r rs c cs e))
          (put_trees (suc (length rs)) v.above v.node rest (omega arith) ones (subst (λ j. Trees (suc (length rs) - 1 + j) rest) (sym same) (below v.next)))

  pub sunk_trees : (cs : List Cell) (rs : List GlobalRequirements) → Trees (length rs) cs → Fit a cs → Trees (length rs) (sunk a rs cs)
  unfolding sunk
  sunk_trees [] rs tree fit = tree
  sunk_trees (c ∷ cs) [] tree fit = absurd (let z : 0 < 0 = tree.0 in omega arith)
  sunk_trees (c ∷ cs) (r ∷ rs) tree fit = node_trees r rs c cs tree.1 fit.0 (λ qs t. sunk_trees cs qs t fit.1)

root_same : (fs : List Fact) (os ns : List Partitions) → length os ≡ 1 → length ns ≡ 1 → Helds (at_first ∷ []) fs os ns → ns ≡ os
root_same [] os ns eo en h = absurd h
root_same (f ∷ fs) [] ns eo en h = absurd h
root_same (f ∷ fs) (o ∷ os) [] eo en h = absurd h
root_same (f ∷ fs) (o ∷ os) (n ∷ ns) eo en h =
    let lo : length os ≡ 0 = (let z : suc (length os) ≡ 1 = eo in omega arith) in
    let ln : length ns ≡ 0 = (let z : suc (length ns) ≡ 1 = en in omega arith) in
    let top : n ≡ o = h.0 ∙ cutted_same o in
    let tails : ns ≡ os = nil_from_length ns ln ∙ sym (nil_from_length os lo) in
    λ i. top i ∷ tails i

pub sunk_rows : (a : Answers) (m : Meaning) → Rules a m → (cs : List Cell) → Trees 1 cs → Fit a cs → Fields a cs → rows m (sunk_plan a cs) ≡ rows m cs
sunk_rows a m rules cs tree fit fields =
    let first = at_first ∷ [] in
    root_same (facts a cs) (rows m cs) (rows m (sunk_plan a cs)) (rows_count m 1 cs tree) (rows_count m 1 (sunk_plan a cs) (sunk_trees a cs first tree fit))
    (sunk_held a m rules cs first tree fit fields ((λ e. absurd (false≢true e)), tt))
