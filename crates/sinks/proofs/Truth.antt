-- What the facts say of the rows is true. Assumes nothing.
use Rattle.std.proofs.Common.{◌≡◌, ℕ, zero, suc, ◌+◌, ◌-◌, ◌<◌, ◌≤◌, Bool, true, false, cond, not, ◌&&◌, ◌||◌, eqb, List, [], ◌∷◌, map, length, take, drop, Some, None, Option, sym, refl, ap, ◌∙◌, subst, arith}
use Rattle.std.proofs.lemmas.List.{take-take, take-map, length-take, nil_from_length}
use Rattle.std.proofs.lemmas.Bool.{false≢true, eqb-true}
use Rattle.std.proofs.lemmas.Bool.Decides.{nat_tests}
use Rattle.plan.specs.declared.cells.Cell.{Cell}
use Rattle.plan.specs.Kinds.{placeholder_row, projection, coalesce_partitions, is_limit}
use Rattle.operators.specs.Answers.{Answers}
use Rattle.operators.specs.Questions.{fits_of, empty_of}
use Rattle.operators.specs.Rows.{Row, Partitions, Meaning, cut, concat, made, node_rows, rows}
use Rattle.operators.specs.Rules.{AtMost, all_true, each, KnownTrue, Rules}
use Rattle.checks.specs.declared.facts.KnownRows.{KnownRows}
use Rattle.checks.specs.declared.facts.KnownRows.TheVariants.{Unknown, NoRow, OneRow}
use Rattle.checks.specs.declared.facts.Fact.{Fact}
use Rattle.checks.specs.Cells.{fit_cell}
use Rattle.checks.specs.Facts.{is_empty, head_fact, together, rows_known, fact_with, fact_of, facts}
use Rattle.rows.proofs.Passed.{Trees, Fit}
use Rattle.rows.proofs.Agreeing.{map-map, map_same, map_each, take_swap, drop-nil, concat_one}
use Rattle.rows.proofs.Base.{kind_one, made_limit, made_joined, made_meant, rows_count}

abbrev pub TrueOf : KnownRows → Partitions → Type 0
TrueOf Unknown o = Unit {0}
TrueOf NoRow o = AtMost 0 o
TrueOf OneRow o = AtMost 1 o

abbrev pub Trues : List Fact → List Partitions → Type 0
Trues [] [] = Unit {0}
Trues [] (o ∷ os) = ⊥
Trues (f ∷ fs) [] = ⊥
Trues (f ∷ fs) (o ∷ os) = TrueOf f.rows o × Trues fs os

-- the fact of a node, from its children's alone
abbrev pub own_fact : Answers → Cell → List Fact → Fact
own_fact a c fs = fact_with a c fs (head_fact fs).rows

-- what is known of a projection's child is known of the first subtree behind it, and of no other node does it matter
pub fact_own : (a : Answers) (c : Cell) (below : List Fact) → fit_cell a c ≡ true → fact_of a c below ≡ own_fact a c (take c.children below)
fact_own a c below fit = go c.children refl below
  where
    first_free : eqb c.kind projection ≡ false → (all : Bool) (x y : KnownRows) → rows_known a c all x ≡ rows_known a c all y
    first_free e all x y =
        ap (λ b. cond (eqb c.kind placeholder_row) OneRow (cond b x (cond (empty_of a c.kind c.parameter all) NoRow Unknown))) e
        ∙ sym (ap (λ b. cond (eqb c.kind placeholder_row) OneRow (cond b y (cond (empty_of a c.kind c.parameter all) NoRow Unknown))) e)

    go : (k : ℕ) → c.children ≡ k → (below : List Fact) → fact_with a c (take k below) (head_fact below).rows ≡ own_fact a c (take k below)
    go zero e [] = refl
    go zero e (f ∷ fs) =
        let not4 : eqb c.kind projection ≡ false = grind (arith, nat_tests) in
        λ i. record { size = (fact_with a c [] Unknown).size; partitions = (fact_with a c [] Unknown).partitions; rows = first_free not4 true f.rows Unknown i }
    go (suc k) e [] = refl
    go (suc k) e (f ∷ fs) = refl

-- few rows stay few
at_most_map : (n : ℕ) (g : List Row → List Row) → ((xs : List Row) → take n (g (take n xs)) ≡ g (take n xs)) → (z : Partitions) → AtMost n z → AtMost n (map g z)
at_most_map n g e z h =
    ap (λ y. map (take n) (map g y)) (sym h) ∙ map-map (take n) g (map (take n) z) ∙ map-map (λ x. take n (g x)) (take n) z
    ∙ map_same (λ x. take n (g (take n x))) (λ x. g (take n x)) e z ∙ sym (map-map g (take n) z) ∙ ap (map g) h

at_most_cut : (n : ℕ) (f : Option ℕ) (z : Partitions) → AtMost n z → AtMost n (map (cut f) z)
at_most_cut n None z h = at_most_map n (cut None) (λ xs. take-take n n xs (omega arith)) z h
at_most_cut n (Some f) z h = at_most_map n (take f) (λ xs. take_swap n f (take n xs) ∙ ap (take f) (take-take n n xs (omega arith))) z h

at_most_rows : (n : ℕ) (f : ℕ → Row → Row) (z : Partitions) → AtMost n z → AtMost n (each (λ i. map (f i)) 0 z)
at_most_rows n f z h = map_each (take n) (take n) (λ i. map (f i)) (λ i. map (f i)) (λ i x. take-map (f i) n x) 0 z ∙ ap (each (λ i. map (f i)) 0) h

at_most_drop : (s : ℕ) (z : Partitions) → AtMost 0 z → AtMost 0 (map (drop s) z)
at_most_drop s z h = at_most_map 0 (drop s) (λ xs. sym (drop-nil s)) z h

concat_none : (z : Partitions) → concat (map (take 0) z) ≡ []
concat_none [] = refl
concat_none (x ∷ z) = concat_none z

at_most_join : (z : Partitions) → AtMost 0 z → AtMost 0 (concat z ∷ [])
at_most_join z h = ap (λ y. y ∷ []) (sym (ap concat (sym h) ∙ concat_none z))

true_cut : (k : KnownRows) (f : Option ℕ) (z : Partitions) → TrueOf k z → TrueOf k (map (cut f) z)
true_cut Unknown f z h = tt
true_cut NoRow f z h = at_most_cut 0 f z h
true_cut OneRow f z h = at_most_cut 1 f z h

true_rows : (k : KnownRows) (f : ℕ → Row → Row) (z : Partitions) → TrueOf k z → TrueOf k (each (λ i. map (f i)) 0 z)
true_rows Unknown f z h = tt
true_rows NoRow f z h = at_most_rows 0 f z h
true_rows OneRow f z h = at_most_rows 1 f z h

pub trues_take : (n : ℕ) (fs : List Fact) (os : List Partitions) → Trues fs os → Trues (take n fs) (take n os)
trues_take zero fs os h = tt
trues_take (suc n) [] [] h = tt
trues_take (suc n) [] (o ∷ os) h = absurd h
trues_take (suc n) (f ∷ fs) [] h = absurd h
trues_take (suc n) (f ∷ fs) (o ∷ os) h = (h.0, trues_take n fs os h.1)

trues_drop : (n : ℕ) (fs : List Fact) (os : List Partitions) → Trues fs os → Trues (drop n fs) (drop n os)
trues_drop zero fs os h = h
trues_drop (suc n) [] [] h = tt
trues_drop (suc n) [] (o ∷ os) h = absurd h
trues_drop (suc n) (f ∷ fs) [] h = absurd h
trues_drop (suc n) (f ∷ fs) (o ∷ os) h = trues_drop n fs os h.1

-- which of the children are known empty
empties : List Fact → List Bool
empties [] = []
empties (f ∷ fs) = is_empty f.rows ∷ empties fs

empties_all : (fs : List Fact) → (together fs).empty ≡ all_true (empties fs)
unfolding empties
empties_all [] = refl
empties_all (f ∷ fs) = ap (λ b. is_empty f.rows && b) (empties_all fs)

none_true : (k : KnownRows) (o : Partitions) → TrueOf k o → is_empty k ≡ true → AtMost 0 o
none_true Unknown o h e = absurd (false≢true e)
none_true NoRow o h e = h
none_true OneRow o h e = absurd (false≢true e)

trues_known : (fs : List Fact) (os : List Partitions) → Trues fs os → KnownTrue (empties fs) os
unfolding empties
trues_known [] [] h = tt
trues_known [] (o ∷ os) h = absurd h
trues_known (f ∷ fs) [] h = absurd h
trues_known (f ∷ fs) (o ∷ os) h = (none_true f.rows o h.0, trues_known fs os h.1)

trues_length : (fs : List Fact) (os : List Partitions) → Trues fs os → length (empties fs) ≡ length os
unfolding empties
trues_length [] [] h = refl
trues_length [] (o ∷ os) h = absurd h
trues_length (f ∷ fs) [] h = absurd h
trues_length (f ∷ fs) (o ∷ os) h = ap suc (trues_length fs os h.1)

-- of one child
only : (fs : List Fact) (os : List Partitions) → Trues fs os → length os ≡ 1 → (f : Fact) × (o : Partitions) × (fs ≡ f ∷ []) × (os ≡ o ∷ []) × TrueOf f.rows o
only [] [] h e = absurd (let z : ◌≡◌ {A = ℕ} 0 1 = e in omega arith)
only [] (o ∷ os) h e = absurd h
only (f ∷ fs) [] h e = absurd h
only (f ∷ []) (o ∷ []) h e = (f, o, refl, refl, h.0)
only (f ∷ []) (o ∷ (p ∷ os)) h e = absurd h.1
only (f ∷ (g ∷ fs)) (o ∷ []) h e = absurd h.1
only (f ∷ (g ∷ fs)) (o ∷ (p ∷ os)) h e = absurd (let z : suc (suc (length os)) ≡ 1 = e in omega arith)

module _ (a : Answers) (m : Meaning) (rules : Rules a m) (c : Cell) (fs : List Fact) (os : List Partitions) (fit : fits_of a c.kind c.parameter (length os) ≡ true) (h : Trues fs os) where
  abbrev Empty : Type 0
  Empty = empty_of a c.kind c.parameter (together fs).empty ≡ true

  -- a limit, or kind 5, over one child that is known empty
  one_empty : 2 ≤ c.kind → c.kind < 9 → Empty → ((o : Partitions) → os ≡ o ∷ [] → AtMost 0 o → AtMost 0 (made m c os)) → AtMost 0 (made m c os)
  one_empty lo hi k so =
      let u = only fs os h (kind_one a c.kind c.parameter (length os) fit lo (omega arith)) in
      let kf : empty_of a c.kind c.parameter (is_empty u.0.rows && true) ≡ true = subst (λ z. empty_of a c.kind c.parameter (together z).empty ≡ true) u.2 k in
      let isn : is_empty u.0.rows ≡ true = grind (arith, nat_tests) in
      so u.1 u.3 (none_true u.0.rows u.1 u.4 isn)

  limit_empty : is_limit c.kind ≡ true → (o : Partitions) → os ≡ o ∷ [] → AtMost 0 o → AtMost 0 (made m c os)
  limit_empty lim o e none =
      let at : made m c os ≡ map (drop c.skip) o = made_limit m c os lim ∙ ap (λ z. map (drop c.skip) (concat z)) e ∙ ap (map (drop c.skip)) (concat_one o) in
      subst (AtMost 0) (sym at) (at_most_drop c.skip o none)

  joined_empty : is_limit c.kind ≡ false → eqb c.kind coalesce_partitions ≡ true → (o : Partitions) → os ≡ o ∷ [] → AtMost 0 o → AtMost 0 (made m c os)
  joined_empty lim five o e none =
      let at : made m c os ≡ concat o ∷ [] = made_joined m c os lim five ∙ ap (λ z. concat (concat z) ∷ []) e ∙ ap (λ z. concat z ∷ []) (concat_one o) in
      subst (AtMost 0) (sym at) (at_most_join o none)

  empty_made : Empty → AtMost 0 (made m c os)
  empty_made k = go (is_limit c.kind) (eqb c.kind coalesce_partitions) refl refl
    where
      go : (l j : Bool) → is_limit c.kind ≡ l → eqb c.kind coalesce_partitions ≡ j → AtMost 0 (made m c os)
      go true j e1 e2 = one_empty (grind (arith, nat_tests)) (grind (arith, nat_tests)) k (limit_empty e1)
      go false true e1 e2 = one_empty (grind (arith, nat_tests)) (grind (arith, nat_tests)) k (joined_empty e1 e2)
      go false false e1 e2 =
          let meant : (not (is_limit c.kind || eqb c.kind coalesce_partitions)) ≡ true = grind (arith, nat_tests) in
          let all = subst (λ b. empty_of a c.kind c.parameter b ≡ true) (empties_all fs) k in
          subst (AtMost 0) (sym (made_meant m c os e1 e2)) ((rules.at c.kind c.parameter).empty meant c.mark c.hint os (empties fs) fit (trues_length fs os h) (trues_known fs os h) all)

  -- what the meaning makes
  abbrev Meant : List Partitions → Partitions
  Meant = m c.kind c.parameter c.mark c.hint

  -- each row from the row at its place, over one child
  by_row_true : made m c os ≡ Meant os → (g : ℕ → Row → Row) → Meant os ≡ each (λ i. map (g i)) 0 (concat os) → (f : Fact) (o : Partitions) → fs ≡ f ∷ [] → os ≡ o ∷ [] → TrueOf f.rows o → TrueOf (head_fact fs).rows (node_rows m c os)
  by_row_true meant g e f o ef eo t =
      let at : made m c os ≡ each (λ i. map (g i)) 0 o = meant ∙ e ∙ ap (λ z. each (λ i. map (g i)) 0 (concat z)) eo ∙ ap (each (λ i. map (g i)) 0) (concat_one o) in
      subst (λ z. TrueOf (head_fact z).rows (node_rows m c os)) (sym ef)
      (true_cut f.rows c.fetch (made m c os) (subst (TrueOf f.rows) (sym at) (true_rows f.rows g o t)))

  -- one row, with no child
  one_row_true : made m c os ≡ Meant os → (x : Row) → Meant [] ≡ (x ∷ []) ∷ [] → os ≡ [] → AtMost 1 (made m c os)
  one_row_true meant x e none = subst (AtMost 1) (sym (meant ∙ ap Meant none ∙ e)) refl

  pub node_true : TrueOf (own_fact a c fs).rows (node_rows m c os)
  node_true = go (eqb c.kind placeholder_row) (eqb c.kind projection) (empty_of a c.kind c.parameter (together fs).empty) refl refl refl
    where
      go : (r p e : Bool) → eqb c.kind placeholder_row ≡ r → eqb c.kind projection ≡ p → empty_of a c.kind c.parameter (together fs).empty ≡ e → TrueOf (cond r OneRow (cond p (head_fact fs).rows (cond e NoRow Unknown))) (node_rows m c os)
      go true p e e1 e2 e3 =
          let k1 : c.kind ≡ 1 = eqb-true c.kind 1 e1 in
          let childless : length os ≡ 0 = grind (arith, nat_tests) in
          let lim : is_limit c.kind ≡ false = grind (arith, nat_tests) in
          let not5 : eqb c.kind coalesce_partitions ≡ false = grind (arith, nat_tests) in
          let r = (rules.at c.kind c.parameter).one_row k1 c.mark c.hint (subst (λ n. fits_of a c.kind c.parameter n ≡ true) childless fit) in
          true_cut OneRow c.fetch (made m c os) (one_row_true (made_meant m c os lim not5) r.0 r.1 (nil_from_length os childless))
      go false true e e1 e2 e3 =
          let k4 : c.kind ≡ projection = eqb-true c.kind projection e2 in
          let lim : is_limit c.kind ≡ false = grind (arith, nat_tests) in
          let not5 : eqb c.kind coalesce_partitions ≡ false = grind (arith, nat_tests) in
          let r = (rules.at c.kind c.parameter).each_row (grind (arith, nat_tests)) c.mark c.hint in
          let u = only fs os h (kind_one a c.kind c.parameter (length os) fit (omega arith) (omega arith)) in
          by_row_true (made_meant m c os lim not5) (r.0 (map length os)) (r.1 os fit) u.0 u.1 u.2 u.3 u.4
      go false false true e1 e2 e3 = true_cut NoRow c.fetch (made m c os) (empty_made e3)
      go false false false e1 e2 e3 = tt

pub fits_children : (a : Answers) (c : Cell) (n : ℕ) (os : List Partitions) → fit_cell a c ≡ true → length os ≡ n - 1 + c.children → fits_of a c.kind c.parameter (length (take c.children os)) ≡ true
fits_children a c n os fit e =
    let k : length (take c.children os) ≡ c.children = omega (arith, length-take c.children os) in
    subst (λ j. fits_of a c.kind c.parameter j ≡ true) (sym k) fit

pub facts_true : (a : Answers) (m : Meaning) → Rules a m → (cs : List Cell) (n : ℕ) → Trees n cs → Fit a cs → Trues (facts a cs) (rows m cs)
unfolding rows facts
facts_true a m rules [] n tree fit = tt
facts_true a m rules (c ∷ cs) n tree fit =
    let below = facts_true a m rules cs (n - 1 + c.children) tree.1 fit.1 in
    let k = c.children in
    let fits = fits_children a c n (rows m cs) fit.0 (rows_count m (n - 1 + k) cs tree.1) in
    let here = node_true a m rules c (take k (facts a cs)) (take k (rows m cs)) fits (trues_take k (facts a cs) (rows m cs) below) in
    (subst (λ f. TrueOf f.rows (node_rows m c (take k (rows m cs)))) (sym (fact_own a c (facts a cs) fit.0)) here, trues_drop k (facts a cs) (rows m cs) below)
