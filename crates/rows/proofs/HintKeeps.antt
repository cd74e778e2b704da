-- Hint keeps the rows: hinted or not, a plan whose hints are borne out has the rows of the plan with no hints. Assumes nothing.
use Rattle.std.proofs.Common.{◌≡◌, ℕ, ◌+◌, ◌-◌, ◌<◌, ◌≤◌, Bool, true, false, cond, not, ◌&&◌, ◌||◌, eqb, List, [], ◌∷◌, map, length, take, drop, is_some, Some, None, Option, sym, refl, ap, ◌∙◌, subst, arith}
use Rattle.std.specs.List.{AllZip, AllByRecursion}
use Rattle.std.proofs.lemmas.Bool.{and_parts, and_from, or_left, or_right, false≢true, eqb-true}
use Rattle.std.proofs.lemmas.Bool.Decides.{nat_tests}
use Rattle.plan.specs.declared.cells.Cell.{Cell}
use Rattle.plan.specs.Kinds.{is_limit, coalesce_partitions, aggregate}
use Rattle.operators.specs.Answers.{Answers}
use Rattle.operators.specs.Questions.{fits_of, takes_fetch}
use Rattle.operators.specs.Rows.{Row, Partitions, Meaning, cut, made, node_rows, rows}
use Rattle.operators.specs.Rules.{Rules, keys, Begins}
use Rattle.checks.specs.Cells.{fit_cell, fields_cell, need_of, limit_bears, aggregate_bears, borne_out, hint_cell}
use Rattle.rows.specs.declared.hinting.Handed.{Handed}
use Rattle.rows.specs.Hint.{takes_hint, with_hint, hinted_cell, hint_sum_by, handed_on, hint_next_by, hint_next, hinted, hinted_plan}
use Rattle.rows.proofs.Passed.{Trees, Fit, Fields, Hints}
use Rattle.rows.proofs.Agreeing.{map-map, map_same, map_none, concat_one}
use Rattle.rows.proofs.Base.{fetch_taken, fields_fetch, kind_one, limit_kind, made_limit, made_meant, rows_count}
use Rattle.rows.proofs.Keys.{keys_keys, begins_chain, begins_limit}
use Rattle.rows.proofs.Alike.{Alike, trees_alike, fit_alike}

abbrev bare : Cell → Cell
bare c = with_hint c None

-- the plan with no hints
abbrev bares : List Cell → List Cell
bares [] = []
bares (c ∷ cs) = bare c ∷ bares cs

bare_same : (c : Cell) → c.hint ≡ None → bare c ≡ c
bare_same c e = ap (with_hint c) (sym e)

-- a fetch stands where it is taken, and a hint on an aggregate
abbrev pub Placed : Answers → Cell → Type 0
Placed a c = fetch_taken a c × ((not (is_some c.hint) || eqb c.kind aggregate) ≡ true)

pub fields_placed : (a : Answers) (cs : List Cell) → Fields a cs → AllByRecursion (Placed a) cs
fields_placed a [] h = tt
fields_placed a (c ∷ cs) h = ((fields_fetch a c h.0, on_aggregate c h.0), fields_placed a cs h.1)
  where
    on_aggregate : (c : Cell) → fields_cell a c ≡ true → (not (is_some c.hint) || eqb c.kind aggregate) ≡ true
    on_aggregate c h = grind (arith, nat_tests)

hinted_nine : (c : Cell) (o : Option ℕ) (h : ℕ) → o ≡ Some h → (not (is_some o) || eqb c.kind aggregate) ≡ true → c.kind ≡ aggregate
hinted_nine c None h e k = absurd cc
hinted_nine c (Some n) h e k = eqb-true c.kind aggregate k

module _ (a : Answers) (m : Meaning) (rules : Rules a m) where
  -- the keys of an aggregate
  abbrev D : ℕ → List Row → List Row
  D p = keys (rules.key (a.group p))

  -- the first subtree is an aggregate with the hint h and the parameter p; ws are the rows with no hints, rs with them
  abbrev Chain : ℕ → ℕ → List Partitions → List Partitions → Type 0
  Chain h p [] rs = ⊥
  Chain h p (w ∷ ws) [] = ⊥
  Chain h p (w ∷ ws) (r ∷ rs) = ((xs : Partitions) × (w ≡ map (D p) xs) × Begins h (map (D p) xs) r) × (ws ≡ rs)

  abbrev ToldBy : Option ℕ → ℕ → List Partitions → List Partitions → Type 0
  ToldBy None p ws rs = ws ≡ rs
  ToldBy (Some h) p ws rs = Chain h p ws rs

  abbrev Told : List Cell → List Partitions → List Partitions → Type 0
  Told [] ws rs = ws ≡ rs
  Told (c ∷ cs) ws rs = ToldBy c.hint c.parameter ws rs

  -- c takes its children from ws and rs
  abbrev Made : Cell → List Partitions → List Partitions → Type 0
  Made c ws rs = ToldBy c.hint c.parameter (node_rows m (bare c) (take c.children ws) ∷ drop c.children ws) (node_rows m c (take c.children rs) ∷ drop c.children rs)

  same_made : (c : Cell) (ws rs : List Partitions) → c.hint ≡ None → ws ≡ rs → Made c ws rs
  same_made c ws rs e h =
      subst (λ o. ToldBy o c.parameter (node_rows m (bare c) (take c.children ws) ∷ drop c.children ws) (node_rows m c (take c.children rs) ∷ drop c.children rs)) (sym e)
      (λ i. node_rows m (bare_same c e i) (take c.children (h i)) ∷ drop c.children (h i))

  -- a limit over a hinted aggregate
  limit_made : (c : Cell) (f h p : ℕ) (ws rs : List Partitions) → c.hint ≡ None → c.children ≡ 1 → c.fetch ≡ Some f → is_limit c.kind ≡ true → need_of c.skip f ≤ h → Chain h p ws rs → Made c ws rs
  limit_made c f h p [] rs e one fe lim l k = absurd k
  limit_made c f h p (w ∷ ws) [] e one fe lim l k = absurd k
  limit_made c f h p (w ∷ ws) (r ∷ rs) e one fe lim l k =
      let at : (z : Partitions) → node_rows m c (z ∷ []) ≡ map (take f) (map (drop c.skip) z) =
      λ z. ap (λ g. map (cut g) (made m c (z ∷ []))) fe ∙ ap (map (take f)) (made_limit m c (z ∷ []) lim ∙ ap (map (drop c.skip)) (concat_one z)) in
      let short = begins_limit c.skip f h l w r (subst (λ z. Begins h z r) (sym k.0.1) k.0.2) in
      let top : node_rows m (bare c) (w ∷ []) ≡ node_rows m c (r ∷ []) =
      ap (λ d. node_rows m d (w ∷ [])) (bare_same c e) ∙ at w ∙ short ∙ sym (at r) in
      subst (λ o. ToldBy o c.parameter (node_rows m (bare c) (take c.children (w ∷ ws)) ∷ drop c.children (w ∷ ws)) (node_rows m c (take c.children (r ∷ rs)) ∷ drop c.children (r ∷ rs))) (sym e)
      (subst (λ n. (node_rows m (bare c) (take n (w ∷ ws)) ∷ drop n (w ∷ ws)) ≡ (node_rows m c (take n (r ∷ rs)) ∷ drop n (r ∷ rs))) (sym one)
      (λ i. top i ∷ k.1 i))

  -- a cell with no hint, over what stands below it
  none_made : (c d : Cell) (o : Option ℕ) (ws rs : List Partitions) → fit_cell a c ≡ true → c.hint ≡ None → hint_cell a (Some c) d o ≡ true → ToldBy o d.parameter ws rs → Made c ws rs
  none_made c d None ws rs fit e h k = same_made c ws rs e k
  none_made c d (Some g) ws rs fit e h k = go c.fetch refl (subst (λ o. (limit_bears c c.fetch g || aggregate_bears a c o d.parameter g) ≡ true) e (and_parts (a.plain_distinct d.parameter) _ h).1)
    where
      go : (f : Option ℕ) → c.fetch ≡ f → (limit_bears c f g || false) ≡ true → Made c ws rs
      go None fe h = absurd (false≢true h)
      go (Some f) fe h =
          let lim : is_limit c.kind ≡ true = grind (arith, nat_tests) in
          let l : need_of c.skip f ≤ g = grind (arith, nat_tests) in
          let k2 = limit_kind c.kind lim in
          limit_made c f g d.parameter ws rs e (kind_one a c.kind c.parameter c.children fit k2.0 k2.1) fe lim l k

  -- a hinted aggregate
  module _ (c : Cell) (h : ℕ) (hint : c.hint ≡ Some h) (nine : c.kind ≡ aggregate) (plain : a.plain_distinct c.parameter ≡ true) (cutless : c.fetch ≡ None) (one : c.children ≡ 1) (fit : fit_cell a c ≡ true) where
    fit1 : fits_of a c.kind c.parameter 1 ≡ true
    fit1 = subst (λ n. fits_of a c.kind c.parameter n ≡ true) one fit

    lim : is_limit c.kind ≡ false
    lim = grind (arith, nat_tests)

    not5 : eqb c.kind coalesce_partitions ≡ false
    not5 = grind (arith, nat_tests)

    uncut : (d : Cell) (z : Partitions) → d.fetch ≡ None → map (cut d.fetch) z ≡ z
    uncut d z e = ap (λ f. map (cut f) z) e ∙ map_none (λ x. x) (λ x. refl) z

    at_bare : (z : Partitions) → node_rows m (bare c) (z ∷ []) ≡ map (D c.parameter) z
    at_bare z = uncut (bare c) (made m (bare c) (z ∷ [])) cutless ∙ made_meant m (bare c) (z ∷ []) lim not5 ∙ ((rules.at c.kind c.parameter).distinct nine plain c.mark z fit1).0

    at_hint : (z : Partitions) → node_rows m c (z ∷ []) ≡ m c.kind c.parameter c.mark (Some h) (z ∷ [])
    at_hint z = uncut c (made m c (z ∷ [])) cutless ∙ made_meant m c (z ∷ []) lim not5 ∙ ap (λ o. m c.kind c.parameter c.mark o (z ∷ [])) hint

    begins : (z : Partitions) → Begins h (map (D c.parameter) z) (node_rows m c (z ∷ []))
    begins z = subst (Begins h (map (D c.parameter) z)) (sym (at_hint z)) (((rules.at c.kind c.parameter).distinct nine plain c.mark z fit1).1 h)

    -- with one child the lists are taken apart
    made_one : (w : Partitions) (ws : List Partitions) (r : Partitions) (rs : List Partitions) → ws ≡ rs → (xs : Partitions) → node_rows m (bare c) (w ∷ []) ≡ map (D c.parameter) xs → Begins h (map (D c.parameter) xs) (node_rows m c (r ∷ [])) → Made c (w ∷ ws) (r ∷ rs)
    made_one w ws r rs e xs x b =
        subst (λ o. ToldBy o c.parameter (node_rows m (bare c) (take c.children (w ∷ ws)) ∷ drop c.children (w ∷ ws)) (node_rows m c (take c.children (r ∷ rs)) ∷ drop c.children (r ∷ rs))) (sym hint)
        (subst (λ n. Chain h c.parameter (node_rows m (bare c) (take n (w ∷ ws)) ∷ drop n (w ∷ ws)) (node_rows m c (take n (r ∷ rs)) ∷ drop n (r ∷ rs))) (sym one)
        ((xs, x, b), e))

    made_same : (rs : List Partitions) → 0 < length rs → Made c rs rs
    made_same [] l = absurd (omega arith)
    made_same (r ∷ rs) l = made_one r rs r rs refl r (at_bare r) (begins r)

    some_made : (d : Cell) (o : Option ℕ) (ws rs : List Partitions) → 0 < length rs → hint_cell a (Some c) d o ≡ true → ToldBy o d.parameter ws rs → Made c ws rs
    some_made d None ws rs l f k = subst (λ z. Made c z rs) (sym k) (made_same rs l)
    some_made d (Some g) [] rs l f k = absurd k
    some_made d (Some g) (w ∷ ws) [] l f k = absurd k
    some_made d (Some g) (w ∷ ws) (r ∷ rs) l f k =
        let off : (limit_bears c c.fetch g || aggregate_bears a c c.hint d.parameter g) ≡ true = (and_parts (a.plain_distinct d.parameter) _ f).1 in
        let off1 : aggregate_bears a c c.hint d.parameter g ≡ true = subst (λ f. (limit_bears c f g || aggregate_bears a c c.hint d.parameter g) ≡ true) cutless off in
        let off2 : aggregate_bears a c (Some h) d.parameter g ≡ true = subst (λ f. aggregate_bears a c f d.parameter g ≡ true) hint off1 in
        let same : a.group c.parameter ≡ a.group d.parameter = grind (arith, nat_tests) in
        let le : h ≤ g = grind (arith, nat_tests) in
        let key = rules.key (a.group c.parameter) in
        let xs = k.0.0 in
        let wx : w ≡ map (keys key) xs = subst (λ n. w ≡ map (keys (rules.key n)) xs) (sym same) k.0.1 in
        let br : Begins g (map (keys key) xs) r = subst (λ n. Begins g (map (keys (rules.key n)) xs) r) (sym same) k.0.2 in
        let twice = rules.key_key (a.group c.parameter) in
        let folded : map (keys key) (map (keys key) xs) ≡ map (keys key) xs =
        map-map (keys key) (keys key) xs ∙ map_same (λ x. keys key (keys key x)) (keys key) (keys_keys key twice) xs in
        made_one w ws r rs k.1 xs (at_bare w ∙ ap (map (keys key)) wx ∙ folded) (begins_chain key twice h g le xs r (node_rows m c (r ∷ [])) br (begins r))

  -- an aggregate takes no fetch
  cutless_nine : (c : Cell) (f : Option ℕ) → c.kind ≡ aggregate → (not (is_some f) || takes_fetch a c.kind c.parameter) ≡ true → f ≡ None
  cutless_nine c None k h = refl
  cutless_nine c (Some f) k h = absurd (grind (arith, nat_tests))

  node_told : (c : Cell) (cs : List Cell) (u : Option Cell) (n : ℕ) (o : Option ℕ) → c.hint ≡ o → Trees (n - 1 + c.children) cs → fit_cell a c ≡ true → Placed a c → hint_cell a u c o ≡ true → Hints a (Some c) cs → (ws : List Partitions) → Told cs ws (rows m cs) → Made c ws (rows m cs)
  node_told c [] u n None e tree fit placed h hs ws k = same_made c ws (rows m []) e k
  node_told c (d ∷ ds) u n None e tree fit placed h hs ws k = none_made c d d.hint ws (rows m (d ∷ ds)) fit e hs.0 k
  node_told c [] u n (Some g) e tree fit placed h hs ws k =
      let nine : c.kind ≡ aggregate = hinted_nine c c.hint g e placed.1 in
      let one : c.children ≡ 1 = kind_one a c.kind c.parameter c.children fit (omega arith) (omega arith) in
      absurd (let z : n - 1 + c.children ≡ 0 = tree in omega arith)
  node_told c (d ∷ ds) u n (Some g) e tree fit placed h hs ws k =
      let nine : c.kind ≡ aggregate = hinted_nine c c.hint g e placed.1 in
      let plain : a.plain_distinct c.parameter ≡ true = (and_parts (a.plain_distinct c.parameter) _ h).0 in
      let one : c.children ≡ 1 = kind_one a c.kind c.parameter c.children fit (omega arith) (omega arith) in
      let long : 0 < length (rows m (d ∷ ds)) = let count = rows_count m (n - 1 + c.children) (d ∷ ds) tree in omega arith in
      some_made c g e nine plain (cutless_nine c c.fetch nine placed.0) one fit d d.hint ws (rows m (d ∷ ds)) long hs.0 k

  told : (cs : List Cell) (n : ℕ) (u : Option Cell) → Trees n cs → Fit a cs → AllByRecursion (Placed a) cs → Hints a u cs → Told cs (rows m (bares cs)) (rows m cs)
  unfolding rows
  told [] n u tree fit placed h = refl
  told (c ∷ cs) n u tree fit placed h =
      node_told c cs u n c.hint refl tree.1 fit.0 placed.0 h.0 h.1 (rows m (bares cs)) (told cs (n - 1 + c.children) (Some c) tree.1 fit.1 placed.1 h.1)

module _ (a : Answers) where
  -- the step changes nothing but hints
  bare_hinted_by : (c : Cell) (h : ℕ) (b : Bool) → bare (cond b (with_hint c (Some h)) c) ≡ bare c
  bare_hinted_by c h true = refl
  bare_hinted_by c h false = refl

  bare_hinted : (s : Option Handed) (c : Cell) → bare (hinted_cell a s c) ≡ bare c
  bare_hinted None c = refl
  bare_hinted (Some h) c = bare_hinted_by c h.hint (takes_hint a h.group c)

  bares_hinted : (cs : List Cell) (s : Option Handed) → bares (hinted a s cs) ≡ bares cs
  unfolding hinted
  bares_hinted [] s = refl
  bares_hinted (c ∷ cs) s = λ i. bare_hinted s c i ∷ bares_hinted cs (hint_next a s c) i

  -- what is handed down says of the cell before, as it was (u) and as it is now (v)
  abbrev BeforeBy : ℕ → Option ℕ → Option Cell → Option Cell → Type 0
  BeforeBy h None u v = (c : Cell) × (f : ℕ) × (u ≡ Some c) × (v ≡ Some c) × (is_limit c.kind ≡ true) × (c.fetch ≡ Some f) × (c.skip + f ≡ h)
  BeforeBy h (Some g) u v = (c : Cell) × (u ≡ Some c) × (v ≡ Some (with_hint c (Some h))) × (c.kind ≡ aggregate) × (a.group c.parameter ≡ g)

  abbrev Before : Option Handed → Option Cell → Option Cell → Type 0
  Before None u v = u ≡ v
  Before (Some h) u v = BeforeBy h.hint h.group u v

  bears_limit : (c : Cell) (p f h : ℕ) → is_limit c.kind ≡ true → c.fetch ≡ Some f → c.skip + f ≡ h → borne_out a (Some c) p h ≡ true
  bears_limit c p f h lim fe e =
      let t : limit_bears c (Some f) h ≡ true = grind (arith, nat_tests) in
      or_left (limit_bears c c.fetch h) _ (subst (λ o. limit_bears c o h ≡ true) (sym fe) t)

  bears_chain : (c : Cell) (p h : ℕ) → a.group c.parameter ≡ a.group p → borne_out a (Some (with_hint c (Some h))) p h ≡ true
  bears_chain c p h e =
      let t : aggregate_bears a c (Some h) p h ≡ true = grind (arith, nat_tests) in
      or_right (limit_bears c c.fetch h) _ t

  chain_group : (c d : Cell) (h : ℕ) (o : Option ℕ) → aggregate_bears a c o d.parameter h ≡ true → a.group c.parameter ≡ a.group d.parameter
  chain_group c d h None e = absurd (false≢true e)
  chain_group c d h (Some g) e = grind (arith, nat_tests)

  limit_not_nine : (c : Cell) (h : ℕ) (o : Option ℕ) → c.kind ≡ aggregate → limit_bears c o h ≡ false
  limit_not_nine c h None k = refl
  limit_not_nine c h (Some f) k = grind (arith, nat_tests)

  -- below a hinted aggregate, a cell that takes no hint had none
  unchanged : (u : Cell) (c : Cell) (o : Option ℕ) (v : Option Cell) → u.kind ≡ aggregate → (not (is_some o) || eqb c.kind aggregate) ≡ true → hint_cell a (Some u) c o ≡ true → takes_hint a (Some (a.group u.parameter)) c ≡ false → hint_cell a v c o ≡ true
  unchanged u c None v k placed h stop = refl
  unchanged u c (Some g) v k placed h stop =
      let both = and_parts (a.plain_distinct c.parameter) (limit_bears u u.fetch g || aggregate_bears a u u.hint c.parameter g) h in
      let o : aggregate_bears a u u.hint c.parameter g ≡ true = subst (λ b. (b || aggregate_bears a u u.hint c.parameter g) ≡ true) (limit_not_nine u g u.fetch k) both.1 in
      let e = chain_group u c g u.hint o in
      let plain = both.0 in
      absurd (grind (arith, nat_tests))

  borne_by : (h : ℕ) (g : Option ℕ) (u v : Option Cell) (c : Cell) (b : Bool) → takes_hint a g c ≡ b → BeforeBy h g u v → Placed a c → hint_cell a u c c.hint ≡ true → hint_cell a v (cond b (with_hint c (Some h)) c) (cond b (with_hint c (Some h)) c).hint ≡ true
  borne_by h None u v c true go k placed fit =
      let r : a.plain_distinct c.parameter ≡ true = grind (arith, nat_tests) in
      let o : borne_out a v c.parameter h ≡ true = subst (λ z. borne_out a z c.parameter h ≡ true) (sym k.3) (bears_limit k.0 c.parameter k.1 h k.4 k.5 k.6) in
      and_from _ _ r o
  borne_by h None u v c false go k placed fit = subst (λ z. hint_cell a z c c.hint ≡ true) (k.2 ∙ sym k.3) fit
  borne_by h (Some g) u v c true go k placed fit =
      let r : a.plain_distinct c.parameter ≡ true = grind (arith, nat_tests) in
      let e : g ≡ a.group c.parameter = grind (arith, nat_tests) in
      let o : borne_out a v c.parameter h ≡ true = subst (λ z. borne_out a z c.parameter h ≡ true) (sym k.2) (bears_chain k.0 c.parameter h (k.4 ∙ e)) in
      and_from _ _ r o
  borne_by h (Some g) u v c false go k placed fit =
      unchanged k.0 c c.hint v k.3 placed.1 (subst (λ z. hint_cell a z c c.hint ≡ true) k.1 fit) (subst (λ n. takes_hint a (Some n) c ≡ false) (sym k.4) go)

  borne_now : (s : Option Handed) (u v : Option Cell) (c : Cell) → Before s u v → Placed a c → hint_cell a u c c.hint ≡ true → hint_cell a v (hinted_cell a s c) (hinted_cell a s c).hint ≡ true
  borne_now None u v c k placed fit = subst (λ z. hint_cell a z c c.hint ≡ true) k fit
  borne_now (Some h) u v c k placed fit = borne_by h.hint h.group u v c (takes_hint a h.group c) refl k placed fit

  limit_stays_by : (c : Cell) (h : ℕ) (b : Bool) (g : Option ℕ) → takes_hint a g c ≡ b → is_limit c.kind ≡ true → cond b (with_hint c (Some h)) c ≡ c
  limit_stays_by c h true g e limit = absurd (grind (arith, nat_tests))
  limit_stays_by c h false g e limit = refl

  limit_stays : (s : Option Handed) (c : Cell) → is_limit c.kind ≡ true → hinted_cell a s c ≡ c
  limit_stays None c limit = refl
  limit_stays (Some h) c limit = limit_stays_by c h.hint (takes_hint a h.group c) h.group refl limit

  chain_before_by : (c : Cell) (h : ℕ) (g : Option ℕ) (b : Bool) → takes_hint a g c ≡ b → Before (cond b (Some (record { hint = h; group = Some (a.group c.parameter) })) None) (Some c) (Some (cond b (with_hint c (Some h)) c))
  chain_before_by c h g true e = (c, refl, refl, grind (arith, nat_tests), refl)
  chain_before_by c h g false e = refl

  chain_before : (s : Option Handed) (c : Cell) → Before (handed_on a s c) (Some c) (Some (hinted_cell a s c))
  chain_before None c = refl
  chain_before (Some h) c = chain_before_by c h.hint h.group (takes_hint a h.group c) refl

  next_before_by : (s : Option Handed) (c : Cell) (f : ℕ) (b : Bool) → c.fetch ≡ Some f → (is_limit c.kind && not c.mark) ≡ b → Before (hint_next_by (cond b (Some (c.skip + f)) None) (handed_on a s c)) (Some c) (Some (hinted_cell a s c))
  next_before_by s c f true fe e =
      let lim : is_limit c.kind ≡ true = (and_parts (is_limit c.kind) (not c.mark) e).0 in
      (c, f, refl, ap Some (limit_stays s c lim), lim, fe, refl)
  next_before_by s c f false fe e = chain_before s c

  next_before : (s : Option Handed) (c : Cell) (o : Option ℕ) → c.fetch ≡ o → Before (hint_next_by (hint_sum_by c o) (handed_on a s c)) (Some c) (Some (hinted_cell a s c))
  next_before s c None e = chain_before s c
  next_before s c (Some f) e = next_before_by s c f (is_limit c.kind && not c.mark) e refl

  -- the new plan's hints are borne out too
  pub hinted_hints : (cs : List Cell) (s : Option Handed) (u v : Option Cell) → Before s u v → AllByRecursion (Placed a) cs → Hints a u cs → Hints a v (hinted a s cs)
  unfolding hinted
  hinted_hints [] s u v k placed h = tt
  hinted_hints (c ∷ cs) s u v k placed h =
      (borne_now s u v c k placed.0 h.0, hinted_hints cs (hint_next a s c) (Some c) (Some (hinted_cell a s c)) (next_before s c c.fetch refl) placed.1 h.1)

  -- kinds, child counts and parameters stay
  hint_alike_by : (c : Cell) (h : ℕ) (b : Bool) → Alike c (cond b (with_hint c (Some h)) c)
  hint_alike_by c h true = (refl, refl, refl)
  hint_alike_by c h false = (refl, refl, refl)

  hint_alike : (s : Option Handed) (c : Cell) → Alike c (hinted_cell a s c)
  hint_alike None c = (refl, refl, refl)
  hint_alike (Some h) c = hint_alike_by c h.hint (takes_hint a h.group c)

  pub hinted_alike : (cs : List Cell) (s : Option Handed) → AllZip Alike cs (hinted a s cs)
  unfolding hinted
  hinted_alike [] s = tt
  hinted_alike (c ∷ cs) s = (hint_alike s c, hinted_alike cs (hint_next a s c))

  placed_by : (c : Cell) (h : ℕ) (g : Option ℕ) (b : Bool) → takes_hint a g c ≡ b → Placed a c → Placed a (cond b (with_hint c (Some h)) c)
  placed_by c h g true e p = (p.0, grind (arith, nat_tests))
  placed_by c h g false e p = p

  placed_now : (s : Option Handed) (c : Cell) → Placed a c → Placed a (hinted_cell a s c)
  placed_now None c p = p
  placed_now (Some h) c p = placed_by c h.hint h.group (takes_hint a h.group c) refl p

  hinted_placed : (cs : List Cell) (s : Option Handed) → AllByRecursion (Placed a) cs → AllByRecursion (Placed a) (hinted a s cs)
  unfolding hinted
  hinted_placed [] s p = tt
  hinted_placed (c ∷ cs) s p = (placed_now s c p.0, hinted_placed cs (hint_next a s c) p.1)

module _ (a : Answers) (m : Meaning) (rules : Rules a m) where
  told_root : (cs : List Cell) → Hints a None cs → (ws rs : List Partitions) → Told a m rules cs ws rs → ws ≡ rs
  told_root [] h ws rs k = k
  told_root (c ∷ cs) h ws rs k = go c.hint h.0 k
    where
      go : (o : Option ℕ) → hint_cell a None c o ≡ true → ToldBy a m rules o c.parameter ws rs → ws ≡ rs
      go None h k = k
      go (Some g) h k = absurd (false≢true (and_parts (a.plain_distinct c.parameter) false h).1)

  -- an accepted plan has the rows of the plan with no hints
  unhinted_rows : (cs : List Cell) → Trees 1 cs → Fit a cs → AllByRecursion (Placed a) cs → Hints a None cs → rows m (bares cs) ≡ rows m cs
  unhinted_rows cs tree fit placed h = told_root cs h _ _ (told a m rules cs 1 None tree fit placed h)

  pub hint_keeps : (cs : List Cell) → Trees 1 cs → Fit a cs → Fields a cs → Hints a None cs → rows m (hinted_plan a cs) ≡ rows m cs
  hint_keeps cs tree fit fields h =
      let placed = fields_placed a cs fields in
      let ds = hinted_plan a cs in
      let alike = hinted_alike a cs None in
      sym (unhinted_rows ds (trees_alike cs ds alike 1 tree) (fit_alike a cs ds alike fit) (hinted_placed a cs None placed) (hinted_hints a cs None None None refl placed h))
      ∙ ap (rows m) (bares_hinted a cs None) ∙ unhinted_rows cs tree fit placed h
