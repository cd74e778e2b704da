-- Each key once: a beginning of such a list is its own keys. Assumes nothing.
use Rattle.std.proofs.Common.{◌≡◌, ℕ, zero, suc, ◌-◌, ◌≤◌, min, Bool, true, false, cond, not, List, [], ◌∷◌, map, take, drop, filter, sym, refl, ap, ◌∙◌, arith}
use Rattle.std.specs.List.{AllByRecursion}
use Rattle.std.proofs.ByRecursion.{All-take}
use Rattle.std.proofs.lemmas.Bool.Decides.{nat_tests}
use Rattle.operators.specs.Rows.{Row, Partitions}
use Rattle.operators.specs.Rules.{same_row, once, keys, Begins}
use Rattle.checks.specs.Cells.{need_of}
use Rattle.rows.proofs.Agreeing.{take_twice, drop_of_take}

module _ (t : Row → Bool) where
  all_kept_by : (P : Row → Type 0) (x : Row) (xs : List Row) (b : Bool) → P x → AllByRecursion P xs → AllByRecursion P (cond b (x ∷ xs) xs)
  all_kept_by P x xs true h k = (h, k)
  all_kept_by P x xs false h k = k

  all_kept : (P : Row → Type 0) (xs : List Row) → AllByRecursion P xs → AllByRecursion P (filter t xs)
  all_kept P [] h = tt
  all_kept P (x ∷ xs) h = all_kept_by P x (filter t xs) (t x) h.0 (all_kept P xs h.1)

  kept_pass_by : (x : Row) (xs : List Row) (b : Bool) → t x ≡ b → AllByRecursion (λ y. t y ≡ true) xs → AllByRecursion (λ y. t y ≡ true) (cond b (x ∷ xs) xs)
  kept_pass_by x xs true e k = (e, k)
  kept_pass_by x xs false e k = k

  kept_pass : (xs : List Row) → AllByRecursion (λ y. t y ≡ true) (filter t xs)
  kept_pass [] = tt
  kept_pass (x ∷ xs) = kept_pass_by x (filter t xs) (t x) refl (kept_pass xs)

  kept_whole : (xs : List Row) → AllByRecursion (λ y. t y ≡ true) xs → filter t xs ≡ xs
  kept_whole [] h = refl
  kept_whole (x ∷ xs) h = ap (λ b. cond b (x ∷ filter t xs) (filter t xs)) h.0 ∙ ap (λ z. x ∷ z) (kept_whole xs h.1)

-- no row stands twice
abbrev Once : List Row → Type 0
Once [] = Unit {0}
Once (x ∷ xs) = AllByRecursion (λ y. not (same_row x y) ≡ true) xs × Once xs

once_kept_by : (x : Row) (xs : List Row) (b : Bool) → AllByRecursion (λ y. not (same_row x y) ≡ true) xs → Once xs → Once (cond b (x ∷ xs) xs)
once_kept_by x xs true h k = (h, k)
once_kept_by x xs false h k = k

once_kept : (t : Row → Bool) (xs : List Row) → Once xs → Once (filter t xs)
once_kept t [] h = tt
once_kept t (x ∷ xs) h = once_kept_by x (filter t xs) (t x) (all_kept t (λ y. not (same_row x y) ≡ true) xs h.0) (once_kept t xs h.1)

once_once : (xs : List Row) → Once (once xs)
once_once [] = tt
once_once (x ∷ xs) = (kept_pass (λ y. not (same_row x y)) (once xs), once_kept (λ y. not (same_row x y)) (once xs) (once_once xs))

once_take : (n : ℕ) (xs : List Row) → Once xs → Once (take n xs)
once_take zero xs h = tt
once_take (suc n) [] h = tt
once_take (suc n) (x ∷ xs) h = (All-take (λ y. not (same_row x y) ≡ true) n xs h.0, once_take n xs h.1)

once_same : (xs : List Row) → Once xs → once xs ≡ xs
once_same [] h = refl
once_same (x ∷ xs) h = ap (λ z. x ∷ filter (λ y. not (same_row x y)) z) (once_same xs h.1) ∙ ap (λ z. x ∷ z) (kept_whole (λ y. not (same_row x y)) xs h.0)

all_once : (P : Row → Type 0) (xs : List Row) → AllByRecursion P xs → AllByRecursion P (once xs)
all_once P [] h = tt
all_once P (x ∷ xs) h = (h.0, all_kept (λ y. not (same_row x y)) P (once xs) (all_once P xs h.1))

module _ (key : Row → Row) (twice : (r : Row) → key (key r) ≡ key r) where
  all_keys : (xs : List Row) → AllByRecursion (λ y. key y ≡ y) (map key xs)
  all_keys [] = tt
  all_keys (x ∷ xs) = (twice x, all_keys xs)

  own_keys : (xs : List Row) → AllByRecursion (λ y. key y ≡ y) xs → map key xs ≡ xs
  own_keys [] h = refl
  own_keys (x ∷ xs) h = λ i. h.0 i ∷ own_keys xs h.1 i

  pub keys_begin : (n : ℕ) (xs : List Row) → keys key (take n (keys key xs)) ≡ take n (keys key xs)
  keys_begin n xs =
      let ks = keys key xs in
      ap once (own_keys (take n ks) (All-take (λ y. key y ≡ y) n ks (all_once (λ y. key y ≡ y) (map key xs) (all_keys xs))))
      ∙ once_same (take n ks) (once_take n ks (once_once (map key xs)))

  pub keys_keys : (xs : List Row) → keys key (keys key xs) ≡ keys key xs
  keys_keys xs =
      let ks = keys key xs in
      ap once (own_keys ks (all_once (λ y. key y ≡ y) (map key xs) (all_keys xs))) ∙ once_same ks (once_once (map key xs))

  -- a hinted aggregate over a hinted one of its group
  pub begins_chain : (h g : ℕ) → h ≤ g → (xs rs ts : Partitions) → Begins g (map (keys key) xs) rs → Begins h (map (keys key) rs) ts → Begins h (map (keys key) xs) ts
  begins_chain h g l [] [] [] p q = tt
  begins_chain h g l [] [] (t ∷ ts) p q = absurd q
  begins_chain h g l [] (r ∷ rs) ts p q = absurd p
  begins_chain h g l (x ∷ xs) [] ts p q = absurd p
  begins_chain h g l (x ∷ xs) (r ∷ rs) [] p q = absurd q
  begins_chain h g l (x ∷ xs) (r ∷ rs) (t ∷ ts) p q =
      let n = p.0.0 in
      let k = q.0.0 in
      let rn : r ≡ take n (keys key x) = p.0.2 in
      let tk : t ≡ take k (keys key r) = q.0.2 in
      let le : h ≤ min k n = omega (arith, p.0.1, q.0.1) in
      let own : keys key r ≡ take n (keys key x) = ap (keys key) rn ∙ keys_begin n x in
      ((min k n, le, tk ∙ ap (take k) own ∙ take_twice k n (keys key x)), begins_chain h g l xs rs ts p.1 q.1)

needed : (s f n : ℕ) → need_of s f ≤ n → min f (n - s) ≡ f
needed s f n h = grind (arith, nat_tests)

-- a limit over a beginning that is long enough
pub begins_limit : (s f h : ℕ) → need_of s f ≤ h → (ws rs : Partitions) → Begins h ws rs → map (take f) (map (drop s) ws) ≡ map (take f) (map (drop s) rs)
begins_limit s f h l [] [] b = refl
begins_limit s f h l [] (r ∷ rs) b = absurd b
begins_limit s f h l (w ∷ ws) [] b = absurd b
begins_limit s f h l (w ∷ ws) (r ∷ rs) b =
    let n = b.0.0 in
    let more : need_of s f ≤ n = omega (arith, b.0.1) in
    let e : take f (drop s w) ≡ take f (drop s r) =
    sym (ap (λ z. take f (drop s z)) b.0.2 ∙ ap (take f) (drop_of_take s n w) ∙ take_twice f (n - s) (drop s w) ∙ ap (λ k. take k (drop s w)) (needed s f n more)) in
    λ i. e i ∷ begins_limit s f h l ws rs b.1 i
