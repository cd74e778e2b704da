-- A test of each in turn.
use Rattle.std.proofs.Common.{◌≡◌, ℕ, ◌+◌, ◌<◌, Bool, true, false, List, [], ◌∷◌, map, length, get_or, drop, Ok, refl, ◌∙◌, arith}
use Rattle.std.specs.List.{AllByRecursion}
use Rattle.std.proofs.lemmas.List.{at_drop_more}
use Rattle.plan.specs.declared.refusals.Refusal.{Refusal}
use Rattle.plan.specs.Refusals.{refused_at}
use Rattle.records.specs.Plans.{all_pass}

-- as a loop makes it, at its item x
module _ {A : Type 0} (r : Refusal) (test : A → Bool) (xs : List A) (i : ℕ) (x : A) (within : i < length xs) (is : x ≡ get_or xs i x) where
  pub pass_more : test x ≡ true → all_pass r test i (drop i xs) ≡ all_pass r test (i + 1) (drop (i + 1) xs)
  pass_more e = at_drop_more (all_pass r test i) xs i x within ∙ rw (← is, e)

  pub pass_stop : test x ≡ false → all_pass r test i (drop i xs) ≡ refused_at r i
  pass_stop e = at_drop_more (all_pass r test i) xs i x within ∙ rw (← is, e)

module _ {A : Type 0} (r : Refusal) (test : A → Bool) where
  -- what was granted passed the test
  pub passed : (i : ℕ) (xs : List A) → all_pass r test i xs ≡ Ok tt → AllByRecursion (λ x. test x ≡ true) xs
  passed i [] e = tt
  passed i (x ∷ xs) e = grind (arith, passed (i + 1) xs)

  -- what passes the test is granted
  pub pass_each : (i : ℕ) (xs : List A) → AllByRecursion (λ x. test x ≡ true) xs → all_pass r test i xs ≡ Ok tt
  pass_each i [] h = refl
  pass_each i (x ∷ xs) h = rw h.0 (pass_each (i + 1) xs h.1)

-- a test of what each becomes
module _ {A B : Type 0} (r : Refusal) (test : A → Bool) (f : B → A) where
  pub pass_through : (i : ℕ) (xs : List B) → all_pass r test i (map f xs) ≡ all_pass r (λ x. test (f x)) i xs
  pass_through i [] = refl
  pass_through i (x ∷ xs) = rw (pass_through (i + 1) xs)

  pub pass_map : ((x : B) → test (f x) ≡ true) → (i : ℕ) (xs : List B) → all_pass r test i (map f xs) ≡ Ok tt
  pass_map h i [] = refl
  pass_map h i (x ∷ xs) = rw (h x) (pass_map h (i + 1) xs)
