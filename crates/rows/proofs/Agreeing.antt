-- Lists and partitions that agree to n. Assumes nothing.
use Rattle.std.proofs.Common.{◌≡◌, ℕ, zero, suc, ◌+◌, ◌-◌, ◌<◌, ◌≤◌, min, ◌⊎◌, List, [], ◌∷◌, ◌++◌, map, length, take, drop, Some, None, Option, sym, refl, ap, ◌∙◌, inl, inr, append-nil, arith}
use Rattle.std.proofs.lemmas.List.{take_all, take-take, take-map, length-map, length-take}
use Rattle.std.proofs.lemmas.Bool.{cases_lt}
use Rattle.operators.specs.Rows.{Row, Partitions, cut, concat}
use Rattle.operators.specs.Rules.{Agree, AtMost, each}

pub map-map : {A B C : Type 0} (f : B → C) (g : A → B) (xs : List A) → map f (map g xs) ≡ map (λ (x : A). f (g x)) xs
map-map f g [] = refl
map-map f g (x ∷ xs) = ap (λ zs. f (g x) ∷ zs) (map-map f g xs)

pub map_same : {A B : Type 0} (f g : A → B) → ((x : A) → f x ≡ g x) → (xs : List A) → map f xs ≡ map g xs
map_same f g e [] = refl
map_same f g e (x ∷ xs) = λ i. e x i ∷ map_same f g e xs i

pub map_none : {A : Type 0} (f : A → A) → ((x : A) → f x ≡ x) → (xs : List A) → map f xs ≡ xs
map_none f e [] = refl
map_none f e (x ∷ xs) = λ i. e x i ∷ map_none f e xs i

-- a function on each partition before or after one that depends on its number
pub map_each : {A : Type 0} (t u : A → A) (g h : ℕ → A → A) → ((i : ℕ) (x : A) → t (g i x) ≡ h i (u x)) → (i : ℕ) (xs : List A) → map t (each g i xs) ≡ each h i (map u xs)
map_each t u g h e i [] = refl
map_each t u g h e i (x ∷ xs) = λ j. e i x j ∷ map_each t u g h e (i + 1) xs j

pub length_each : {A : Type 0} (g : ℕ → A → A) (i : ℕ) (xs : List A) → length (each g i xs) ≡ length xs
length_each g i [] = refl
length_each g i (x ∷ xs) = ap suc (length_each g (i + 1) xs)

pub take-nil : {A : Type 0} (n : ℕ) → take {A = A} n [] ≡ []
take-nil zero = refl
take-nil (suc n) = refl

pub drop-nil : {A : Type 0} (n : ℕ) → drop {A = A} n [] ≡ []
drop-nil zero = refl
drop-nil (suc n) = refl

pub take_twice : {A : Type 0} (m n : ℕ) (xs : List A) → take m (take n xs) ≡ take (min m n) xs
take_twice m n xs = go (cases_lt m n)
  where
    go : (m < n) ⊎ (n ≤ m) → take m (take n xs) ≡ take (min m n) xs
    go (inl h) = take-take m n xs (omega arith) ∙ ap (λ k. take k xs) (omega arith)
    go (inr h) = take_all m (take n xs) (omega (arith, length-take n xs)) ∙ ap (λ k. take k xs) (omega arith)

pub take_swap : {A : Type 0} (m n : ℕ) (xs : List A) → take m (take n xs) ≡ take n (take m xs)
take_swap m n xs = take_twice m n xs ∙ ap (λ k. take k xs) (omega arith) ∙ sym (take_twice n m xs)

pub drop_of_take : {A : Type 0} (s g : ℕ) (xs : List A) → drop s (take g xs) ≡ take (g - s) (drop s xs)
drop_of_take zero g xs = ap (λ k. take k xs) (omega arith)
drop_of_take (suc s) zero xs = let e : zero ≡ zero - suc s = omega arith in ap (λ k. take k (drop (suc s) xs)) e
drop_of_take (suc s) (suc g) [] = sym (take-nil (suc g - suc s))
drop_of_take (suc s) (suc g) (x ∷ xs) = drop_of_take s g xs ∙ ap (λ k. take k (drop s xs)) (omega arith)

-- what a join's beginning rests on
pub take_append_both : {A : Type 0} (n k : ℕ) (xs ys : List A) → n ≤ k → take n (xs ++ ys) ≡ take n (take n xs ++ take k ys)
take_append_both zero k xs ys h = refl
take_append_both (suc n) k [] ys h = sym (take-take (suc n) k ys h)
take_append_both (suc n) k (x ∷ xs) ys h = ap (λ zs. x ∷ zs) (take_append_both n k xs ys (omega arith))

pub take-concat : {A : Type 0} (n : ℕ) (ps : List (List A)) → take n (concat ps) ≡ take n (concat (map (take n) ps))
take-concat n [] = refl
take-concat n (p ∷ ps) =
    take_append_both n n p (concat ps) (omega arith)
    ∙ ap (λ z. take n (take n p ++ z)) (take-concat n ps)
    ∙ ap (λ z. take n (z ++ take n (concat (map (take n) ps)))) (sym (take-take n n p (omega arith)))
    ∙ sym (take_append_both n n (take n p) (concat (map (take n) ps)) (omega arith))

-- partitions that agree are as many
pub agree_count : (n : ℕ) (ps qs : Partitions) → Agree n ps qs → length ps ≡ length qs
agree_count n ps qs h = sym (length-map ps (take n)) ∙ ap length h ∙ length-map qs (take n)

pub agree_join : (n : ℕ) (ps qs : Partitions) → Agree n ps qs → Agree n (concat ps ∷ []) (concat qs ∷ [])
agree_join n ps qs h = ap (λ z. z ∷ []) (take-concat n ps ∙ ap (λ z. take n (concat z)) h ∙ sym (take-concat n qs))

pub agree_less : (m n : ℕ) (ps qs : Partitions) → m ≤ n → Agree n ps qs → Agree m ps qs
agree_less m n ps qs l h = sym (less ps) ∙ ap (map (take m)) h ∙ less qs
  where
    less : (zs : Partitions) → map (take m) (map (take n) zs) ≡ map (take m) zs
    less zs = map-map (take m) (take n) zs ∙ map_same (λ x. take m (take n x)) (take m) (λ x. take-take m n x l) zs

-- what is made of each partition agrees to n, if its first n rows come from the first k
pub agree_map : (n : ℕ) (g h : List Row → List Row) (k : ℕ) (ps qs : Partitions) → ((xs : List Row) → take n (g xs) ≡ h (take k xs)) → Agree k ps qs → Agree n (map g ps) (map g qs)
agree_map n g h k ps qs e agree = through ps ∙ ap (map h) agree ∙ sym (through qs)
  where
    through : (zs : Partitions) → map (take n) (map g zs) ≡ map h (map (take k) zs)
    through zs = map-map (take n) g zs ∙ map_same (λ x. take n (g x)) (λ x. h (take k x)) e zs ∙ sym (map-map h (take k) zs)

pub agree_each : (n k : ℕ) (g h : ℕ → List Row → List Row) → ((i : ℕ) (xs : List Row) → take n (g i xs) ≡ h i (take k xs)) → (ps qs : Partitions) → Agree k ps qs → Agree n (each g 0 ps) (each g 0 qs)
agree_each n k g h e ps qs agree = map_each (take n) (take k) g h e 0 ps ∙ ap (each h 0) agree ∙ sym (map_each (take n) (take k) g h e 0 qs)

-- each row from the row at the same place
pub agree_rows : (n : ℕ) (f : ℕ → Row → Row) (ps qs : Partitions) → Agree n ps qs → Agree n (each (λ i. map (f i)) 0 ps) (each (λ i. map (f i)) 0 qs)
agree_rows n f ps qs = agree_each n n (λ i. map (f i)) (λ i. map (f i)) (λ i xs. take-map (f i) n xs) ps qs

pub agree_cut : (n : ℕ) (f : Option ℕ) (ps qs : Partitions) → Agree n ps qs → Agree n (map (cut f) ps) (map (cut f) qs)
agree_cut n None ps qs = agree_map n (cut None) (λ xs. xs) n ps qs (λ xs. refl)
agree_cut n (Some f) ps qs = agree_map n (take f) (take f) n ps qs (λ xs. take_swap n f xs)

-- a limit keeps only what its need shows
pub agree_limit : (s f : ℕ) (ps qs : Partitions) → Agree (s + f) ps qs → map (take f) (map (drop s) ps) ≡ map (take f) (map (drop s) qs)
agree_limit s f ps qs agree = through ps ∙ ap (map (drop s)) agree ∙ sym (through qs)
  where
    first : (xs : List Row) → take f (drop s xs) ≡ drop s (take (s + f) xs)
    first xs = sym (drop_of_take s (s + f) xs ∙ ap (λ k. take k (drop s xs)) (omega arith))

    through : (zs : Partitions) → map (take f) (map (drop s) zs) ≡ map (drop s) (map (take (s + f)) zs)
    through zs = map-map (take f) (drop s) zs ∙ map_same (λ x. take f (drop s x)) (λ x. drop s (take (s + f) x)) first zs ∙ sym (map-map (drop s) (take (s + f)) zs)

pub at_most_more : (m n : ℕ) (ps : Partitions) → m ≤ n → AtMost m ps → AtMost n ps
at_most_more m n ps l h =
    ap (map (take n)) (sym h) ∙ map-map (take n) (take m) ps
    ∙ map_same (λ x. take n (take m x)) (take m) (λ x. take_swap n m x ∙ take-take m n x l) ps ∙ h

-- empty partitions that are as many are the same
pub empty_same : (n : ℕ) (ps qs : Partitions) → AtMost 0 ps → AtMost 0 qs → Agree n ps qs → ps ≡ qs
empty_same n ps qs a b h = sym a ∙ agree_less 0 n ps qs (omega arith) h ∙ b

pub concat_one : {A : Type 0} (x : List A) → concat (x ∷ []) ≡ x
concat_one x = append-nil x
