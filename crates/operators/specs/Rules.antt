-- The rules that the meaning of an operator set must show. Assumes nothing.
use Rattle.std.specs.Prelude.{◌≡◌, ℕ, ◌+◌, ◌≤◌, Bool, true, false, not, ◌&&◌, ◌||◌, List, [], ◌∷◌, map, length, take, ℤ, pos, negsuc, Some, None, filter, Option, ◌==◌, nat_le}
use Rattle.plan.specs.Kinds.{placeholder_row, coalesce_partitions, sort_preserving_merge, bounded_window_agg, aggregate, first_operator, is_limit}
use Rattle.operators.specs.declared.answers.LimitsPass.TheVariants.{RowForRow}
use Rattle.operators.specs.declared.answers.PartitionCount.TheVariants.{Sum}
use Rattle.operators.specs.Answers.{Answers}
use Rattle.operators.specs.Questions.{fits_of, passes_limits, partitions_of, empty_of}
use Rattle.operators.specs.Windows.{all_reach, following_of, relative_of}
use Rattle.operators.specs.Rows.{Row, Partitions, Making, Meaning, concat}

-- partitions agree to n: they are as many, and the first n rows of each are the same
abbrev pub Agree : ℕ → Partitions → Partitions → Type 0
Agree n ps qs = map (take n) ps ≡ map (take n) qs

-- no partition has more than n rows
abbrev pub AtMost : ℕ → Partitions → Type 0
AtMost n ps = map (take n) ps ≡ ps

-- numbers added up
abbrev pub sum : List ℕ → ℕ
sum [] = 0
sum (n ∷ ns) = n + sum ns

-- all of them hold
abbrev pub all_true : List Bool → Bool
all_true [] = true
all_true (b ∷ bs) = b && all_true bs

-- each partition by a function that may depend on its number
abbrev pub each : {A : Type 0} → (ℕ → A → A) → ℕ → List A → List A
each f i [] = []
each f i (x ∷ xs) = f i x ∷ each f (i + 1) xs

-- what is known of children is true: one that is known empty has no rows
abbrev pub KnownTrue : List Bool → List Partitions → Type 0
KnownTrue [] cs = Unit {0}
KnownTrue (e ∷ es) [] = ⊥
KnownTrue (e ∷ es) (c ∷ cs) = (e ≡ true → AtMost 0 c) × KnownTrue es cs

-- two numbers are equal
abbrev pub same_number : ℤ → ℤ → Bool
same_number (pos m) (pos n) = m == n
same_number (pos m) (negsuc n) = false
same_number (negsuc m) (pos n) = false
same_number (negsuc m) (negsuc n) = m == n

-- two rows are equal
abbrev pub same_row : Row → Row → Bool
same_row [] [] = true
same_row [] (y ∷ ys) = false
same_row (x ∷ xs) [] = false
same_row (x ∷ xs) (y ∷ ys) = same_number x y && same_row xs ys

-- each row once, by first appearance
abbrev pub once : List Row → List Row
once [] = []
once (x ∷ xs) = x ∷ filter (λ y. not (same_row x y)) (once xs)

-- each row's key once, by first appearance
abbrev pub keys : (Row → Row) → List Row → List Row
keys key xs = once (map key xs)

-- each partition of the second is a beginning of that of the first, at least h long or whole
abbrev pub Begins : ℕ → Partitions → Partitions → Type 0
Begins h [] [] = Unit {0}
Begins h [] (q ∷ qs) = ⊥
Begins h (p ∷ ps) [] = ⊥
Begins h (p ∷ ps) (q ∷ qs) = ((n : ℕ) × (h ≤ n) × (q ≡ take n p)) × Begins h ps qs

-- kind 4, and each kind from 16 on that passes limits
abbrev pub row_for_row : Answers → ℕ → ℕ → Bool
row_for_row a k p = passes_limits a k p && not (k == coalesce_partitions || k == sort_preserving_merge)

-- kinds whose rows the meaning gives: limits and kind 5 are fixed
abbrev pub by_meaning : ℕ → Bool
by_meaning k = not (is_limit k || k == coalesce_partitions)

-- What a rule says of what one kind makes with one parameter. Nothing is asked where the child count does not fit.
module _ (a : Answers) (k p : ℕ) (make : Making) where
  -- its partitions are as many as answered
  abbrev pub Counted : Type 0
  Counted = (b : Bool) (h : Option ℕ) (cs : List Partitions) → fits_of a k p (length cs) ≡ true → length (make b h cs) ≡ partitions_of a k p (sum (map length cs))

  -- it is one row
  abbrev pub IsOneRow : Type 0
  IsOneRow = (b : Bool) (h : Option ℕ) → fits_of a k p 0 ≡ true → (r : Row) × (make b h [] ≡ (r ∷ []) ∷ [])

  -- it has its children's partitions in order, and makes each row from the row at the same place, regardless of the place
  abbrev pub IsRowForRow : Type 0
  IsRowForRow = (b : Bool) (h : Option ℕ) → (f : List ℕ → ℕ → Row → Row) × ((cs : List Partitions) → fits_of a k p (length cs) ≡ true → make b h cs ≡ each (λ i. map (f (map length cs) i)) 0 (concat cs))

  -- known empty, it has no rows, if what is known of its children is true
  abbrev pub EmptyIfKnown : Type 0
  EmptyIfKnown = (b : Bool) (h : Option ℕ) (cs : List Partitions) (es : List Bool) → fits_of a k p (length cs) ≡ true → length es ≡ length cs → KnownTrue es cs → empty_of a k p (all_true es) ≡ true → AtMost 0 (make b h cs)

  -- inputs that agree to n in every partition give outputs that agree to n
  abbrev pub Merges : Type 0
  Merges = (b : Bool) (h : Option ℕ) (n : ℕ) (ps qs : Partitions) → fits_of a k p 1 ≡ true → Agree n ps qs → Agree n (make b h (ps ∷ [])) (make b h (qs ∷ []))

  -- it works partition by partition, and with a reach inputs that agree to n and the reach give outputs that agree to n
  abbrev pub Windows : Type 0
  Windows = (b : Bool) (h : Option ℕ) → fits_of a k p 1 ≡ true → (w : ℕ → List Row → List Row)
      × ((ps : Partitions) → make b h (ps ∷ []) ≡ each w 0 ps)
      × (all_reach (a.window p) ≡ true → (i n : ℕ) (xs ys : List Row) → let far = n + (following_of (a.window p) + relative_of (a.window p)) in take far xs ≡ take far ys → take n (w i xs) ≡ take n (w i ys))

  -- it gives in each partition every row's key once, and with a hint a beginning of that
  abbrev pub Distinct : (Row → Row) → Type 0
  Distinct key = (b : Bool) (ps : Partitions) → fits_of a k p 1 ≡ true → (make b None (ps ∷ []) ≡ map (keys key) ps) × ((h : ℕ) → Begins h (map (keys key) ps) (make b (Some h) (ps ∷ [])))

  -- a mark changes no row
  abbrev pub MarkFree : Type 0
  MarkFree = (b b' : Bool) (h : Option ℕ) (cs : List Partitions) → fits_of a k p (length cs) ≡ true → make b h cs ≡ make b' h cs

-- what the rules say of one kind with one parameter, if the keys of groups are these
pub record RulesAt (a : Answers) (key : ℕ → Row → Row) (k p : ℕ) (make : Making) : Type 0 where
  pub counted : by_meaning k ≡ true → Counted a k p make
  pub one_row : k ≡ placeholder_row → IsOneRow a k p make
  pub each_row : row_for_row a k p ≡ true → IsRowForRow a k p make
  pub empty : by_meaning k ≡ true → EmptyIfKnown a k p make
  pub merge : k ≡ sort_preserving_merge → Merges a k p make
  pub window : k ≡ bounded_window_agg → Windows a k p make
  pub distinct : k ≡ aggregate → a.plain_distinct p ≡ true → Distinct a k p make (key (a.group p))
  pub mark : MarkFree a k p make

-- a kind from 16 on that passes limits has children, takes no fetch and adds up its children's partitions
pub record Passing (a : Answers) (k p : ℕ) : Type 0 where
  pub has_children : fits_of a k p 0 ≡ false
  pub no_fetch : a.fetch k p ≡ false
  pub adds_up : a.partitions k p ≡ Sum

-- the rules that a set must show, of its answers and its meaning
pub record Rules (a : Answers) (m : Meaning) : Type 0 where
  pub passing : (k p : ℕ) → nat_le first_operator k ≡ true → a.limits_pass k p ≡ RowForRow → Passing a k p
  -- the group number alone fixes the key, and a key's key is itself
  pub key : ℕ → Row → Row
  pub key_key : (g : ℕ) (r : Row) → key g (key g r) ≡ key g r
  pub at : (k p : ℕ) → RulesAt a key k p (m k p)
