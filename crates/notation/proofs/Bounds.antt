-- A node that was read fits a packed record, and takes at least one byte. Assumes nothing.
use Rattle.std.proofs.Common.{◌≡◌, ℕ, ◌+◌, ◌≤◌, Bool, true, false, if◌then◌else◌, List, [], ◌∷◌, length, IfSome, IfOk, Some, None, Ok, Err, Option, arith}
use Rattle.std.specs.Char.{is_ascii_digit, is_ascii_alphabetic}
use Rattle.std.proofs.lemmas.Bool.Decides.{nat_tests}
use Rattle.plan.specs.Kinds.{kind_of}
use Rattle.plan.specs.Numbers.{max_number, max_parameter}
use Rattle.plan.specs.declared.cells.Cell.{Cell}
use Rattle.plan.specs.declared.kinds.Kind.{Kind}
use Rattle.plan.specs.declared.kinds.Kind.TheVariants.{GlobalLimit, LocalLimit}
use Rattle.text.specs.Hex.{on}
use Rattle.text.specs.Letters.{kind_of_letter}
use Rattle.text.specs.declared.problems.Problem.{Problem}
use Rattle.text.specs.declared.problems.Problem.TheVariants.{ParameterTooLarge, KindTooLarge, ExpectedColon, UnknownKind, ExpectedNode}
use Rattle.notation.specs.declared.nodes.Limits.{Limits}
use Rattle.notation.specs.Cursors.{past_digits, tail, Parsed, ◌>>=◌, number_parsed, due_at}
use Rattle.notation.specs.Nodes.{bracketed_at, limits_at, suffixes_at, numbered_at, own_parameter_at, lettered_at, node_at}
use Rattle.notation.specs.Widths.{Packs}

digits_short : (xs : List ℕ) → length (past_digits xs) ≤ length xs
digits_short [] = omega arith
digits_short (x ∷ xs) = let rest = digits_short xs in grind arith

tail_short : (xs : List ℕ) → length (tail xs) ≤ length xs
tail_short [] = omega arith
tail_short (x ∷ xs) = omega arith

ruleset reading = (arith, nat_tests, digits_short, tail_short)

-- P holds of what was read, and so many bytes are left at most
pub record Reads {A : Type 0} (P : A → Type 0) (n : ℕ) (r : Parsed A) : Type 0 where
  pub read : IfOk r (λ a. P a.0 × (length a.1 ≤ n))

-- one thing behind another
behind : {A B : Type 0} {P : A → Type 0} {Q : B → Type 0} {n : ℕ} {r : Parsed A} → Reads P n r → (f : A × List ℕ → Parsed B) → ((a : A) (xs : List ℕ) → P a → length xs ≤ n → Reads Q n (f (a, xs))) → Reads Q n (r >>= f)
behind {r = Ok a} h f k = k a.0 a.1 h.read.0 h.read.1
behind {r = Err e} h f k = record { read = tt }

-- a number that fits, if there is one
abbrev Small : Option ℕ → Type 0
Small o = IfSome o (λ n. n ≤ max_number)

-- the numbers of what stands behind a node's parameter fit
abbrev LimitsFit : Limits → Type 0
LimitsFit l = Small l.skip × Small l.fetch

-- a cell fits a packed record, and has no children yet
pub record IsLeaf (c : Cell) : Type 0 where
  pub packs : Packs c
  pub children : c.children ≡ 0

-- each takes a text of so many bytes at most
module _ (n : ℕ) where
  number_reads : (most : ℕ) (p : Problem) (xs : List ℕ) → length xs ≤ n + 1 → Reads (λ n. n ≤ most) n (number_parsed most p xs)
  number_reads most p xs h = record { read = grind reading }

  due_reads : (b : ℕ) (p : Problem) (xs : List ℕ) → length xs ≤ n → Reads (λ _. Unit {0}) n (due_at b p xs)
  due_reads b p xs h = record { read = grind reading }

  bracketed_reads : (before after : ℕ) (xs : List ℕ) → length xs ≤ n → Reads Small n (bracketed_at before after xs)
  bracketed_reads before after xs h = record { read = grind reading }

  limits_reads : (k : Kind) (xs : List ℕ) → length xs ≤ n → Reads LimitsFit n (limits_at k xs)
  limits_reads GlobalLimit xs h = record { read = grind reading }
  limits_reads LocalLimit xs h = record { read = grind reading }
  limits_reads _ xs h = record { read = grind reading }

  suffixes_reads : (k p : ℕ) (l : Limits) (xs : List ℕ) → p ≤ max_parameter → LimitsFit l → length xs ≤ n → Reads IsLeaf n (suffixes_at k p l xs)
  suffixes_reads k p l xs low fit h = record { read = grind reading }

  own_parameter_reads : (xs : List ℕ) → length xs ≤ n → Reads (λ p. p ≤ max_parameter) n (own_parameter_at xs)
  own_parameter_reads xs h = record { read = grind reading }

  lettered_reads : (k : ℕ) (xs : List ℕ) → length xs ≤ n → Reads IsLeaf n (lettered_at k xs)
  lettered_reads k xs h = behind (own_parameter_reads xs h) _ (λ p ys low h. behind (limits_reads (kind_of k) ys h) _ (λ l zs fit h. suffixes_reads k p l zs low fit h))

  numbered_reads : (xs : List ℕ) → length xs ≤ n + 1 → Reads IsLeaf n (numbered_at xs)
  numbered_reads xs h =
      behind (number_reads 255 KindTooLarge xs h) _ (λ k ys _ h.
      behind (due_reads 58 ExpectedColon ys h) _ (λ _ zs _ h.
      behind (number_reads max_parameter ParameterTooLarge zs (omega arith)) _ (λ p vs low h.
      behind (bracketed_reads 91 93 vs h) _ (λ f ws fetch h. suffixes_reads k p (record { skip = None; fetch = f }) ws low (tt, fetch) h))))

-- a node takes at least one byte
pub node_reads : (n : ℕ) (xs : List ℕ) → length xs ≤ n + 1 → Reads IsLeaf n (node_at xs)
node_reads n [] h = record { read = tt }
node_reads n (x ∷ xs) h = go (is_ascii_digit x) (kind_of_letter x)
  where
    go : (b : Bool) (o : Option ℕ) → Reads IsLeaf n (if b then numbered_at (x ∷ xs) else on o (if is_ascii_alphabetic x then Err UnknownKind else Err ExpectedNode) (λ k. lettered_at k xs))
    go true o = numbered_reads n (x ∷ xs) h
    go false (Some k) = lettered_reads n k xs (omega arith)
    go false None = record { read = grind arith }
