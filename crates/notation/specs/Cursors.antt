-- What stands at the beginning of a text, and what is left behind it. Assumes nothing.
use Rattle.std.specs.Prelude.{ℕ, ◌+◌, ◌-◌, ◌*◌, min, Bool, false, if◌then◌else◌, List, [], ◌∷◌, Some, None, Ok, Err, Option, Result, ◌==◌, nat_le}
use Rattle.std.specs.Char.{is_ascii_digit}
use Rattle.text.specs.Hex.{is_blank}
use Rattle.text.specs.declared.problems.Problem.{Problem}
use Rattle.text.specs.declared.problems.Problem.TheVariants.{ExpectedNumber}

-- whether a text begins with a byte
abbrev pub begins : ℕ → List ℕ → Bool
begins b [] = false
begins b (x ∷ xs) = x == b

-- what stands behind the blanks that a text begins with
abbrev pub past_blanks : List ℕ → List ℕ
past_blanks [] = []
past_blanks (x ∷ xs) = if is_blank x then past_blanks xs else (x ∷ xs)

-- the value of the digit that a text begins with
abbrev pub digit_at : List ℕ → Option ℕ
digit_at [] = None
digit_at (x ∷ xs) = if is_ascii_digit x then Some (x - 48) else None

-- all but the first byte
abbrev pub tail : List ℕ → List ℕ
tail [] = []
tail (x ∷ xs) = xs

-- the number that the digits at a text's beginning make behind those of n; it stops at the largest of 64 bits
abbrev pub number_on : ℕ → List ℕ → ℕ
number_on n [] = n
number_on n (x ∷ xs) = if is_ascii_digit x then number_on (min (min (n * 10) 18446744073709551615 + (x - 48)) 18446744073709551615) xs else n

-- a number that is not too large
abbrev pub at_most : ℕ → Problem → ℕ → Result ℕ Problem
at_most most p n = if nat_le n most then Ok n else Err p

-- the number that a text begins with
abbrev pub number_at : ℕ → Problem → List ℕ → Result ℕ Problem
number_at most p [] = Err ExpectedNumber
number_at most p (x ∷ xs) = if is_ascii_digit x then at_most most p (number_on (x - 48) xs) else Err ExpectedNumber

-- what stands behind the digits that a text begins with
abbrev pub past_digits : List ℕ → List ℕ
past_digits [] = []
past_digits (x ∷ xs) = if is_ascii_digit x then past_digits xs else (x ∷ xs)

-- what was read, with what is left of the text behind it, or a problem
abbrev pub Parsed : Type 0 → Type 0
Parsed A = Result (A × List ℕ) Problem

-- an answer with what is left of the text
abbrev pub parsed : {A : Type 0} → Result A Problem → List ℕ → Parsed A
parsed (Ok a) left = Ok (a, left)
parsed (Err p) left = Err p

-- what `?` does: go on behind what was read, or hand a problem up
infixl 10 ◌>>=◌
abbrev pub ◌>>=◌ : {A B : Type 0} → Parsed A → (A × List ℕ → Parsed B) → Parsed B
(Ok a) >>= f = f a
(Err p) >>= f = Err p

-- a number, and what is left behind it
abbrev pub number_parsed : ℕ → Problem → List ℕ → Parsed ℕ
number_parsed most p xs = parsed (number_at most p xs) (past_digits xs)

-- a byte that is due
abbrev pub due_at : ℕ → Problem → List ℕ → Parsed (Unit {0})
due_at b p xs = if begins b xs then Ok (tt, tail xs) else Err p
