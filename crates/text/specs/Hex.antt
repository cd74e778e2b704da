-- Bytes as pairs of hexadecimal digits. Assumes nothing.
use Rattle.std.specs.Prelude.{ℕ, ◌+◌, ◌-◌, ◌*◌, ◌/◌, ◌%◌, Bool, cond, ◌&&◌, ◌||◌, List, [], ◌∷◌, ◌++◌, Some, None, Ok, Err, Option, Result, ◌==◌, nat_le, nat_lt}
use Rattle.text.specs.declared.problems.Problem.TheVariants.{ExpectedHexDigit}
use Rattle.text.specs.declared.problems.Slip.{Slip}
use Rattle.text.specs.Problems.{slip_at}

-- the value of a digit 0 to 9, a to f or A to F
abbrev pub digit_of : ℕ → Option ℕ
digit_of b =
    cond (nat_le 48 b && nat_le b 57) (Some (b - 48)) (cond (nat_le 97 b && nat_le b 102) (Some (b - 97 + 10)) (cond (nat_le 65 b && nat_le b 70) (Some (b - 65 + 10)) None))

-- the digit 0 to 9 or a to f of a value below 16
abbrev pub digit_text : ℕ → ℕ
digit_text d = cond (nat_lt d 10) (48 + d) (87 + d)

-- each byte as two digits, the high one first
abbrev pub hex_text : List ℕ → List ℕ
hex_text [] = []
hex_text (b ∷ bs) = digit_text (b / 16) ∷ digit_text (b % 16) ∷ hex_text bs

-- a space or a tab
abbrev pub is_blank : ℕ → Bool
is_blank b = b == 32 || b == 9

-- a digit is due at the place
abbrev pub no_digit : ℕ → Result (List ℕ) Slip
no_digit place = Err (slip_at ExpectedHexDigit place)

-- one answer where there is nothing, another where there is something
abbrev pub on : {A B : Type 0} → Option A → B → (A → B) → B
on None none some = none
on (Some a) none some = some a

-- The bytes of a text from a place on, behind the bytes that were read and the high digit of the next, if it was read. Blanks may
-- stand between pairs.
abbrev pub hex_read : List ℕ → Option ℕ → ℕ → List ℕ → Result (List ℕ) Slip
hex_read read high place [] = on high (Ok read) (λ h. no_digit place)
hex_read read high place (x ∷ xs) =
    on (digit_of x)
    (on high (cond (is_blank x) (hex_read read None (place + 1) xs) (no_digit place)) (λ h. no_digit place))
    (λ d. on high (hex_read read (Some d) (place + 1) xs) (λ h. hex_read (read ++ ((16 * h + d) ∷ [])) None (place + 1) xs))
