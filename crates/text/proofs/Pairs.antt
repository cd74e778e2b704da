-- Hexadecimal pairs that are written read back. Assumes nothing.
use Rattle.std.proofs.Common.{◌≡◌, ℕ, ◌+◌, ◌*◌, ◌/◌, ◌%◌, ◌<◌, List, [], ◌∷◌, ◌++◌, Some, None, Ok, sym, ap, ◌∙◌, arith}
use Rattle.std.proofs.lemmas.Bool.Decides.{nat_tests}
use Rattle.std.specs.List.{AllByRecursion}
use Rattle.std.proofs.lemmas.List.{append_assoc, append-nil}
use Rattle.text.specs.Hex.{digit_of, digit_text, hex_text, hex_read}

-- the digit of a value has that value
digit_back : (d : ℕ) → d < 16 → digit_of (digit_text d) ≡ Some d
digit_back d h = grind (arith, nat_tests)

-- what is written of bytes reads back, behind whatever was read before
pub hex_back : (bs read : List ℕ) (i : ℕ) → AllByRecursion (λ b. b < 256) bs → hex_read read None i (hex_text bs) ≡ Ok (read ++ bs)
hex_back [] read i h = ap Ok (sym (append-nil read))
hex_back (b ∷ bs) read i h =
    let high = digit_back (b / 16) (omega (arith, h.0)) in
    let low = digit_back (b % 16) (omega arith) in
    let whole : 16 * (b / 16) + b % 16 ≡ b = omega arith in
    rw (high, low, whole) (hex_back bs (read ++ (b ∷ [])) (i + 1 + 1) h.1 ∙ ap Ok (append_assoc read (b ∷ []) bs))

-- a pair of digits that is written, and then what is left
pub two_more : (o rest : List ℕ) (a b : ℕ) → ((o ++ (a ∷ [])) ++ (b ∷ [])) ++ rest ≡ o ++ (a ∷ b ∷ rest)
two_more o rest a b = simp append_assoc
