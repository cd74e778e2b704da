-- Joining fields and cutting them undo each other, whatever the fields' widths.
use Rattle.std.proofs.Common.{◌≡◌, ℕ, ◌+◌, ◌*◌, ◌/◌, ◌%◌, ◌^◌, ◌<◌, List, [], ◌∷◌, sym, refl, ap, ◌∙◌, mod-eq_of_lt, mul_comm, arith}
use native.Mathlib.Nat.{mod-one, mod-mod}
use lib.Pow.{mod-mod-pow}
use Rattle.std.proofs.lemmas.Nat.{pow-add, field_of, shr_high, mod_low, mod-pow-add, mul-add-lt}
use Rattle.records.specs.Fields.{bits, joined, cut}

-- each value fits its width
abbrev pub Below : List ℕ → List ℕ → Type 0
Below [] [] = Unit {0}
Below [] (v ∷ vs) = ⊥
Below (w ∷ ws) [] = ⊥
Below (w ∷ ws) (v ∷ vs) = (v < 2 ^ w) × Below ws vs

pub joined_below : (ws vs : List ℕ) → Below ws vs → joined ws vs < 2 ^ bits ws
joined_below [] [] h = omega arith
joined_below [] (v ∷ vs) h = elim h [ ]
joined_below (w ∷ ws) [] h = elim h [ ]
joined_below (w ∷ ws) (v ∷ vs) h =
    let j = joined_below ws vs h.1 in
    let e : 2 ^ (w + bits ws) ≡ 2 ^ bits ws * 2 ^ w = pow-add 2 w (bits ws) ∙ mul_comm (2 ^ w) (2 ^ bits ws) in
    rw e (mul-add-lt v (2 ^ bits ws) (joined ws vs) (2 ^ w) h.0 j)

-- what lies above the fields does not matter
pub cut_same : (ws : List ℕ) (m n : ℕ) → m % 2 ^ bits ws ≡ n % 2 ^ bits ws → cut ws m ≡ cut ws n
cut_same [] m n e = refl
cut_same (w ∷ ws) m n e =
    let b = bits ws in
    let top : m / 2 ^ b % 2 ^ w ≡ n / 2 ^ b % 2 ^ w = sym (field_of m w b) ∙ ap (λ (x : ℕ). x / 2 ^ b) e ∙ field_of n w b in
    let low : m % 2 ^ b ≡ n % 2 ^ b = sym (mod-mod-pow m w b) ∙ ap (λ (x : ℕ). x % 2 ^ b) e ∙ mod-mod-pow n w b in
    let rest = cut_same ws m n low in
    cc

pub cut_joined : (ws vs : List ℕ) → Below ws vs → cut ws (joined ws vs) ≡ vs
cut_joined [] [] h = refl
cut_joined [] (v ∷ vs) h = elim h [ ]
cut_joined (w ∷ ws) [] h = elim h [ ]
cut_joined (w ∷ ws) (v ∷ vs) h =
    let b = bits ws in
    let j = joined_below ws vs h.1 in
    let top : (v * 2 ^ b + joined ws vs) / 2 ^ b % 2 ^ w ≡ v = rw (shr_high v b (joined ws vs) j) (mod-eq_of_lt h.0) in
    let rest : cut ws (v * 2 ^ b + joined ws vs) ≡ vs = cut_same ws (v * 2 ^ b + joined ws vs) (joined ws vs) (mod_low v b (joined ws vs) j ∙ sym (mod-eq_of_lt j)) ∙ cut_joined ws vs h.1 in
    cc

pub joined_cut : (ws : List ℕ) (n : ℕ) → joined ws (cut ws n) ≡ n % 2 ^ bits ws
joined_cut [] n = sym (mod-one n)
joined_cut (w ∷ ws) n = ap (λ (x : ℕ). n / 2 ^ bits ws % 2 ^ w * 2 ^ bits ws + x) (joined_cut ws n) ∙ sym (mod-pow-add n w (bits ws))

-- values come back through any other fields of as many bits
pub through : (ws us vs : List ℕ) → bits us ≡ bits ws → Below ws vs → cut ws (joined us (cut us (joined ws vs))) ≡ vs
through ws us vs e h =
    let n = joined ws vs in
    let same : joined us (cut us n) % 2 ^ bits ws ≡ n % 2 ^ bits ws = ap (λ (x : ℕ). x % 2 ^ bits ws) (joined_cut us n ∙ ap (λ (b : ℕ). n % 2 ^ b) e) ∙ mod-mod n (2 ^ bits ws) in
    cut_same ws (joined us (cut us n)) n same ∙ cut_joined ws vs h
