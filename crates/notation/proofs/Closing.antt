-- How parentheses are closed, and which parent the next node has. Assumes nothing.
use Rattle.std.proofs.Common.{◌≡◌, ℕ, ◌<◌, ◌≤◌, true, List, [], ◌∷◌, ◌++◌, reverse, length, IfSome, Option, All, sym, refl, arith, true-eqb}
use Rattle.std.proofs.lemmas.List.{reverse-append}
use Rattle.std.proofs.lemmas.List.Elements.{All-head, All-tail, All-cons}
use Rattle.notation.specs.Cursors.{begins, past_blanks, tail}
use Rattle.notation.specs.Plans.{close_at, next_at}
use Rattle.notation.proofs.Bounds.{Reads}

-- blanks behind a tree count for nothing
pub close_blanks : (ps xs : List ℕ) → close_at ps (past_blanks xs) ≡ close_at ps xs
close_blanks ps [] = refl
close_blanks ps (x ∷ xs) = let rest = close_blanks ps xs in grind arith

-- a `)` closes the innermost parenthesis
pub close_one : (ps xs : List ℕ) (p : ℕ) → begins 41 xs ≡ true → close_at (reverse (ps ++ p ∷ [])) xs ≡ close_at (reverse ps) (past_blanks (tail xs))
close_one ps [] p e = cc
close_one ps (x ∷ xs) p e = rw (reverse-append, true-eqb x 41 (sym e), close_blanks) refl

-- the next node's parent, and each whose parenthesis is open, is one of the nodes that were read
module _ (nodes : ℕ) where
  abbrev pub IsRead : ℕ → Type 0
  IsRead p = p < nodes

  abbrev pub AreRead : Option ℕ × List ℕ → Type 0
  AreRead a = IfSome a.0 IsRead × All IsRead a.1

module _ (nodes n : ℕ) where
  close_reads : (ps xs : List ℕ) → All (IsRead nodes) ps → length xs ≤ n → Reads (AreRead nodes) n (close_at ps xs)
  close_reads [] [] w h = record { read = grind arith }
  close_reads (p ∷ ps) [] w h = record { read = tt }
  close_reads [] (x ∷ xs) w h = let blank = close_reads [] xs w (omega arith) in record { read = grind arith }
  close_reads (p ∷ ps) (x ∷ xs) w h =
      let blank = close_reads (p ∷ ps) xs w (omega arith) in
      let closed = close_reads ps xs (All-tail (IsRead nodes) p ps w) (omega arith) in
      let comma = All-head (IsRead nodes) p ps w in
      record { read = grind arith }

  pub next_reads : (ps : List ℕ) (last : ℕ) (xs : List ℕ) → All (IsRead nodes) ps → last < nodes → length xs ≤ n → Reads (AreRead nodes) n (next_at ps last xs)
  next_reads ps last [] w l h = close_reads ps [] w h
  next_reads ps last (x ∷ xs) w l h =
      let closed = close_reads ps (x ∷ xs) w h in
      let opened = All-cons (IsRead nodes) last ps l w in
      record { read = grind arith }
