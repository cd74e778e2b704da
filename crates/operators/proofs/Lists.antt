-- Partitions put together, and partitions with no rows. Assumes nothing.
use Rattle.std.proofs.Common.{◌≡◌, ℕ, zero, suc, ◌+◌, Bool, true, List, [], ◌∷◌, map, length, replicate, sym, refl, ap, arith}
use Rattle.std.proofs.lemmas.List.{length-append, map-append, map-id, take_all}
use Rattle.std.proofs.lemmas.Bool.{and_parts}
use Rattle.operators.specs.Rows.{Partitions, concat}
use Rattle.operators.specs.Rules.{AtMost, sum, all_true, each, KnownTrue, Begins}

pub length-concat : (cs : List Partitions) → length (concat cs) ≡ sum (map length cs)
length-concat [] = refl
length-concat (c ∷ cs) = let rest = length-concat cs in grind (arith, length-append)

-- if all children are known empty, they have no rows together
pub concat_empty : (es : List Bool) (cs : List Partitions) → length es ≡ length cs → KnownTrue es cs → all_true es ≡ true → AtMost 0 (concat cs)
concat_empty [] [] l k e = refl
concat_empty [] (c ∷ cs) l k e = grind arith
concat_empty (x ∷ es) [] l k e = absurd k
concat_empty (x ∷ es) (c ∷ cs) l k e =
    let both = and_parts x (all_true es) e in
    let here = k.0 both.0 in
    let rest = concat_empty es cs (grind arith) k.1 both.1 in
    grind (arith, map-append)

pub none_empty : (n : ℕ) → AtMost 0 (replicate n [])
none_empty zero = refl
none_empty (suc n) = ap (λ z. [] ∷ z) (none_empty n)

pub each_self : (i : ℕ) (ps : Partitions) → each (λ j. map (λ r. r)) i ps ≡ ps
each_self i [] = refl
each_self i (p ∷ ps) = λ j. map-id p j ∷ each_self (i + 1) ps j

pub each_nothing : (i : ℕ) (ps : Partitions) → each (λ j rows. []) i ps ≡ replicate (length ps) []
each_nothing i [] = refl
each_nothing i (p ∷ ps) = ap (λ t. [] ∷ t) (each_nothing (i + 1) ps)

-- the whole is a beginning, however long it has to be
pub begins_whole : (h : ℕ) (ps : Partitions) → Begins h ps ps
begins_whole h [] = tt
begins_whole h (p ∷ ps) = ((h + length p, omega arith, sym (take_all (h + length p) p (omega arith))), begins_whole h ps)
