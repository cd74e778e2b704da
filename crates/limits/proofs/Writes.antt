-- A work table that is written cell by cell. Assumes nothing.
use Rattle.std.proofs.Common.{◌≡◌, ℕ, ◌+◌, ◌<◌, List, [], ◌∷◌, ◌++◌, length, take, set, ap, ◌∙◌}
use Rattle.std.proofs.lemmas.List.{append_assoc, take_more_set}
use Rattle.plan.specs.declared.cells.Cell.{Cell}

-- one cell more, in front of what is still to come
pub written_more : (work : List Cell) (n : ℕ) (c : Cell) (rest : List Cell) → n < length work → take (n + 1) (set work n c) ++ rest ≡ take n work ++ (c ∷ rest)
written_more work n c rest h = ap (λ (cs : List Cell). cs ++ rest) (take_more_set work n c h) ∙ append_assoc (take n work) (c ∷ []) rest
