-- Chains of packed plans, each made from the one before it. Assumes nothing.
use Rattle.std.specs.Prelude.{ℕ, List, [], ◌∷◌}
use Rattle.operators.specs.Catalogue.{catalogue}
use Rattle.packed_calls.specs.Laws.{PackedKept}

-- packed plans one after another, each of which keeps the pages of the one before it: what granted calls leave, each called on what the last one left
abbrev pub Linked : List ℕ → List (List ℕ) → Type 0
Linked bytes [] = Unit {0}
Linked bytes (next ∷ more) = PackedKept catalogue bytes next × Linked next more

-- the last of packed plans
abbrev pub last_of : List ℕ → List (List ℕ) → List ℕ
last_of bytes [] = bytes
last_of bytes (next ∷ more) = last_of next more
