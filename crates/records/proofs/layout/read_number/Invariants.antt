use Rattle.std.proofs.Common.{◌≡◌, ◌+◌, ◌∷◌, length, take}
use Rattle.records.proofs.layout.read_number.Given as goal

abbrev pub invariant-loop-place : goal.invariant-loop-place
invariant-loop-place l = (length l.whole ≡ 16) × (take (l.place + 2) l.whole ≡ 0 ∷ 0 ∷ take l.place l.bytes)
