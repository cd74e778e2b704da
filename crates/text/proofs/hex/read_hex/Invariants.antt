use Rattle.std.proofs.Common.{◌≡◌, ◌<◌, [], drop, IfSome, None, vec_items}
use Rattle.text.specs.Hex.{hex_read}
use Rattle.text.proofs.hex.read_hex.Given as goal

abbrev pub invariant-loop-place : goal.invariant-loop-place
invariant-loop-place l =
    (hex_read [] None 0 l.text ≡ hex_read (vec_items l.bytes) l.high l.place-counter (drop l.place-counter l.text)) × IfSome l.high (λ h. h < 16)
