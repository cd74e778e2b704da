use Rattle.std.proofs.Common.{◌≡◌, take, drop}
use Rattle.records.proofs.layout.write_record.Given as goal

abbrev pub invariant-loop-place : goal.invariant-loop-place
invariant-loop-place l = take l.place l.out ≡ take l.place (drop 2 l.bytes)
