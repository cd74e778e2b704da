use Rattle.std.proofs.Common.{◌≡◌, [], take, drop}
use Rattle.operators.specs.Declarations.{declared_from}
use Rattle.operators.proofs.declaring.check_declarations.Given as goal

abbrev pub invariant-loop-place : goal.invariant-loop-place
invariant-loop-place l = declared_from (take l.place l.list) l.place (drop l.place l.list) ≡ declared_from [] 0 l.list
