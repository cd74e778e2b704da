use Rattle.std.proofs.Common.{◌≡◌, Bool, drop}
use Rattle.records.specs.Plans.{all_pass}
use Rattle.records.proofs.plans.check_each.Given as goal

abbrev pub invariant-loop-place : goal.invariant-loop-place
invariant-loop-place g l =
    (test : _ → Bool) → ((x : _) (r : Bool) → g.F.Fn.post l.passes (x, tt) r → r ≡ test x.now)
    → all_pass l.refusal test 0 l.items ≡ all_pass l.refusal test l.place (drop l.place l.items)
