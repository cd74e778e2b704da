use Rattle.std.proofs.Common.{◌≡◌, max, drop}
use Rattle.operators.specs.Windows.{all_reach, following_of, relative_of}
use Rattle.operators.proofs.windows.Reach.of.Given as goal

abbrev pub invariant-loop-e : goal.invariant-loop-e
invariant-loop-e l =
    (all_reach (drop l.e-index l.exprs) ≡ all_reach l.exprs)
    × (max l.following (following_of (drop l.e-index l.exprs)) ≡ following_of l.exprs)
    × (max l.relative (relative_of (drop l.e-index l.exprs)) ≡ relative_of l.exprs)
