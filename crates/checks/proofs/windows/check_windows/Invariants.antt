use Rattle.std.proofs.Common.{◌≡◌, ◌*◌, ◌≤◌, drop}
use Rattle.checks.specs.Windows.{windows_from, windows_answer}
use Rattle.checks.proofs.windows.check_windows.Given as goal

abbrev pub invariant-loop-place : goal.invariant-loop-place
invariant-loop-place g l =
    let a = g.O.OperatorSet.answers l.set in
    (l.below ≤ 255 * l.place) × (windows_from a l.below l.place (drop l.place l.cells) ≡ windows_answer a l.cells)
