use Rattle.std.proofs.Common.{◌≡◌, ◌≤◌, length, reverse}
use Rattle.notation.specs.Plans.{close_at}
use Rattle.notation.proofs.plans.close.Given as goal

abbrev pub invariant-loop-parent : goal.invariant-loop-parent
invariant-loop-parent l = (close_at (reverse l.initial.parents.items) l.initial.cursor ≡ close_at (reverse l.parents.items) l.cursor) × (length l.cursor ≤ length l.initial.cursor)

abbrev pub decreases-loop-parent : goal.decreases-loop-parent
decreases-loop-parent l = goal.left-loop-parent l
