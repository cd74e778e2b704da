use Rattle.std.proofs.Common.{◌≡◌, ◌≤◌, length}
use Rattle.notation.specs.Cursors.{number_on, past_digits}
use Rattle.notation.proofs.cursor.Cursor.number.Given as goal

abbrev pub invariant-loop-digit : goal.invariant-loop-digit
invariant-loop-digit l = (number_on l.initial.value l.initial.self ≡ number_on l.value l.self) × (past_digits l.initial.self ≡ past_digits l.self) × (length l.self ≤ length l.initial.self)

abbrev pub decreases-loop-digit : goal.decreases-loop-digit
decreases-loop-digit l = length l.self
