use Rattle.std.proofs.Common.{◌≡◌, ◌≤◌, length}
use Rattle.notation.specs.Cursors.{past_blanks}
use Rattle.notation.proofs.cursor.Cursor.skip_blanks.Given as goal

abbrev pub invariant-loop-self : goal.invariant-loop-self
invariant-loop-self l = (past_blanks l.fn.self ≡ past_blanks l.self-inside.rest.now) × (length l.self-inside.rest.now ≤ length l.fn.self)

abbrev pub decreases-loop-self : goal.decreases-loop-self
decreases-loop-self l = length l.self-inside.rest.now
