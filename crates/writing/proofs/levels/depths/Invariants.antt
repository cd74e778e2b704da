use Rattle.std.proofs.Common.{◌≡◌, [], ◌++◌, drop, vec_items, vec_len}
use Rattle.writing.specs.Awaits.{depths_from}
use Rattle.writing.proofs.levels.depths.Given as goal

abbrev pub invariant-loop-cell : goal.invariant-loop-cell
invariant-loop-cell l =
    (vec_items l.depths ++ depths_from l.awaited (drop l.cell-index l.cells) ≡ depths_from [] l.cells) × (vec_len l.depths ≡ l.cell-index)
