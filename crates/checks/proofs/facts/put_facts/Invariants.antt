use Rattle.std.proofs.Common.{◌≡◌, ◌+◌, List, ◌++◌, length}
use Rattle.plan.specs.declared.cells.Cell.{Cell}
use Rattle.plan.specs.Stacks.{content, room}
use Rattle.checks.specs.Facts.{every_fact, Bounded}
use Rattle.checks.proofs.facts.put_facts.Given as goal

-- behind the cells that are left, those whose facts are on the stack
abbrev pub invariant-loop-cell : goal.invariant-loop-cell
invariant-loop-cell g l =
    let left = l.cell-iterator.iter.rest.now in
    let fs = content l.known in
    (l.known.items.ghost_name ≡ l.initial.known.items.ghost_name)
    × (room l.known + length fs ≡ room l.initial.known)
    × (length left + length fs ≡ length l.cells)
    × Bounded fs
    × ((done : List Cell) × (left ++ done ≡ l.cells) × (fs ≡ every_fact (g.O.OperatorSet.answers l.set) done))
