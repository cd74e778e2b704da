use Rattle.std.proofs.Common.{◌≡◌, ◌-◌, ◌<◌, reverse, length, Some, Ok, arith, sym, ◌∙◌}
use Rattle.notation.specs.Cursors.{past_blanks}
use Rattle.notation.specs.Nodes.{node_at}
use Rattle.notation.specs.Plans.{next_at}
use Rattle.notation.proofs.Progress.{Progress, start, next, step}
use Rattle.notation.proofs.plans.read_cells.Goals as goal
use Rattle.notation.proofs.plans.read_cells.Goals.{In-Some, In_ok-push-2}

pub loop-parents-init : goal.loop-parents-init
loop-parents-init c =
    let read : node_at (past_blanks c.args.cursor.now) ≡ Ok (c.in_ok-node.field-0, c.node.new.self) = rw (← c.skip_blanks.ensures.value) (sym c.in_ok-node.ensures.value) in
    rw (c.in_ok-push.ensures.items, c.new-cells.ensures.items, c.new-parents.ensures.items) (start _ _ _ read)

-- the parent of the next node
parent_read : (c : In-Some) → next_at (reverse c.loop-parents.parents.items) (length c.loop-parents.cells.items - 1) (past_blanks c.loop-parents.cursor) ≡ Ok ((Some c.in-Some.parent, reverse c.next_parent.new.parents.items), c.next_parent.new.cursor)
parent_read c = let count = c.len.ensures ∙ c.loop-parents.cells.ok.0 in rw (← count, ← c.in-Some.is) c.in_ok-parent.ensures.value

pub count_child-requires : goal.count_child-requires
count_child-requires c =
    rw c.loop-parents.cells.ok.0 (next _ _ _ _ _ _ _ c.loop-parents.invariant (parent_read (goal.at.count_child-requires c).In-Some)).0

-- one turn of the loop
turn : (c : In_ok-push-2) → Progress c.args.cursor.now c.push-in-Some.new.self.items (reverse c.next_parent.new.parents.items) c.node-in-Some.new.self × (length c.node-in-Some.new.self < length c.loop-parents.cursor)
turn c =
    let parent = parent_read (goal.at.loop-parents-preserved c).In-Some in
    let node : node_at (past_blanks c.next_parent.new.cursor) ≡ Ok (c.in_ok-node-2.field-0, c.node-in-Some.new.self) = rw (← c.skip_blanks-in-Some.ensures.value) (sym c.in_ok-node-2.ensures.value) in
    rw (c.in_ok-push-2.ensures.items, c.in_ok-count_child.ensures.items) (step _ _ _ _ _ _ _ _ _ c.loop-parents.invariant parent node (omega (arith, c.in_ok-count_child.ensures.few, c.loop-parents.cells.ok.0)) c.in_ok-count_child.ensures.room)

pub loop-parents-smaller : goal.loop-parents-smaller
loop-parents-smaller c = (turn c).1

pub loop-parents-preserved : goal.loop-parents-preserved
loop-parents-preserved c = (turn c).0

pub returns-clause-reads : goal.returns-clause-reads
returns-clause-reads c =
    let count = c.len.ensures ∙ c.loop-parents.cells.ok.0 in
    record { parents = reverse c.loop-parents.parents.items; left = c.loop-parents.cursor; reached = c.loop-parents.invariant.reached; none = (reverse c.next_parent.new.parents.items, c.next_parent.new.cursor, rw (← count, ← c.in_default.is) c.in_ok-parent.ensures.value) }
