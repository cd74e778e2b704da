use Rattle.std.proofs.Common.{◌≡◌, ◌+◌, ◌≤◌, reverse, vec_items, vec_len}
use Rattle.writing.specs.Awaits.{after_tree, completes}
use Rattle.writing.proofs.awaited.Awaited.complete.Given as goal

abbrev pub invariant-loop-completed : goal.invariant-loop-completed
invariant-loop-completed l =
    let before = reverse (vec_items l.initial.self-inside.counts) in
    let now = reverse (vec_items l.self-inside.counts) in
    record { after : after_tree before ≡ after_tree now; value : completes before ≡ completes now + l.completed; within : l.completed + vec_len l.self-inside.counts ≤ vec_len l.initial.self-inside.counts }

abbrev pub decreases-loop-completed : goal.decreases-loop-completed
decreases-loop-completed l = vec_len l.self-inside.counts
