use Rattle.limits.specs.Memory.{lent_by, Wiped}
use Rattle.limits.specs.Laws.{ran, asked}
use Rattle.limits.proofs.Runs.{SoFar}
use Rattle.limits.proofs.running.run.Given as goal

abbrev pub invariant-loop-made : goal.invariant-loop-made
invariant-loop-made g l =
    let a = g.O.OperatorSet.answers l.set in
    let lent = lent_by l.fn.memory in
    SoFar a lent l.initial.calls l.calls (ran a (asked lent l.initial.calls) l.initial.plan l.count) l.made-index l.plan l.nodes
    × Wiped l.fn.memory l.memory
