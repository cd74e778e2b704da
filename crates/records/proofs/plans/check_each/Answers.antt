use Rattle.std.proofs.Common.{sym, ◌∙◌}
use Rattle.records.proofs.Passes.{pass_more, pass_stop}
use Rattle.records.proofs.plans.check_each.Goals as goal

pub returns-then-not-passes : goal.returns-then-not-passes
returns-then-not-passes g c = λ test h.
    let fails = sym (h _ _ c.passes.ensures) ∙ c.if-not-passes.true in
    let stop = pass_stop c.args.refusal test c.args.items.now c.loop-place.place _ c.loop-place-test.true c.index-items-place.is fails in
    let before = c.loop-place.invariant test h in
    cc

pub loop-place-preserved : goal.loop-place-preserved
loop-place-preserved g c = λ test h.
    let passes = sym (h _ _ c.passes.ensures) ∙ c.if-not-passes.false in
    let more = pass_more c.args.refusal test c.args.items.now c.loop-place.place _ c.loop-place-test.true c.index-items-place.is passes in
    let before = c.loop-place.invariant test h in
    cc
