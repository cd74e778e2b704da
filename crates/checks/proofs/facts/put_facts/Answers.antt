use Rattle.std.proofs.Common.{◌≡◌, ◌∷◌, ◌++◌, ◌∙◌, sym, subst, arith}
use Rattle.std.proofs.lemmas.Grind.{common_steps}
use Rattle.plan.specs.Stacks.{content}
use Rattle.checks.specs.Facts.{every_fact, Bounded}
use Rattle.checks.proofs.Subtrees.{every_more}
use Rattle.checks.proofs.facts.put_facts.Goals as goal

pub loop-cell-init : goal.loop-cell-init
unfolding every_fact
loop-cell-init g c = grind (arith, common_steps)

pub loop-cell-preserved : goal.loop-cell-preserved
loop-cell-preserved g c =
    let a = g.O.OperatorSet.answers c.args.set.now in
    let h = c.loop-cell.invariant in
    let done = h.4.0 in
    let pushed : content c.push.new.self ≡ c.of-own.result ∷ content c.loop-cell.known = grind (arith, common_steps) in
    let whole : c.next.new.self.iter.rest.now ++ (c.in-Some.cell.now ∷ done) ≡ c.args.cells.now = grind (arith, common_steps, h.4.1) in (
      c.push.ensures.loan ∙ h.0,
      grind (arith, common_steps),
      grind (arith, common_steps),
      subst Bounded (sym pushed) (c.of-own.ensures.size, c.of-own.ensures.partitions, h.3),
      (c.in-Some.cell.now ∷ done, whole, pushed ∙ every_more a _ _ _ done _ c.of-own.result c.requires.tree whole h.4.2 c.of-own.ensures.value),
    )
