use Rattle.std.proofs.Common.{◌<◌, ◌≤◌, List, length, take, sym, subst, arith}
use Rattle.plan.specs.declared.cells.Cell.{Cell}
use Rattle.limits.specs.Memory.{lent_by}
use Rattle.limits.specs.Laws.{PageKept, ran, asked}
use Rattle.limits.proofs.Keeping.{run_keeps}
use Rattle.limits.proofs.Runs.{begun, run_more, run_all}
use Rattle.limits.proofs.Wipes.{wiped_later}
use Rattle.limits.proofs.running.run.Goals as goal

pub loop-made-init : goal.loop-made-init
loop-made-init g c =
    (begun (g.O.OperatorSet.answers c.args.set.now) (lent_by c.args.memory.now) c.args.calls.now c.args.plan.now c.args.count, c.clear.ensures)

pub loop-made-preserved : goal.loop-made-preserved
loop-made-preserved g c =
    let a = g.O.OperatorSet.answers c.args.set.now in
    let lent = lent_by c.args.memory.now in
    let more : c.loop-made.made-index < length c.args.calls.now = omega arith in
    let here : c.loop-made.made-index < length c.loop-made.calls = omega arith in
    let wiped = c.loop-made.invariant.1 in (
      run_more a lent c.args.calls.now c.loop-made.calls (ran a (asked lent c.args.calls.now) c.args.plan.now c.args.count) c.loop-made.made-index c.loop-made.plan c.loop-made.nodes c.loop-made.invariant.0 more here
          (lent_by c.loop-made.memory) wiped.loan.lent c.call-answer.result c.call-answer.new.plan c.unwrap_or-nodes.result c.call-answer.ensures.called c.unwrap_or-nodes.ensures,
      wiped_later c.args.memory.now c.loop-made.memory c.call-answer.new.memory wiped.loan c.call-answer.ensures.wiped,
    )

pub returns : goal.returns
returns g c =
    let a = g.O.OperatorSet.answers c.args.set.now in
    let asks = c.args.calls.now in
    let lent = lent_by c.args.memory.now in
    let none : length asks ≤ c.loop-made.made-index = omega arith in
    let left : length c.loop-made.calls ≤ c.loop-made.made-index = omega arith in
    let done = run_all a lent asks c.loop-made.calls (ran a (asked lent asks) c.args.plan.now c.args.count) c.loop-made.made-index c.loop-made.plan c.loop-made.nodes c.loop-made.invariant.0 none left in
    record {
      answers = done.0;
      plan = done.1;
      count = done.2;
      wiped = c.loop-made.invariant.1;
      pages = λ m rules. subst (λ (t : List Cell). PageKept a m (take c.args.count c.args.plan.now) t) (λ i. take (sym done.2 i) (sym done.1 i)) (run_keeps a m rules (asked lent asks) c.args.plan.now c.args.count);
      runs = λ calls table n m rules. run_keeps a m rules calls table n;
    }
