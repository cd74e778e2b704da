use Rattle.std.proofs.Common.{◌≡◌, List, [], ◌∷◌, length, drop, Err, sym, refl, ap, ◌∙◌, subst, arith}
use Rattle.std.proofs.lemmas.List.{length-drop, append-nil}
use Rattle.plan.specs.Stacks.{content}
use Rattle.checks.proofs.Walks.{cells_all}
use Rattle.rows.proofs.Passed.{Trees, passed}
use Rattle.sinks.specs.Sink.{at_first, sunk, sink_sums_from, sink_sums}
use Rattle.limits.specs.declared.pending.Pending.{Pending}
use Rattle.limits.specs.Pending.{spread}
use Rattle.limits.specs.Written.{written}
use Rattle.limits.proofs.Steps.{fields_at, trees_within, spread_within, spread_some, room_left, trees_next}
use Rattle.limits.proofs.Turns.{turn, turn_refused, turn_range, turn_sums, turn_cells, turn_trees, at_most_one}
use Rattle.limits.proofs.limit_pushdown.sink_cells.Goals as goal

pub loop-place-init : goal.loop-place-init
loop-place-init g c =
    let a = g.O.OperatorSet.answers c.args.set.now in
    let cells = c.args.cells.now in
    let first : spread (content c.hand_down.new.pending) ≡ at_first ∷ [] = c.hand_down.ensures.given ∙ ap (λ (ps : List Pending). at_first ∷ spread ps) c.new-pending.ensures.content in
    record {
      room = refl;
      live = c.hand_down.ensures.live;
      trees = subst (λ rs. Trees (length rs) cells) (sym first) (passed a cells c.requires.accepted).tree;
      loan = refl;
      len = refl;
      few = omega arith;
      cells = ap (λ rs. sunk a rs cells) first;
      sums = ap (λ rs. sink_sums_from a rs 0 cells) first;
    }

pub next_requirement-requirement-requires-clause-some : goal.next_requirement-requirement-requires-clause-some
next_requirement-requirement-requires-clause-some g c =
    let ps = content c.loop-place.pending in
    spread_some ps (trees_next c.args.cells.now c.loop-place.place (length (spread ps)) c.loop-place-test.true c.loop-place.invariant.trees).0

pub step-requires-clause-cell : goal.step-requires-clause-cell
step-requires-clause-cell g c =
    let a = g.O.OperatorSet.answers c.args.set.now in
    (fields_at a c.args.cells.now c.loop-place.place (passed a c.args.cells.now c.requires.accepted).fields c.loop-place-test.true).0

pub returns-in_err-above-clause-answer : goal.returns-in_err-above-clause-answer
returns-in_err-above-clause-answer g c =
    let a = g.O.OperatorSet.answers c.args.set.now in
    let t = turn a c.args.cells.now c.loop-place.place (spread (content c.loop-place.pending)) (spread (content c.next_requirement-requirement.new.pending)) c.next_requirement-requirement.result (content c.args.known.now) c.at-own.result c.at-child.result c.step.result
    c.loop-place-test.true c.next_requirement-requirement.ensures.taken c.requires.facts c.at-own.ensures c.at-child.ensures c.step.ensures in
    let sums : sink_sums a c.args.cells.now ≡ Err c.in_err-above.field-0.0 = sym c.loop-place.invariant.sums ∙ turn_refused t c.in_err-above.field-0.0 c.in_err-above.was in
    grind arith

pub hand_down-requires-in-loop-place-clause-small : goal.hand_down-requires-in-loop-place-clause-small
hand_down-requires-in-loop-place-clause-small g c =
    let a = g.O.OperatorSet.answers c.args.set.now in
    let t = turn a c.args.cells.now c.loop-place.place (spread (content c.loop-place.pending)) (spread (content c.next_requirement-requirement.new.pending)) c.next_requirement-requirement.result (content c.args.known.now) c.at-own.result c.at-child.result c.step.result
    c.loop-place-test.true c.next_requirement-requirement.ensures.taken c.requires.facts c.at-own.ensures c.at-child.ensures c.step.ensures in
    let fields = fields_at a c.args.cells.now c.loop-place.place (passed a c.args.cells.now c.requires.accepted).fields c.loop-place-test.true in
    turn_range t c.in_ok-above.field-0 c.in_ok-above.was c.next_requirement-requirement.ensures.small fields.1

pub hand_down-requires-in-loop-place-clause-room : goal.hand_down-requires-in-loop-place-clause-room
hand_down-requires-in-loop-place-clause-room g c =
    let rs = spread (content c.loop-place.pending) in
    let held = content c.next_requirement-requirement.new.pending in
    let within = trees_within (drop c.loop-place.place c.args.cells.now) (length rs) c.loop-place.invariant.trees in
    let left = length-drop c.loop-place.place c.args.cells.now in
    let taken = ap length c.next_requirement-requirement.ensures.taken in
    let few = spread_within held c.next_requirement-requirement.ensures.live in
    let free = room_left c.next_requirement-requirement.new.pending in
    let size = c.next_requirement-requirement.ensures.len ∙ c.loop-place.invariant.room ∙ c.hand_down.ensures.len in
    let enough = c.requires.requirements in
    let lent = ap length c.new-pending.ensures.items in
    λ h. omega arith

pub loop-place-preserved : goal.loop-place-preserved
loop-place-preserved g c =
    let a = g.O.OperatorSet.answers c.args.set.now in
    let t = turn a c.args.cells.now c.loop-place.place (spread (content c.loop-place.pending)) (spread (content c.next_requirement-requirement.new.pending)) c.next_requirement-requirement.result (content c.args.known.now) c.at-own.result c.at-child.result c.step.result
    c.loop-place-test.true c.next_requirement-requirement.ensures.taken c.requires.facts c.at-own.ensures c.at-child.ensures c.step.ensures in
    let s = c.in_ok-above.field-0 in
    let ok = c.in_ok-above.was in
    let new = spread (content c.hand_down-in-loop-place.new.pending) in
    let given = c.hand_down-in-loop-place.ensures.given in
    record {
      room = c.hand_down-in-loop-place.ensures.len ∙ c.next_requirement-requirement.ensures.len ∙ c.loop-place.invariant.room;
      live = c.hand_down-in-loop-place.ensures.live;
      trees = turn_trees t s ok new given c.loop-place.invariant.trees;
      loan = c.put-in-loop-place.ensures.loan ∙ c.put.ensures.loan ∙ c.loop-place.invariant.loan;
      len = c.put-in-loop-place.ensures.len ∙ c.put.ensures.len ∙ c.loop-place.invariant.len;
      few = (let one = at_most_one s.above in let two = at_most_one s.node in let n = c.put.ensures.count in let m = c.put-in-loop-place.ensures.count in let low = c.loop-place.invariant.few in omega arith);
      cells = turn_cells t s ok new (written c.loop-place.written) _ _ given c.put.ensures.cells c.put-in-loop-place.ensures.cells ∙ c.loop-place.invariant.cells;
      sums = turn_sums t s ok new given ∙ c.loop-place.invariant.sums;
    }

pub returns-clause-answer : goal.returns-clause-answer
unfolding sunk sink_sums_from
returns-clause-answer g c = grind (arith, cells_all, append-nil)
