use Rattle.std.proofs.Common.{◌≡◌, ℕ, ◌≤◌, List, length, take, IfOk, Ok, Err, Result, sym, refl, ap, ◌∙◌, subst, arith}
use Rattle.std.proofs.lemmas.List.{length-take-le}
use Rattle.plan.specs.declared.cells.Cell.{Cell}
use Rattle.plan.specs.declared.refusals.Fault.{Fault}
use Rattle.plan.specs.Cells.{blank}
use Rattle.plan.specs.Tables.{counted, laid}
use Rattle.operators.specs.Rows.{Meaning}
use Rattle.operators.specs.Rules.{Rules}
use Rattle.limits.specs.Calls.{Lent, call_answer, front_of}
use Rattle.limits.specs.Memory.{lent_by}
use Rattle.limits.specs.Laws.{count_after, PageKept}
use Rattle.limits.proofs.Keeping.{call_keeps}
use Rattle.limits.proofs.calls.call.Goals as goal

counted_front : (work : List Cell) (size other : ℕ) (r : Result ℕ Fault) → size ≡ length work → IfOk r (λ n. (n ≤ size) × (n ≤ other)) → r ≡ counted (front_of work r)
counted_front work size other (Ok n) e h = let few : n ≤ length work = (let z = h.0 in omega arith) in ap Ok (sym (length-take-le n work few))
counted_front work size other (Err f) e h = refl

pub returns-clause-called : goal.returns-clause-called
returns-clause-called g c =
    let a = g.O.OperatorSet.answers c.args.set.now in
    let table = c.args.plan.now in
    let count = c.args.count in
    let lent = lent_by c.args.memory.now in
    let whole = call_answer a c.args.rule table count lent in
    let work = c.compute-answer.new.memory.work.now in
    let size : length c.args.memory.now.work.now ≡ length work = sym (ap (λ (l : Lent). l.work) c.compute-answer.ensures.loan.lent) in
    let front : front_of work c.compute-answer.result ≡ whole = c.compute-answer.ensures.answer in
    let answered : c.compute-answer.result ≡ counted whole = counted_front work (length c.args.memory.now.work.now) (length table) c.compute-answer.result size c.compute-answer.ensures.within ∙ ap counted front in
    let written : c.write_back.new.plan ≡ laid blank whole table = c.write_back.ensures ∙ ap (λ (r : Result (List Cell) Fault). laid blank r table) front in
    let pages = λ (m : Meaning) (rules : Rules a m).
    subst (λ (t : List Cell). PageKept a m (take count table) (take (count_after c.compute-answer.result count) t)) (sym written)
    (subst (λ (r : Result ℕ Fault). PageKept a m (take count table) (take (count_after r count) (laid blank whole table))) (sym answered) (call_keeps a m rules c.args.rule table count lent)) in
    record { answered = answered; written = written; pages = pages }
