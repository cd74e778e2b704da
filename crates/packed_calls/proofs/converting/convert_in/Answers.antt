use Rattle.std.proofs.Common.{◌≡◌, ℕ, List, length, take, Ok, Result, sym, ap, ◌∙◌, rules}
use Rattle.plan.specs.declared.cells.Cell.{Cell}
use Rattle.plan.specs.declared.refusals.Fault.{Fault}
use Rattle.plan.specs.Tables.{counted, laid}
use Rattle.records.specs.Plans.{packed_plan}
use Rattle.packed_calls.specs.Converts.{packed_up}
use Rattle.packed_calls.proofs.Conversion.{Granted, granted}
use Rattle.packed_calls.proofs.converting.convert_in.Goals as goal

pub returns : goal.returns
returns g c =
    let n = c.in_ok-granted.granted in
    let after = c.call.new.plan in
    let done : Granted (g.O.OperatorSet.answers c.args.set.now) c.args.rule c.args.plan.now (length c.args.out.now) n after =
    granted _ _ _ _ _ _ _ _ _ _ n after (search rules) (search rules) (search rules) (search rules) (sym c.in_ok-count.was ∙ c.unpack.ensures.answer) c.unpack.ensures.cells
    (sym c.in_ok-check_count.was ∙ c.check_count.ensures) (sym c.in_ok-check_room.was ∙ c.check_room.ensures) (sym c.in_ok-granted.was ∙ c.call.ensures.called.answered) c.call.ensures.called.written in
    let packed : c.pack.result ≡ Ok (length (packed_plan (take n after))) = c.pack.ensures.answer ∙ ap counted done.packs in
    let mapped : c.map.result ≡ Ok n = search rules in
    record {
      answer = mapped ∙ ap Ok done.whole ∙ sym (ap counted done.answer);
      bytes = c.pack.ensures.bytes ∙ ap (λ (r : Result (List ℕ) Fault). laid 0 r c.args.out.now) done.packs
          ∙ sym (ap (λ (r : Result (List Cell) Fault). laid 0 (packed_up r) c.args.out.now) done.answer);
    }
