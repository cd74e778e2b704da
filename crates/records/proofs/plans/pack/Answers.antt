use Rattle.std.proofs.Common.{◌≡◌, ◌*◌, List, ℕ, length, take, Ok, ap, ◌∙◌, arith}
use Rattle.std.proofs.lemmas.List.{take_at}
use Rattle.plan.specs.declared.refusals.Refusal.TheVariants.{Fit, Fields}
use Rattle.records.specs.Record.{record_size}
use Rattle.records.specs.Plans.{packed_plan, fits, in_range, all_pass, unpacking}
use Rattle.records.proofs.Chunks.{length_packed}
use Rattle.records.proofs.Undone.{plan_forth}
use Rattle.records.proofs.plans.pack.Goals as goal

pub returns-clause-undone : goal.returns-clause-undone
returns-clause-undone c =
    let cs = c.args.cells.now in
    let size = record_size * length cs in
    let front : take size c.write_plan.new.out ≡ packed_plan cs = rw c.write_plan.ensures.bytes (take_at (packed_plan cs) _ size (length_packed cs)) in
    let fit : all_pass Fit fits 0 cs ≡ Ok tt = grind arith in
    let ranged : all_pass Fields in_range 0 cs ≡ Ok tt = grind arith in
    ap (λ (bs : List ℕ). unpacking bs (length cs)) front ∙ plan_forth cs c.write_plan.ensures.kinds fit ranged
