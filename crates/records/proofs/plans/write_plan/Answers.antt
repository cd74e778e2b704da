use Rattle.std.proofs.Common.{◌<◌, arith}
use Rattle.std.proofs.ByRecursion.{All-more}
use Rattle.plan.specs.Cells.{blank}
use Rattle.records.proofs.Chunks.{write_more}
use Rattle.records.proofs.plans.write_plan.Goals as goal

pub loop-place-preserved : goal.loop-place-preserved
loop-place-preserved c =
    let cs = c.args.cells.now in
    let i = c.loop-place.place in
    let h = c.loop-place-test.true in
    let before = c.loop-place.invariant in
    let now = write_more cs c.args.out.now c.loop-place.out c.write_record.new.out i h (omega arith) c.write_record.ensures.bytes before.written before.left in
    record { written = now.0; left = now.1; kinds = All-more (λ x. x.kind < 256) cs i blank h before.kinds c.write_record.ensures.kind }
