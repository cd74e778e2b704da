use Rattle.std.proofs.Common.{◌++◌, None, refl, rules}
use Rattle.std.proofs.Output.{has_written_append}
use Rattle.std.proofs.lemmas.List.{at_drop_more, append_assoc}
use Rattle.explain.specs.Details.{detail_text, details_text}
use Rattle.explain.proofs.lines.write_details.Goals as goal

pub loop-detail-preserved : goal.loop-detail-preserved
loop-detail-preserved g c = (
  search rules,
  λ plain.
      let before = c.loop-detail.invariant.1 plain in
      let wrote = c.in_ok-write.ensures.writes before.1.plain refl in
      let step = at_drop_more (details_text c.loop-detail.gap.now) c.args.details.now c.loop-detail.detail-index None c.loop-detail-test.true in
      (before.0 ++ (c.loop-detail.gap.now ++ detail_text c.in-Some.detail), has_written_append _ _ _ _ _ _ before.1 wrote, simp append_assoc (rw (step, c.in-Some.is) at before.2)),
)
