use Rattle.std.proofs.Common.{◌+◌, arith}
use Rattle.mpd_picture.proofs.MarkLemmas.{candidates_more}
use Rattle.mpd_picture.proofs.candidates.push_listed.Goals as goal

pub loop-step-preserved : goal.loop-step-preserved
loop-step-preserved c = record {
  shapes = candidates_more c.args.core.now.program c.args.core.now.world c.args.marks.now c.args.steps.now c.loop-step.step-index _ (c.loop-step.before + 1) c.loop-step.shapes.items _ _ c.loop-step-test.true c.loop-step.invariant.shapes c.in_ok-push_candidate.ensures;
  few = omega (arith, c.loop-step.invariant.few);
}
