use Rattle.mpd_core.proofs.RangeLemmas.{given_more}
use Rattle.mpd_diagnose.specs.Modes.{mode_if}
use Rattle.mpd_diagnose.proofs.modes.chosen.Goals as goal

pub loop-place-preserved : goal.loop-place-preserved
loop-place-preserved c = given_more (mode_if c.args.modes.now c.args.flags.now) c.loop-place.place _ c.loop-place.chosen.items _ _ c.loop-place-test.true c.loop-place.invariant c.in_ok-push_mode_if.ensures
