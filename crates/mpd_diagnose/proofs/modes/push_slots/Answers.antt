use Rattle.mpd_core.proofs.RangeLemmas.{given_more}
use Rattle.mpd_diagnose.specs.Modes.{more_slots}
use Rattle.mpd_diagnose.proofs.modes.push_slots.Goals as goal

pub loop-before-preserved : goal.loop-before-preserved
loop-before-preserved c = given_more more_slots c.loop-before.before _ c.loop-before.modes.items _ _ c.loop-before-test.true c.loop-before.invariant c.in_ok-push_mode.ensures
