use Rattle.std.proofs.Common.{arith}
use Rattle.mpd_trail.specs.DebuggerViews.{standing_of}
use Rattle.mpd_policy.proofs.WalkLemmas.{beyond_depth}
use Rattle.mpd_runs.proofs.by_choices.steps_from.Goals as goal

pub steps_behind-requires : goal.steps_behind-requires
steps_behind-requires g c = omega (arith, c.depth-base.ensures.value, beyond_depth (standing_of c.args.debugger.now) (standing_of c.follow.new.debugger) c.state_is_reached.ensures.reached c.follow.ensures.beyond)
