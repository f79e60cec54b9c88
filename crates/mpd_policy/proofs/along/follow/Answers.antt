use Rattle.mpd_trail.specs.DebuggerViews.{standing_of}
use Rattle.mpd_policy.proofs.ChoiceLemmas.{followed}
use Rattle.mpd_policy.proofs.along.follow.Goals as goal

pub returns-clause-steps : goal.returns-clause-steps
returns-clause-steps g c =
    (followed g.S.Schedule.decides c.depth-base.result c.args.fuel (standing_of c.args.debugger.now) (standing_of c.walk.new.debugger) _ c.walk.new.chooser c.in_ok-stop.stop c.depth-base.ensures.value c.in_ok-stop.ensures.walks c.requires.some).0

pub returns-clause-leads : goal.returns-clause-leads
returns-clause-leads g c =
    (followed g.S.Schedule.decides c.depth-base.result c.args.fuel (standing_of c.args.debugger.now) (standing_of c.walk.new.debugger) _ c.walk.new.chooser c.in_ok-stop.stop c.depth-base.ensures.value c.in_ok-stop.ensures.walks c.requires.some).1
