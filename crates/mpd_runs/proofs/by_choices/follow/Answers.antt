use Rattle.std.proofs.Common.{◌-◌, length, refl}
use Rattle.mpd_trail.specs.DebuggerViews.{standing_of}
use Rattle.mpd_policy.proofs.ChoiceLemmas.{fewer_left}
use Rattle.mpd_runs.proofs.AlongLemmas.{ended_on, untaken_on, not_so}
use Rattle.mpd_runs.proofs.by_choices.follow.Goals as goal

pub overflow_sub-place : goal.overflow_sub-place
overflow_sub-place g c = fewer_left g.S.Schedule.decides c.args.limit (standing_of c.args.debugger.now) (standing_of c.walk.new.debugger) _ c.walk.new.chooser c.in-Ok.stop c.in-Ok.ensures.walks

pub returns-then-is_untaken-clause-on : goal.returns-then-is_untaken-clause-on
returns-then-is_untaken-clause-on g c =
    untaken_on g.S.Schedule.decides c.args.limit (length c.args.choices.now - length c.walk.new.chooser.left.now) c.args.choices.now (standing_of c.args.debugger.now) (standing_of c.walk.new.debugger) _ c.walk.new.chooser c.in-Ok.stop
    refl refl c.in-Ok.ensures.walks (c.is_untaken.ensures.0 c.if-is_untaken.true)

pub returns-clause-on : goal.returns-clause-on
returns-clause-on g c =
    ended_on g.S.Schedule.decides c.args.limit (length c.args.choices.now - length c.walk.new.chooser.left.now) c.args.choices.now (standing_of c.args.debugger.now) (standing_of c.walk.new.debugger) _ c.walk.new.chooser c.in-Ok.stop c.end.result
    refl refl c.in-Ok.ensures.walks (not_so c.is_untaken.result c.if-is_untaken.false c.is_untaken.ensures.1) c.end.ensures
