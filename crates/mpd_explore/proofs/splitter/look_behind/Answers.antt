use Rattle.std.proofs.Common.{◌-◌, [], Some, false}
use Rattle.mpd_trail.specs.DebuggerViews.{standing_of}
use Rattle.mpd_explore.specs.Sleeping.{Rules}
use Rattle.mpd_explore.specs.Pieces.{rules_of}
use Rattle.mpd_explore.specs.Slept.{asleep_there}
use Rattle.mpd_explore.proofs.AlongLemmas.{rest_is}
use Rattle.mpd_explore.proofs.SplitLemmas.{longer_behind}
use Rattle.mpd_explore.proofs.splitter.look_behind.Goals as goal

pub returns-clause-longer : goal.returns-clause-longer
returns-clause-longer g c =
    let r : Rules = rules_of g.S.Schedule.decides g.S.Schedule.same g.S.Schedule.keeps false in
    let d = standing_of c.args.debugger.now in
    let e = standing_of c.follow.new.debugger in
    let there = asleep_there c.in_ok-sleep.sleep in
    let going = c.in_ok-sleep.ensures.going in
    longer_behind r (Some []) there (c.args.limit - d.trail.depth) (c.args.limit - e.trail.depth) c.in_ok-count.count c.args.choices.now d e going (rest_is r (Some []) there c.args.limit c.args.choices.now [] d e going c.requires.within) c.in_ok-count.ensures.counted
