use Rattle.std.proofs.Common.{◌-◌, suc, ◌∙◌, arith}
use Rattle.mpd_trail.specs.DebuggerViews.{standing_of}
use Rattle.mpd_explore.proofs.SplitLemmas.{ahead_is}
use Rattle.mpd_explore.proofs.PieceLemmas.{fuel_counted}
use Rattle.mpd_explore.proofs.splitter.look_ahead.Goals as goal

pub returns-in-Some-clause-counted : goal.returns-in-Some-clause-counted
returns-in-Some-clause-counted g c =
    let i = c.loop-depth.invariant in
    let d = standing_of c.args.debugger.now in
    let e = standing_of c.loop-depth.debugger in
    ahead_is g.S.Schedule.decides c.args.limit (c.args.limit - d.trail.depth) d.world e.world c.loop-depth.depth i.same (omega arith) ∙ (rw c.in-Some.is at c.in_ok-count.ensures.looked) (c.args.limit - suc c.loop-depth.depth)

pub returns-clause-counted : goal.returns-clause-counted
returns-clause-counted g c =
    let i = c.loop-depth.invariant in
    let e = standing_of c.loop-depth.debugger in
    i.same ∙ fuel_counted g.S.Schedule.decides (c.args.limit - c.loop-depth.depth) e.world (omega arith)
