use Rattle.std.proofs.Common.{◌≡◌, ◌<◌, refl, sym, arith}
use Rattle.mpd_trail.specs.DebuggerViews.{standing_of}
use Rattle.mpd_policy.proofs.WalkLemmas.{beyond_same, beyond_then, gone_none, gone_then, goes_on, goes_stop, fuel_stop}
use Rattle.mpd_policy.proofs.along.walk.Goals as goal

pub loop-depth-init : goal.loop-depth-init
loop-depth-init g c =
    let d = standing_of c.args.debugger.now in
    record { depth = sym c.depth-begun.ensures.value; gone = gone_none g.S.Schedule.decides g.C.Chooser.takes g.C.Chooser.passes d c.args.chooser.now; beyond = beyond_same d d refl c.state_is_reached.ensures.reached }

pub returns-in-Some-clause-walks : goal.returns-in-Some-clause-walks
returns-in-Some-clause-walks g c =
    let i = c.loop-depth.invariant in
    let room : c.loop-depth.debugger.trail.depth < c.args.limit = omega (arith, i.depth, c.loop-depth-test.true) in
    goes_stop g.S.Schedule.decides g.C.Chooser.takes g.C.Chooser.passes g.C.Chooser.leaves c.args.limit c.in_ok-stop.field-0 c.in-Some.stop (standing_of c.args.debugger.now) (standing_of c.loop-depth.debugger) (standing_of c.go_on.new.debugger)
    c.args.chooser.now c.loop-depth.chooser c.go_on.new.chooser room c.in-Some.is i.gone c.in_ok-stop.ensures.goes

pub loop-depth-preserved : goal.loop-depth-preserved
loop-depth-preserved g c =
    let i = c.loop-depth.invariant in
    let a = standing_of c.args.debugger.now in
    let d = standing_of c.loop-depth.debugger in
    let e = standing_of c.go_on.new.debugger in
    let on = goes_on g.S.Schedule.decides g.C.Chooser.takes g.C.Chooser.passes g.C.Chooser.leaves c.in_ok-stop.field-0 d e c.loop-depth.chooser c.go_on.new.chooser c.in_default.not-Some c.in_ok-stop.ensures.goes in
    record {
      depth = omega (arith, on.0, i.depth);
      gone = gone_then g.S.Schedule.decides g.C.Chooser.takes g.C.Chooser.passes a d e c.args.chooser.now c.loop-depth.chooser c.go_on.new.chooser i.gone on.1;
      beyond = beyond_then a d e i.beyond c.in_ok-stop.ensures.beyond;
    }

pub returns-clause-walks : goal.returns-clause-walks
returns-clause-walks g c =
    let i = c.loop-depth.invariant in
    let spent : c.loop-depth.debugger.trail.depth ≡ c.args.limit = omega (arith, i.depth, c.loop-depth-test.false) in
    fuel_stop g.S.Schedule.decides g.C.Chooser.takes g.C.Chooser.passes g.C.Chooser.leaves c.args.limit (standing_of c.args.debugger.now) (standing_of c.loop-depth.debugger) c.args.chooser.now c.loop-depth.chooser spent i.gone
