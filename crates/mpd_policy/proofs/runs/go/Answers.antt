use Rattle.std.proofs.Common.{rules}
use Rattle.mpd_trail.specs.DebuggerViews.{standing_of}
use Rattle.mpd_policy.specs.Ahead.{Broken}
use Rattle.mpd_policy.proofs.RunLemmas.{going_halted, going_hit, going_broken, going_refused}
use Rattle.mpd_policy.proofs.runs.go.Goals as goal

pub returns-in-Halt-clause-went : goal.returns-in-Halt-clause-went
returns-in-Halt-clause-went c =
    going_halted c.args.taking c.args.breaks.now c.args.max (standing_of c.args.debugger.now) (standing_of c.loop-made.debugger) c.loop-made.made c.in-Halt.cause c.in_ok-ahead.ahead c.loop-made.invariant.0 c.in_ok-ahead.ensures.ahead c.in-Halt.is

pub returns-in-Some-clause-went : goal.returns-in-Some-clause-went
returns-in-Some-clause-went c =
    going_hit c.args.taking c.args.breaks.now c.args.max (standing_of c.args.debugger.now) (standing_of c.loop-made.debugger) (standing_of c.take.new.debugger) c.loop-made.made c.in-Some.number c.in-Take.step c.in_ok-ahead.ahead c.in_ok-hit.hit
    c.loop-made.invariant.0 c.loop-made-test.true c.in_ok-ahead.ensures.ahead c.in-Take.is c.in_ok-hit.ensures.ok c.in_ok-hit.ensures.world c.in_ok-hit.ensures.hit c.in-Some.is

pub returns-in_err-hit-clause-went : goal.returns-in_err-hit-clause-went
returns-in_err-hit-clause-went c =
    let broken : Broken c.args.taking c.args.breaks.now c.args.max (standing_of c.args.debugger.now) (standing_of c.take.new.debugger) =
    going_broken c.args.taking c.args.breaks.now c.args.max (standing_of c.args.debugger.now) (standing_of c.loop-made.debugger) (standing_of c.take.new.debugger) c.loop-made.made c.in-Take.step c.in_ok-ahead.ahead
    c.loop-made.invariant.0 c.loop-made-test.true c.in_ok-ahead.ensures.ahead c.in-Take.is c.in_err-hit.ensures.err in
    search (rules, broken)

pub returns-in_err-ahead-clause-went : goal.returns-in_err-ahead-clause-went
returns-in_err-ahead-clause-went c =
    let broken : Broken c.args.taking c.args.breaks.now c.args.max (standing_of c.args.debugger.now) (standing_of c.loop-made.debugger) =
    going_refused c.args.taking c.args.breaks.now c.args.max (standing_of c.args.debugger.now) (standing_of c.loop-made.debugger) c.loop-made.made c.loop-made.invariant.0 c.in_err-ahead.ensures.lists in
    search (rules, broken)

pub returns-in_err-last-clause-went : goal.returns-in_err-last-clause-went
returns-in_err-last-clause-went c =
    let broken : Broken c.args.taking c.args.breaks.now c.args.max (standing_of c.args.debugger.now) (standing_of c.loop-made.debugger) =
    going_refused c.args.taking c.args.breaks.now c.args.max (standing_of c.args.debugger.now) (standing_of c.loop-made.debugger) c.loop-made.made c.loop-made.invariant.0 c.in_err-last.ensures.lists in
    search (rules, broken)
