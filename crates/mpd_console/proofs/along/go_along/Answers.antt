use Rattle.std.proofs.Common.{rules}
use Rattle.mpd_trail.specs.DebuggerViews.{standing_of}
use Rattle.mpd_console.proofs.AlongLemmas.{going_more, gone_to_halt, gone_to_end}
use Rattle.mpd_console.proofs.along.go_along.Goals as goal

pub loop-depth-preserved : goal.loop-depth-preserved
loop-depth-preserved c =
    going_more c.args.breaks.now c.args.goal c.args.debugger.now.trail (standing_of c.loop-depth.debugger) (standing_of c.redo.new.self) (standing_of c.halts.new.debugger) c.depth-begun.result c.loop-depth._depth c.in_ok-halts.field-0
    c.loop-depth.invariant (search rules) c.depth-begun.ensures.value c.in-Ok.ensures.taken.moved.ok c.halts.ensures.as_found c.in_ok-halts.ensures.halts c.if-branch.false

pub returns-then-branch-clause-end : goal.returns-then-branch-clause-end
returns-then-branch-clause-end c =
    gone_to_halt c.args.breaks.now c.args.goal c.args.debugger.now.trail (standing_of c.loop-depth.debugger) (standing_of c.redo.new.self) (standing_of c.halts.new.debugger) c.depth-begun.result c.loop-depth._depth c.in_ok-halts.field-0
    c.loop-depth.invariant (search rules) c.depth-begun.ensures.value c.in-Ok.ensures.taken.moved.ok c.halts.ensures.as_found c.in_ok-halts.ensures.halts c.if-branch.true

pub returns-clause-end : goal.returns-clause-end
returns-clause-end c = gone_to_end c.args.breaks.now c.args.goal c.args.debugger.now.trail (standing_of c.loop-depth.debugger) c.loop-depth._depth c.loop-depth.invariant (search rules)
