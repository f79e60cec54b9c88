use Rattle.std.proofs.Common.{◌∙◌, sym, arith}
use Rattle.mpd_trail.specs.DebuggerViews.{standing_of}
use Rattle.mpd_pool.proofs.Places.{filled_same}
use Rattle.mpd_pool.proofs.Joined.{joined_all, added_on, added_last}
use Rattle.mpd_pool.proofs.join.add_all.Goals as goal

pub loop-number-preserved : goal.loop-number-preserved
loop-number-preserved g c =
    let i = c.loop-number.invariant in
    let d = standing_of c.args.debugger.now in
    record {
      same = c.in_ok-is_last.ensures.same ∙ i.same;
      filled = filled_same d (standing_of c.loop-number.debugger) c.args.task.limits c.args.task.pieces.now c.add_piece.new.slots.items (sym i.same) c.in_ok-is_last.ensures.filled;
      joined = added_on d (standing_of c.loop-number.debugger) c.args.task.limits c.args.task.pieces.now _ c.in_ok-is_last.is_last c.add_piece.new.all (sym i.same) c.if-is_last.false c.in_ok-is_last.ensures.added;
    }

pub returns-then-is_last-clause-report : goal.returns-then-is_last-clause-report
returns-then-is_last-clause-report g c =
    added_last (standing_of c.args.debugger.now) (standing_of c.loop-number.debugger) c.args.task.limits c.args.task.pieces.now _ c.in_ok-is_last.is_last c.add_piece.new.all (sym c.loop-number.invariant.same) c.if-is_last.true c.in_ok-is_last.ensures.added

pub returns-clause-report : goal.returns-clause-report
returns-clause-report g c =
    joined_all (standing_of c.args.debugger.now) c.args.task.limits c.args.task.pieces.now c.loop-number.number c.loop-number.all (omega (arith, c.loop-number-test.false)) c.loop-number.invariant.joined
