use Rattle.std.proofs.Common.{◌≡◌, ◌<◌, ◌-◌, ap, arith, rules}
use Rattle.mpd_model.specs.runs.Trail.{Trail, taken_back}
use Rattle.mpd_trail.specs.DebuggerViews.{DebuggerView}
use Rattle.mpd_trail.proofs.RunLemmas.{back_more, back_few}
use Rattle.mpd_trail.proofs.debugger.Debugger.undo_to.Goals as goal

pub loop-self-preserved : goal.loop-self-preserved
loop-self-preserved c =
    let i = c.loop-self.invariant in
    let s : DebuggerView = c.args.self.now in
    let m : DebuggerView = c.loop-self.self in
    let n : DebuggerView = c.undo.new.self in
    let above : c.args.depth < m.trail.depth = search rules in
    let some : 0 < m.trail.depth = omega arith in
    let back : n.trail ≡ taken_back m.trail = search rules in
    let deep : n.trail.depth ≡ m.trail.depth - 1 = ap (λ (t : Trail). t.depth) back in
    record {
      trail = back_more s.trail m.trail n.trail i.trail back;
      least = omega (arith, deep);
      most = omega (arith, deep, i.most);
      reached = c.undo.ensures.undone.moved.reached;
      room = omega (arith, i.room, c.undo.ensures.undone.room_left);
      rises = search rules;
      few = back_few s m n c.state_is_reached.ensures.reached i.trail back some i.most (search rules) i.few;
    }
