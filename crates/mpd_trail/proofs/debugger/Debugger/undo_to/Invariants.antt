use Rattle.std.proofs.Common.{◌≡◌, ◌≤◌, ◌+◌, ◌-◌, drop}
use Rattle.mpd_model.specs.runs.Trail.{IsReached, done_steps, gone_back}
use Rattle.mpd_trail.specs.DebuggerViews.{standing_of}
use Rattle.mpd_trail.specs.DebuggerWrites.{most_writes_of}
use Rattle.mpd_trail.proofs.debugger.Debugger.undo_to.Given as goal

abbrev pub invariant-loop-self : goal.invariant-loop-self
invariant-loop-self l = record {
  trail : l.self.trail ≡ gone_back l.fn.self.trail l.self.trail.depth;
  least : l.depth ≤ l.self.trail.depth;
  most : l.self.trail.depth ≤ l.fn.self.trail.depth;
  reached : IsReached (standing_of l.self);
  room : l.fn.self.room ≤ l.self.room;
  rises : l.fn.self.writes + (l.fn.self.trail.depth - l.self.trail.depth) ≤ l.self.writes;
  few : l.self.writes ≤ l.fn.self.writes + most_writes_of l.fn.self.trail.program.ranks (drop l.self.trail.depth (done_steps l.fn.self.trail));
}

abbrev pub decreases-loop-self : goal.decreases-loop-self
decreases-loop-self l = l.self.trail.depth
