use Rattle.std.proofs.Common.{◌≡◌, vec_len}
use Rattle.mpd_model.specs.steps.World.{World}
use Rattle.mpd_model.specs.runs.Trail.{done_steps}
use Rattle.mpd_trail.specs.DebuggerViews.{standing_of}
use Rattle.mpd_explore.specs.Search.{Safe}
use Rattle.mpd_outcomes.specs.Front.{search_of, open_in, come_to, AfterIn}
use Rattle.mpd_outcomes.proofs.search.advance.Given as goal

abbrev pub invariant-loop-top : goal.invariant-loop-top
invariant-loop-top l = record {
  stands : (root : World) → AfterIn (search_of l.bounds l.fn.debugger.trail root) l.fn.front (standing_of l.fn.debugger) → AfterIn (search_of l.bounds l.fn.debugger.trail root) l.front (standing_of l.debugger);
  ways : l.front.ways.items ≡ l.fn.front.ways.items;
  come : (root : World) → AfterIn (search_of l.bounds l.fn.debugger.trail root) l.fn.front (standing_of l.fn.debugger)
      → come_to (search_of l.bounds l.fn.debugger.trail root) (open_in l.front) (done_steps l.debugger.trail) ≡ come_to (search_of l.bounds l.fn.debugger.trail root) (open_in l.fn.front) (done_steps l.fn.debugger.trail);
  safe : Safe l.bounds.base (standing_of l.fn.debugger) (standing_of l.debugger);
}

abbrev pub decreases-loop-top : goal.decreases-loop-top
decreases-loop-top l = vec_len l.front.stack
