use Rattle.std.proofs.Common.{◌≡◌, ◌≤◌, true, false}
use Rattle.std.specs.List.{list_any}
use Rattle.mpd_model.specs.steps.World.{World}
use Rattle.mpd_trail.specs.DebuggerViews.{standing_of}
use Rattle.mpd_explore.specs.Search.{Safe}
use Rattle.mpd_outcomes.specs.Front.{search_of, BeforeIn, states_now}
use Rattle.mpd_outcomes.specs.Goals.{meets_any}
use Rattle.mpd_outcomes.proofs.search.search.Given as goal

abbrev pub invariant-loop-visited : goal.invariant-loop-visited
invariant-loop-visited l = record {
  stands : (root : World) → BeforeIn (search_of l.bounds l.fn.debugger.trail root) l.fn.front (standing_of l.fn.debugger) → BeforeIn (search_of l.bounds l.fn.debugger.trail root) l.front (standing_of l.debugger);
  few : (root : World) → BeforeIn (search_of l.bounds l.fn.debugger.trail root) l.fn.front (standing_of l.fn.debugger) → l.visited ≤ states_now (search_of l.bounds l.fn.debugger.trail root) true l.front (standing_of l.debugger);
  none : l.visited ≡ 0 → l.front ≡ l.fn.front;
  unmet : list_any (meets_any l.limits.until) l.front.ways.items ≡ false;
  safe : Safe l.bounds.base (standing_of l.fn.debugger) (standing_of l.debugger);
}
