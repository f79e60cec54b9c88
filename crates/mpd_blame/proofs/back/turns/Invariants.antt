use Rattle.std.proofs.Common.{◌≡◌, ◌≤◌, ◌+◌, ◌-◌, suc, length}
use Rattle.mpd_trail.specs.DebuggerViews.{standing_of}
use Rattle.mpd_blame.specs.Blame.{states_on, DoomedFrom, IsBack}
use Rattle.mpd_blame.proofs.BackLemmas.{start_of}
use Rattle.mpd_blame.proofs.back.turns.Given as goal

abbrev pub invariant-loop-undone : goal.invariant-loop-undone
invariant-loop-undone l = record {
  back : IsBack (standing_of l.fn.debugger) (standing_of l.debugger);
  depth : l.debugger.trail.depth + l._undone ≡ l.fn.debugger.trail.depth;
  doomed : DoomedFrom l.fn.limits.fuel (start_of (standing_of l.fn.debugger)) l.fn.debugger.trail.steps l.debugger.trail.depth;
  fuel : l.limits.fuel ≡ l.fn.limits.fuel;
  spent : l.fn.limits.visited ≤ l.limits.visited + states_on l.fn.limits.fuel (start_of (standing_of l.fn.debugger)) l.fn.debugger.trail.steps l.debugger.trail.depth (suc (length l.fn.debugger.trail.steps - l.debugger.trail.depth));
}
