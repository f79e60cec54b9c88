use Rattle.std.proofs.Common.{◌≡◌, ◌-◌}
use Rattle.mpd_model.specs.runs.Trail.{done_steps, IsReached}
use Rattle.mpd_trail.specs.DebuggerViews.{standing_of}
use Rattle.mpd_runs.specs.Drawing.{Sampling, leaves_in, texts_in}
use Rattle.mpd_runs.proofs.sampler.gather.Given as goal

abbrev pub invariant-loop-turn : goal.invariant-loop-turn
invariant-loop-turn g l = record {
  trail : l.debugger.trail ≡ l.fn.debugger.trail;
  world : l.debugger.world ≡ l.fn.debugger.world;
  reached : IsReached (standing_of l.debugger);
  sampling : Sampling l.limits (done_steps l.fn.debugger.trail) l.fn.debugger.world (g.R.Rng.stream l.fn.random) l.turn (l.limits.runs - l.turn) (g.R.Rng.stream l.random) (leaves_in l.held.leaves) (texts_in l.held.texts);
}
