use Rattle.mpd_trail.specs.DebuggerViews.{standing_of}
use Rattle.mpd_runs.specs.Drawing.{leaves_in}
use Rattle.mpd_runs.proofs.SampleLemmas.{adds_leaf}
use Rattle.mpd_runs.proofs.sampler.draw_into.Goals as goal

pub returns-clause-adds : goal.returns-clause-adds
returns-clause-adds g c =
    adds_leaf c.args.limits (standing_of c.args.debugger.now) (standing_of c.draw_leaf.new.debugger) (g.R.Rng.stream c.args.random.now) (g.R.Rng.stream c.draw_leaf.new.random) c.in_ok-leaf.leaf (leaves_in c.args.held.now.leaves) (leaves_in c.keep_leaf.new.held.leaves) _ _ c.ends_with-is_last.result
    c.in_ok-leaf.ensures.drew c.ends_with-is_last.ensures c.in_ok-keep_leaf.ensures.leaves c.in_ok-keep_leaf.ensures.texts
