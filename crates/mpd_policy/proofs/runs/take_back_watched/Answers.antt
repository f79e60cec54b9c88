use Rattle.std.proofs.Common.{rules}
use Rattle.mpd_model.specs.declared.step.Step.TheVariants.{Local}
use Rattle.mpd_trail.specs.DebuggerViews.{standing_of}
use Rattle.mpd_policy.proofs.BackLemmas.{back_hit, last_step}
use Rattle.mpd_policy.proofs.runs.take_back_watched.Goals as goal

pub returns-clause-hit : goal.returns-clause-hit
returns-clause-hit c =
    back_hit c.args.breaks.now c.watch-values.result c.core-core.result.now.program c.core-core.result.now.world c.core.result.now.world (standing_of c.args.debugger.now) (standing_of c.undo.new.self) _
    c.lowest_told-told.result c.lowest_changed-changed.result c.lower.result c.core-core.ensures.reached c.core.ensures.reached c.requires (search rules) (last_step c.args.debugger.now.trail c.steps.result.now c.depth-depth.result (Local 0) c.steps.ensures c.depth-depth.ensures.value c.requires c.core-core.ensures.reached.within) c.core-core.ensures.program c.core-core.ensures.world c.core.ensures.world
    c.watch-values.ensures c.lowest_told-told.ensures c.lowest_changed-changed.ensures c.lower.ensures
