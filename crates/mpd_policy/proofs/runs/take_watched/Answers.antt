use Rattle.std.proofs.Common.{◌∙◌}
use Rattle.mpd_policy.proofs.BackLemmas.{take_hit}
use Rattle.mpd_policy.proofs.runs.take_watched.Goals as goal

pub returns-clause-hit : goal.returns-clause-hit
returns-clause-hit c =
    take_hit c.args.breaks.now c.watch-values.result c.core-core.result.now.program c.args.debugger.now.trail.program c.core.result.now.world c.core-core.result.now.world c.args.debugger.now.world _ c.args.step
    c.lowest_told-told.result c.lowest_changed-changed.result c.lower.result (c.core-core.ensures.program ∙ c.in_ok-forward.ensures.taken.moved.program) c.core.ensures.world c.core-core.ensures.world
    c.watch-values.ensures c.lowest_told-told.ensures c.lowest_changed-changed.ensures c.lower.ensures
