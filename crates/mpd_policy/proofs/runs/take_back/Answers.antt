use Rattle.std.proofs.Common.{◌-◌, slice_get, ◌+◌}
use Rattle.mpd_model.specs.runs.Running.{world_at}
use Rattle.mpd_policy.proofs.NumberLemmas.{no_hit_at}
use Rattle.mpd_policy.proofs.runs.take_back.Goals as goal

pub returns-then-is_unset-clause-hit : goal.returns-then-is_unset-clause-hit
returns-then-is_unset-clause-hit c =
    let t = c.args.debugger.now.trail in
    no_hit_at t.program c.args.breaks.now (c.is_unset.ensures c.if-is_unset.true) (world_at t (t.depth - 1)) (slice_get t.steps (t.depth - 1)) (world_at t ((t.depth - 1) + 1))
