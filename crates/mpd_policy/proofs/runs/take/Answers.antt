use Rattle.mpd_policy.proofs.NumberLemmas.{no_hit}
use Rattle.mpd_policy.proofs.runs.take.Goals as goal

pub returns-then-is_unset-clause-hit : goal.returns-then-is_unset-clause-hit
returns-then-is_unset-clause-hit c =
    no_hit c.args.debugger.now.trail.program c.args.breaks.now c.args.debugger.now.world c.args.step _ (c.is_unset.ensures c.if-is_unset.true)
