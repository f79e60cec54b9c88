use Rattle.std.proofs.Common.{arith, rules}
use Rattle.mpd_names.proofs.EqualLemmas.{items_at}
use Rattle.mpd_explain.proofs.equal.same_steps.Goals as goal

pub returns-then-not-same_step : goal.returns-then-not-same_step
returns-then-not-same_step c = items_at c.args.one.now c.args.other.now c.loop-number.number _ _ c.same_step.result (omega arith) (search rules) c.same_step.ensures (search rules)
