use Rattle.std.proofs.Common.{arith, rules}
use Rattle.mpd_names.proofs.EqualLemmas.{items_at}
use Rattle.mpd_explain.proofs.equal.same_calls.Goals as goal

pub returns-then-not-same_call : goal.returns-then-not-same_call
returns-then-not-same_call c = items_at c.args.one.now c.args.other.now c.loop-number.number _ _ c.same_call.result (omega arith) (search rules) c.same_call.ensures (search rules)
