use Rattle.std.proofs.Common.{arith, rules}
use Rattle.mpd_names.proofs.EqualLemmas.{items_at}
use Rattle.mpd_explain.proofs.equal.same_awaited_ranks.Goals as goal

pub returns-then-not-same_awaited : goal.returns-then-not-same_awaited
returns-then-not-same_awaited c = items_at c.args.one.now c.args.other.now c.loop-number.number _ _ c.same_awaited.result (omega arith) (search rules) c.same_awaited.ensures (search rules)
