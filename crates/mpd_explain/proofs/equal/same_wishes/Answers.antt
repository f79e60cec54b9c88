use Rattle.std.proofs.Common.{arith, rules}
use Rattle.mpd_names.proofs.EqualLemmas.{items_at}
use Rattle.mpd_explain.proofs.equal.same_wishes.Goals as goal

pub returns-then-not-same_wish : goal.returns-then-not-same_wish
returns-then-not-same_wish c = items_at c.args.one.now c.args.other.now c.loop-number.number _ _ c.same_wish.result (omega arith) (search rules) c.same_wish.ensures (search rules)
