use Rattle.std.proofs.Common.{arith, rules}
use Rattle.mpd_names.proofs.EqualLemmas.{items_differ}
use Rattle.mpd_explain.proofs.equal.same_waits.Goals as goal

pub returns-then-not-same_wait : goal.returns-then-not-same_wait
returns-then-not-same_wait c = items_differ c.args.one.now c.args.other.now c.loop-number.number c.index-one-number.result c.index-other-number.result c.same_wait.result (omega arith) (search rules) c.index-one-number.is c.index-other-number.is (search rules) (search rules)
