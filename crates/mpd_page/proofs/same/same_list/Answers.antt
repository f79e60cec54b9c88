use Rattle.std.proofs.Common.{arith, rules}
use Rattle.mpd_names.proofs.EqualLemmas.{items_differ}
use Rattle.mpd_page.proofs.same.same_list.Goals as goal

pub returns-then-not-same_awaited : goal.returns-then-not-same_awaited
returns-then-not-same_awaited c = items_differ c.args.one.now c.args.other.now c.loop-number.number c.index-one-number.result c.index-other-number.result c.same_awaited.result (omega arith) (search rules) c.index-one-number.is c.index-other-number.is (search rules) (search rules)
