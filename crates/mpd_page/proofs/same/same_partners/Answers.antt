use Rattle.std.proofs.Common.{arith, rules}
use Rattle.mpd_names.proofs.EqualLemmas.{items_at}
use Rattle.mpd_page.proofs.same.same_partners.Goals as goal

pub returns-then-not-same_partner : goal.returns-then-not-same_partner
returns-then-not-same_partner c = items_at c.args.one.now c.args.other.now c.loop-number.number _ _ c.same_partner.result (omega arith) (search rules) c.same_partner.ensures (search rules)
