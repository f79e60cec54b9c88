use Rattle.std.proofs.Common.{string_bytes, arith, rules}
use Rattle.mpd_session.proofs.SameLemmas.{lists_differ}
use Rattle.mpd_session.proofs.same.same_texts.Goals as goal

pub returns-then-not-same_string : goal.returns-then-not-same_string
returns-then-not-same_string c = lists_differ string_bytes c.args.one.now c.args.other.now c.loop-number.number c.index-one-number.result c.index-other-number.result c.same_string.result (omega arith) (search rules) c.index-one-number.is c.index-other-number.is (search rules) (search rules)
