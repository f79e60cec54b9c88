use Rattle.std.proofs.Common.{arith, ◌<◌}
use Rattle.mpd_session.proofs.AuditLemmas.{rising_more, pairs_hold}
use Rattle.mpd_session.proofs.audit.is_rising.Goals as goal

pub loop-place-preserved : goal.loop-place-preserved
loop-place-preserved c = rising_more c.args.receipts.now c.loop-place.place c.index-receipts-place.result c.index-receipts-place-in-loop-place.result (omega arith) c.loop-place-test.true c.index-receipts-place.is c.index-receipts-place-in-loop-place.is c.if-receipts-place.false c.loop-place.invariant

pub returns : goal.returns
returns c = pairs_hold (λ r s. r.entry < s.entry) c.args.receipts.now c.loop-place.place (omega arith) c.loop-place.invariant
