use Rattle.mpd_session.proofs.AuditLemmas.{free_there}
use Rattle.mpd_session.proofs.audit.is_free.Goals as goal

pub returns : goal.returns
returns c = free_there c.args.receipts.now c.args.place c.args.entry c.index-receipts-place.result c.if-place-receipts.false c.requires.below (c.requires.there c.if-place-receipts.false) c.requires.rising
