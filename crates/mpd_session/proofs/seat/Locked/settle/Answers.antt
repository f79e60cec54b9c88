use Rattle.std.proofs.Common.{refl}
use Rattle.mpd_session.proofs.SeatLemmas.{settles, differs}
use Rattle.mpd_session.proofs.seat.Locked.settle.Goals as goal

pub returns-in-Ok-clause-settled : goal.returns-in-Ok-clause-settled
returns-in-Ok-clause-settled g c = settles c.args.seats.items c.deref.result.now c.args.self.book c.deref.ensures.value (c.in-Ok.ensures.ok.0 refl) c.in-Ok.ensures.each

pub returns-in-Err-ReceiptDiffers-clause-settled : goal.returns-in-Err-ReceiptDiffers-clause-settled
returns-in-Err-ReceiptDiffers-clause-settled g c =
    differs c.args.seats.items c.deref.result.now c.args.self.book c.audit-audited.result c.in-Err-ReceiptDiffers.field-0 c.in-Err-ReceiptDiffers.is (rw c.in-Err-ReceiptDiffers.is at c.in-Err-ReceiptDiffers.field-0-is) c.deref.ensures.value
    c.audit-audited.ensures.ok c.audit-audited.ensures.counts
