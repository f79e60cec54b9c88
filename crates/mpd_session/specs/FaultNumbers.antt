-- The numbers of why a book takes no request, and why receipts don't agree with it; want of memory has none.
use Rattle.std.specs.Prelude.{ℕ}
use Rattle.mpd_session.specs.declared.book.TakeFault.{TakeFault}
use Rattle.mpd_session.specs.declared.book.TakeFault.TheVariants as take
use Rattle.mpd_session.specs.declared.audit.AuditFault.{AuditFault}
use Rattle.mpd_session.specs.declared.audit.AuditFault.TheVariants as audit

abbrev pub take_fault_number : TakeFault → ℕ
take_fault_number take.HistoryFull = 56
take_fault_number take.Memory = 0

abbrev pub audit_fault_number : AuditFault → ℕ
audit_fault_number audit.CountsDiffer = 57
audit_fault_number audit.ReceiptDiffers = 58
