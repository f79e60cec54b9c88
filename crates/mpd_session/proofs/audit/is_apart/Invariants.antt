use Rattle.mpd_session.proofs.AuditLemmas.{Walked}
use Rattle.mpd_session.proofs.audit.is_apart.Given as goal

abbrev pub invariant-loop-receipt : goal.invariant-loop-receipt
invariant-loop-receipt l = Walked l.receipts l.others l.receipt-index l.next
