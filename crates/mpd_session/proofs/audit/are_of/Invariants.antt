use Rattle.std.proofs.Common.{take}
use Rattle.std.specs.List.{All}
use Rattle.mpd_session.specs.Audit.{IsOf}
use Rattle.mpd_session.proofs.audit.are_of.Given as goal

abbrev pub invariant-loop-receipt : goal.invariant-loop-receipt
invariant-loop-receipt l = All (IsOf l.history l.client) (take l.receipt-index l.receipts)
