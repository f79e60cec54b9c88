use Rattle.std.proofs.Common.{take}
use Rattle.mpd_session.specs.Audit.{IsRising}
use Rattle.mpd_session.proofs.audit.is_rising.Given as goal

abbrev pub invariant-loop-place : goal.invariant-loop-place
invariant-loop-place l = IsRising (take l.place l.receipts)
