use Rattle.std.proofs.Common.{◌≡◌, ◌+◌, take}
use Rattle.mpd_session.specs.Audit.{receipts_in}
use Rattle.mpd_session.proofs.audit.has_count.Given as goal

abbrev pub invariant-loop-kept : goal.invariant-loop-kept
invariant-loop-kept g l = receipts_in g.T.Logged.logged (take l.kept-index l.logs) + l.left ≡ l.fn.count
