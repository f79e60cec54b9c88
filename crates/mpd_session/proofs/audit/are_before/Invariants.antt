use Rattle.std.proofs.Common.{take}
use Rattle.std.specs.List.{All}
use Rattle.mpd_session.specs.Audit.{IsApart}
use Rattle.mpd_session.proofs.audit.are_before.Given as goal

abbrev pub invariant-loop-kept : goal.invariant-loop-kept
invariant-loop-kept g l = All (λ m. IsApart (g.T.Logged.logged m).receipts l.receipts) (take l.kept-index l.logs)
