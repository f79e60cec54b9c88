use Rattle.std.proofs.Common.{take}
use Rattle.std.specs.List.{AllPairs}
use Rattle.mpd_session.specs.Audit.{IsApart}
use Rattle.mpd_session.proofs.audit.are_apart.Given as goal

abbrev pub invariant-loop-place : goal.invariant-loop-place
invariant-loop-place g l = AllPairs (λ m n. IsApart (g.T.Logged.logged m).receipts (g.T.Logged.logged n).receipts) (take l.place l.logs)
