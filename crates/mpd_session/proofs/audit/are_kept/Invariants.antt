use Rattle.std.proofs.Common.{take}
use Rattle.std.specs.List.{All}
use Rattle.mpd_session.specs.Audit.{IsKept}
use Rattle.mpd_session.proofs.audit.are_kept.Given as goal

abbrev pub invariant-loop-kept : goal.invariant-loop-kept
invariant-loop-kept g l = All (λ x. IsKept l.history (g.T.Logged.logged x)) (take l.kept-index l.logs)
