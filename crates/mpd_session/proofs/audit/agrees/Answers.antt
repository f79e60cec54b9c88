use Rattle.std.proofs.lemmas.List.Elements.{All-weaker}
use Rattle.mpd_session.specs.Audit.{IsKept, IsRising}
use Rattle.mpd_session.proofs.audit.agrees.Goals as goal

pub are_apart-requires : goal.are_apart-requires
are_apart-requires g c = All-weaker (λ x. IsKept c.args.history.now (g.T.Logged.logged x)) (λ x. IsRising (g.T.Logged.logged x).receipts) (λ x kept. kept.1) c.args.logs.now (c.are_kept.ensures.0 c.if-are_kept.true)

pub returns-then-are_kept : goal.returns-then-are_kept
returns-then-are_kept g c = (λ e. (c.are_kept.ensures.0 c.if-are_kept.true, c.are_apart.ensures.0 e), λ h. c.are_apart.ensures.1 h.1)
