use Rattle.std.proofs.Common.{rules, subst}
use Rattle.std.specs.Bool.{Decides}
use Rattle.mpd_session.specs.History.{Noted}
use Rattle.mpd_session.specs.Audit.{IsKept}
use Rattle.mpd_session.proofs.AuditLemmas.{some_fails, one_more, all_hold}
use Rattle.mpd_session.proofs.audit.are_kept.Goals as goal

pub returns-then-not-is_kept : goal.returns-then-not-is_kept
returns-then-not-is_kept g c =
    some_fails (λ x. IsKept c.args.history.now (g.T.Logged.logged x)) c.args.logs.now c.loop-kept.kept-index c.kept-item.result c.is_kept.result c.loop-kept-test.true c.kept-item.is
    (subst (λ (n : Noted). Decides c.is_kept.result (IsKept c.args.history.now n)) c.log.ensures c.is_kept.ensures) (search rules)

pub loop-kept-preserved : goal.loop-kept-preserved
loop-kept-preserved g c =
    one_more (λ x. IsKept c.args.history.now (g.T.Logged.logged x)) c.args.logs.now c.loop-kept.kept-index c.kept-item.result c.is_kept.result c.loop-kept-test.true c.kept-item.is
    (subst (λ (n : Noted). Decides c.is_kept.result (IsKept c.args.history.now n)) c.log.ensures c.is_kept.ensures) (search rules) c.loop-kept.invariant

pub returns : goal.returns
returns g c = all_hold (λ x. IsKept c.args.history.now (g.T.Logged.logged x)) c.args.logs.now c.loop-kept.kept-index c.loop-kept-test.false c.loop-kept.invariant
