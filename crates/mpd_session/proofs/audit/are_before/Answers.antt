use Rattle.std.proofs.Common.{List, rules, ap, sym, subst, ◌∙◌}
use Rattle.std.proofs.lemmas.List.Elements.{All-get_or}
use Rattle.std.specs.Bool.{Decides}
use Rattle.mpd_session.specs.History.{Noted}
use Rattle.mpd_session.specs.Audit.{IsApart, IsRising}
use Rattle.mpd_session.specs.declared.history.Receipt.{Receipt}
use Rattle.mpd_session.proofs.AuditLemmas.{some_fails, one_more, all_hold}
use Rattle.mpd_session.proofs.audit.are_before.Goals as goal

pub is_apart-requires-clause-rising : goal.is_apart-requires-clause-rising
is_apart-requires-clause-rising g c =
    subst IsRising (sym (c.deref.ensures.value ∙ ap (λ (n : Noted). n.receipts) c.log.ensures))
    (subst (λ x. IsRising (g.T.Logged.logged x).receipts) (sym c.kept-item.is)
    (All-get_or (λ x. IsRising (g.T.Logged.logged x).receipts) c.args.logs.now c.loop-kept.kept-index c.kept-item.result c.loop-kept-test.true c.requires.logs))

pub returns-then-not-is_apart : goal.returns-then-not-is_apart
returns-then-not-is_apart g c =
    some_fails (λ x. IsApart (g.T.Logged.logged x).receipts c.args.receipts.now) c.args.logs.now c.loop-kept.kept-index c.kept-item.result c.is_apart.result c.loop-kept-test.true c.kept-item.is
    (subst (λ (rs : List Receipt). Decides c.is_apart.result (IsApart rs c.args.receipts.now)) (c.deref.ensures.value ∙ ap (λ (n : Noted). n.receipts) c.log.ensures) c.is_apart.ensures) (search rules)

pub loop-kept-preserved : goal.loop-kept-preserved
loop-kept-preserved g c =
    one_more (λ x. IsApart (g.T.Logged.logged x).receipts c.args.receipts.now) c.args.logs.now c.loop-kept.kept-index c.kept-item.result c.is_apart.result c.loop-kept-test.true c.kept-item.is
    (subst (λ (rs : List Receipt). Decides c.is_apart.result (IsApart rs c.args.receipts.now)) (c.deref.ensures.value ∙ ap (λ (n : Noted). n.receipts) c.log.ensures) c.is_apart.ensures) (search rules) c.loop-kept.invariant

pub returns : goal.returns
returns g c = all_hold (λ x. IsApart (g.T.Logged.logged x).receipts c.args.receipts.now) c.args.logs.now c.loop-kept.kept-index c.loop-kept-test.false c.loop-kept.invariant
