use Rattle.std.proofs.Common.{List, rules, ap, sym, subst, take, ◌∙◌}
use Rattle.std.proofs.lemmas.List.Elements.{All-get_or, All-take}
use Rattle.std.specs.Bool.{Decides}
use Rattle.std.specs.List.{All}
use Rattle.mpd_session.specs.History.{Noted}
use Rattle.mpd_session.specs.Audit.{IsApart, IsRising}
use Rattle.mpd_session.specs.declared.history.Receipt.{Receipt}
use Rattle.mpd_session.proofs.AuditLemmas.{pair_fails, pair_more, pairs_hold}
use Rattle.mpd_session.proofs.audit.are_apart.Goals as goal

pub are_before-requires-clause-logs : goal.are_before-requires-clause-logs
are_before-requires-clause-logs g c = All-take (λ x. IsRising (g.T.Logged.logged x).receipts) c.loop-place.place c.args.logs.now c.requires

pub are_before-requires-clause-rising : goal.are_before-requires-clause-rising
are_before-requires-clause-rising g c =
    subst IsRising (sym (c.deref.ensures.value ∙ ap (λ (n : Noted). n.receipts) c.log.ensures))
    (subst (λ x. IsRising (g.T.Logged.logged x).receipts) (sym c.index-logs-place.is)
    (All-get_or (λ x. IsRising (g.T.Logged.logged x).receipts) c.args.logs.now c.loop-place.place c.index-logs-place.result c.loop-place-test.true c.requires))

pub returns-then-not-are_before : goal.returns-then-not-are_before
returns-then-not-are_before g c =
    pair_fails (λ x y. IsApart (g.T.Logged.logged x).receipts (g.T.Logged.logged y).receipts) c.args.logs.now c.loop-place.place c.index-logs-place.result c.are_before.result c.loop-place-test.true c.index-logs-place.is
    (subst (λ (rs : List Receipt). Decides c.are_before.result (All (λ x. IsApart (g.T.Logged.logged x).receipts rs) (take c.loop-place.place c.args.logs.now))) (c.deref.ensures.value ∙ ap (λ (n : Noted). n.receipts) c.log.ensures) c.are_before.ensures)
    (search rules)

pub loop-place-preserved : goal.loop-place-preserved
loop-place-preserved g c =
    pair_more (λ x y. IsApart (g.T.Logged.logged x).receipts (g.T.Logged.logged y).receipts) c.args.logs.now c.loop-place.place c.index-logs-place.result c.are_before.result c.loop-place-test.true c.index-logs-place.is
    (subst (λ (rs : List Receipt). Decides c.are_before.result (All (λ x. IsApart (g.T.Logged.logged x).receipts rs) (take c.loop-place.place c.args.logs.now))) (c.deref.ensures.value ∙ ap (λ (n : Noted). n.receipts) c.log.ensures) c.are_before.ensures)
    (search rules)
    c.loop-place.invariant

pub returns : goal.returns
returns g c = pairs_hold (λ x y. IsApart (g.T.Logged.logged x).receipts (g.T.Logged.logged y).receipts) c.args.logs.now c.loop-place.place c.loop-place-test.false c.loop-place.invariant
