use Rattle.std.proofs.Common.{◌≡◌, sym, ap, ◌∙◌, true, false, Option}
use Rattle.mpd_model.specs.declared.call.CallKind.{CallKind}
use Rattle.mpd_model.specs.steps.World.{kind_at, fits, fitting}
use Rattle.mpd_match.proofs.Holders.{no_entry, one_entry, entry_some}
use Rattle.mpd_match.proofs.Gathered.{refused_with}
use Rattle.mpd_match.proofs.board.Board.push_partner.Goals as goal

pub returns-then-not-is_fitting-clause-ok : goal.returns-then-not-is_fitting-clause-ok
returns-then-not-is_fitting-clause-ok c =
    let b = c.args.self.now.board in
    let fit : fits b c.args.send c.args.recv ≡ false =
    ap (λ (k : Option CallKind). fitting k (kind_at b c.args.recv) c.args.send.rank c.args.recv.rank) (sym c.kind.ensures)
    ∙ ap (λ (k : Option CallKind). fitting c.kind.result k c.args.send.rank c.args.recv.rank) (sym c.kind-2.ensures)
    ∙ sym c.is_fitting.ensures
    ∙ c.if-not-is_fitting.true in
    no_entry b c.args.partner c.args.send c.args.recv _ fit

pub returns-in_err-push-clause-missing : goal.returns-in_err-push-clause-missing
returns-in_err-push-clause-missing c =
    let b = c.args.self.now.board in
    let fit : fits b c.args.send c.args.recv ≡ true =
    ap (λ (k : Option CallKind). fitting k (kind_at b c.args.recv) c.args.send.rank c.args.recv.rank) (sym c.kind.ensures)
    ∙ ap (λ (k : Option CallKind). fitting c.kind.result k c.args.send.rank c.args.recv.rank) (sym c.kind-2.ensures)
    ∙ sym c.is_fitting.ensures
    ∙ c.if-not-is_fitting.false in
    refused_with _ (entry_some b c.args.partner c.args.send c.args.recv fit)

pub returns-clause-ok : goal.returns-clause-ok
returns-clause-ok c =
    let b = c.args.self.now.board in
    let fit : fits b c.args.send c.args.recv ≡ true =
    ap (λ (k : Option CallKind). fitting k (kind_at b c.args.recv) c.args.send.rank c.args.recv.rank) (sym c.kind.ensures)
    ∙ ap (λ (k : Option CallKind). fitting c.kind.result k c.args.send.rank c.args.recv.rank) (sym c.kind-2.ensures)
    ∙ sym c.is_fitting.ensures
    ∙ c.if-not-is_fitting.false in
    one_entry b c.args.partner c.args.send c.args.recv c.holder.result _ _ fit c.holder.ensures c.in_ok-push.ensures.items
