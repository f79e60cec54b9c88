use Rattle.std.proofs.Common.{◌≡◌, List, length, refl, ap, sym, subst, ◌∙◌}
use Rattle.mpd_session.specs.declared.history.Entry.{Entry}
use Rattle.mpd_session.specs.History.{Kept}
use Rattle.mpd_session.specs.Audit.{Agrees, receipts_in}
use Rattle.mpd_session.proofs.AuditLemmas.{agreed}
use Rattle.mpd_session.proofs.CountLemmas.{each_has}
use Rattle.mpd_session.proofs.book.Book.audit.Goals as goal

pub returns-then-agrees-clause-ok : goal.returns-then-agrees-clause-ok
returns-then-agrees-clause-ok g c = (
  λ e. agreed g.T.Logged.logged c.deref.result.now c.args.self.now.history c.args.logs.now c.len.result c.has_count.result c.agrees.result (c.deref.ensures.value ∙ ap (λ (k : Kept). k.history) c.self.view_is) (c.deref.ensures.len ∙ sym c.len.ensures) c.has_count.ensures c.if-not-has_count.false c.agrees.ensures c.if-agrees.true,
  λ h. refl,
)

pub returns-then-agrees-clause-each : goal.returns-then-agrees-clause-each
returns-then-agrees-clause-each g c =
    let both : (receipts_in g.T.Logged.logged c.args.logs.now ≡ length c.args.self.now.history) × Agrees g.T.Logged.logged c.args.self.now.history c.args.logs.now = agreed g.T.Logged.logged c.deref.result.now c.args.self.now.history c.args.logs.now c.len.result c.has_count.result c.agrees.result (c.deref.ensures.value ∙ ap (λ (k : Kept). k.history) c.self.view_is) (c.deref.ensures.len ∙ sym c.len.ensures) c.has_count.ensures c.if-not-has_count.false c.agrees.ensures c.if-agrees.true in
    each_has g.T.Logged.logged c.args.self.now.history c.args.logs.now both.0 both.1

pub returns-else-agrees-clause-ok : goal.returns-else-agrees-clause-ok
returns-else-agrees-clause-ok g c =
    let same : c.deref.result.now ≡ c.args.self.now.history = c.deref.ensures.value ∙ ap (λ (k : Kept). k.history) c.self.view_is in
    (λ e. cc, λ h. sym c.if-agrees.false ∙ c.agrees.ensures.1 (subst (λ (es : List Entry). Agrees g.T.Logged.logged es c.args.logs.now) (sym same) h.1))
