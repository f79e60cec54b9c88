use Rattle.std.proofs.Common.{◌≡◌, ap, sym, ◌∙◌, subst, IfOk}
use Rattle.mpd_session.specs.Held.{Held}
use Rattle.mpd_adapter.specs.Says as spec
use Rattle.mpd_adapter.proofs.DeskLemmas.{version_told, never_refused}
use Rattle.mpd_adapter.proofs.desk.AdapterDesk.version.Goals.{in-Done, in-Refused}
use Rattle.mpd_adapter.proofs.desk.AdapterDesk.version.Goals as goal

-- src/desk.rt:303:5
pub returns-clause-version : goal.returns-clause-version
returns-clause-version c =
    let trail = c.debugger.ensures ∙ ap (λ (x : Held). x.trail) c.session.ensures in
    let held = ap (λ (x : spec.Adapter). x.console.session.version) c.self.view_is in
    elim c.match-branch-2.branch [
      | in-Done w ↦
          subst (λ r. IfOk r (λ version. version ≡ c.args.self.now.console.session.version)) (sym w.result-is)
          (version_told c.self.inside.console.session c.debugger.result.now w.in-Done.version w.in-Done.answer c.state_is_reached.ensures.reached trail (sym w.in-Done.is ∙ c.in_ok-version.ensures.reply) ∙ held)
      | in-Refused w ↦
          subst (λ r. IfOk r (λ version. version ≡ c.args.self.now.console.session.version)) (sym w.result-is)
          (never_refused c.self.inside.console.session c.debugger.result.now w.in-Refused.field-0 c.state_is_reached.ensures.reached trail (sym w.in-Refused.is ∙ c.in_ok-version.ensures.reply) ∙ held)
    ]
