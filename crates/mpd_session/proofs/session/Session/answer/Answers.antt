use Rattle.std.proofs.Common.{rules, ◌≡◌, ◌∙◌, ap, true, List, Option}
use Rattle.mpd_model.specs.declared.breakpoint.Breakpoint.{Breakpoint}
use Rattle.mpd_session.specs.Held.{Held}
use Rattle.mpd_session.specs.Respond.{respond, is_current}
use Rattle.mpd_session.proofs.AnswerLemmas.{current_0, current_1}
use Rattle.mpd_session.proofs.session.Session.answer.Goals as goal

pub returns-clause-reply : goal.returns-clause-reply
returns-clause-reply c =
    let now : is_current c.self.inside.version c.args.request.now.at ≡ true = search rules in
    current_0 c.self.inside.debugger.trail c.deref_mut.result.now c.self.inside.version c.self.inside.debugger.world c.args.request.now c.state_is_reached.ensures.reached now
    c.in_ok-effect.effect c.reply_with.result c.in_ok-effect.ensures.effect (c.reply_with.ensures c.self.inside.version c.count.ensures)
    ∙ ap (λ (places : List (Option Breakpoint)). (respond (record { trail = c.self.inside.debugger.trail; breaks = places; version = c.self.inside.version }) c.args.request.now).0) c.deref_mut.ensures.value
    ∙ ap (λ (s : Held). (respond s c.args.request.now).0) c.self.view_is

pub returns-clause-held : goal.returns-clause-held
returns-clause-held c =
    let now : is_current c.self.inside.version c.args.request.now.at ≡ true = search rules in
    current_1 c.self.inside.debugger.trail c.deref_mut.result.now c.self.inside.version c.self.inside.debugger.world c.args.request.now c.state_is_reached.ensures.reached now
    c.in_ok-effect.effect c.carry_out.new.debugger.trail c.carry_out.new.breaks c.count.new.version c.in_ok-effect.ensures.effect c.in_ok-effect.ensures.trail c.in_ok-effect.ensures.breaks c.count.ensures
    ∙ ap (λ (places : List (Option Breakpoint)). (respond (record { trail = c.self.inside.debugger.trail; breaks = places; version = c.self.inside.version }) c.args.request.now).1) c.deref_mut.ensures.value
    ∙ ap (λ (s : Held). (respond s c.args.request.now).1) c.self.view_is
