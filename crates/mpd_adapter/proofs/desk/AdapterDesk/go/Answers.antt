use Rattle.std.proofs.Common.{ap, sym, ◌∙◌, subst, ℕ, List}
use Rattle.mpd_core.proofs.RangeLemmas.{if_ok}
use Rattle.mpd_adapter.specs.Says.{Adapter}
use Rattle.mpd_vocabulary.specs.declared.word.Word.{Word}
use Rattle.std.proofs.Common.{◌∷◌, []}
use Rattle.mpd_adapter.proofs.DeskLemmas.{went}
use Rattle.mpd_adapter.proofs.desk.AdapterDesk.go.Goals as goal

pub returns-clause-wrote : goal.returns-clause-wrote
returns-clause-wrote c =
    let d : Adapter = c.args.self.now in
    let e : Adapter = c.say.new.self in
    if_ok c.moved_sheet.result
    (λ s h. went d e.console c.args.asked c.args.message.now c.in_ok-word.word c.deref.result.now s.text.items c.self.inside.number s.number c.session.result.now c.in_ok-word.ensures
    c.in_ok-said.ensures.said
    (ap (λ (x : Adapter). x.number) c.self.view_is ∙ ap (λ (x : Adapter). x.number) c.say.ensures.same) (c.session.ensures ∙ ap (λ (x : Adapter). x.console.session) c.self.view_is) h) c.moved_sheet.ensures
