use Rattle.std.proofs.Common.{◌∙◌, ap}
use Rattle.mpd_model.specs.grammar.Input.{advanced}
use Rattle.mpd_script.proofs.Places.{advanced_is}
use Rattle.mpd_script.proofs.cursor.Tokens.advance.Goals as goal

pub returns-clause-value : goal.returns-clause-value
unfolding advanced
returns-clause-value c =
    let s = c.self.inside in
    let a = advanced_is s.place s.line s.ahead.now c.split_at.result.1.now c.split_at-2.result.1.now s.token s.len c.blank_len-gap.result.0 c.blank_len-gap.result.1
    c.self.invariant.token c.self.invariant.stops c.self.invariant.moves c.self.invariant.within
    c.split_at.ensures.back c.split_at-2.ensures.back c.blank_len-gap.ensures.within.0 c.blank_len-gap.ensures.same in
    (λ i. record { tokens = a.0 i; end = a.1 i; version = s.version; decls = s.decls.items; lines = s.lines.items; budget = s.budget })
    ∙ ap advanced c.self.view_is
