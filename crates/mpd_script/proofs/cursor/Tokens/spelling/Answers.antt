use Rattle.std.proofs.Common.{sym, ◌∙◌, ap}
use Rattle.mpd_model.specs.grammar.Input.{spelling}
use Rattle.mpd_script.proofs.Places.{text_is}
use Rattle.mpd_script.proofs.cursor.Tokens.spelling.Goals as goal

pub returns-clause-value : goal.returns-clause-value
unfolding spelling
returns-clause-value c =
    let s = c.self.inside in
    c.split_at.ensures.front ∙ sym (text_is s.place s.line s.ahead.now s.token s.len c.self.invariant.token c.self.invariant.stops c.self.invariant.moves) ∙ ap spelling c.self.view_is
