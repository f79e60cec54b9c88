use Rattle.std.proofs.Common.{sym, ◌∙◌, ap}
use Rattle.mpd_model.specs.grammar.Input.{token}
use Rattle.mpd_script.proofs.Places.{token_is}
use Rattle.mpd_script.proofs.cursor.Tokens.peek.Goals as goal

pub returns : goal.returns
unfolding token
returns c =
    let s = c.self.inside in
    sym (token_is s.place s.line s.ahead.now s.token s.len c.self.invariant.token c.self.invariant.stops c.self.invariant.moves) ∙ ap token c.self.view_is
