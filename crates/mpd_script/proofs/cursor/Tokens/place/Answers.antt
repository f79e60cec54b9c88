use Rattle.std.proofs.Common.{sym, ◌∙◌, ap}
use Rattle.mpd_model.specs.grammar.Input.{place}
use Rattle.mpd_script.proofs.Places.{place_is}
use Rattle.mpd_script.proofs.cursor.Tokens.place.Goals as goal

pub returns : goal.returns
unfolding place
returns c =
    let s = c.self.inside in
    sym (place_is s.place s.line s.ahead.now s.token s.len c.self.invariant.token c.self.invariant.stops c.self.invariant.moves) ∙ ap place c.self.view_is
