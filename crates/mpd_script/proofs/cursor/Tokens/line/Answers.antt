use Rattle.std.proofs.Common.{◌≡◌, ◌<◌, length, sym, ◌∙◌, ap, arith}
use Rattle.std.proofs.lemmas.Grind.{common_steps}
use Rattle.mpd_model.specs.grammar.Input.{first_line}
use Rattle.mpd_script.proofs.Places.{line_is, line_none}
use Rattle.mpd_script.proofs.cursor.Tokens.line.Goals as goal

pub returns-then-is_empty : goal.returns-then-is_empty
returns-then-is_empty c =
    let s = c.self.inside in
    let none : length s.ahead.now ≡ 0 = grind (arith, common_steps) in
    sym (line_none s.place s.line s.ahead.now none) ∙ ap (λ i. first_line i.tokens) c.self.view_is

pub returns-else-is_empty : goal.returns-else-is_empty
returns-else-is_empty c =
    let s = c.self.inside in
    let some : 0 < length s.ahead.now = grind (arith, common_steps) in
    sym (line_is s.place s.line s.ahead.now s.token s.len c.self.invariant.token c.self.invariant.stops c.self.invariant.moves some) ∙ ap (λ i. first_line i.tokens) c.self.view_is
