use Rattle.std.proofs.Common.{length, ap, arith}
use Rattle.mpd_script.proofs.Places.{tokens_few}
use Rattle.mpd_script.proofs.cursor.Tokens.turns.Goals as goal

pub returns-clause-enough : goal.returns-clause-enough
returns-clause-enough c =
    let s = c.self.inside in
    omega (arith, tokens_few 0 s.place s.line s.ahead.now, ap (λ i. length i.tokens) c.self.view_is)
