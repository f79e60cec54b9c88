use Rattle.std.proofs.Common.{◌<◌, ◌++◌, ◌∷◌, [], length}
use Rattle.mpd_model.specs.texts.Lines.{bare}
use Rattle.mpd_lines.proofs.BareLaws.{long_bare}
use Rattle.mpd_lines.proofs.feeder.Feeder.end_line.Goals as goal

pub returns-then-self : goal.returns-then-self
returns-then-self g c =
    let lt : 4097 < length c.args.self.now = rw (← c.self.view_is) (c.self.invariant.1 c.if-self.true) in
    c.refuse_long.ensures (bare (c.args.self.now ++ 10 ∷ [])) (long_bare c.args.self.now lt)
