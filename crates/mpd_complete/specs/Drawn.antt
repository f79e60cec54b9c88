-- What a diagnosis says of pictures.
use Rattle.std.specs.Prelude.{◌≡◌, ◌≤◌, true, List, length}
use Rattle.mpd_model.specs.declared.call.Mode.{Mode}
use Rattle.mpd_model.specs.declared.limits.TheConstants.{RANKS_MAX}
use Rattle.mpd_model.specs.declared.step.Step.{Step}
use Rattle.mpd_model.specs.script.Program.{Program}
use Rattle.mpd_diagnose.specs.Verdicts.{is_drawn}
use Rattle.mpd_picture.specs.Glyphs.{glyphs_of}
use Rattle.mpd_picture.specs.Pictures.{few}

-- A run of which a diagnosis names a picture shows few enough glyphs to be drawn, in any mode and
-- of any script with as many ranks as a script may have.
abbrev pub DrawnRunsAreFew : Type 0
DrawnRunsAreFew = (s : Program) (mode : Mode) (steps : List Step) → s.ranks ≤ RANKS_MAX → is_drawn (length steps) ≡ true → few (glyphs_of s mode steps) ≡ true
