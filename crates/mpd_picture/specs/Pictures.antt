-- A picture of a run: all that is drawn of it (docs/PICTURES.md).
use Rattle.std.specs.Prelude.{◌≡◌, ℕ, nat_le, Bool, List, length}
use Rattle.mpd_model.specs.script.Program.{Program}
use Rattle.mpd_model.specs.steps.World.{World}
use Rattle.mpd_model.specs.steps.Outcomes.{outcome}
use Rattle.mpd_model.specs.runs.Trail.{Trail, done_steps}
use Rattle.mpd_picture.specs.declared.glyph.Glyph.{Glyph}
use Rattle.mpd_picture.specs.declared.picture.Picture.{Picture}
use Rattle.mpd_picture.specs.declared.picture.TheConstants.{GLYPHS_MAX}
use Rattle.mpd_picture.specs.Glyphs.{glyphs_of}
use Rattle.mpd_picture.specs.Marks.{rows_of, marks_of}
use Rattle.mpd_picture.specs.Shapes.{places_of, shapes_of}

abbrev pub few : List Glyph → Bool
few glyphs = nat_le (length glyphs) GLYPHS_MAX

-- what the steps of a trail show that are not undone
abbrev pub trail_glyphs : Trail → List Glyph
trail_glyphs t = glyphs_of t.program t.mode (done_steps t)

-- whether the steps of a trail that are not undone are drawn
abbrev pub is_drawn : Trail → Bool
is_drawn t = few (trail_glyphs t)

-- This is the picture of n steps of a script that show this and lead to this world.
pub record IsPicture (s : Program) (w : World) (n : ℕ) (ms : List Glyph) (p : Picture)
    : Type 0 where
  pub ranks : p.ranks ≡ length w.board.calls
  pub mode : p.mode ≡ w.board.mode
  pub depth : p.depth ≡ n
  pub outcome : p.outcome ≡ outcome w
  pub rows : p.rows ≡ rows_of (marks_of ms)
  pub places : p.places ≡ places_of ms
  pub shapes : p.shapes.items ≡ shapes_of s w (marks_of ms)

-- This is the picture of the steps of a trail that are not undone and lead to this world.
abbrev pub IsPictureOf : Trail → World → Picture → Type 0
IsPictureOf t w p = IsPicture t.program w t.depth (trail_glyphs t) p
