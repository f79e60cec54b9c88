use Rattle.std.proofs.Common.{◌≡◌, ◌+◌, ◌≤◌, count_by, drop}
use Rattle.mpd_picture.specs.Shapes.{has_row}
use Rattle.mpd_picture.proofs.shapes.places_of.Given as goal

abbrev pub invariant-loop-glyph : goal.invariant-loop-glyph
invariant-loop-glyph l = record {
  sum : l.places + count_by has_row (drop l.glyph-index l.glyphs) ≡ count_by has_row l.glyphs;
  few : l.places ≤ l.glyph-index;
}
