use Rattle.std.proofs.Common.{◌≡◌, [], drop}
use Rattle.mpd_picture.specs.Marks.{marks_from}
use Rattle.mpd_picture.specs.MarkTable.{IsTable}
use Rattle.mpd_picture.proofs.marks.marks_of.Given as goal

abbrev pub invariant-loop-glyph : goal.invariant-loop-glyph
invariant-loop-glyph l = record {
  marks : marks_from l.list.items (drop l.glyph-index l.glyphs) ≡ marks_from [] l.glyphs;
  rows : IsTable l.rows l.list.items;
}
