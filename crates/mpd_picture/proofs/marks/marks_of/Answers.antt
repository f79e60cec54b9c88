use Rattle.mpd_picture.proofs.MarkLemmas.{marks_more}
use Rattle.mpd_picture.proofs.marks.marks_of.Goals as goal

pub loop-glyph-preserved : goal.loop-glyph-preserved
loop-glyph-preserved c = record {
  marks = marks_more c.args.glyphs.now c.loop-glyph.glyph-index _ c.loop-glyph.list.items _ _ c.loop-glyph-test.true c.loop-glyph.invariant.marks c.in_ok-add_mark.ensures.marks;
  rows = c.in_ok-add_mark.ensures.rows;
}
