use Rattle.std.proofs.Common.{◌≡◌, length, slice_get}
use Rattle.mpd_model.specs.texts.Lines.{lines_of}
use Rattle.mpd_names.proofs.source.line_behind.Given as goal

abbrev pub invariant-loop-line : goal.invariant-loop-line
invariant-loop-line l = slice_get (lines_of l.rest) l.left ≡ slice_get (lines_of l.text) l.above

abbrev pub decreases-loop-line : goal.decreases-loop-line
decreases-loop-line l = length l.rest
