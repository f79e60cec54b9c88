use Rattle.std.proofs.Common.{◌≡◌, length}
use Rattle.mpd_names.specs.Marks.{comment_of}
use Rattle.mpd_names.proofs.mark.comment_of.Given as goal

abbrev pub invariant-loop-byte : goal.invariant-loop-byte
invariant-loop-byte l = comment_of l.rest ≡ comment_of l.line

abbrev pub decreases-loop-byte : goal.decreases-loop-byte
decreases-loop-byte l = length l.rest
