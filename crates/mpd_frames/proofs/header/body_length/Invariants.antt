use Rattle.std.proofs.Common.{◌≡◌, length}
use Rattle.mpd_frames.specs.Header.{lines, length_of}
use Rattle.mpd_frames.specs.Scanning.{taken}
use Rattle.mpd_frames.proofs.header.body_length.Given as goal

abbrev pub invariant-loop-line : goal.invariant-loop-line
invariant-loop-line l = taken l.found (lines l.rest) ≡ length_of l.header

abbrev pub decreases-loop-line : goal.decreases-loop-line
decreases-loop-line l = length l.rest
