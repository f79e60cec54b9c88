use Rattle.std.proofs.Common.{length}
use Rattle.mpd_match.specs.Lines.{kind_in, mark_in, waiting, fitting_either}
use Rattle.mpd_match.proofs.Walks.{Walking, rest}
use Rattle.mpd_match.proofs.side.Side.has_earlier.Given as goal

abbrev pub invariant-walk : goal.invariant-walk
invariant-walk l = Walking (λ i. fitting_either (kind_in l.self.calls i) l.other l.sender l.receiver) l.index (waiting l.self.calls (mark_in l.self.marks) l.line) l.fn.looks l.looks l.here

abbrev pub decreases-walk : goal.decreases-walk
decreases-walk l = length (rest l.here (waiting l.self.calls (mark_in l.self.marks) l.line))
