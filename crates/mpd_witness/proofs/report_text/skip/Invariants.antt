use Rattle.std.proofs.Common.{◌≡◌, drop}
use Rattle.mpd_witness.proofs.report_text.skip.Given as goal

abbrev pub invariant-loop-turn : goal.invariant-loop-turn
invariant-loop-turn l = l.lines ≡ drop l.turn l.fn.lines
