use Rattle.std.proofs.Common.{◌≡◌, drop}
use Rattle.mpd_adapter.specs.Marks.{nearest, line_from}
use Rattle.mpd_adapter.proofs.marks.line_from.Given as goal

abbrev pub invariant-loop-line : goal.invariant-loop-line
invariant-loop-line l = nearest l.found (line_from l.from (drop l.line-index l.lines)) ≡ line_from l.from l.lines
