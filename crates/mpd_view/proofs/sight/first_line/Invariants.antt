use Rattle.std.proofs.Common.{◌≡◌, drop}
use Rattle.mpd_view.specs.Sights.{first_line}
use Rattle.mpd_view.proofs.sight.first_line.Given as goal

abbrev pub invariant-loop-stands : goal.invariant-loop-stands
invariant-loop-stands l = first_line l.only_ready (drop l.stands-index l.ranks) ≡ first_line l.only_ready l.ranks
