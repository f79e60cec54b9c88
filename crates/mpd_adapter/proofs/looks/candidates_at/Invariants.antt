use Rattle.std.proofs.Common.{◌≡◌, map, take}
use Rattle.mpd_adapter.specs.Looks.{candidate_at}
use Rattle.mpd_adapter.proofs.looks.candidates_at.Given as goal

abbrev pub invariant-loop-number : goal.invariant-loop-number
invariant-loop-number l = l.list.items ≡ map (candidate_at l.core.program l.core.world l.candidates) (take l.number-index l.numbers)
