use Rattle.std.proofs.Common.{◌≡◌, map, take}
use Rattle.mpd_adapter.specs.Looks.{target_id, candidate_number}
use Rattle.mpd_adapter.proofs.looks.targets_of.Given as goal

abbrev pub invariant-loop-candidate : goal.invariant-loop-candidate
invariant-loop-candidate l = map target_id l.list.items ≡ map candidate_number (take l.candidate-index l.candidates)
