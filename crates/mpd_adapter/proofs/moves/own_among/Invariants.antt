use Rattle.std.proofs.Common.{◌≡◌, ◌-◌, ◌++◌}
use Rattle.std.specs.List.{flat_map, range_with_len}
use Rattle.mpd_adapter.specs.Moves.{own_at, own_among}
use Rattle.mpd_adapter.proofs.moves.own_among.Given as goal

abbrev pub invariant-loop-place : goal.invariant-loop-place
invariant-loop-place l = l.numbers.items ++ flat_map (own_at l.rank l.candidates) (range_with_len l.place (l.count - l.place)) ≡ own_among l.rank l.candidates
