use Rattle.std.proofs.Common.{◌≡◌, ◌-◌, ◌++◌}
use Rattle.std.specs.List.{flat_map, range_with_len}
use Rattle.mpd_explain.specs.Shown.{pending_from, pending_calls}
use Rattle.mpd_explain.proofs.looks.pending_calls.Given as goal

abbrev pub invariant-loop-sender : goal.invariant-loop-sender
invariant-loop-sender l = l.items.items ++ flat_map (pending_from l.core.program l.core.world.board) (range_with_len l.sender (l.count - l.sender)) ≡ pending_calls l.core.program l.core.world.board
