use Rattle.std.proofs.Common.{◌≡◌, ◌-◌, ◌++◌}
use Rattle.std.specs.List.{flat_map, range_with_len}
use Rattle.mpd_explain.specs.Shown.{pending_to, pending_from}
use Rattle.mpd_explain.proofs.looks.push_pending_from.Given as goal

abbrev pub invariant-loop-receiver : goal.invariant-loop-receiver
invariant-loop-receiver l = l.calls.items ++ flat_map (pending_to l.core.program l.core.world.board l.sender) (range_with_len l.receiver (l.count - l.receiver)) ≡ l.fn.calls.items ++ pending_from l.core.program l.core.world.board l.sender
