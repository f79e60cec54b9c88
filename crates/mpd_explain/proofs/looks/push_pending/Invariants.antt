use Rattle.std.proofs.Common.{◌≡◌, ◌-◌, ◌++◌}
use Rattle.std.specs.List.{flat_map, range_with_len}
use Rattle.mpd_explain.specs.Shown.{pending_at, pending_to}
use Rattle.mpd_explain.proofs.looks.push_pending.Given as goal

abbrev pub invariant-loop-index : goal.invariant-loop-index
invariant-loop-index l = l.calls.items ++ flat_map (pending_at l.core.program l.core.world.board l.sender l.receiver) (range_with_len l.index (l.count - l.index)) ≡ l.fn.calls.items ++ pending_to l.core.program l.core.world.board l.sender l.receiver
