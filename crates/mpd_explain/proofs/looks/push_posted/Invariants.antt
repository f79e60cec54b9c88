use Rattle.std.proofs.Common.{◌≡◌, ◌-◌, ◌++◌}
use Rattle.std.specs.List.{flat_map, range_with_len}
use Rattle.mpd_explain.specs.Shown.{posted_at, posted_of}
use Rattle.mpd_explain.proofs.looks.push_posted.Given as goal

abbrev pub invariant-loop-index : goal.invariant-loop-index
invariant-loop-index l = l.calls.items ++ flat_map (posted_at l.core.program l.core.world.board l.rank) (range_with_len l.index (l.count - l.index)) ≡ l.fn.calls.items ++ posted_of l.core.program l.core.world.board l.rank
