use Rattle.std.proofs.Common.{◌≡◌, ◌≤◌, ◌-◌, ◌++◌, length}
use Rattle.std.specs.List.{flat_map, range_with_len}
use Rattle.mpd_core.proofs.EnabledLemmas.{any_wakes_at, any_wakes}
use Rattle.mpd_core.proofs.state.Core.push_any_wakes.Given as goal

abbrev pub invariant-loop-rank : goal.invariant-loop-rank
invariant-loop-rank l = record {
  given : l.out.items ++ flat_map (any_wakes_at l.self.world) (range_with_len l.rank (l.count - l.rank)) ≡ l.fn.out.items ++ any_wakes l.self.world;
  grows : length l.fn.out.items ≤ length l.out.items;
}
