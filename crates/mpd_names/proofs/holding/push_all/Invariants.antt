use Rattle.std.proofs.Common.{◌≡◌, ◌-◌, ◌++◌, slice_get, true, ℕ}
use Rattle.std.specs.List.{flat_map, range_with_len}
use Rattle.mpd_names.specs.Held.{holding_if, holdings_if}
use Rattle.mpd_names.proofs.holding.push_all.Given as goal

abbrev pub invariant-loop-number : goal.invariant-loop-number
invariant-loop-number l =
    let r = slice_get l.core.world.ranks l.rank in
    l.holdings.items ++ flat_map (λ i. holding_if l.core.program r true i) (range_with_len l.number (l.count - l.number)) ≡ l.fn.holdings.items ++ holdings_if l.core.program r (λ (d : ℕ). true)
