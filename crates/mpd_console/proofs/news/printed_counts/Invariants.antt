use Rattle.std.proofs.Common.{◌≡◌, ◌-◌, [], ◌∷◌, ◌++◌, slice_get}
use Rattle.std.specs.List.{flat_map, range_with_len}
use Rattle.mpd_console.specs.News.{printed_count, printed_counts}
use Rattle.mpd_console.proofs.news.printed_counts.Given as goal

abbrev pub invariant-loop-rank : goal.invariant-loop-rank
invariant-loop-rank l =
    l.counts.items ++ flat_map (λ p. printed_count (slice_get l.core.world.ranks p) ∷ []) (range_with_len l.rank (l.ranks - l.rank)) ≡ printed_counts l.core.world
