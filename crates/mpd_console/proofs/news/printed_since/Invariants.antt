use Rattle.std.proofs.Common.{◌≡◌, ◌-◌, ◌++◌, get_or, slice_get}
use Rattle.std.specs.List.{flat_map, range_with_len}
use Rattle.mpd_console.specs.News.{printed_of, printed_since}
use Rattle.mpd_console.proofs.news.printed_since.Given as goal

abbrev pub invariant-loop-rank : goal.invariant-loop-rank
invariant-loop-rank l =
    l.list.items ++ flat_map (λ p. printed_of p (get_or l.counts p 0) (slice_get l.core.world.ranks p)) (range_with_len l.rank (l.ranks - l.rank)) ≡ printed_since l.counts l.core.world
