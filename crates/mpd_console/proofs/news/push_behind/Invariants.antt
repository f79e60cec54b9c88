use Rattle.std.proofs.Common.{◌≡◌, ◌++◌, drop, map}
use Rattle.mpd_console.specs.News.{printed_value}
use Rattle.mpd_console.proofs.news.push_behind.Given as goal

abbrev pub invariant-loop-value : goal.invariant-loop-value
invariant-loop-value l = l.list.items ++ map (printed_value l.rank) (drop l.value-index l.behind) ≡ l.fn.list.items ++ map (printed_value l.rank) l.behind
