use Rattle.std.proofs.Common.{◌≡◌, ◌++◌, drop, map}
use Rattle.mpd_page.specs.Changes.{printed_entry}
use Rattle.mpd_page.proofs.changes.push_all_printed.Given as goal

abbrev pub invariant-loop-value : goal.invariant-loop-value
invariant-loop-value l = l.out.items ++ map (printed_entry l.rank) (drop l.value-index l.values) ≡ l.fn.out.items ++ map (printed_entry l.rank) l.values
