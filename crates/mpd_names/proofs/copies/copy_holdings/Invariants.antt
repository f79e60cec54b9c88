use Rattle.std.proofs.Common.{◌≡◌, take}
use Rattle.mpd_names.proofs.copies.copy_holdings.Given as goal

abbrev pub invariant-loop-holding : goal.invariant-loop-holding
invariant-loop-holding l = l.items.items ≡ take l.holding-index l.holdings
