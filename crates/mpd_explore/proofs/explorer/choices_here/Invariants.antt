use Rattle.std.proofs.Common.{◌≡◌, take, reverse}
use Rattle.mpd_explore.specs.Search.{picked}
use Rattle.mpd_explore.proofs.explorer.choices_here.Given as goal

abbrev pub invariant-loop-open : goal.invariant-loop-open
invariant-loop-open l = l.items.items ≡ picked (reverse (take l.open-index l.stack))
