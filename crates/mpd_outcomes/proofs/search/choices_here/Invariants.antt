use Rattle.std.proofs.Common.{◌≡◌, take, reverse}
use Rattle.mpd_outcomes.specs.Front.{picked}
use Rattle.mpd_outcomes.proofs.search.choices_here.Given as goal

abbrev pub invariant-loop-open : goal.invariant-loop-open
invariant-loop-open l = l.items.items ≡ picked (reverse (take l.open-index l.stack))
