use Rattle.std.proofs.Common.{◌≡◌, map, take}
use Rattle.mpd_session.specs.Looks.{holding_of}
use Rattle.mpd_session.proofs.places.holdings.Given as goal

abbrev pub invariant-loop-rank : goal.invariant-loop-rank
invariant-loop-rank l = l.items.items ≡ map holding_of (take l.rank l.core.world.ranks)
