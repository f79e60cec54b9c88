use Rattle.std.proofs.Common.{◌≡◌, take}
use Rattle.mpd_explain.proofs.copies.copy_traps.Given as goal

abbrev pub invariant-loop-place : goal.invariant-loop-place
invariant-loop-place l = l.items.items ≡ take l.place-index l.places
