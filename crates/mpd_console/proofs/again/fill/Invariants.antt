use Rattle.std.proofs.Common.{◌≡◌, drop}
use Rattle.mpd_console.specs.Again.{filled}
use Rattle.mpd_console.proofs.again.fill.Given as goal

abbrev pub invariant-loop-place : goal.invariant-loop-place
invariant-loop-place l = filled l.session (drop l.place-index l.places) ≡ filled l.fn.session l.places
