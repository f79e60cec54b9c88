use Rattle.std.proofs.Common.{◌≡◌, drop}
use Rattle.mpd_console.specs.Again.{all_freed}
use Rattle.mpd_console.proofs.again.free_places.Given as goal

abbrev pub invariant-loop-number : goal.invariant-loop-number
invariant-loop-number l = all_freed l.session l.number (drop l.number l.places) ≡ all_freed l.fn.session 0 l.places
