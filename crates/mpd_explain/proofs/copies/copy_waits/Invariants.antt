use Rattle.std.proofs.Common.{◌≡◌, take}
use Rattle.mpd_explain.proofs.copies.copy_waits.Given as goal

abbrev pub invariant-loop-wait : goal.invariant-loop-wait
invariant-loop-wait l = l.items.items ≡ take l.wait-index l.waits
