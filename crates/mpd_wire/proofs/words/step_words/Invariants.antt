use Rattle.std.proofs.Common.{◌≡◌, length}
use Rattle.mpd_wire.proofs.words.step_words.Given as goal

abbrev pub invariant-loop-step : goal.invariant-loop-step
invariant-loop-step l = length l.items.items ≡ l.step-index
