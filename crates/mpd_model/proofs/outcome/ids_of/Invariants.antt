use Rattle.std.proofs.Common.{◌≡◌, ◌++◌, drop}
use Rattle.mpd_model.specs.steps.Outcomes.{ids_of}
use Rattle.mpd_model.proofs.outcome.ids_of.Given as goal

abbrev pub invariant-loop-call : goal.invariant-loop-call
invariant-loop-call l = l.ids.items ++ ids_of (drop l.call-index l.calls) ≡ ids_of l.calls
