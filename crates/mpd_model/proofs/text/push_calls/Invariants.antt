use Rattle.std.proofs.Common.{◌≡◌, ◌++◌, drop, string_bytes}
use Rattle.mpd_model.specs.steps.Outcomes.{ids_of}
use Rattle.mpd_model.specs.texts.Texts.{id_text, spaced}
use Rattle.mpd_model.proofs.text.push_calls.Given as goal

abbrev pub invariant-loop-call : goal.invariant-loop-call
invariant-loop-call l = string_bytes l.out ++ spaced id_text (ids_of (drop l.call-index l.calls)) ≡ string_bytes l.fn.out ++ (l.name ++ spaced id_text (ids_of l.calls))
