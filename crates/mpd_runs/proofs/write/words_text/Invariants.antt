use Rattle.std.proofs.Common.{◌≡◌, ◌++◌, drop, string_bytes}
use Rattle.std.specs.List.{flat_map}
use Rattle.mpd_runs.specs.Written.{word_line, words_text}
use Rattle.mpd_runs.proofs.write.words_text.Given as goal

abbrev pub invariant-loop-step : goal.invariant-loop-step
invariant-loop-step l = string_bytes l.out ++ flat_map word_line (drop l.step-index l.steps) ≡ words_text l.steps
