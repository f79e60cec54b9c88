use Rattle.std.proofs.Common.{◌≡◌, ◌∷◌, ◌++◌, drop, string_bytes}
use Rattle.std.specs.Fmt.{decimal}
use Rattle.std.specs.List.{flat_map}
use Rattle.mpd_explore.specs.ReportText.{choices_text}
use Rattle.mpd_explore.proofs.print.push_choices.Given as goal

abbrev pub invariant-loop-choice : goal.invariant-loop-choice
invariant-loop-choice l = string_bytes l.out ++ flat_map (λ d. 32 ∷ decimal d) (drop l.choice-index l.rest) ≡ string_bytes l.fn.out ++ choices_text l.fn.choices
