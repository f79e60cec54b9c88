use Rattle.std.proofs.Common.{ap, ◌∙◌}
use Rattle.mpd_check.specs.declared.modes.Listed.TheVariants as listed
use Rattle.mpd_check.specs.declared.outcomes.OutcomesFound.{OutcomesFound}
use Rattle.mpd_check.specs.ModeText.{mode_line}
use Rattle.mpd_check.proofs.outcomes.tell_mode.Goals as goal

pub returns : goal.returns
returns c =
    (c.in_ok-outcomes.outcomes, c.in_ok-outcomes.ensures, (λ i. (c.into_bytes-text.ensures.value i).items) ∙ c.in_ok-text.ensures ∙ ap (λ (f : OutcomesFound). mode_line listed.Outcomes c.args.subject.mode f.tally) c.found_in-found.ensures, c.found_in-found.ensures)
