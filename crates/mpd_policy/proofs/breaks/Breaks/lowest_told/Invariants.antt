use Rattle.std.proofs.Common.{◌≡◌, ◌-◌}
use Rattle.mpd_model.specs.declared.limits.TheConstants.{BREAKS_MAX}
use Rattle.mpd_model.specs.runs.Breakpoints.{break_at}
use Rattle.mpd_policy.specs.Places.{told_by, lowest_told}
use Rattle.mpd_policy.proofs.NumberLemmas.{number_from}
use Rattle.mpd_policy.proofs.breaks.Breaks.lowest_told.Given as goal

abbrev pub invariant-loop-number : goal.invariant-loop-number
invariant-loop-number l = number_from (λ n. told_by l.core.program (break_at l.self n) l.step l.core.world) l.number (BREAKS_MAX - l.number) ≡ lowest_told l.core.program l.self l.step l.core.world
