use Rattle.std.proofs.Common.{◌≡◌, ◌-◌, get_or}
use Rattle.mpd_model.specs.declared.limits.TheConstants.{BREAKS_MAX}
use Rattle.mpd_model.specs.runs.Breakpoints.{break_at}
use Rattle.mpd_policy.specs.declared.hits.Watched.TheVariants.{Nothing}
use Rattle.mpd_policy.specs.Places.{changed_by, lowest_changed}
use Rattle.mpd_policy.proofs.NumberLemmas.{number_from}
use Rattle.mpd_policy.proofs.breaks.Breaks.lowest_changed.Given as goal

abbrev pub invariant-loop-number : goal.invariant-loop-number
invariant-loop-number l = number_from (λ n. changed_by (get_or l.values n Nothing) (break_at l.self n) l.core.world) l.number (BREAKS_MAX - l.number) ≡ lowest_changed l.self l.values l.core.world
