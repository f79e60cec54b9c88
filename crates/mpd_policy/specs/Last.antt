-- What the last step of a trail hits.
use Rattle.std.specs.Prelude.{ℕ, ◌==◌, if◌then◌else◌, List, Option, Some, None}
use Rattle.mpd_model.specs.declared.breakpoint.Breakpoint.{Breakpoint}
use Rattle.mpd_model.specs.declared.breakpoint.Cause.{Cause}
use Rattle.mpd_model.specs.declared.breakpoint.Cause.TheVariants as for
use Rattle.mpd_model.specs.declared.breakpoint.Stop.{Stop}
use Rattle.mpd_model.specs.runs.Trail.{Trail, forgotten}
use Rattle.mpd_model.specs.runs.Running.{ran_back}

abbrev pub cause_number : Cause → Option ℕ
cause_number (for.Break n) = Some n
cause_number other = None

-- the breakpoint of a run back that undoes one step
abbrev pub hit_by : Stop → Option ℕ
hit_by stop = if stop.steps == 1 then cause_number stop.cause else None

-- the lowest breakpoint that the last step hits, before which a run back would stop at once; what is undone doesn't matter
abbrev pub last_hit : List (Option Breakpoint) → Trail → Option ℕ
last_hit places t = hit_by (ran_back places (forgotten t) (forgotten t).depth)
