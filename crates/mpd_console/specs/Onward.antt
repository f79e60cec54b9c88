-- How far `until` and `finish` go on, and `back rank` goes back (docs/CONSOLE.md, "Words that move").
use Rattle.std.specs.Prelude.{ℕ, zero, suc, ◌+◌, ◌-◌, ◌==◌, Bool, true, false, ◌&&◌, nat_le, nat_lt, if◌then◌else◌, List, length, drop, slice_get, slice_set, Option, Some, None, option_and_then}
use Rattle.std.specs.List.{list_any, position}
use Rattle.mpd_model.specs.declared.limits.TheConstants.{STEPS_MAX}
use Rattle.mpd_session.specs.declared.limits.TheConstants.{LINES_MAX}
use Rattle.mpd_model.specs.declared.step.Step.{Step}
use Rattle.mpd_model.specs.declared.step.Step.TheVariants.{Local, Match, Wake, WakeAny, Release}
use Rattle.mpd_model.specs.declared.breakpoint.Breakpoint.{Breakpoint}
use Rattle.mpd_model.specs.declared.breakpoint.Breakpoint.TheVariants as on
use Rattle.mpd_model.specs.declared.breakpoint.Cause.{Cause}
use Rattle.mpd_model.specs.declared.breakpoint.Cause.TheVariants as for
use Rattle.mpd_model.specs.declared.breakpoint.Stop.{Stop}
use Rattle.mpd_model.specs.steps.World.{World}
use Rattle.mpd_model.specs.runs.Breakpoints.{no_breaks}
use Rattle.mpd_model.specs.runs.Running.{all_applied, stop_of}
use Rattle.mpd_model.specs.runs.Trail.{Trail, forgotten}
use Rattle.mpd_policy.specs.Single.{ran_on}
use Rattle.mpd_console.specs.declared.along.Goal.{Goal}
use Rattle.mpd_console.specs.declared.along.Goal.TheVariants as goal

-- ---- up to where a breakpoint would stop, as one of a line

-- the lines that a breakpoint may be on
abbrev pub is_line : ℕ → Bool
is_line n = nat_le 1 n && nat_le n LINES_MAX

-- whether a statement begins at a line, given the line of each
abbrev pub begins : List ℕ → ℕ → Bool
begins lines n = list_any (λ l. l == n) lines

-- a breakpoint on a line, of any rank, and whatever holds there
abbrev pub on_line : ℕ → Breakpoint
on_line n = on.Line n None None

-- a breakpoint, and no other
abbrev pub alone : Breakpoint → List (Option Breakpoint)
alone b = slice_set no_breaks 0 (Some b)

-- as many steps as a run made that stopped for a breakpoint; else as many as there can be
abbrev pub steps_for : ℕ → Cause → ℕ
steps_for n (for.Break k) = n
steps_for n other = STEPS_MAX

abbrev pub steps_by : Stop → ℕ
steps_by s = steps_for s.steps s.cause

-- how many steps a run takes to where one hits a breakpoint
unfoldable pub steps_to : Trail → World → Breakpoint → ℕ
steps_to t w b = steps_by (stop_of (ran_on t.program (alone b) STEPS_MAX t.depth w))

-- ---- up to the end of a call

-- whether by a step a rank goes on that waited
abbrev pub frees : ℕ → Step → Bool
frees p (Wake q) = q == p
frees p (WakeAny q i) = q == p
frees p Release = true
frees p other = false

-- as many steps as there are up to this place, with it
abbrev pub steps_with : Option ℕ → ℕ
steps_with None = STEPS_MAX
steps_with (Some place) = place + 1

-- the trail of a run on that stops at no breakpoint
abbrev pub ran_free : Trail → World → Trail
ran_free t w = all_applied (forgotten t) (ran_on t.program no_breaks STEPS_MAX t.depth w).steps

-- how many steps a run takes to where a rank goes on that waits
unfoldable pub steps_to_wake : Trail → World → ℕ → ℕ
steps_to_wake t w p = steps_with (position (frees p) (drop t.depth (ran_free t w).steps))

-- ---- up to either

-- how many steps a run takes at most to what it goes on to
abbrev pub steps_on : Trail → World → Goal → ℕ
steps_on t w (goal.Steps n) = n
steps_on t w (goal.Hit b) = steps_to t w b
steps_on t w (goal.Freed p) = steps_to_wake t w p

-- ---- of a rank

-- one that is there
abbrev pub is_rank : World → ℕ → Bool
is_rank w p = nat_lt p (length w.ranks)

-- ---- back to before the last local step of a rank

abbrev pub is_local_of : ℕ → Step → Bool
is_local_of p (Local q) = q == p
is_local_of p other = false

abbrev pub is_local_at : ℕ → Option Step → Bool
is_local_at p None = false
is_local_at p (Some a) = is_local_of p a

-- the greatest depth below this one that such a step leads away from; 0 where there is none
abbrev pub depth_before : ℕ → List Step → ℕ → ℕ
depth_before p steps zero = 0
depth_before p steps (suc n) = if is_local_at p (slice_get steps n) then n else depth_before p steps n

-- ---- whose call

-- the rank of a step: of a match that of its receive; a release is of all ranks
abbrev pub rank_of : Step → Option ℕ
rank_of (Local p) = Some p
rank_of (Match c d) = Some d.rank
rank_of (Wake p) = Some p
rank_of (WakeAny p i) = Some p
rank_of Release = None

-- that of the last of so many steps
abbrev pub rank_behind : List Step → ℕ → Option ℕ
rank_behind steps n = if n == 0 then None else option_and_then rank_of (slice_get steps (n - 1))

-- the rank that is named, or that of the last step
abbrev pub finish_rank : Trail → Option ℕ → Option ℕ
finish_rank t None = rank_behind t.steps t.depth
finish_rank t (Some p) = Some p
