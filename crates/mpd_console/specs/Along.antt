-- How far words go along the steps ahead, and why no further (docs/CONSOLE.md, "How these words go along steps ahead").
use Rattle.std.specs.Prelude.{ℕ, zero, suc, ◌+◌, ◌-◌, ◌==◌, Bool, false, ◌||◌, if◌then◌else◌, List, length, slice_get, Option, Some, None}
use Rattle.std.specs.List.{filter, range_with_len}
use Rattle.mpd_model.specs.declared.step.Step.{Step}
use Rattle.mpd_model.specs.declared.breakpoint.Breakpoint.{Breakpoint}
use Rattle.mpd_model.specs.steps.World.{World}
use Rattle.mpd_model.specs.steps.Why.{first_in}
use Rattle.mpd_model.specs.runs.Breakpoints.{break_at}
use Rattle.mpd_model.specs.runs.Running.{world_at, hit_at}
use Rattle.mpd_model.specs.runs.Trail.{Trail}
use Rattle.mpd_policy.specs.Single.{only_step}
use Rattle.mpd_runs.specs.LastChoice.{is_open_at, is_hit_at}
use Rattle.mpd_vocabulary.specs.declared.word.Word.{Word}
use Rattle.mpd_vocabulary.specs.declared.word.Word.TheVariants as word
use Rattle.mpd_console.specs.declared.along.Along.{Along}
use Rattle.mpd_console.specs.declared.along.Goal.{Goal}
use Rattle.mpd_console.specs.declared.along.Goal.TheVariants.{Steps, Hit, Freed}
use Rattle.mpd_console.specs.declared.told.Stopped.{Stopped}
use Rattle.mpd_console.specs.declared.told.Stopped.TheVariants as stopped
use Rattle.mpd_console.specs.Onward.{alone, frees}

-- ---- where a move stops: after the first n steps of a trail, of which it began after so many

abbrev pub frees_by : ℕ → Option Step → Bool
frees_by p None = false
frees_by p (Some a) = frees p a

-- whether by the last of so many steps a rank goes on that waited
abbrev pub is_freed_at : ℕ → List Step → ℕ → Bool
is_freed_at p steps n = if n == 0 then false else frees_by p (slice_get steps (n - 1))

-- whether it has come to what was asked for: so many steps, a step that hits a breakpoint, or one by which a rank goes on that waited
abbrev pub is_asked_at : Goal → ℕ → Trail → ℕ → Bool
is_asked_at (Steps count) begun t n = n - begun == count
is_asked_at (Hit b) begun t n = is_hit_at (alone b) t n
is_asked_at (Freed p) begun t n = is_freed_at p t.steps n

-- what goes on by a number of steps stops at a choice, too
abbrev pub is_choice_at : Goal → Trail → ℕ → Bool
is_choice_at (Steps count) t n = is_open_at t n
is_choice_at (Hit b) t n = false
is_choice_at (Freed p) t n = false

-- it stops after a step that hits a breakpoint which is set, and where that is so
abbrev pub halts_at : List (Option Breakpoint) → Goal → ℕ → Trail → ℕ → Bool
halts_at places g begun t n = is_hit_at places t n || (is_asked_at g begun t n || is_choice_at g t n)

-- ---- how far it goes

-- the first of the depths along the steps ahead at which it stops
abbrev pub first_halt : List (Option Breakpoint) → Goal → Trail → Option ℕ
first_halt places g t = first_in (filter (halts_at places g t.depth t) (range_with_len (t.depth + 1) (length t.steps - t.depth)))

abbrev pub or_end : ℕ → Option ℕ → ℕ
or_end n None = n
or_end n (Some m) = m

-- the depth to which it goes: that one, or where the steps ahead end
unfoldable pub end_along : List (Option Breakpoint) → Goal → Trail → ℕ
end_along places g t = or_end (length t.steps) (first_halt places g t)

-- ---- why no further

-- the breakpoint of a number, where there is one
abbrev pub stopped_at : ℕ → Option Breakpoint → Stopped
stopped_at n None = stopped.There
stopped_at n (Some b) = stopped.At (record { number = n; stop = b })

-- why a move made no more steps than it was to make
abbrev pub stopped_asked : Word → Stopped
stopped_asked (word.Until n) = stopped.AtLine n
stopped_asked (word.UntilRank p) = stopped.GoneOn p
stopped_asked (word.Finish p) = stopped.CallOver
stopped_asked other = stopped.AsAsked

-- the breakpoint of the lowest number that the last of the first so many steps hits
abbrev pub hit_behind : List (Option Breakpoint) → Trail → ℕ → Option ℕ
hit_behind places t zero = None
hit_behind places t (suc n) = hit_at places t n

abbrev pub only_at : Option World → Option Step
only_at None = None
only_at (Some w) = only_step w

-- an end and a choice are told by where it stands
abbrev pub stopped_short : Word → Bool → Option Step → Stopped
stopped_short x asked None = stopped.There
stopped_short x asked (Some a) = if asked then stopped_asked x else stopped.AheadEnds

-- given the breakpoint of the lowest number that its last step hits, and why it stops else
abbrev pub stopped_by : List (Option Breakpoint) → Option ℕ → Stopped → Stopped
stopped_by places None otherwise = otherwise
stopped_by places (Some k) otherwise = stopped_at k (break_at places k)

-- of a move that began after so many steps, and stands after n
abbrev pub stopped_along : List (Option Breakpoint) → Word → Goal → ℕ → Trail → ℕ → Stopped
stopped_along places x g begun t n = stopped_by places (hit_behind places t n) (stopped_short x (is_asked_at g begun t n) (only_at (world_at t n)))

-- ---- both

-- how many of the steps ahead a word takes, and why no more
abbrev pub along_of : List (Option Breakpoint) → Word → Goal → Trail → Along
along_of places x g t = record { steps = end_along places g t - t.depth; stopped = stopped_along places x g t.depth t (end_along places g t) }
