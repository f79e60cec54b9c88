-- The last choice that was made, among two candidates or more, and the last place at which a run would have stopped.
use Rattle.std.specs.Prelude.{ℕ, zero, suc, Bool, false, ◌||◌, nat_lt, if◌then◌else◌, Option, Some, None, is_some, List, length}
use Rattle.mpd_model.specs.declared.breakpoint.Breakpoint.{Breakpoint}
use Rattle.mpd_model.specs.declared.decision.Decision.{Decision}
use Rattle.mpd_model.specs.declared.decision.Decision.TheVariants.{Forced, Choice, Leaf}
use Rattle.mpd_model.specs.steps.World.{World}
use Rattle.mpd_model.specs.runs.Decisions.{decision}
use Rattle.mpd_model.specs.runs.Trail.{Trail}
use Rattle.mpd_model.specs.runs.Running.{world_at, hit_at}

-- whether somebody has to choose: a single candidate is no choice
abbrev pub is_choice : Decision → Bool
is_choice (Forced a) = false
is_choice (Choice steps) = nat_lt 1 (length steps)
is_choice (Leaf o) = false

-- whether a choice is open in a world
abbrev pub is_open : Option World → Bool
is_open None = false
is_open (Some w) = is_choice (decision w)

-- whether it is, after the first so many steps of a trail
abbrev pub is_open_at : Trail → ℕ → Bool
is_open_at t n = is_open (world_at t n)

-- The greatest number below this one that passes a test, where there is one.
abbrev pub greatest_below : (ℕ → Bool) → ℕ → Option ℕ
greatest_below test zero = None
greatest_below test (suc n) = if test n then Some n else greatest_below test n

-- The greatest depth below this one after which a choice is open, where there is one.
abbrev pub last_choice : Trail → Option ℕ
last_choice t = greatest_below (is_open_at t) t.depth

-- ---- the last place at which a run would have stopped

-- whether the last of the first so many steps hits a breakpoint
abbrev pub is_hit_at : List (Option Breakpoint) → Trail → ℕ → Bool
is_hit_at places t zero = false
is_hit_at places t (suc n) = is_some (hit_at places t n)

-- whether a run would have stopped after the first so many steps: they end in a step that hits a breakpoint, or a choice is open after them
abbrev pub stops_at : List (Option Breakpoint) → Trail → ℕ → Bool
stops_at places t n = is_hit_at places t n || is_open_at t n

-- The greatest depth below this one at which a run would have stopped, where there is one.
abbrev pub last_stop : List (Option Breakpoint) → Trail → Option ℕ
last_stop places t = greatest_below (stops_at places t) t.depth

-- whether one would stop here, given the breakpoint that the last step hits
abbrev pub stops_by : Option ℕ → Decision → Bool
stops_by hit d = is_some hit || is_choice d
