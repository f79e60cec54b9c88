-- What breakpoints in numbered places hit, told apart: by the state after a step, and by cells and handles before it and after it.
use Rattle.std.specs.Prelude.{◌≡◌, ℕ, ℤ, ◌≤◌, ◌==◌, Bool, true, false, not, if◌then◌else◌, nat_lt, List, length, slice_index_or, Option, Some, None}
use Rattle.std.specs.List.{filter, range_with_len}
use Rattle.std.specs.Ordering.{int_eq}
use Rattle.mpd_model.specs.declared.limits.TheConstants.{BREAKS_MAX}
use Rattle.mpd_model.specs.declared.step.Step.{Step}
use Rattle.mpd_model.specs.declared.breakpoint.Breakpoint.{Breakpoint}
use Rattle.mpd_model.specs.declared.breakpoint.Breakpoint.TheVariants.{Line, Change, Handle, Match, Rank}
use Rattle.mpd_model.specs.script.Program.{Program}
use Rattle.mpd_model.specs.steps.World.{World}
use Rattle.mpd_model.specs.steps.Why.{first_in}
use Rattle.mpd_model.specs.runs.Breakpoints.{break_at, cell_at, handle_at, line_hits, match_hits, rank_hits}
use Rattle.mpd_policy.specs.declared.hits.Watched.{Watched}
use Rattle.mpd_policy.specs.declared.hits.Watched.TheVariants.{Nothing, Value, Call}

-- so many places, of which none from a number on is taken
pub record Uses (places : List (Option Breakpoint)) (used : ℕ) : Type 0 where
  pub size : length places ≡ BREAKS_MAX
  pub within : used ≤ BREAKS_MAX
  pub free : (n : ℕ) → used ≤ n → break_at places n ≡ None

-- a breakpoint of a line, of a match or of a rank
abbrev pub told_by : Program → Option Breakpoint → Step → World → Bool
told_by s (Some (Line line of when)) a w = line_hits s line of when a w
told_by s (Some (Change p c)) a w = false
told_by s (Some (Handle p h)) a w = false
told_by s (Some (Match line of)) a w = match_hits s line of a w
told_by s (Some (Rank p)) a w = rank_hits p a w
told_by s None a w = false

-- what a breakpoint watches: what its cell holds, or the call of its handle
abbrev pub of_value : Option ℤ → Watched
of_value None = Nothing
of_value (Some x) = Value x

abbrev pub of_call : Option ℕ → Watched
of_call None = Nothing
of_call (Some n) = Call n

abbrev pub watched_by : World → Breakpoint → Watched
watched_by w (Line line of when) = Nothing
watched_by w (Change p c) = of_value (cell_at w p c)
watched_by w (Handle p h) = of_call (handle_at w p h)
watched_by w (Match line of) = Nothing
watched_by w (Rank p) = Nothing

abbrev pub watched_at : World → Option Breakpoint → Watched
watched_at w None = Nothing
watched_at w (Some b) = watched_by w b

abbrev pub same_watched : Watched → Watched → Bool
same_watched Nothing Nothing = true
same_watched Nothing (Value y) = false
same_watched Nothing (Call n) = false
same_watched (Value x) Nothing = false
same_watched (Value x) (Value y) = int_eq x y
same_watched (Value x) (Call n) = false
same_watched (Call m) Nothing = false
same_watched (Call m) (Value y) = false
same_watched (Call m) (Call n) = m == n

-- whether that is another than it was
abbrev pub changed_by : Watched → Option Breakpoint → World → Bool
changed_by value None w = false
changed_by value (Some b) w = not (same_watched value (watched_by w b))

abbrev pub lowest_told : Program → List (Option Breakpoint) → Step → World → Option ℕ
lowest_told s places a w = first_in (filter (λ n. told_by s (break_at places n) a w) (range_with_len 0 (length places)))

abbrev pub lowest_changed : List (Option Breakpoint) → List Watched → World → Option ℕ
lowest_changed places values w = first_in (filter (λ n. changed_by (slice_index_or values n Nothing) (break_at places n) w) (range_with_len 0 (length places)))

-- the lower of two numbers, where there are some
abbrev pub lower : Option ℕ → Option ℕ → Option ℕ
lower None other = other
lower (Some m) None = Some m
lower (Some m) (Some n) = if nat_lt n m then Some n else Some m
