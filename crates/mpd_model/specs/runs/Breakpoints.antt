-- Breakpoints: which steps hit them, and their places.
use Rattle.std.specs.Prelude.{ℕ, ℤ, Bool, true, false, not, ◌&&◌, ◌||◌, ◌==◌, List, length, replicate, slice_get, slice_index_or, Option, Some, None, option_and_then, is_none}
use Rattle.std.specs.Ordering.{int_eq}
use Rattle.std.specs.Option.{option_map}
use Rattle.std.specs.List.{filter, list_any, range_with_len}
use Rattle.mpd_model.specs.declared.limits.TheConstants.{BREAKS_MAX}
use Rattle.mpd_model.specs.declared.call.Activity.{Activity}
use Rattle.mpd_model.specs.declared.call.Activity.TheVariants.{Running, Blocked, Trapped}
use Rattle.mpd_model.specs.declared.step.CallId.{CallId}
use Rattle.mpd_model.specs.declared.step.Step.{Step}
use Rattle.mpd_model.specs.declared.step.Step.TheVariants.{Local, Match, Wake, WakeAny, Release}
use Rattle.mpd_model.specs.declared.breakpoint.Condition.{Condition}
use Rattle.mpd_model.specs.declared.breakpoint.Breakpoint.{Breakpoint}
use Rattle.mpd_model.specs.declared.breakpoint.Breakpoint.TheVariants as on
use Rattle.mpd_model.specs.script.Program.{Program}
use Rattle.mpd_model.specs.steps.World.{RankWorld, World, Board, rank_numbers, call_at}
use Rattle.mpd_model.specs.steps.Next.{is_blocked}
use Rattle.mpd_model.specs.steps.Outcomes.{first_number}
use Rattle.mpd_model.specs.steps.Why.{first_in}
use Rattle.mpd_model.specs.runs.Comparisons.{holds}

-- ---- what hits a breakpoint

-- whether a statement is there, and stands on a line
abbrev pub is_number : Option ℕ → ℕ → Bool
is_number None n = false
is_number (Some m) n = m == n

abbrev pub on_line : Program → ℕ → Option ℕ → Bool
on_line s line number = is_number (option_and_then (slice_get s.lines) number) line

abbrev pub is_running : Activity → Bool
is_running Running = true
is_running Blocked = false
is_running (Trapped t) = false

-- a rank that runs, with its next statement on a line
abbrev pub comes_to : Program → ℕ → RankWorld → Bool
comes_to s line r = is_running r.activity && on_line s line (first_number r.rest)

abbrev pub comes_at : Program → ℕ → Option RankWorld → Bool
comes_at s line None = false
comes_at s line (Some r) = comes_to s line r

-- what a cell of a rank holds, where there is one
abbrev pub held_at : Option RankWorld → ℕ → Option ℤ
held_at None c = None
held_at (Some r) c = slice_get r.vars c

abbrev pub cell_at : World → ℕ → ℕ → Option ℤ
cell_at w p c = held_at (slice_get w.ranks p) c

abbrev pub same_value : Option ℤ → Option ℤ → Bool
same_value None None = true
same_value None (Some y) = false
same_value (Some x) None = false
same_value (Some x) (Some y) = int_eq x y

-- the call that a handle of a rank holds, if any; none where there is no such handle
abbrev pub call_held : Option RankWorld → ℕ → Option ℕ
call_held None h = None
call_held (Some r) h = slice_index_or r.handles h None

abbrev pub handle_at : World → ℕ → ℕ → Option ℕ
handle_at w p h = call_held (slice_get w.ranks p) h

abbrev pub same_number : Option ℕ → Option ℕ → Bool
same_number None None = true
same_number None (Some n) = false
same_number (Some m) None = false
same_number (Some m) (Some n) = m == n

-- a call that a statement of a line has issued
abbrev pub issued_on : Program → ℕ → Board → CallId → Bool
issued_on s line b c = on_line s line (option_map (λ call. call.statement) (call_at b c))

-- a rank is the one that is meant, where one is
abbrev pub is_meant : Option ℕ → ℕ → Bool
is_meant None p = true
is_meant (Some own) p = own == p

-- a comparison of a value that is there
abbrev pub value_holds : Condition → Option ℤ → Bool
value_holds c None = false
value_holds c (Some x) = holds c.comparison x c.value

-- what must hold of a cell of a rank, where something must
abbrev pub condition_holds : Option Condition → World → ℕ → Bool
condition_holds None w p = true
condition_holds (Some c) w p = value_holds c (cell_at w p c.cell)

-- a rank that is meant comes to a line, and what must hold there holds
abbrev pub arrives : Program → ℕ → Option ℕ → Option Condition → World → ℕ → Bool
arrives s line of when w p = comes_at s line (slice_get w.ranks p) && (is_meant of p && condition_holds when w p)

abbrev pub some_arrives : Program → ℕ → Option ℕ → Option Condition → World → Bool
some_arrives s line of when w = list_any (arrives s line of when w) (rank_numbers w.board)

-- a line is hit by a local step or a wake, by a waitany or not, after which its rank arrives there, and by a release after which some rank does
abbrev pub line_hits : Program → ℕ → Option ℕ → Option Condition → Step → World → Bool
line_hits s line of when (Local p) new = arrives s line of when new p
line_hits s line of when (Wake p) new = arrives s line of when new p
line_hits s line of when (WakeAny p i) new = arrives s line of when new p
line_hits s line of when Release new = some_arrives s line of when new
line_hits s line of when a new = false

-- a call of a rank that is meant, which a statement of a line has issued
abbrev pub issued_by : Program → ℕ → Option ℕ → Board → CallId → Bool
issued_by s line of b c = is_meant of c.rank && issued_on s line b c

-- a match of such a call
abbrev pub match_hits : Program → ℕ → Option ℕ → Step → World → Bool
match_hits s line of (Match u v) new = issued_by s line of new.board u || issued_by s line of new.board v
match_hits s line of a new = false

-- a step that is a rank's own, or a release, which lets all ranks go on
abbrev pub is_step_of : ℕ → Step → Bool
is_step_of p (Local own) = own == p
is_step_of p (Wake own) = own == p
is_step_of p (WakeAny own i) = own == p
is_step_of p Release = true
is_step_of p a = false

-- a rank that is there, and isn't blocked
abbrev pub is_unblocked : Option RankWorld → Bool
is_unblocked None = false
is_unblocked (Some r) = not (is_blocked r.activity)

-- a rank is hit by such a step after which it isn't blocked
abbrev pub rank_hits : ℕ → Step → World → Bool
rank_hits p a new = is_step_of p a && is_unblocked (slice_get new.ranks p)

-- whether a breakpoint is hit by the step that led from one world to the next
abbrev pub is_hit : Program → Breakpoint → World → Step → World → Bool
is_hit s (on.Line line of when) old a new = line_hits s line of when a new
is_hit s (on.Change p c) old a new = not (same_value (cell_at old p c) (cell_at new p c))
is_hit s (on.Handle p h) old a new = not (same_number (handle_at old p h) (handle_at new p h))
is_hit s (on.Match line of) old a new = match_hits s line of a new
is_hit s (on.Rank p) old a new = rank_hits p a new

-- ---- numbered places, each for a breakpoint

abbrev pub no_breaks : List (Option Breakpoint)
no_breaks = replicate BREAKS_MAX None

abbrev pub break_at : List (Option Breakpoint) → ℕ → Option Breakpoint
break_at places n = slice_index_or places n None

-- the lowest number whose place is free
abbrev pub lowest_free : List (Option Breakpoint) → Option ℕ
lowest_free places = first_in (filter (λ n. is_none (break_at places n)) (range_with_len 0 (length places)))

abbrev pub hit_by : Program → Option Breakpoint → World → Step → World → Bool
hit_by s None old a new = false
hit_by s (Some b) old a new = is_hit s b old a new

-- the lowest breakpoint that a step hits
abbrev pub lowest_hit : Program → List (Option Breakpoint) → World → Step → World → Option ℕ
lowest_hit s places old a new = first_in (filter (λ n. hit_by s (break_at places n) old a new) (range_with_len 0 (length places)))
