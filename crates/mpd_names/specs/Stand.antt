-- Where ranks stand in a script.
use Rattle.std.specs.Prelude.{ℕ, Bool, false, if◌then◌else◌, List, length, Option, Some, None, slice_get}
use Rattle.std.specs.List.{flat_map, range_with_len}
use Rattle.std.specs.Option.{option_to_list}
use Rattle.mpd_model.specs.declared.call.Activity.{Activity}
use Rattle.mpd_model.specs.declared.call.Activity.TheVariants.{Running, Blocked, Trapped}
use Rattle.mpd_model.specs.script.Program.{Program}
use Rattle.mpd_model.specs.steps.World.{RankWorld, World, Board, call_at, last_call}
use Rattle.mpd_model.specs.steps.Outcomes.{has_ended}
use Rattle.mpd_model.specs.steps.Next.{can_wake}
use Rattle.mpd_names.specs.declared.place.PlacedCall.{PlacedCall}
use Rattle.mpd_names.specs.declared.place.Stands.{Stands}
use Rattle.mpd_names.specs.declared.place.Stands.TheVariants as at
use Rattle.mpd_names.specs.Placed.{issue_line, rank_line, placed_call_of}

abbrev pub ended_by : Option RankWorld → Bool
ended_by None = false
ended_by (Some r) = has_ended r

-- whether a rank is there, and has ended
abbrev pub rank_ended : World → ℕ → Bool
rank_ended w p = ended_by (slice_get w.ranks p)

-- the line of the call that a blocked rank waits in; of another rank that of its next statement, which is the one that trapped it
abbrev pub line_by : List ℕ → Board → ℕ → RankWorld → Activity → ℕ
line_by lines b p r Running = rank_line lines (Some r)
line_by lines b p r Blocked = issue_line lines (call_at b (last_call b p))
line_by lines b p r (Trapped t) = rank_line lines (Some r)

abbrev pub line_at : List ℕ → Board → ℕ → Option RankWorld → Option ℕ
line_at lines b p None = None
line_at lines b p (Some r) = Some (line_by lines b p r r.activity)

-- The line where a rank stands; one that has ended stands at none.
abbrev pub stand : Program → World → ℕ → Option ℕ
stand s w p = if rank_ended w p then None else line_at s.lines w.board p (slice_get w.ranks p)

-- ---- where a rank stands, and whether it can go on

-- a running rank, at a line unless it has ended
abbrev pub running : Bool → ℕ → Stands
running ended line = if ended then at.Ended else at.At line

-- a blocked rank, in a call
abbrev pub blocked : Bool → PlacedCall → Stands
blocked complete call = if complete then at.CanGoOn call else at.Waits call

abbrev pub stands_by : Program → World → ℕ → RankWorld → Activity → Stands
stands_by s w p r Running = running (has_ended r) (rank_line s.lines (Some r))
stands_by s w p r Blocked = blocked (can_wake w p) (placed_call_of s w.board (last_call w.board p))
stands_by s w p r (Trapped t) = at.Trapped (rank_line s.lines (Some r)) t

abbrev pub stands_at : Program → World → ℕ → Option RankWorld → Option Stands
stands_at s w p None = None
stands_at s w p (Some r) = Some (stands_by s w p r r.activity)

-- Where a rank stands, by what it is doing. A rank that isn't there stands nowhere.
abbrev pub stands_of : Program → World → ℕ → Option Stands
stands_of s w p = stands_at s w p (slice_get w.ranks p)

-- the same as a list of one, or of none
abbrev pub stands_if : Program → World → ℕ → List Stands
stands_if s w p = option_to_list (stands_of s w p)

-- where each rank stands, by rank
abbrev pub all_stands : Program → World → List Stands
all_stands s w = flat_map (stands_if s w) (range_with_len 0 (length w.ranks))

-- the line at which a rank stands that stands so
abbrev pub line_of : Stands → Option ℕ
line_of at.Ended = None
line_of (at.At line) = Some line
line_of (at.Waits call) = Some call.line
line_of (at.CanGoOn call) = Some call.line
line_of (at.Trapped line t) = Some line
