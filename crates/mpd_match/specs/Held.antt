-- What sides and boards keep at all times.
use Rattle.std.specs.Prelude.{◌≡◌, ℕ, suc, ◌<◌, ◌≤◌, Option, Some, List, length, replicate}
use Rattle.mpd_model.specs.declared.step.CallId.{CallId}
use Rattle.mpd_model.specs.declared.call.Call.{Call}
use Rattle.mpd_model.specs.declared.limits.TheConstants.{RANKS_MAX}
use Rattle.mpd_model.specs.steps.World.{Board, kind_at, partner}
use Rattle.mpd_queue.specs.InOrder.{list_at}
use Rattle.mpd_match.specs.Views.{SideView, lines_in}
use Rattle.mpd_match.specs.Lines.{line_of, kind_in, mark_in, waiting, mark_at}
use Rattle.mpd_match.specs.Pairs.{Paired}
use Rattle.mpd_match.specs.Slots.{Counted}

-- the lists of a side are its lines
pub record InLine (calls : List Call) (marks : List (Option CallId)) (lists : List (List ℕ)) (room : ℕ) : Type 0 where
  pub same : length marks ≡ length calls
  pub few : length lists ≤ suc RANKS_MAX
  pub cells : length calls ≤ room
  pub within : (i line : ℕ) → line_of (kind_in calls i) ≡ Some line → line < length lists
  pub lines : (line : ℕ) → line < length lists → list_at lists line ≡ waiting calls (mark_in marks) line

-- the marks of all sides are the partners in the match sets
pub record Meets (b : Board) (sides : List SideView) : Type 0 where
  pub few : length sides ≤ RANKS_MAX
  pub lines : lines_in sides ≡ replicate (length sides) (suc (length sides))
  pub marks : (c : CallId) → mark_at sides c ≡ partner b.sets c
  pub paired : Paired (kind_at b) b.sets

-- what a board keeps
pub record Kept (b : Board) (sides : List SideView) (slots : List ℕ) : Type 0 where
  pub meets : Meets b sides
  pub counted : Counted b slots
