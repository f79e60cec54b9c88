-- What a side and a board are to their callers.
use Rattle.std.specs.Prelude.{ℕ, min, List, [], ◌∷◌, map, Option, slice_index_or, sum_by}
use Rattle.mpd_model.specs.declared.step.CallId.{CallId}
use Rattle.mpd_model.specs.declared.call.Call.{Call}
use Rattle.mpd_model.specs.declared.call.Mode.{Mode}
use Rattle.mpd_model.specs.declared.call.MatchSet.{MatchSet}
use Rattle.mpd_model.specs.steps.World.{Board}

-- the calls of one rank, the partner of each, how many lines there are, for how many calls room is kept, and how many
-- writes there were
pub record SideView : Type 0 where
  pub calls : List Call
  pub marks : List (Option CallId)
  pub lines : ℕ
  pub room : ℕ
  pub writes : ℕ

-- a board, for how many changes of any kind room is kept, and how many writes there were
pub record BoardView : Type 0 where
  pub board : Board
  pub room : ℕ
  pub writes : ℕ

-- ---- all sides

abbrev pub no_side : SideView
no_side = record { calls = []; marks = []; lines = 0; room = 0; writes = 0 }

-- the side of that rank, an empty one where there is none
abbrev pub side_at : List SideView → ℕ → SideView
side_at sides p = slice_index_or sides p no_side

abbrev pub calls_in : List SideView → List (List Call)
calls_in sides = map (λ v. v.calls) sides

abbrev pub lines_in : List SideView → List ℕ
lines_in sides = map (λ v. v.lines) sides

abbrev pub writes_in : List SideView → ℕ
writes_in sides = sum_by (λ (v : SideView). v.writes) sides

-- as many match sets may be added, and each rank has room for a call of its own
abbrev pub room_in : ℕ → List SideView → ℕ
room_in set_room [] = set_room
room_in set_room (v ∷ sides) = min v.room (room_in set_room sides)

abbrev pub board_in : Mode → List SideView → List MatchSet → Board
board_in mode sides sets = record { mode = mode; calls = calls_in sides; sets = sets }
