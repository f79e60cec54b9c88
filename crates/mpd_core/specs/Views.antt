-- What a core shows to contracts, part by part, and what it keeps at all times.
use Rattle.std.specs.Prelude.{◌≡◌, ◌<◌, ◌≤◌, ℕ, ◌+◌, min, List, [], ◌∷◌, map, length, refl}
use Rattle.std.specs.List.{range_with_len}
use Rattle.std.specs.Coded.{Coded, code_by, coded×, coded_ℕ}
use Rattle.mpd_model.specs.declared.limits.TheConstants.{RANKS_MAX, TAGS}
use Rattle.mpd_model.specs.declared.call.Activity.{Activity}
use Rattle.mpd_model.specs.declared.call.Message.{Message}
use Rattle.mpd_model.specs.script.Program.{Program, program_code}
use Rattle.mpd_model.specs.declared.step.CallId.{CallId}
use Rattle.mpd_model.specs.steps.World.{RankWorld, World, Board, kind_at, world_code}
use Rattle.mpd_rank.specs.Plans.{HasTag}
use Rattle.mpd_rank.specs.Views.{RankView, rank_of}

-- the ranks of the world of a program
abbrev pub ranks_in : Program → List RankView → List RankWorld
ranks_in s views = map (rank_of s) views

abbrev pub world_in : Program → List RankView → Board → World
world_in s views b = record { ranks = ranks_in s views; board = b }

-- which ranks they are
abbrev pub numbers_in : List RankView → List ℕ
numbers_in views = map (λ v. v.rank) views

-- for how many steps, whatever they are, room is kept: the board has it, and each rank
abbrev pub room_in : ℕ → List RankView → ℕ
room_in board_room [] = board_room
room_in board_room (v ∷ views) = min v.room (room_in board_room views)

-- how many writes the tapes of all ranks have counted
abbrev pub writes_in : List RankView → ℕ
writes_in [] = 0
writes_in (v ∷ views) = v.writes + writes_in views

-- what a rank shows once it does something else at its node, which takes one write
abbrev pub acting : Activity → RankView → RankView
acting a v = record v { activity = a; writes = v.writes + 1 }

-- all sends of a board have tags
abbrev pub HasTags : Board → Type 0
HasTags b = (c : CallId) → HasTag (kind_at b c)

-- the ranks know their numbers, and the board has the calls of each
pub record Holds (s : Program) (views : List RankView) (b : Board) : Type 0 where
  pub few : length views ≤ RANKS_MAX
  pub numbers : numbers_in views ≡ range_with_len 0 s.ranks
  pub calls : length b.calls ≡ s.ranks
  pub tags : HasTags b

-- the numbers of a message: of a rank, and a tag
abbrev pub IsMessage : Message → Type 0
IsMessage m = (m.source < RANKS_MAX) × (m.tag < TAGS)

pub record CoreView : Type 0 where
  pub program : Program
  pub world : World
  -- for how many steps, whatever they are, room is kept
  pub room : ℕ
  -- how many writes all tapes and lists have counted, and how many looks the matches took
  pub writes : ℕ
  pub looks : ℕ

abbrev pub core_view_code : Coded CoreView
core_view_code =
    code_by (Program × (World × (ℕ × (ℕ × ℕ)))) (coded× program_code (coded× world_code (coded× coded_ℕ (coded× coded_ℕ coded_ℕ))))
    (λ v. (v.program, (v.world, (v.room, (v.writes, v.looks))))) (λ q. record { program = q.0; world = q.1.0; room = q.1.1.0; writes = q.1.1.1.0; looks = q.1.1.1.1 }) (λ _. refl)
