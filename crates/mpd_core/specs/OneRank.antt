-- The local step of one rank over a board.
use Rattle.std.specs.Prelude.{◌≡◌, ◌<◌, ℕ, length, Option, Some, None}
use Rattle.std.specs.Option.{option_map}
use Rattle.mpd_model.specs.declared.call.Call.{Call}
use Rattle.mpd_model.specs.script.Program.{Program}
use Rattle.mpd_model.specs.steps.World.{RankWorld, Board, calls_of, partner, last_call}
use Rattle.mpd_model.specs.steps.Next.{Ran, local, with_issued}
use Rattle.mpd_rank.specs.Views.{RankView, rank_of}

-- the rank and the board after what it did
abbrev pub ran_on : Board → ℕ → Ran → RankWorld × Board
ran_on b p done = (done.rank, with_issued b p done.call)

abbrev pub local_on : Program → Board → RankView → Option (RankWorld × Board)
local_on s b v = option_map (ran_on b v.rank) (local v.rank s.ranks (length (calls_of b v.rank)) (rank_of s v))

-- where a call was issued, it is there, and no pair names it
abbrev pub CanUnissueIf : Board → ℕ → Option Call → Type 0
CanUnissueIf b p None = Unit {0}
CanUnissueIf b p (Some call) = (0 < length (calls_of b p)) × (partner b.sets (last_call b p) ≡ None)
