-- What a call that takes the local step of a rank comes to, by its result. It is one relation for that rank alone and for all ranks.
use Rattle.std.specs.Prelude.{◌≡◌, ◌↔◌, ℕ, min, List, Option, Some, None, Result, IfOk, OnOk, OnErr, IsErrOf}
use Rattle.mpd_model.specs.declared.step.Step.TheVariants.{Local}
use Rattle.mpd_model.specs.script.Program.{Program}
use Rattle.mpd_model.specs.steps.World.{RankWorld, Board}
use Rattle.mpd_model.specs.steps.Next.{next, update_at}
use Rattle.mpd_match.specs.Views.{BoardView}
use Rattle.mpd_rank.specs.Views.{RankView, rank_of}
use Rattle.mpd_rank.specs.Undone.{LocalDone, undone_rank}
use Rattle.mpd_rank.specs.Records.{local_record}
use Rattle.mpd_core.specs.declared.fault.StepFault.{StepFault}
use Rattle.mpd_core.specs.declared.fault.StepFault.TheVariants.{NotEnabled, Memory}
use Rattle.mpd_core.specs.Views.{ranks_in, world_in, room_in}
use Rattle.mpd_core.specs.OneRank.{local_on}
use Rattle.mpd_core.specs.Records.{local_record_at}
use Rattle.mpd_core.specs.Undone.{unissued, CanUnissue}

-- The rank p steps, from r and the board b to q and the board c: to where the definition goes, with the record that the definition
-- has for the step, which takes it back; or not, exactly where the definition goes nowhere, or for want of room.
pub record Stepped {W R : Type 0} (goes : Option W) (there : W) (entry : Option LocalDone) (undo : R → LocalDone → R) (p : ℕ) (r q : R) (b c : Board) (room : ℕ) (result : Result LocalDone StepFault) : Type 0 where
  pub ok : OnOk result (goes ≡ Some there)
  pub recorded : IfOk result (λ done. entry ≡ Some done)
  pub back : IfOk result (λ done. undo q done ≡ r)
  pub board_back : IfOk result (λ done. unissued c p done.change ≡ b)
  pub can : IfOk result (λ done. CanUnissue c p done.change)
  pub not_enabled : IsErrOf result NotEnabled ↔ (goes ≡ None)
  pub memory : IsErrOf result Memory → room ≡ 0
  pub err : OnErr result (q ≡ r)
  pub err_board : OnErr result (c ≡ b)

-- a rank v and the board b, which are w and c after the call
abbrev pub RankStepped : Program → RankView → BoardView → RankView → BoardView → Result LocalDone StepFault → Type 0
RankStepped s v b w c result =
    Stepped (local_on s b.board v) (rank_of s w, c.board) (local_record v.rank s.ranks (rank_of s v)) (undone_rank s) v.rank (rank_of s v) (rank_of s w) b.board c.board (min v.room b.room) result

abbrev pub undone_at : Program → ℕ → List RankWorld → LocalDone → List RankWorld
undone_at s p ranks done = update_at ranks p (λ r. undone_rank s r done)

-- all ranks vs and the board b, which are ws and c after the call
abbrev pub RanksStepped : Program → ℕ → List RankView → BoardView → List RankView → BoardView → Result LocalDone StepFault → Type 0
RanksStepped s p vs b ws c result =
    Stepped (next (world_in s vs b.board) (Local p)) (world_in s ws c.board) (local_record_at (ranks_in s vs) p) (undone_at s p) p (ranks_in s vs) (ranks_in s ws) b.board c.board (room_in b.room vs) result
