-- A local step of one rank is one of all ranks.
use Rattle.std.proofs.Common.{◌≡◌, ℕ, ◌<◌, List, Result, Ok, Err, OnErr, length, get_or, set, subst}
use Rattle.mpd_model.specs.script.Program.{Program}
use Rattle.mpd_match.specs.Views.{BoardView}
use Rattle.mpd_rank.specs.Views.{RankView}
use Rattle.mpd_rank.specs.Undone.{LocalDone, undone_rank}
use Rattle.mpd_core.specs.declared.fault.StepFault.{StepFault}
use Rattle.mpd_core.specs.Views.{Holds}
use Rattle.mpd_core.specs.Undone.{unissued, CanUnissue}
use Rattle.mpd_core.specs.Stepped.{RankStepped, RanksStepped}
use Rattle.mpd_core.proofs.RangeLemmas.{on_ok, if_ok}
use Rattle.mpd_core.proofs.RankLemmas.{rank_is, next_some, next_none, none_on, recorded_ok, put_back_read, stays_read}
use Rattle.mpd_core.proofs.RoomLemmas.{no_room_with}

on_err : {T E : Type 0} {P Q : Type 0} (r : Result T E) → (P → Q) → OnErr r P → OnErr r Q
on_err (Ok x) f p = tt
on_err (Err e) f p = f p

-- the step of the rank that was read is the step of the rank there
pub ranks_stepped : (s : Program) (vs : List RankView) (n p : ℕ) (v w : RankView) (b c : BoardView) (result : Result LocalDone StepFault) → n ≡ length vs → p < n → v ≡ get_or vs p v → Holds s vs b.board
    → RankStepped s v b w c result → RanksStepped s p vs b (set vs p w) c result
ranks_stepped s vs n p v w b c result e h read held step =
    let same : v.rank ≡ p = rank_is s vs b.board n p v e h read held in
    record {
      ok = on_ok result (next_some s vs n p v w b.board c.board e h read held.numbers) step.ok;
      recorded = recorded_ok s vs n p v result e h read held.numbers step.recorded;
      back = if_ok result (λ (done : LocalDone) is. put_back_read s vs n p v w (λ r. undone_rank s r done) e h read is) step.back;
      board_back = if_ok result (λ (done : LocalDone) is. subst (λ q. unissued c.board q done.change ≡ b.board) same is) step.board_back;
      can = if_ok result (λ (done : LocalDone) is. subst (λ q. CanUnissue c.board q done.change) same is) step.can;
      not_enabled = (λ is. next_none s vs n p v b.board e h read held.numbers (step.not_enabled.0 is), λ none. step.not_enabled.1 (none_on s vs n p v b.board e h read held.numbers none));
      memory = λ is. no_room_with vs n p b.room v e h read (step.memory is);
      err = on_err result (stays_read s vs n p v w e h read) step.err;
      err_board = step.err_board;
    }
