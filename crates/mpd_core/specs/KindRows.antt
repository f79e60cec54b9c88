-- How many looks and writes each kind of step takes. A step that joins joins the list below.
use Rattle.std.specs.Prelude.{◌≡◌, ℕ, pos, true, false, map, List, [], ◌∷◌, Some, None, refl}
use Rattle.mpd_model.specs.declared.call.CallKind.TheVariants.{Send, Recv}
use Rattle.mpd_model.specs.declared.call.Mode.TheVariants.{Rendezvous}
use Rattle.mpd_model.specs.declared.step.Step.{Step}
use Rattle.mpd_model.specs.declared.step.Step.TheVariants.{Local, Match, Wake, WakeAny, Release}
use Rattle.mpd_model.specs.steps.World.{Board, call_id}
use Rattle.mpd_core.specs.Looks.{step_looks, most_looks}
use Rattle.mpd_core.specs.Writes.{most_writes}

abbrev steps : List Step
steps = Local 0 ∷ Match (call_id 0 0) (call_id 1 0) ∷ Wake 0 ∷ WakeAny 0 1 ∷ Release ∷ []

-- rank 0 has sent, and rank 1 receives from any source
abbrev meeting : Board
meeting = record {
  mode = Rendezvous;
  calls = (record { statement = 0; kind = Send (record { to = 1; tag = 2; value = pos 3; synchronous = false; blocks = true; buffered = false }) } ∷ [])
      ∷ (record { statement = 1; kind = Recv (record { from = None; tag = None; cell = 4; status = None; blocks = true }) } ∷ []) ∷ [];
  sets = [];
}

pub row_looks : map {B = ℕ} (step_looks meeting) steps ≡ 0 ∷ 2 ∷ 0 ∷ 0 ∷ 0 ∷ []
row_looks = refl

pub row_most_looks : map {B = ℕ} (most_looks meeting) steps ≡ 0 ∷ 4 ∷ 0 ∷ 0 ∷ 0 ∷ []
row_most_looks = refl

-- of two ranks
pub row_most_writes : map {B = ℕ} (most_writes 2) steps ≡ 16 ∷ 16 ∷ 16 ∷ 16 ∷ 20 ∷ []
row_most_writes = refl
