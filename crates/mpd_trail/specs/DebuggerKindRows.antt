-- With which records that of each kind of step stands. A step that joins joins the list below.
use Rattle.std.specs.Prelude.{◌≡◌, ℕ, map, List, [], ◌∷◌, Option, Some, None, refl}
use Rattle.mpd_model.specs.declared.step.Step.{Step}
use Rattle.mpd_model.specs.declared.step.Step.TheVariants.{Local, Match, Wake, WakeAny, Release}
use Rattle.mpd_model.specs.steps.World.{call_id}
use Rattle.mpd_trail.specs.Kept.{local_rank}

abbrev steps : List Step
steps = Local 3 ∷ Match (call_id 0 0) (call_id 1 0) ∷ Wake 3 ∷ WakeAny 3 1 ∷ Release ∷ []

pub row_local_rank : map {B = Option ℕ} local_rank steps ≡ Some 3 ∷ None ∷ None ∷ None ∷ None ∷ []
row_local_rank = refl
