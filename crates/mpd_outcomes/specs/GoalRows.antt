-- Rows of the ends for which a search stops, worked by hand.
use Rattle.std.specs.Prelude.{◌≡◌, ◌-◌, Bool, true, false, List, [], ◌∷◌, map, length, take, Some, None, refl}
use Rattle.std.specs.List.{list_any}
use Rattle.mpd_model.specs.declared.outcome.Outcome.TheVariants as outcome_is
use Rattle.mpd_policy.specs.declared.ending.Ending.{Ending}
use Rattle.mpd_policy.specs.declared.ending.Ending.TheVariants.{Ended, Cut}
use Rattle.mpd_explore.specs.declared.report.SearchLeaf.{SearchLeaf}
use Rattle.mpd_outcomes.specs.declared.report.Goal.{Goal}
use Rattle.mpd_outcomes.specs.declared.report.Goal.TheVariants as goal_is
use Rattle.mpd_outcomes.specs.Goals.{meets, meets_any, ends_at}

-- done, done with messages left over, a deadlock, a trap, and a run that is cut
abbrev endings : List Ending
endings = Ended outcome_is.Done ∷ Ended (outcome_is.Leftovers []) ∷ Ended (outcome_is.Deadlock []) ∷ Ended (outcome_is.Trap []) ∷ Cut ∷ []

pub row_meets : map {B = List Bool} (λ (g : Goal). map {B = Bool} (meets g) endings) (goal_is.Deadlock ∷ goal_is.Trap ∷ goal_is.Bad ∷ goal_is.Well ∷ [])
    ≡ (false ∷ false ∷ true ∷ false ∷ false ∷ [])
    ∷ (false ∷ false ∷ false ∷ true ∷ false ∷ [])
    ∷ (false ∷ false ∷ true ∷ true ∷ false ∷ [])
    ∷ (true ∷ true ∷ false ∷ false ∷ false ∷ [])
    ∷ []
row_meets = refl

-- no leaf; one that is done; a deadlock after it; and one before it
abbrev done : SearchLeaf
done = record { choices = 0 ∷ []; ending = Ended outcome_is.Done }

abbrev stuck : SearchLeaf
stuck = record { choices = 1 ∷ []; ending = Ended (outcome_is.Deadlock []) }

abbrev lists : List (List SearchLeaf)
lists = [] ∷ (done ∷ []) ∷ (done ∷ stuck ∷ []) ∷ (stuck ∷ done ∷ []) ∷ []

-- whether the last one is a deadlock, and whether one before it is
pub row_last : map {B = Bool} (ends_at (Some goal_is.Deadlock)) lists ≡ false ∷ false ∷ true ∷ false ∷ []
row_last = refl

pub row_before : map {B = Bool} (λ (ls : List SearchLeaf). list_any (meets_any (Some goal_is.Deadlock)) (take (length ls - 1) ls)) lists ≡ false ∷ false ∷ false ∷ true ∷ []
row_before = refl

-- without a goal none meets it
pub row_none : map {B = Bool} (ends_at None) lists ≡ false ∷ false ∷ false ∷ false ∷ []
row_none = refl
