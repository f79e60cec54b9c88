-- What the list of enabled steps and the outcome of a world mean, without a list.
use Rattle.std.specs.Prelude.{◌≡◌, ◌≢◌, ◌↔◌, ◌≤◌, true, List, [], ◌∷◌, length, is_some, Some, None, IsSome, refl}
use Rattle.std.specs.List.{Contains, AllPairs}
use Rattle.mpd_model.specs.declared.call.Activity.TheVariants.{Running}
use Rattle.mpd_model.specs.declared.call.Mode.{Mode}
use Rattle.mpd_model.specs.declared.call.Mode.TheVariants.{Rendezvous}
use Rattle.mpd_model.specs.declared.stmt.Simple.TheVariants as st
use Rattle.mpd_model.specs.declared.step.Step.{Step}
use Rattle.mpd_model.specs.declared.step.Step.TheVariants.{Local}
use Rattle.mpd_model.specs.steps.Next.{next, fold, enabled}
use Rattle.mpd_model.specs.steps.Outcomes.{ending, outcome}
use Rattle.mpd_model.specs.script.Program.{Program}
use Rattle.mpd_model.specs.script.Tree.{simple}
use Rattle.mpd_model.specs.steps.World.{World, start, start_board}

-- No rank is without a list of calls. The list of enabled steps goes by the lists of calls, so the steps of a rank without one would not be in it.
abbrev pub HasCalls : World → Type 0
HasCalls w = length w.ranks ≤ length w.board.calls

-- The rank of this world runs and has a statement left, so its step leads on; but it has no list of calls, and its step is not listed.
abbrev rank_without_calls : World
rank_without_calls = record {
  ranks = record { rest = (0, simple st.Barrier) ∷ []; vars = []; handles = []; out = []; activity = Running } ∷ [];
  board = start_board 0 Rendezvous;
}

pub row_leads_on : is_some (next rank_without_calls (Local 0)) ≡ true
row_leads_on = refl

pub row_unlisted : enabled rank_without_calls ≡ []
row_unlisted = refl

-- Every world that a run reaches has them.
abbrev pub ReachedWorldsHaveCalls : Type 0
ReachedWorldsHaveCalls = (s : Program) (mode : Mode) (steps : List Step) (w : World) → fold (start s mode) steps ≡ Some w → HasCalls w

-- A step is listed exactly where it leads to a world.
abbrev pub EveryStepThatLeadsOnIsListed : Type 0
EveryStepThatLeadsOnIsListed = (w : World) → HasCalls w → (a : Step) → Contains (enabled w) a ↔ IsSome (next w a)

-- No step is listed twice, whatever the world.
abbrev pub NoStepIsListedTwice : Type 0
NoStepIsListedTwice = (w : World) → AllPairs (λ a b. a ≢ b) (enabled w)

-- There is an outcome exactly where no step leads to a world, and none exactly where some step does.
pub record IsEndedSo (w : World) : Type 0 where
  pub ended : (outcome w ≡ Some (ending w)) ↔ ((a : Step) → next w a ≡ None)
  pub goes_on : (outcome w ≡ None) ↔ ((a : Step) × IsSome (next w a))

abbrev pub EndedWhereNoStepLeadsOn : Type 0
EndedWhereNoStepLeadsOn = (w : World) → HasCalls w → IsEndedSo w
