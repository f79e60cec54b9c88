-- What is said of wide walks, said of walks, where they are one.
use Rattle.std.proofs.Common.{◌≡◌, ℕ, List, Some, subst}
use Rattle.mpd_model.specs.declared.step.Step.{Step}
use Rattle.mpd_model.specs.declared.call.Mode.{Mode}
use Rattle.mpd_model.specs.script.Program.{Program}
use Rattle.mpd_model.specs.steps.World.{World, start}
use Rattle.mpd_model.specs.steps.Next.{fold}
use Rattle.mpd_policy.specs.Walk.{Run, walk}
use Rattle.mpd_complete.specs.CompleteLaws.{HasNoWaitany, KeepsBuffers, IsWhole, IsComplete}
use Rattle.mpd_complete.specs.Sleeping.{sleeping_walk}
use Rattle.mpd_complete.proofs.Complete.{complete, sleeping_complete}
use Rattle.mpd_complete.proofs.IsWalk.{are_walks}
use Rattle.mpd_complete.proofs.IsSleepingWalk.{are_sleeping_walks}

-- what is said of some runs from u
abbrev pub Said : ℕ → World → List Run → Type 0
Said fuel u runs = IsWhole runs → (steps : List Step) (w : World) → fold u steps ≡ Some w → IsComplete runs fuel u w steps

pub walks_complete : (s : Program) → HasNoWaitany s → (mode : Mode) → KeepsBuffers mode → (before : List Step) (u : World) → fold (start s mode) before ≡ Some u
    → (fuel : ℕ) → IsWhole (walk fuel u) → (steps : List Step) (w : World) → fold u steps ≡ Some w → IsComplete (walk fuel u) fuel u w steps
walks_complete s none mode ample before u e fuel = subst (Said fuel u) (are_walks s none mode ample before u e fuel) (complete s mode before u e fuel)

pub sleeping_walks_complete : (s : Program) → HasNoWaitany s → (mode : Mode) → KeepsBuffers mode → (before : List Step) (u : World) → fold (start s mode) before ≡ Some u
    → (fuel : ℕ) → IsWhole (sleeping_walk fuel u) → (steps : List Step) (w : World) → fold u steps ≡ Some w → IsComplete (sleeping_walk fuel u) fuel u w steps
sleeping_walks_complete s none mode ample before u e fuel = subst (Said fuel u) (are_sleeping_walks s none mode ample before u e fuel) (sleeping_complete s mode before u e fuel)
