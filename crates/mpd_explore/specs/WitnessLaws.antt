-- What a report says of its deadlocks.
use Rattle.std.specs.Prelude.{◌≡◌, ℕ, List, ◌++◌}
use Rattle.mpd_model.specs.declared.call.Mode.{Mode}
use Rattle.mpd_model.specs.declared.step.Step.{Step}
use Rattle.mpd_model.specs.declared.decision.Decision.{Decision}
use Rattle.mpd_model.specs.declared.outcome.IssuedCall.{IssuedCall}
use Rattle.mpd_model.specs.declared.outcome.Outcome.TheVariants.{Deadlock}
use Rattle.mpd_model.specs.script.Program.{Program}
use Rattle.mpd_model.specs.steps.World.{World}
use Rattle.mpd_model.specs.steps.Outcomes.{ids_of}
use Rattle.mpd_policy.specs.declared.ending.Ending.TheVariants.{Ended}
use Rattle.mpd_policy.specs.Walk.{run_by, steps_by}
use Rattle.mpd_explore.specs.declared.report.SearchLeaf.{SearchLeaf}
use Rattle.mpd_explore.specs.Witness.{HasWitness, IsWitness}

-- Of a leaf that is a deadlock, the steps before it, those of its run, and the calls that it says are blocked are a witness.
abbrev pub ADeadlockHasAWitness : Type 0
ADeadlockHasAWitness =
    (decide : World → Decision) (s : Program) (mode : Mode) (before : List Step) (n : ℕ) (w : World) (l : SearchLeaf) (calls : List IssuedCall) → HasWitness decide s mode before n w l → l.ending ≡ Ended (Deadlock calls)
    → IsWitness s mode (record { steps = before ++ steps_by (run_by decide n l.choices w); blocked = ids_of calls })
