-- What a witness is, of a deadlock or of any bad end, and what is wrong with what is none.
use Rattle.std.specs.Prelude.{◌≡◌, ℕ, suc, List, [], ◌∷◌, ◌++◌, map, Option, Some, None}
use Rattle.mpd_model.specs.declared.call.Mode.{Mode}
use Rattle.mpd_model.specs.declared.step.Step.{Step}
use Rattle.mpd_model.specs.declared.decision.Decision.{Decision}
use Rattle.mpd_model.specs.declared.outcome.TrappedRank.{TrappedRank}
use Rattle.mpd_model.specs.declared.outcome.IssuedCall.{IssuedCall}
use Rattle.mpd_model.specs.declared.outcome.Outcome.{Outcome}
use Rattle.mpd_model.specs.declared.outcome.Outcome.TheVariants as outcome_is
use Rattle.mpd_model.specs.script.Program.{Program}
use Rattle.mpd_model.specs.steps.World.{World, start}
use Rattle.mpd_model.specs.steps.Next.{next, fold}
use Rattle.mpd_model.specs.steps.Outcomes.{ids_of, outcome}
use Rattle.mpd_policy.specs.declared.ending.Ending.{Ending}
use Rattle.mpd_policy.specs.declared.ending.Ending.TheVariants.{Ended, Cut}
use Rattle.mpd_explore.specs.declared.report.SearchLeaf as leaf
use Rattle.mpd_explore.specs.declared.report.RankTrap.{RankTrap}
use Rattle.mpd_explore.specs.declared.report.WitnessEnd.{WitnessEnd}
use Rattle.mpd_explore.specs.declared.report.WitnessEnd.TheVariants.{Deadlock, Trap}
use Rattle.mpd_explore.specs.declared.report.EndWitness.{EndWitness}
use Rattle.mpd_explore.specs.declared.report.Witness.{Witness}
use Rattle.mpd_policy.specs.Walk.{Run, run_by}
use Rattle.mpd_explore.specs.declared.verifier.WitnessFault.{WitnessFault}
use Rattle.mpd_explore.specs.declared.verifier.WitnessFault.TheVariants.{NoSuchStep, NotStuck, WrongBlocked}

-- ---- what a witness leads to

-- what a report tells of a trapped rank: not at which statement
abbrev pub rank_trap : TrappedRank → RankTrap
rank_trap t = record { rank = t.rank; trap = t.trap }

-- a deadlock with the calls that are blocked, whichever statements issued them, or a trap of these ranks
abbrev pub end_by : Outcome → Option WitnessEnd
end_by outcome_is.Done = None
end_by (outcome_is.Leftovers calls) = None
end_by (outcome_is.Deadlock calls) = Some (Deadlock (ids_of calls))
end_by (outcome_is.Trap ranks) = Some (Trap (map rank_trap ranks))

-- the same of a state, in which a step may still be enabled
abbrev pub end_in : Option Outcome → Option WitnessEnd
end_in None = None
end_in (Some o) = end_by o

-- the same of a run that ends so
abbrev pub end_of : Ending → Option WitnessEnd
end_of Cut = None
end_of (Ended o) = end_by o

-- A witness of a deadlock or a trap: its steps lead from here to one, which is the one that it says.
pub record IsEndWitnessFrom (w : World) (x : EndWitness) : Type 0 where
  pub last : World
  pub leads : fold w x.steps ≡ Some last
  pub ends : end_in (outcome last) ≡ Some x.end

-- The same from the start of a script.
abbrev pub IsEndWitness : Program → Mode → EndWitness → Type 0
IsEndWitness s mode x = IsEndWitnessFrom (start s mode) x

-- A witness of a deadlock: its steps lead from the start of a script to a deadlock, in which the calls are blocked that it says, whichever
-- statements issued them.
pub record IsWitness (s : Program) (mode : Mode) (x : Witness) : Type 0 where
  pub last : World
  pub calls : List IssuedCall
  pub leads : fold (start s mode) x.steps ≡ Some last
  pub stuck : outcome last ≡ Some (outcome_is.Deadlock calls)
  pub are_blocked : ids_of calls ≡ x.blocked

-- The first fault: a step that isn't enabled, with its place; else an end that is no deadlock, or no trap, as the witness has it; else
-- another list.
abbrev pub FaultAtEnd : Option WitnessEnd → WitnessEnd → WitnessFault → Type 0
FaultAtEnd None end e = e ≡ NotStuck
FaultAtEnd (Some (Deadlock calls)) (Deadlock blocked) e = (e ≡ WrongBlocked) × (calls ≡ blocked → ⊥)
FaultAtEnd (Some (Deadlock calls)) (Trap ranks) e = e ≡ NotStuck
FaultAtEnd (Some (Trap traps)) (Deadlock blocked) e = e ≡ NotStuck
FaultAtEnd (Some (Trap traps)) (Trap ranks) e = (e ≡ WrongBlocked) × (traps ≡ ranks → ⊥)

abbrev pub FaultBy : (World → WitnessFault → Type 0) → ℕ → Option World → WitnessFault → Type 0
FaultBy more i None e = e ≡ NoSuchStep i
FaultBy more i (Some v) e = more v e

abbrev pub HasFault : World → ℕ → List Step → WitnessEnd → WitnessFault → Type 0
HasFault w i [] end e = FaultAtEnd (end_in (outcome w)) end e
HasFault w i (a ∷ more) end e = FaultBy (λ v f. HasFault v (suc i) more end f) i (next w a) e

-- ---- the leaves of a report have witnesses

abbrev pub WitnessTo : Program → Mode → List Step → Option WitnessEnd → Type 0
WitnessTo s mode steps None = Unit {0}
WitnessTo s mode steps (Some end) = IsEndWitness s mode (record { steps = steps; end = end })

-- where a run ends in a deadlock or with a trap, its steps are a witness of that
abbrev pub WitnessBy : Program → Mode → List Step → Ending → Type 0
WitnessBy s mode steps e = WitnessTo s mode steps (end_of e)

-- Its choices tell one run from the state that some steps lead to, which ends as it says; where that is a deadlock or a trap, these steps
-- and those of the run are a witness of it.
pub record HasWitness (decide : World → Decision) (s : Program) (mode : Mode) (before : List Step) (n : ℕ) (w : World) (l : leaf.SearchLeaf) : Type 0 where
  pub run : Run
  pub by : run_by decide n l.choices w ≡ Some run
  pub ending : run.ending ≡ l.ending
  pub witness : WitnessBy s mode (before ++ run.steps) l.ending

abbrev pub witness_to : List Step → Option WitnessEnd → Option EndWitness
witness_to steps None = None
witness_to steps (Some end) = Some (record { steps = steps; end = end })

-- the witness of a run with these steps that ends so, where that is a deadlock or a trap
abbrev pub witness_by : List Step → Ending → Option EndWitness
witness_by steps e = witness_to steps (end_of e)
