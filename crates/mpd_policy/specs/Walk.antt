-- The runs from a state: the leaves of a depth-first walk, in the order of their choices. The wide walk is the one that has every end.
use Rattle.std.specs.Prelude.{ℕ, zero, suc, List, [], ◌∷◌, ◌++◌, map, slice_get, Option, Some, None}
use Rattle.std.specs.Option.{option_map}
use Rattle.mpd_model.specs.declared.step.Step.{Step}
use Rattle.mpd_model.specs.declared.decision.Decision.{Decision}
use Rattle.mpd_model.specs.declared.decision.Decision.TheVariants.{Forced, Choice, Leaf}
use Rattle.mpd_model.specs.steps.World.{World}
use Rattle.mpd_model.specs.steps.Next.{next}
use Rattle.mpd_model.specs.runs.Decisions.{decision}
use Rattle.mpd_policy.specs.Wide.{wide_decision}
use Rattle.mpd_policy.specs.declared.ending.Ending.{Ending}
use Rattle.mpd_policy.specs.declared.ending.Ending.TheVariants.{Ended, Cut}

-- a run: the candidates taken at its choices, its steps, and how it ends
pub record Run : Type 0 where
  pub choices : List ℕ
  pub steps : List Step
  pub ending : Ending

-- the run of no step
abbrev pub here : Ending → Run
here e = record { choices = []; steps = []; ending = e }

-- a run with a step before it, and one with a choice before it
abbrev pub stepped : Step → Run → Run
stepped a r = record { choices = r.choices; steps = a ∷ r.steps; ending = r.ending }

abbrev pub chosen : ℕ → Step → Run → Run
chosen i a r = record { choices = i ∷ r.choices; steps = a ∷ r.steps; ending = r.ending }

-- a run with choices and steps before it
abbrev pub prefixed : List ℕ → List Step → Run → Run
prefixed choices steps r = record { choices = choices ++ r.choices; steps = steps ++ r.steps; ending = r.ending }

-- the runs of a state that is there
abbrev pub runs_of : {A : Type 0} → (World → List A) → Option World → List A
runs_of runs None = []
runs_of runs (Some w) = runs w

-- the runs by each of some candidates, of which the first is number i
abbrev pub branches : (World → List Run) → World → ℕ → List Step → List Run
branches runs w i [] = []
branches runs w i (a ∷ more) = map (chosen i a) (runs_of runs (next w a)) ++ branches runs w (suc i) more

-- the runs after a decision, where fuel is left
abbrev pub followed : (World → List Run) → (World → List Run) → World → Decision → List Run
followed forced picked w (Forced a) = map (stepped a) (runs_of forced (next w a))
followed forced picked w (Choice candidates) = branches picked w 0 candidates
followed forced picked w (Leaf o) = here (Ended o) ∷ []

-- where none is left
abbrev pub stopped : Decision → List Run
stopped (Forced a) = here Cut ∷ []
stopped (Choice candidates) = here Cut ∷ []
stopped (Leaf o) = here (Ended o) ∷ []

-- the leaves of the runs from a state with so much fuel
unfoldable pub walk : ℕ → World → List Run
walk zero w = stopped (decision w)
walk (suc n) w = followed (walk n) (walk n) w (decision w)

-- the same by the wide decisions, which force a step that no other can touch, and choose among all enabled steps where there is none
unfoldable pub wide_walk : ℕ → World → List Run
wide_walk zero w = stopped (wide_decision w)
wide_walk (suc n) w = followed (wide_walk n) (wide_walk n) w (wide_decision w)

-- how a run ends where no fuel is left
abbrev pub ending_by : Decision → Ending
ending_by (Forced a) = Cut
ending_by (Choice candidates) = Cut
ending_by (Leaf o) = Ended o

-- ---- one run, told by its choices

abbrev pub run_from : (World → Option Run) → Option World → Option Run
run_from run None = None
run_from run (Some w) = run w

abbrev pub run_taken : (World → Option Run) → World → ℕ → Option Step → Option Run
run_taken run w c None = None
run_taken run w c (Some a) = option_map (chosen c a) (run_from run (next w a))

abbrev pub run_followed : (List ℕ → World → Option Run) → World → List ℕ → Decision → Option Run
run_followed run w cs (Forced a) = option_map (stepped a) (run_from (run cs) (next w a))
run_followed run w [] (Choice candidates) = None
run_followed run w (c ∷ cs) (Choice candidates) = run_taken (run cs) w c (slice_get candidates c)
run_followed run w [] (Leaf o) = Some (here (Ended o))
run_followed run w (c ∷ cs) (Leaf o) = None

abbrev pub run_stopped : List ℕ → Decision → Option Run
run_stopped [] (Forced a) = Some (here Cut)
run_stopped [] (Choice candidates) = Some (here Cut)
run_stopped [] (Leaf o) = Some (here (Ended o))
run_stopped (c ∷ cs) d = None

-- the run from a state with so much fuel that makes these choices and no others, where there is one; what comes next in a state is told by
-- a function
unfoldable pub run_by : (World → Decision) → ℕ → List ℕ → World → Option Run
run_by decide zero cs w = run_stopped cs (decide w)
run_by decide (suc n) cs w = run_followed (run_by decide n) w cs (decide w)

abbrev pub steps_by : Option Run → List Step
steps_by None = []
steps_by (Some r) = r.steps
