-- The steps that are not undone, each with what it is about on the state before it.
use Rattle.std.specs.Prelude.{ℕ, ◌-◌, List, [], ◌∷◌, take, drop, Option, Some, None}
use Rattle.mpd_model.specs.declared.step.Step.{Step}
use Rattle.mpd_model.specs.declared.call.Mode.{Mode}
use Rattle.mpd_model.specs.script.Program.{Program}
use Rattle.mpd_model.specs.steps.World.{World, start}
use Rattle.mpd_model.specs.steps.Next.{next, fold}
use Rattle.mpd_model.specs.runs.Trail.{Trail, done_steps}
use Rattle.mpd_explain.specs.declared.steps.PlacedStep.{PlacedStep}
use Rattle.mpd_explain.specs.Steps.{placed_step_of}

-- the steps from where a step led
abbrev pub steps_from : (World → List PlacedStep) → Option World → List PlacedStep
steps_from placed None = []
steps_from placed (Some w) = placed w

-- Each step is placed on the state that the ones before it led to.
abbrev pub past_steps : Program → World → List Step → List PlacedStep
past_steps s w [] = []
past_steps s w (a ∷ steps) = placed_step_of s w a ∷ steps_from (λ v. past_steps s v steps) (next w a)

-- of steps from the start of a script, those after the first so many
abbrev pub past_behind : Program → Mode → List Step → ℕ → List PlacedStep
past_behind s mode steps first = steps_from (λ w. past_steps s w (drop first steps)) (fold (start s mode) (take first steps))

-- the last so many steps that are not undone
abbrev pub history : Trail → ℕ → List PlacedStep
history t count = past_behind t.program t.mode (done_steps t) (t.depth - count)
