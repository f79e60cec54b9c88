-- Where a debugger stands: what lies ahead, and what comes next (docs/CONSOLE.md, "Where it
-- stands").
use Rattle.std.specs.Prelude.{ℕ, ◌-◌, Bool, false, if◌then◌else◌, List, [], ◌∷◌, length, map, slice_get, Option, Some, None}
use Rattle.std.specs.List.{list_all}
use Rattle.std.specs.Option.{option_map}
use Rattle.mpd_model.specs.declared.step.Step.{Step}
use Rattle.mpd_model.specs.declared.decision.Decision.{Decision}
use Rattle.mpd_model.specs.declared.decision.Decision.TheVariants.{Forced, Choice, Leaf}
use Rattle.mpd_model.specs.declared.outcome.Outcome.{Outcome}
use Rattle.mpd_model.specs.script.Program.{Program}
use Rattle.mpd_model.specs.steps.World.{World, id_eq}
use Rattle.mpd_model.specs.runs.Decisions.{decision}
use Rattle.mpd_model.specs.runs.Trail.{Trail}
use Rattle.mpd_policy.specs.Single.{sole}
use Rattle.mpd_names.specs.declared.place.PlacedCall.{PlacedCall}
use Rattle.mpd_explain.specs.declared.steps.PlacedStep.{PlacedStep}
use Rattle.mpd_explain.specs.declared.position.Ahead.{Ahead}
use Rattle.mpd_explain.specs.declared.position.Coming.{Coming}
use Rattle.mpd_explain.specs.declared.position.Coming.TheVariants as comes
use Rattle.mpd_explain.specs.declared.position.Position.{Position}
use Rattle.mpd_explain.specs.Steps.{placed_step_of, chooser}
use Rattle.mpd_explain.specs.Ends.{outcome_end}
use Rattle.mpd_explain.specs.Lost.{all_losses}

-- ---- a choice

abbrev pub is_call : Option PlacedCall → PlacedCall → Bool
is_call None c = false
is_call (Some d) c = id_eq d.call c.call

abbrev pub chooses_all : List PlacedStep → Option PlacedCall → Option PlacedCall
chooses_all steps None = None
chooses_all steps (Some c) = if list_all (λ a. is_call (chooser a) c) steps then Some c else None

-- the one call that all candidates are for, where there is one
abbrev pub one_chooser : List PlacedStep → Option PlacedCall
one_chooser [] = None
one_chooser (a ∷ steps) = chooses_all steps (chooser a)

abbrev pub choice_by : List PlacedStep → Coming
choice_by steps = comes.Choice (one_chooser steps) steps

abbrev pub choice_of : Program → World → List Step → Coming
choice_of s w steps = choice_by (map (placed_step_of s w) steps)

-- ---- what comes next

-- a single candidate comes next as a forced step does
abbrev pub chosen_by : Program → World → List Step → Option Step → Coming
chosen_by s w steps None = choice_of s w steps
chosen_by s w steps (Some a) = comes.Next (placed_step_of s w a)

-- the end of a run, and the requests that are lost
abbrev pub ended_of : Program → World → Outcome → Coming
ended_of s w o = comes.Ended o (outcome_end s w o) (all_losses s w)

abbrev pub coming_by : Program → World → Decision → Coming
coming_by s w (Forced a) = comes.Next (placed_step_of s w a)
coming_by s w (Choice steps) = chosen_by s w steps (sole steps)
coming_by s w (Leaf o) = ended_of s w o

-- ---- the whole

abbrev pub ahead_of : Program → World → ℕ → Step → Ahead
ahead_of s w count a = record { count = count; step = placed_step_of s w a }

abbrev pub position_by : Program → World → ℕ → Option Step → Position
position_by s w count undone = record { ahead = option_map (ahead_of s w count) undone; coming = coming_by s w (decision w) }

-- where a trail stands that leads to a world
abbrev pub position_of : Trail → World → Position
position_of t w = position_by t.program w (length t.steps - t.depth) (slice_get t.steps t.depth)
