-- A state of a run: the step that leads there, what changed, and its candidates (docs/PAGES.md, "States").
use Rattle.std.specs.Prelude.{ℕ, Bool, if◌then◌else◌, List, [], Some, None}
use Rattle.std.specs.List.{position}
use Rattle.mpd_model.specs.declared.step.Step.{Step}
use Rattle.mpd_model.specs.declared.decision.Decision.{Decision}
use Rattle.mpd_model.specs.declared.decision.Decision.TheVariants.{Forced, Choice, Leaf}
use Rattle.mpd_model.specs.script.Program.{Program}
use Rattle.mpd_model.specs.steps.World.{World}
use Rattle.mpd_model.specs.runs.Decisions.{decision}
use Rattle.mpd_model.specs.runs.Trail.{step_eq}
use Rattle.mpd_policy.specs.Wide.{wide_decision}
use Rattle.mpd_page.specs.declared.walk.Walk.{Walk}
use Rattle.mpd_page.specs.declared.walk.Walk.TheVariants as walk_is
use Rattle.mpd_page.specs.declared.node.Lead.{Lead}
use Rattle.mpd_page.specs.declared.node.Node.{Node}
use Rattle.mpd_page.specs.Changes.{node_change, first_change}

-- ---- candidates

-- what comes next along a walk
abbrev pub decided : Walk → World → Decision
decided walk_is.Decisions w = decision w
decided walk_is.Wide w = wide_decision w
decided walk_is.Words w = decision w

abbrev pub candidates_of : Decision → List Step
candidates_of (Choice steps) = steps
candidates_of (Forced a) = []
candidates_of (Leaf o) = []

-- the steps that may be taken where a choice is to be made
abbrev pub candidates : Walk → World → List Step
candidates walk w = candidates_of (decided walk w)

-- only a state from which a step leads has them
abbrev pub told_candidates : Walk → World → Bool → List Step
told_candidates walk w more = if more then candidates walk w else []

-- ---- nodes

-- how a state is come to: from the state of this number by a step, which has a number from 0 if it is one of the candidates there
abbrev pub lead : ℕ → Step → List Step → Lead
lead at a steps = record { from = at; step = a; number = position (λ b. step_eq b a) steps }

-- a step that leads from one state to another, from which further steps may lead
abbrev pub node : Program → Walk → ℕ → World → World → Step → Bool → Node
node s walk at w v a more = record { lead = Some (lead at a (candidates walk w)); change = node_change s w v a; candidates = told_candidates walk v more }

-- the start
abbrev pub first_node : Program → Walk → World → Bool → Node
first_node s walk w more = record { lead = None; change = first_change s w; candidates = told_candidates walk w more }
