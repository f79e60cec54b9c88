-- Where a search stops that looks for one end.
use Rattle.std.specs.Prelude.{◌≡◌, ◌⊎◌, ◌+◌, ◌-◌, ◌≤◌, ℕ, suc, Bool, true, false, List, [], ◌∷◌, length, take, drop, Option, Some, None}
use Rattle.std.specs.List.{list_any}
use Rattle.mpd_model.specs.declared.outcome.Outcome.TheVariants as outcome_is
use Rattle.mpd_policy.specs.declared.ending.Ending.{Ending}
use Rattle.mpd_policy.specs.declared.ending.Ending.TheVariants.{Ended}
use Rattle.mpd_explore.specs.declared.report.SearchLeaf.{SearchLeaf}
use Rattle.mpd_outcomes.specs.declared.report.Goal.{Goal}
use Rattle.mpd_outcomes.specs.declared.report.Goal.TheVariants as goal_is
use Rattle.mpd_outcomes.specs.declared.report.StateLimits.{StateLimits}
use Rattle.mpd_outcomes.specs.declared.report.Outcomes.{Outcomes}
use Rattle.mpd_model.specs.steps.World.{World}
use Rattle.mpd_outcomes.specs.Outcomes.{leaves_from, TellsRuns}

-- a run that ends so meets the goal
abbrev pub meets : Goal → Ending → Bool
meets goal_is.Deadlock (Ended (outcome_is.Deadlock blocked)) = true
meets goal_is.Trap (Ended (outcome_is.Trap ranks)) = true
meets goal_is.Bad (Ended (outcome_is.Deadlock blocked)) = true
meets goal_is.Bad (Ended (outcome_is.Trap ranks)) = true
meets goal_is.Well (Ended outcome_is.Done) = true
meets goal_is.Well (Ended (outcome_is.Leftovers calls)) = true
meets g e = false

-- the same of a goal that may be none: then no run meets it
abbrev pub meets_any : Option Goal → SearchLeaf → Bool
meets_any None l = false
meets_any (Some g) l = meets g l.ending

-- the last of some leaves meets the goal
abbrev pub ends_at : Option Goal → List SearchLeaf → Bool
ends_at goal ls = list_any (meets_any goal) (drop (length ls - 1) ls)

-- no leaf but the last one meets the goal
abbrev pub StopsAt : Option Goal → List SearchLeaf → Type 0
StopsAt goal ls = list_any (meets_any goal) (take (length ls - 1) ls) ≡ false

-- There are runs that were not come to only where so many states were come to as may be, or where the goal is met.
abbrev pub StopsFor : StateLimits → Bool → ℕ → List SearchLeaf → Type 0
StopsFor limits more visited ls = more ≡ true → (visited ≡ limits.visited) ⊎ (ends_at limits.until ls ≡ true)

-- how many states stand along some runs: the choices of each, and its end
abbrev pub states_along : List SearchLeaf → ℕ
states_along [] = 0
states_along (l ∷ ls) = suc (length l.choices) + states_along ls

-- Of the runs that were come to none but the last one meets the goal. No more states were come to than stand along these runs and the next.
pub record StopsRuns (goal : Option Goal) (fuel : ℕ) (w : World) (o : Outcomes) : Type 0 where
  pub told : TellsRuns fuel w o
  pub stops : StopsAt goal (take told.runs (leaves_from fuel w))
  pub few : o.visited ≤ states_along (take (suc told.runs) (leaves_from fuel w))

-- What is told of the runs from a state by a search with these limits: of the first ones, up to the one that it was to stop at, or to where
-- it has come to as many states as it may.
abbrev pub AreTold : StateLimits → World → Outcomes → Type 0
AreTold limits w o = StopsRuns limits.until limits.fuel w o × StopsAt limits.until o.firsts.leaves.items × StopsFor limits o.firsts.more o.visited o.firsts.leaves.items
