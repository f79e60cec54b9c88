-- The step that decided how a run ends: the last state of the run from which some run of the wide
-- walk ends well, and the step that was taken there.
use Rattle.std.specs.Prelude.{◌≡◌, ◌⊎◌, ℕ, zero, suc, ◌+◌, ◌-◌, ◌<◌, ◌≤◌, Bool, true, false, List, [], ◌∷◌, length, take, slice_get, Option, Some, None}
use Rattle.std.specs.List.{find, list_all, list_any}
use Rattle.mpd_model.specs.declared.step.Step.{Step}
use Rattle.mpd_model.specs.declared.decision.Decision.{Decision}
use Rattle.mpd_model.specs.declared.decision.Decision.TheVariants.{Forced, Choice, Leaf as Ends}
use Rattle.mpd_model.specs.steps.World.{World}
use Rattle.mpd_model.specs.steps.Next.{fold}
use Rattle.mpd_model.specs.runs.Trail.{Standing, IsReached, forgotten, gone_back}
use Rattle.mpd_policy.specs.Wide.{wide_decision}
use Rattle.mpd_policy.specs.Walk.{Run, run_by}
use Rattle.mpd_explore.specs.declared.report.SearchLeaf.{SearchLeaf}
use Rattle.mpd_outcomes.specs.declared.report.Goal.TheVariants as goal_is
use Rattle.mpd_outcomes.specs.declared.report.StateLimits.{StateLimits}
use Rattle.mpd_outcomes.specs.Goals.{meets, states_along}
use Rattle.mpd_outcomes.specs.Outcomes.{leaves_from}
use Rattle.mpd_blame.specs.declared.sight.Sight.{Sight}
use Rattle.mpd_blame.specs.declared.sight.Sight.TheVariants as sight_is
use Rattle.mpd_blame.specs.declared.back.Blame.{Blame}
use Rattle.mpd_blame.specs.declared.back.Blame.TheVariants as blame_is
use Rattle.mpd_blame.specs.declared.back.Decided.{Decided}

-- ---- from one state

-- done, also where messages are left over
abbrev pub ends_well : SearchLeaf → Bool
ends_well l = meets goal_is.Well l.ending

-- in a deadlock or with a trap
abbrev pub ends_badly : SearchLeaf → Bool
ends_badly l = meets goal_is.Bad l.ending

-- with so much fuel every run from this state ends badly
abbrev pub is_doomed : ℕ → World → Bool
is_doomed fuel w = list_all ends_badly (leaves_from fuel w)

-- Some run from this state ends well, and this is the first step of the first of these; none where
-- that has none.
pub record FirstWell (fuel : ℕ) (w : World) (step : Option Step) : Type 0 where
  pub leaf : SearchLeaf
  pub first : find ends_well (leaves_from fuel w) ≡ Some leaf
  pub run : Run
  pub by : run_by wide_decision fuel leaf.choices w ≡ Some run
  pub begins : slice_get run.steps 0 ≡ step

-- Of the runs from this state some were come to, the first ones, and none of these ends well. There
-- are others, and along these and the next one there stand as many states as may be come to; or
-- there are none, and one doesn't end badly.
pub record NotKnown (most fuel : ℕ) (w : World) : Type 0 where
  pub runs : ℕ
  pub few : runs ≤ length (leaves_from fuel w)
  pub none_well : list_any ends_well (take runs (leaves_from fuel w)) ≡ false
  pub why : ((runs < length (leaves_from fuel w)) × (most ≤ states_along (take (suc runs) (leaves_from fuel w))))
      ⊎ ((runs ≡ length (leaves_from fuel w)) × (list_all ends_badly (leaves_from fuel w) ≡ false))

abbrev pub Sees : ℕ → ℕ → World → Sight → Type 0
Sees most fuel w (sight_is.Well step) = FirstWell fuel w step
Sees most fuel w sight_is.Doomed = is_doomed fuel w ≡ true
Sees most fuel w sight_is.Unknown = NotKnown most fuel w

-- ---- along a run, whose steps begin at a world; each run is cut at a limit of steps from there

-- how many states stand along the runs from a state that is there
abbrev pub states_from : ℕ → Option World → ℕ
states_from fuel None = 0
states_from fuel (Some w) = states_along (leaves_from fuel w)

-- the same of each state after some of the steps: after so many, and after each number that follows
abbrev pub states_on : ℕ → World → List Step → ℕ → ℕ → ℕ
states_on limit first steps n zero = 0
states_on limit first steps n (suc more) = states_from (limit - n) (fold first (take n steps)) + states_on limit first steps (suc n) more

-- from the state after so many of the steps, and from each later one, every run ends badly
abbrev pub DoomedFrom : ℕ → World → List Step → ℕ → Type 0
DoomedFrom limit first steps n = (m : ℕ) (w : World) → n ≤ m → m ≤ length steps → fold first (take m steps) ≡ Some w → is_doomed (limit - m) w ≡ true

-- Before a step of the run some run still ends well, by another first step, and after it none does.
pub record IsDecided (limit : ℕ) (first : World) (steps : List Step) (d : Decided) : Type 0 where
  pub taken : slice_get steps d.depth ≡ Some d.taken
  pub world : World
  pub leads : fold first (take d.depth steps) ≡ Some world
  pub other : FirstWell (limit - d.depth) world (Some d.other)
  pub doomed : DoomedFrom limit first steps (suc d.depth)

-- After more than so many steps every run ends badly, and after so many it isn't known: so many
-- states may be come to, less those of all runs from each later state.
pub record IsEarlier (most limit : ℕ) (first : World) (steps : List Step) (n : ℕ) : Type 0 where
  pub before : n < length steps
  pub world : World
  pub leads : fold first (take n steps) ≡ Some world
  pub unknown : NotKnown (most - states_on limit first steps (suc n) (length steps - n)) (limit - n) world
  pub doomed : DoomedFrom limit first steps (suc n)

-- from the end of the run some run still ends well
pub record IsOpen (limit : ℕ) (first : World) (steps : List Step) : Type 0 where
  pub world : World
  pub leads : fold first steps ≡ Some world
  pub step : Option Step
  pub well : FirstWell (limit - length steps) world step

-- from the end of the run none was found, and it isn't known
pub record IsUnknown (most limit : ℕ) (first : World) (steps : List Step) : Type 0 where
  pub world : World
  pub leads : fold first steps ≡ Some world
  pub unknown : NotKnown most (limit - length steps) world

-- so many states may be come to
abbrev pub IsBlame : ℕ → ℕ → World → List Step → Blame → Type 0
IsBlame most limit first steps (blame_is.At d) = IsDecided limit first steps d
IsBlame most limit first steps blame_is.FromStart = DoomedFrom limit first steps 0
IsBlame most limit first steps (blame_is.OrEarlier n) = IsEarlier most limit first steps n
IsBlame most limit first steps blame_is.Open = IsOpen limit first steps
IsBlame most limit first steps blame_is.Unknown = IsUnknown most limit first steps

-- where a debugger stands that tells of it: before the step that decided it
abbrev pub IsThere : World → List Step → Blame → World → Type 0
IsThere first steps (blame_is.At d) w = fold first (take d.depth steps) ≡ Some w
IsThere first steps b w = Unit {0}

-- ---- one step back

-- what comes next can be this step alone
abbrev pub IsOnly : Decision → Step → Type 0
IsOnly (Forced b) a = b ≡ a
IsOnly (Choice candidates) a = candidates ≡ a ∷ []
IsOnly (Ends o) a = ⊥

-- What is left of the limits once the runs from a state were looked at: what there was where this
-- step alone can come next, since then nothing is looked at; else less by as many states as were
-- come to, of which there is one at least where any may be.
abbrev pub Spends : StateLimits → ℕ → World → Option Step → StateLimits → Type 0
Spends old fuel w None new = ⊥
Spends old fuel w (Some a) new =
    (IsOnly (wide_decision w) a × (new ≡ old))
    ⊎ ((IsOnly (wide_decision w) a → ⊥) × ((n : ℕ) × (0 < old.visited → 0 < n) × (n ≤ states_along (leaves_from fuel w)) × (new ≡ record old { visited = old.visited - n })))

-- what is told of a step that was taken after so many, where it isn't doomed before it
abbrev pub tells : ℕ → Step → Sight → Option Blame
tells n a (sight_is.Well (Some b)) = Some (blame_is.At (record { depth = n; taken = a; other = b }))
tells n a (sight_is.Well None) = None
tells n a sight_is.Doomed = None
tells n a sight_is.Unknown = Some (blame_is.OrEarlier n)

-- A step was taken back: the state before it is doomed, too, or this is told of it.
abbrev pub Turned : ℕ → ℕ → Standing → Option Blame → Standing → Type 0
Turned most limit d None e = is_doomed (limit - e.trail.depth) e.world ≡ true
Turned most limit d (Some (blame_is.At x)) e = (x.depth ≡ e.trail.depth) × (slice_get d.trail.steps e.trail.depth ≡ Some x.taken) × FirstWell (limit - e.trail.depth) e.world (Some x.other)
Turned most limit d (Some (blame_is.OrEarlier n)) e = (n ≡ e.trail.depth) × NotKnown most (limit - e.trail.depth) e.world
Turned most limit d (Some blame_is.FromStart) e = ⊥
Turned most limit d (Some blame_is.Open) e = ⊥
Turned most limit d (Some blame_is.Unknown) e = ⊥

-- A debugger stands on its way back along a run, and keeps no step that is undone.
pub record IsBack (d e : Standing) : Type 0 where
  pub within : e.trail.depth ≤ d.trail.depth
  pub trail : e.trail ≡ forgotten (gone_back d.trail e.trail.depth)
  pub reached : IsReached e
