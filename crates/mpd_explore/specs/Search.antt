-- Where a search stands: its open choices, the steps that are asleep, and the runs that are still to come.
use Rattle.std.specs.Prelude.{◌≡◌, ℕ, suc, ◌+◌, ◌-◌, ◌<◌, ◌≤◌, Bool, true, false, List, [], ◌∷◌, ◌++◌, map, length, take, drop, slice_get, Option, Some, None, IsSome}
use Rattle.std.specs.List.{All}
use Rattle.mpd_model.specs.declared.step.Step.{Step}
use Rattle.mpd_model.specs.declared.decision.Decision.{Decision}
use Rattle.mpd_model.specs.steps.World.{World}
use Rattle.mpd_model.specs.steps.Next.{next, fold}
use Rattle.mpd_model.specs.runs.Trail.{Standing, IsReached, done_steps}
use Rattle.mpd_trail.specs.Run.{first_of}
use Rattle.mpd_policy.specs.declared.ending.Ending.{Ending}
use Rattle.mpd_policy.specs.Walk.{Run, here, prefixed}
use Rattle.mpd_explore.specs.Sleeping.{branches_by, awake_by, put_off}
use Rattle.mpd_explore.specs.declared.search.Open.{Open}
use Rattle.mpd_explore.specs.declared.search.Bounds.{Bounds}
use Rattle.mpd_explore.specs.declared.search.Frontier.{Frontier}
use Rattle.mpd_explore.specs.Asleep.{Skips}
use Rattle.mpd_explore.specs.States.{states, states_by}

-- all of some steps are enabled
abbrev pub AllEnabled : World → List Step → Type 0
AllEnabled w steps = All (λ a. IsSome (next w a)) steps

-- What a search goes by: what comes next in a state, which candidates are steps that are asleep, and which of these still are after a step;
-- the world where its steps begin, and its bounds.
pub record Search : Type 0 where
  pub decides : World → Decision
  pub same : Step → Step → Bool
  pub keeps : World → Step → List Step → List Step
  pub first : World
  pub base : ℕ
  pub limit : ℕ
  pub sleeps : Bool

abbrev pub search_by : (World → Decision) → (Step → Step → Bool) → (World → Step → List Step → List Step) → Bounds → World → Search
search_by decides same keeps b first = record { decides = decides; same = same; keeps = keeps; first = first; base = b.base; limit = b.limit; sleeps = b.sleeps }

-- The open choices come innermost first. The candidates that are taken at them, in the order in which they were opened.
abbrev pub picked : List Open → List ℕ
picked [] = []
picked (f ∷ fs) = picked fs ++ f.index ∷ []

-- ---- the runs to come

-- the runs from a state with so much fuel, while some steps are asleep
abbrev pub runs_from : Search → ℕ → List Step → World → List Run
runs_from s n asleep w = awake_by s.decides s.same s.keeps s.sleeps n asleep w

-- the runs by the candidates of a choice from number i on, with so much fuel after them, while some steps are asleep above it
abbrev pub branches_from : Search → ℕ → World → List Step → List Step → ℕ → List Run
branches_from s n w asleep candidates i = branches_by s.same s.keeps s.sleeps (runs_from s n) w (put_off s.sleeps i candidates asleep) i (drop i candidates)

-- the runs by the later candidates of an open choice
abbrev pub others : Search → Option World → Open → List Run
others s None f = []
others s (Some w) f = branches_from s (s.limit - suc f.depth) w f.asleep f.candidates (suc f.index)

-- the runs to come after those from here
abbrev pub later : Search → List Open → List Step → List Run
later s [] path = []
later s (f ∷ fs) path = map (prefixed (picked fs) (take f.depth path)) (others s (fold s.first (take f.depth path)) f) ++ later s fs (take f.depth path)

-- the runs to come, those from here first
abbrev pub to_come : Search → List Open → List Step → List Step → World → List Run
to_come s fs asleep path w = map (prefixed (picked fs) path) (runs_from s (s.limit - length path) asleep w) ++ later s fs path

-- the runs by the candidates of a choice from number i on, and those to come after them
abbrev pub to_choose : Search → List Open → List Step → World → List Step → List Step → ℕ → List Run
to_choose s fs path w asleep candidates i = map (prefixed (picked fs) path) (branches_from s (s.limit - suc (length path)) w asleep candidates i) ++ later s fs path

-- ---- the states to come, asleep or not

abbrev pub states_beside : Search → Option World → Open → ℕ
states_beside s None f = 0
states_beside s (Some w) f = states_by (states s.decides (s.limit - suc f.depth)) w (drop (suc f.index) f.candidates)

abbrev pub states_later : Search → List Open → List Step → ℕ
states_later s [] path = 0
states_later s (f ∷ fs) path = states_beside s (fold s.first (take f.depth path)) f + states_later s fs (take f.depth path)

abbrev pub states_to_come : Search → List Open → List Step → World → ℕ
states_to_come s fs path w = states s.decides (s.limit - length path) w + states_later s fs path

-- those by the candidates of a choice from number i on
abbrev pub states_to_choose : Search → List Open → List Step → World → List Step → ℕ → ℕ
states_to_choose s fs path w candidates i = states_by (states s.decides (s.limit - suc (length path))) w (drop i candidates) + states_later s fs path

-- ---- a debugger at the end of the path

abbrev pub EnabledAt : Option World → List Step → Type 0
EnabledAt None candidates = ⊥
EnabledAt (Some w) candidates = AllEnabled w candidates

-- the open choices stand on the path
abbrev pub Stands : Search → List Open → List Step → Type 0
Stands s [] path = s.base ≤ length path
Stands s (f ∷ fs) path = (f.depth < length path) × (f.depth < s.limit) × (f.index < length f.candidates) × EnabledAt (fold s.first (take f.depth path)) f.candidates × Stands s fs (take f.depth path)

-- within the fuel
pub record At (s : Search) (fs : List Open) (d : Standing) : Type 0 where
  pub first_is : first_of d.trail ≡ s.first
  pub reached : IsReached d
  pub within : d.trail.depth ≤ s.limit
  pub stands : Stands s fs (done_steps d.trail)

-- ---- what is told of its moves, by where the debugger stands

abbrev pub come : Search → List Open → List Step → Standing → List Run
come s fs asleep d = to_come s fs asleep (done_steps d.trail) d.world

abbrev pub after : Search → List Open → Standing → List Run
after s fs d = later s fs (done_steps d.trail)

abbrev pub states_here : Search → List Open → Standing → ℕ
states_here s fs d = states_to_come s fs (done_steps d.trail) d.world

abbrev pub states_left : Search → List Open → Standing → ℕ
states_left s fs d = states_later s fs (done_steps d.trail)

-- ---- its moves

-- A choice is opened at its first candidate that is awake, from the one that it names on, or all these are asleep.
pub record Opens (same : Step → Step → Bool) (keeps : World → Step → List Step → List Step) (sleeps : Bool) (w : World) (choice : Open) (f : Frontier) (i : ℕ) (g : Frontier) : Type 0 where
  pub skips : Skips same sleeps choice.asleep choice.candidates choice.index i
  pub stack : g.stack.items ≡ f.stack.items ++ record { depth = choice.depth; candidates = choice.candidates; index = i; asleep = choice.asleep } ∷ []
  pub asleep : (a : Step) → slice_get choice.candidates i ≡ Some a → g.asleep ≡ keeps w a (put_off sleeps i choice.candidates choice.asleep)

pub record OpensNone (same : Step → Step → Bool) (sleeps : Bool) (choice : Open) (f g : Frontier) : Type 0 where
  pub skips : Skips same sleeps choice.asleep choice.candidates choice.index (length choice.candidates)
  pub stack : g.stack.items ≡ f.stack.items

abbrev pub Tried : (Step → Step → Bool) → (World → Step → List Step → List Step) → Bool → World → Open → Frontier → Option Step → Frontier → Type 0
Tried same keeps sleeps w choice f None g = OpensNone same sleeps choice f g
Tried same keeps sleeps w choice f (Some a) g = (i : ℕ) × (slice_get choice.candidates i ≡ Some a) × Opens same keeps sleeps w choice f i g

-- a run ends where a way down stops, or it stops at a choice whose candidates are all asleep
abbrev pub Stopped : Search → List Open → List Step → Standing → Option Ending → List Open → Standing → Type 0
Stopped s fs asleep d (Some end) gs e = At s gs e × (come s fs asleep d ≡ prefixed (picked gs) (done_steps e.trail) (here end) ∷ after s gs e) × (states_left s gs e < states_here s fs d)
Stopped s fs asleep d None gs e = At s gs e × (come s fs asleep d ≡ after s gs e) × (states_left s gs e < states_here s fs d)

-- the next candidate of an open choice that is awake was taken, or none is left
abbrev pub Advanced : Search → List Open → Standing → Bool → List Open → List Step → Standing → Type 0
Advanced s fs d true gs asleep e = At s gs e × (after s fs d ≡ come s gs asleep e) × (states_here s gs e ≤ states_left s fs d)
Advanced s fs d false gs asleep e = after s fs d ≡ []

-- the first run to come ends here, or there is none
abbrev pub Found : Search → List Open → List Step → Standing → Option Ending → List Open → Standing → Type 0
Found s fs asleep d (Some end) gs e = At s gs e × (come s fs asleep d ≡ prefixed (picked gs) (done_steps e.trail) (here end) ∷ after s gs e)
Found s fs asleep d None gs e = come s fs asleep d ≡ []

-- what stays of a debugger, whatever was refused: its script, and the steps up to the base
pub record Safe (base : ℕ) (d e : Standing) : Type 0 where
  pub program : e.trail.program ≡ d.trail.program
  pub mode : e.trail.mode ≡ d.trail.mode
  pub reached : IsReached e
  pub below : take base (done_steps e.trail) ≡ take base (done_steps d.trail)

-- ---- a chooser that takes the first candidate that is awake

-- What it is lent stays the same place (its name).
abbrev pub takes_awake : {C N : Type 0} → (Step → Step → Bool) → (World → Step → List Step → List Step) → (C → Bool) → (C → Frontier) → (C → N) → C → ℕ → World → List Step → ℕ → C → Type 0
takes_awake same keeps sleeps frontier name c n w candidates i d =
    Opens same keeps (sleeps c) w (record { depth = n; candidates = candidates; index = 0; asleep = (frontier c).asleep }) (frontier c) i (frontier d) × (sleeps d ≡ sleeps c) × (name d ≡ name c)

abbrev pub leaves_asleep : {C N : Type 0} → (Step → Step → Bool) → (C → Bool) → (C → Frontier) → (C → N) → C → ℕ → World → List Step → C → Type 0
leaves_asleep same sleeps frontier name c n w candidates d =
    OpensNone same (sleeps c) (record { depth = n; candidates = candidates; index = 0; asleep = (frontier c).asleep }) (frontier c) (frontier d) × (sleeps d ≡ sleeps c) × (name d ≡ name c)

abbrev pub passes_on : {C N : Type 0} → (World → Step → List Step → List Step) → (C → Bool) → (C → Frontier) → (C → N) → C → ℕ → World → Step → C → Type 0
passes_on keeps sleeps frontier name c n w a d = ((frontier d).stack.items ≡ (frontier c).stack.items) × ((frontier d).asleep ≡ keeps w a (frontier c).asleep) × (sleeps d ≡ sleeps c) × (name d ≡ name c)
