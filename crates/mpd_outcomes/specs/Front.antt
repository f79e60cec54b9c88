-- Where a search stands: its open choices, the leaves that it has come to and those that it hasn't, and what is told of the former.
use Rattle.std.specs.Prelude.{◌≡◌, ◌⊎◌, ℕ, ℤ, Vec, suc, ◌+◌, ◌-◌, ◌<◌, ◌≤◌, max, Bool, true, false, if◌then◌else◌, List, [], ◌∷◌, ◌++◌, length, map, take, drop, reverse, slice_get, Option, Some, None, IfSome}
use Rattle.std.specs.declared.alloc.Global.{Global}
use Rattle.mpd_model.specs.declared.step.Step.{Step}
use Rattle.mpd_model.specs.declared.decision.Decision.TheVariants.{Choice}
use Rattle.mpd_model.specs.declared.call.Mode.{Mode}
use Rattle.mpd_model.specs.script.Program.{Program}
use Rattle.mpd_model.specs.steps.World.{World, start}
use Rattle.mpd_model.specs.steps.Next.{next, fold}
use Rattle.mpd_model.specs.runs.Trail.{Trail, Standing, IsReached, done_steps}
use Rattle.mpd_policy.specs.Wide.{wide_decision}
use Rattle.mpd_policy.specs.Walk.{branches, wide_walk}
use Rattle.mpd_policy.specs.declared.ending.Ending.{Ending}
use Rattle.mpd_policy.specs.declared.ending.Ending.TheVariants.{Ended, Cut}
use Rattle.mpd_explore.specs.declared.report.SearchLeaf.{SearchLeaf}
use Rattle.mpd_explore.specs.Report.{shown}
use Rattle.mpd_outcomes.specs.Height.{height, highest}
use Rattle.mpd_outcomes.specs.StateLaws.{IsRunTo}
use Rattle.mpd_outcomes.specs.declared.report.Count.TheVariants.{Exactly}
use Rattle.mpd_outcomes.specs.declared.table.Found.{Found}
use Rattle.mpd_outcomes.specs.declared.table.Table.{Table}
use Rattle.mpd_outcomes.specs.declared.sums.Tally.{Tally}
use Rattle.mpd_outcomes.specs.declared.sums.Sums.{Sums}
use Rattle.mpd_outcomes.specs.declared.search.Arrived.{Arrived}
use Rattle.mpd_outcomes.specs.declared.search.Arrived.TheVariants as arrived_is
use Rattle.mpd_outcomes.specs.declared.search.Bounds.{Bounds}
use Rattle.mpd_outcomes.specs.declared.search.Open.{Open}
use Rattle.mpd_outcomes.specs.declared.search.Front.{Front}
use Rattle.mpd_outcomes.specs.declared.search.Reach.{Reach}
use Rattle.mpd_outcomes.specs.declared.report.Goal.{Goal}
use Rattle.mpd_outcomes.specs.Goals.{states_along, StopsAt}
use Rattle.mpd_explore.specs.Ends.{firsts, has_end}
use Rattle.mpd_outcomes.specs.Outcomes.{plus, leaves_from}
use Rattle.mpd_outcomes.specs.Sums.{added, one_at, IsWay, Tells}
use Rattle.mpd_outcomes.specs.Table.{found_at, serves, KeepsAPart}
use Rattle.mpd_outcomes.specs.Keys.{IsKey}

-- The script and its mode, the world where the search begins, how many steps lead there, and at how many a run is cut.
pub record Search : Type 0 where
  pub program : Program
  pub mode : Mode
  pub root : World
  pub base : ℕ
  pub limit : ℕ

abbrev pub search_of : Bounds → Trail → World → Search
search_of b t root = record { program = t.program; mode = t.mode; root = root; base = b.base; limit = b.limit }

-- a leaf with choices before it
abbrev pub put : List ℕ → SearchLeaf → SearchLeaf
put cs l = record { choices = cs ++ l.choices; ending = l.ending }

-- The open choices come innermost first. The candidates that are taken at them, in the order in which they were opened.
abbrev pub picked : List Open → List ℕ
picked [] = []
picked (f ∷ fs) = picked fs ++ f.index ∷ []

-- the leaves by some candidates, of which the first is number i, with so much fuel after them
abbrev pub leaves_by : ℕ → World → ℕ → List Step → List SearchLeaf
leaves_by n w i candidates = map shown (branches (wide_walk n) w i candidates)

-- the leaves of a state that is there
abbrev pub leaves_of : ℕ → Option World → List SearchLeaf
leaves_of n None = []
leaves_of n (Some w) = leaves_from n w

-- ---- open choices

-- the leaves by the candidates of an open choice that were tried, and by those that come after the one that is taken
abbrev pub tried : Search → World → Open → List SearchLeaf
tried s w f = leaves_by (s.limit - suc f.depth) w 0 (take f.index f.candidates)

abbrev pub untried : Search → World → Open → List SearchLeaf
untried s w f = leaves_by (s.limit - suc f.depth) w (suc f.index) (drop (suc f.index) f.candidates)

-- with the candidate that is taken tried too
abbrev pub next_one : Open → Open
next_one f = record f { index = suc f.index }

-- From two states, one after the other, the same leaves are come to, and the longest run ends at the same depth.
pub record SameRuns (limit m : ℕ) (u : World) (n : ℕ) (w : World) : Type 0 where
  pub leaves : leaves_from (limit - m) u ≡ leaves_from (limit - n) w
  pub deepest : m + height (limit - m) u ≡ n + height (limit - n) w

-- An open choice stands at this world, and its candidate leads to a state whose runs are those from another one, at this depth.
pub record IsOpen (s : Search) (f : Open) (w : World) (depth : ℕ) (v : World) : Type 0 where
  pub choice : wide_decision w ≡ Choice f.candidates
  pub key : IfSome f.key (λ k. IsKey s.program w k.items)
  pub above : f.depth < depth
  pub fuel : f.depth < s.limit
  pub step : Step
  pub taken : slice_get f.candidates f.index ≡ Some step
  pub world : World
  pub leads : next w step ≡ Some world
  pub same : SameRuns s.limit (suc f.depth) world depth v

-- the open choices stand on a path, which ends at a world of this depth
abbrev pub Stands : Search → List Open → List Step → ℕ → World → Type 0
Stands s [] path depth v = (s.base ≤ depth) × SameRuns s.limit s.base s.root depth v
Stands s (f ∷ fs) path depth v = (w : World) × (fold (start s.program s.mode) (take f.depth path) ≡ Some w) × IsOpen s f w depth v × Stands s fs (take f.depth path) f.depth w

-- what is told of each level: of the candidates of an open choice that were tried, and of none where no choice is open
pub record TellsTried (s : Search) (ways : List SearchLeaf) (f : Open) (w : World) (sums : Sums) : Type 0 where
  pub counts : Tells ways sums.tally (tried s w f)
  pub deepest : sums.deepest ≡ suc f.depth + highest (height (s.limit - suc f.depth)) w (take f.index f.candidates)

abbrev pub TellsAt : Search → List SearchLeaf → Open → Option World → Sums → Type 0
TellsAt s ways f None sums = ⊥
TellsAt s ways f (Some w) sums = TellsTried s ways f w sums

abbrev pub AllTold : Search → List SearchLeaf → List Open → List Step → Sums → Type 0
AllTold s ways [] path sums = Tells ways sums.tally []
AllTold s ways (f ∷ fs) path sums = TellsAt s ways f (fold (start s.program s.mode) (take f.depth path)) sums × AllTold s ways fs (take f.depth path) f.outer

-- the leaves that were come to
abbrev pub tried_at : Search → Open → Option World → List SearchLeaf
tried_at s f None = []
tried_at s f (Some w) = tried s w f

abbrev pub before : Search → List Open → List Step → List SearchLeaf
before s [] path = []
before s (f ∷ fs) path = before s fs (take f.depth path) ++ map (put (picked fs)) (tried_at s f (fold (start s.program s.mode) (take f.depth path)))

-- ---- the table

-- What is kept under a key is true of each state of that key.
pub record IsFound (s : Search) (ways : List SearchLeaf) (found : Found) (w : World) : Type 0 where
  pub counts : Tells ways found.tally (leaves_from found.fuel w)
  pub height_is : found.height ≡ height found.fuel w

abbrev pub IsTrueTable : Search → List SearchLeaf → Table → Type 0
IsTrueTable s ways t = (key : Vec ℤ Global) (found : Found) → found_at t key ≡ Some found → (w : World) → IsRunTo s.program s.mode w → IsKey s.program w key.items → IsFound s ways found w

-- ---- where it stands

-- a debugger within the fuel
pub record At (s : Search) (fs : List Open) (d : Standing) : Type 0 where
  pub program : d.trail.program ≡ s.program
  pub mode : d.trail.mode ≡ s.mode
  pub reached : IsReached d
  pub within : d.trail.depth ≤ s.limit
  pub stands : Stands s fs (done_steps d.trail) d.trail.depth d.world

-- At a state whose runs are not come to yet: the ways are those of the leaves before them, and what is told is of those.
pub record Before (s : Search) (fs : List Open) (ways : List SearchLeaf) (sums : Sums) (t : Table) (d : Standing) : Type 0 where
  pub at : At s fs d
  pub ways_are : ways ≡ firsts (before s fs (done_steps d.trail))
  pub told : AllTold s ways fs (done_steps d.trail) sums
  pub table : IsTrueTable s ways t

-- with the candidate that is taken tried too
abbrev pub tried_too : List Open → List Open
tried_too [] = []
tried_too (f ∷ fs) = next_one f ∷ fs

-- what is told of all runs, where no choice is open
pub record TellsAll (s : Search) (ways : List SearchLeaf) (sums : Sums) : Type 0 where
  pub counts : Tells ways sums.tally (leaves_from (s.limit - s.base) s.root)

-- At a state whose runs are come to: those by the candidate that is taken are told, and where no choice is open all are.
abbrev pub AllToldAfter : Search → List SearchLeaf → List Open → List Step → Sums → Type 0
AllToldAfter s ways [] path sums = TellsAll s ways sums
AllToldAfter s ways (f ∷ fs) path sums = AllTold s ways (next_one f ∷ fs) path sums

abbrev pub come_to : Search → List Open → List Step → List SearchLeaf
come_to s [] path = leaves_from (s.limit - s.base) s.root
come_to s (f ∷ fs) path = before s (next_one f ∷ fs) path

pub record After (s : Search) (fs : List Open) (ways : List SearchLeaf) (sums : Sums) (t : Table) (d : Standing) : Type 0 where
  pub at : At s fs d
  pub ways_are : ways ≡ firsts (come_to s fs (done_steps d.trail))
  pub told : AllToldAfter s ways fs (done_steps d.trail) sums
  pub table : IsTrueTable s ways t

-- the same of a front
abbrev pub open_in : Front → List Open
open_in f = reverse f.stack.items

abbrev pub BeforeIn : Search → Front → Standing → Type 0
BeforeIn s f d = Before s (open_in f) f.ways.items f.sums f.table d

abbrev pub AfterIn : Search → Front → Standing → Type 0
AfterIn s f d = After s (open_in f) f.ways.items f.sums f.table d

-- All runs are come to, and no choice is open.
pub record DoneIn (s : Search) (f : Front) : Type 0 where
  pub none_open : f.stack.items ≡ []
  pub ways_are : f.ways.items ≡ firsts (leaves_from (s.limit - s.base) s.root)
  pub told : TellsAll s f.ways.items f.sums

-- ---- a way down

abbrev pub only_leaf : Ending → SearchLeaf
only_leaf e = record { choices = []; ending = e }

-- how many steps a run has beyond where it ends: one where it is cut
abbrev pub beyond_end : Ending → ℕ
beyond_end (Ended o) = 0
beyond_end Cut = 1

-- it comes to a choice, or to the end of the only run
abbrev pub IsArrived : ℕ → Standing → Arrived → Type 0
IsArrived limit e (arrived_is.Choice candidates) = (wide_decision e.world ≡ Choice candidates) × (e.trail.depth < limit)
IsArrived limit e (arrived_is.End ending) = (leaves_from (limit - e.trail.depth) e.world ≡ only_leaf ending ∷ []) × (height (limit - e.trail.depth) e.world ≡ beyond_end ending)

pub record Down (limit : ℕ) (d : Standing) (a : Arrived) (e : Standing) : Type 0 where
  pub same : SameRuns limit d.trail.depth d.world e.trail.depth e.world
  pub deeper : d.trail.depth ≤ e.trail.depth
  pub within : e.trail.depth ≤ limit
  pub arrived : IsArrived limit e a

-- ---- its moves

-- the ways with one more, where a run ends in a new one
abbrev pub ways_with : List SearchLeaf → List ℕ → Ending → List SearchLeaf
ways_with ways choices e = if has_end ways e then ways else ways ++ record { choices = choices; ending = e } ∷ []

-- a run that ends at a depth is told
pub record Noted (ending : Ending) (depth : ℕ) (f g : Front) : Type 0 where
  pub ways_are : g.ways.items ≡ ways_with f.ways.items (picked (open_in f)) ending
  pub number : ℕ
  pub way : IsWay g.ways.items ending number
  pub counts : g.sums.tally.counts.items ≡ added f.sums.tally.counts.items (one_at number)
  pub total : g.sums.tally.total ≡ plus f.sums.tally.total (Exactly 1)
  pub deepest : g.sums.deepest ≡ max f.sums.deepest (depth + beyond_end ending)
  pub stack : g.stack.items ≡ f.stack.items
  pub table : g.table ≡ f.table

-- what is told of other runs joins the sums
pub record Joined (t : Tally) (depth : ℕ) (f g : Front) : Type 0 where
  pub counts : g.sums.tally.counts.items ≡ added f.sums.tally.counts.items t.counts.items
  pub total : g.sums.tally.total ≡ plus f.sums.tally.total t.total
  pub deepest : g.sums.deepest ≡ max f.sums.deepest depth
  pub ways_are : g.ways.items ≡ f.ways.items
  pub stack : g.stack.items ≡ f.stack.items

-- a choice is opened at its first candidate
pub record Opened (depth : ℕ) (candidates : List Step) (key : Option (Vec ℤ Global)) (f g : Front) : Type 0 where
  pub stack : (o : Open) × (g.stack.items ≡ f.stack.items ++ o ∷ []) × (o ≡ record { depth = depth; candidates = candidates; index = 0; key = key; outer = f.sums })
  pub counts : g.sums.tally.counts.items ≡ []
  pub total : g.sums.tally.total ≡ Exactly 0
  pub deepest : g.sums.deepest ≡ suc depth
  pub ways_are : g.ways.items ≡ f.ways.items
  pub table : g.table ≡ f.table

-- what was found is kept by the key of its state, where there is one
abbrev pub KeptBy : Table → Option (Vec ℤ Global) → Found → Table → Type 0
KeptBy old None found new = new ≡ old
KeptBy old (Some key) found new = KeepsAPart old key found new

-- a choice whose candidates are all tried is closed: what is told of its runs joins what is told round it, and may be kept
pub record Closed (limit depth : ℕ) (key : Option (Vec ℤ Global)) (outer : Sums) (f g : Front) : Type 0 where
  pub counts : g.sums.tally.counts.items ≡ added outer.tally.counts.items f.sums.tally.counts.items
  pub total : g.sums.tally.total ≡ plus outer.tally.total f.sums.tally.total
  pub deepest : g.sums.deepest ≡ max outer.deepest f.sums.deepest
  pub ways_are : g.ways.items ≡ f.ways.items
  pub stack : g.stack.items ≡ f.stack.items
  pub table : KeptBy f.table key (record { fuel = limit - depth; height = f.sums.deepest - depth; tally = f.sums.tally }) g.table

-- its runs are told from the table, or it is opened
abbrev pub Met : Search → Bool → Front → Standing → Type 0
Met s true g e = BeforeIn s g e
Met s false g e = AfterIn s g e

-- there are runs from where it stands, or all runs are come to
abbrev pub Turned : Search → Bool → Front → Standing → Type 0
Turned s true g e = BeforeIn s g e
Turned s false g e = DoneIn s g

-- the leaves that were come to where it stands; all of them where none are left
abbrev pub come_now : Search → Bool → Front → Standing → List SearchLeaf
come_now s true g e = before s (open_in g) (done_steps e.trail)
come_now s false g e = leaves_from (s.limit - s.base) s.root

-- no way is new, or one is, and it is that of the last leaf that was come to
abbrev pub Grows : List SearchLeaf → List SearchLeaf → List SearchLeaf → List SearchLeaf → Type 0
Grows ways new ls more = (new ≡ ways) ⊎ ((l : SearchLeaf) × (new ≡ ways ++ l ∷ []) × (more ≡ ls ++ l ∷ []))

-- how many states stand along the leaves that were come to, and those at which a choice is open
abbrev pub states_now : Search → Bool → Front → Standing → ℕ
states_now s true g e = states_along (before s (open_in g) (done_steps e.trail)) + length (open_in g)
states_now s false g e = states_along (leaves_from (s.limit - s.base) s.root)

abbrev pub states_met : Search → Bool → Front → Standing → ℕ
states_met s true g e = states_now s true g e
states_met s false g e = states_along (come_to s (open_in g) (done_steps e.trail))

-- A search has gone on: to more runs, of which at most the last ends in a new way, and along more states.
pub record WentOn (s : Search) (f : Front) (d : Standing) (more : Bool) (g : Front) (e : Standing) : Type 0 where
  pub turned : Turned s more g e
  pub grows : Grows f.ways.items g.ways.items (before s (open_in f) (done_steps d.trail)) (come_now s more g e)
  pub states : states_now s true f d < states_now s more g e

-- A search has stopped: of the leaves that were come to none but the last one meets the goal, and no more states were come to than there are.
pub record Stopped (s : Search) (until : Option Goal) (reach : Reach) (g : Front) (e : Standing) : Type 0 where
  pub turned : Turned s reach.more g e
  pub stops : StopsAt until (come_now s reach.more g e)
  pub few : reach.visited ≤ states_now s reach.more g e

-- what was found is told, or nothing
abbrev pub Recalled : Option (Vec ℤ Global) → ℕ → ℕ → Bool → Front → Front → Type 0
Recalled key limit depth true f g = (k : Vec ℤ Global) × (key ≡ Some k) × (found : Found) × (found_at f.table k ≡ Some found) × (serves found (limit - depth) ≡ true) × Joined found.tally (depth + found.height) f g × (g.table ≡ f.table)
Recalled key limit depth false f g = g ≡ f
