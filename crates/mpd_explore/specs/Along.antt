-- Where a debugger stands that has gone along some choices, and what a piece becomes by one choice more.
use Rattle.std.specs.Prelude.{◌≡◌, ℕ, zero, suc, ◌+◌, nat_lt, Bool, if◌then◌else◌, List, [], ◌∷◌, ◌++◌, length, map, flat_map, slice_get, Option, Some, None}
use Rattle.std.specs.List.{list_any, range_with_len}
use Rattle.std.specs.Option.{option_map}
use Rattle.mpd_model.specs.declared.step.Step.{Step}
use Rattle.mpd_model.specs.declared.decision.Decision.{Decision}
use Rattle.mpd_model.specs.declared.decision.Decision.TheVariants.{Forced, Choice, Leaf}
use Rattle.mpd_model.specs.steps.World.{World}
use Rattle.mpd_model.specs.steps.Next.{next}
use Rattle.mpd_model.specs.runs.Trail.{Standing}
use Rattle.mpd_explore.specs.declared.report.SearchLeaf as leaf
use Rattle.mpd_explore.specs.declared.report.SearchLimits.{SearchLimits}
use Rattle.mpd_policy.specs.Walk.{Run, prefixed, runs_of, run_by}
use Rattle.mpd_policy.specs.Walks.{Beyond}
use Rattle.mpd_explore.specs.Report.{ended_by}
use Rattle.mpd_explore.specs.declared.splitter.Piece.{Piece}
use Rattle.mpd_explore.specs.Sleeping.{put_off, Rules}
use Rattle.mpd_explore.specs.Pieces.{led_by, pieces, numbered, walk_from, walk_at, Reaches, part, part_left}

-- ---- one choice more

abbrev pub lists_by : (World → List (List ℕ)) → World → ℕ → Option Step → List (List ℕ)
lists_by lists w c None = []
lists_by lists w c (Some a) = led_by c (runs_of lists (next w a))

abbrev pub longer_by : (List ℕ → World → List (List ℕ)) → World → ℕ → List ℕ → Decision → List (List ℕ)
longer_by lists w c cs (Forced a) = runs_of (lists (c ∷ cs)) (next w a)
longer_by lists w c cs (Choice candidates) = lists_by (lists cs) w c (slice_get candidates c)
longer_by lists w c cs (Leaf o) = []

-- What a piece becomes where one choice more is made: a piece for each candidate of the next choice, or itself where there is none.
unfoldable pub longer : (World → Decision) → ℕ → List ℕ → World → List (List ℕ)
longer decide n [] w = pieces decide 1 n w
longer decide zero (c ∷ cs) w = []
longer decide (suc n) (c ∷ cs) w = longer_by (longer decide n) w c cs (decide w)

-- the pieces of one choice, by how many candidates it has; none stands for an end before it
abbrev pub counted : ℕ → List (List ℕ)
counted zero = [] ∷ []
counted (suc m) = map (λ i. i ∷ []) (range_with_len 0 (suc m))

-- ---- along some choices

-- What is asleep after some choices: these steps, or one of the choices is itself of a step that is asleep, and then no run goes there.
abbrev pub runs_on : Rules → ℕ → Option (List Step) → List ℕ → World → List Run
runs_on r n None cs w = []
runs_on r n (Some asleep) cs w = walk_from r n cs asleep w

-- after a step that nobody has to choose
abbrev pub sleeping_on : Rules → World → Step → Option (List Step) → Option (List Step)
sleeping_on r w a asleep = option_map (r.keeps w a) asleep

-- after one choice more
abbrev pub sleeping_behind : Rules → World → List Step → ℕ → Step → Option (List Step) → Option (List Step)
sleeping_behind r w candidates c a None = None
sleeping_behind r w candidates c a (Some asleep) =
    if list_any (r.same a) (put_off r.sleeps c candidates asleep) then None else Some (r.keeps w a (put_off r.sleeps c candidates asleep))

-- Steps that make some choices lead from one world to another, and so much of the fuel is left: what begins there with whatever choices
-- is what begins here with those in front. What sleeps here and there is told, too.
pub record Along (r : Rules) (fuel : ℕ) (here : Option (List Step)) (w : World) (choices : List ℕ) (path : List Step) (rest : ℕ) (there : Option (List Step)) (v : World) : Type 0 where
  pub walks : (x : List ℕ) → runs_on r fuel here (choices ++ x) w ≡ map (prefixed choices path) (runs_on r rest there x v)
  pub runs : (x : List ℕ) → run_by r.decides fuel (choices ++ x) w ≡ option_map (prefixed choices path) (run_by r.decides rest x v)
  pub lists : (x : List ℕ) → longer r.decides fuel (choices ++ x) w ≡ map (λ cs. choices ++ cs) (longer r.decides rest x v)

-- A debugger that has gone on along some choices, of which these are still to be made.
pub record Going (r : Rules) (fuel : ℕ) (choices : List ℕ) (here : Option (List Step)) (d : Standing) (left : List ℕ) (there : Option (List Step)) (e : Standing) : Type 0 where
  pub beyond : Beyond d e
  pub taken : List ℕ
  pub joined : taken ++ left ≡ choices
  pub rest : ℕ
  pub spent : e.trail.depth + rest ≡ d.trail.depth + fuel
  pub along : Along r fuel here d.world taken beyond.path rest there e.world
  pub reaches : Reaches r.decides rest left e.world

-- ---- on to the next choice

-- A forced step was taken, or there is a choice of so many candidates; none stands for the end of a run.
abbrev pub Looked : (World → Decision) → Standing → Option ℕ → Standing → Type 0
Looked decide d None e = (e.trail.depth ≡ d.trail.depth + 1) × ((n : ℕ) → pieces decide 1 (suc n) d.world ≡ pieces decide 1 n e.world)
Looked decide d (Some m) e = (n : ℕ) → pieces decide 1 (suc n) d.world ≡ counted m

-- ---- pieces that are added

-- These were added, numbered after those before.
pub record Adds (old : List Piece) (lists : List (List ℕ)) (new : List Piece) : Type 0 where
  pub numbers : (xs : List (List ℕ)) → old ≡ numbered 0 xs → new ≡ numbered 0 (xs ++ lists)
  pub count : length new ≡ length old + length lists

-- what all of some pieces become
abbrev pub all_longer : (World → Decision) → ℕ → World → List Piece → List (List ℕ)
all_longer decide fuel w ps = flat_map (λ (p : Piece). longer decide fuel p.choices w) ps

abbrev pub choices_of : List Piece → List (List ℕ)
choices_of ps = map (λ (p : Piece). p.choices) ps

-- ---- the parts of some pieces

abbrev pub parts : SearchLimits → World → List Piece → List leaf.SearchLeaf
parts l w ps = flat_map (λ (p : Piece). part l p.choices w) ps

-- whether one of them has more
abbrev pub has_more : SearchLimits → World → List Piece → Bool
has_more l w ps = list_any (λ (p : Piece). part_left l p.choices w) ps

-- whether one of them has a run
abbrev pub have_run : SearchLimits → World → List Piece → Bool
have_run l w ps = list_any (λ (p : Piece). nat_lt 0 (length (walk_at l p.choices w))) ps

-- all their runs
abbrev pub walks : SearchLimits → World → List Piece → List Run
walks l w ps = flat_map (λ (p : Piece). walk_at l p.choices w) ps

-- the report of these pieces, and whether there are others
abbrev pub report_of : SearchLimits → World → List Piece → List leaf.SearchLeaf
report_of l w ps = ended_by l.until_bad (parts l w ps)

abbrev pub more_of : SearchLimits → World → List Piece → Bool
more_of l w ps = if l.until_bad then nat_lt (length (report_of l w ps)) (length (walks l w ps)) else has_more l w ps
