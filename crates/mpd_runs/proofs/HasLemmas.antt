-- The run that some choices tell is one of the wide walk.
use Rattle.std.proofs.Common.{◌≡◌, ◌⊎◌, inl, inr, ℕ, zero, suc, ◌+◌, List, [], ◌∷◌, ◌++◌, map, slice_get, Option, Some, None, refl, sym, ap, arith}
use Rattle.std.specs.Option.{option_map}
use Rattle.mpd_model.specs.declared.step.Step.{Step}
use Rattle.mpd_model.specs.declared.decision.Decision.{Decision}
use Rattle.mpd_model.specs.declared.decision.Decision.TheVariants.{Forced, Choice, Leaf}
use Rattle.mpd_model.specs.steps.World.{World}
use Rattle.mpd_model.specs.steps.Next.{next}
use Rattle.mpd_policy.specs.Wide.{wide_decision}
use Rattle.mpd_policy.specs.declared.ending.Ending.TheVariants.{Ended}
use Rattle.mpd_policy.specs.Walk.{Run, here, stepped, chosen, runs_of, branches, followed, stopped, wide_walk, run_from, run_taken, run_followed, run_stopped, run_by}

-- a run is one of some
abbrev pub Has : Run → List Run → Type 0
Has r [] = ⊥
Has r (x ∷ xs) = (x ≡ r) ⊎ Has r xs

has_mapped : (f : Run → Run) (r : Run) (rs : List Run) → Has r rs → Has (f r) (map f rs)
has_mapped f r [] h = absurd h
has_mapped f r (x ∷ xs) (inl e) = inl (ap f e)
has_mapped f r (x ∷ xs) (inr h) = inr (has_mapped f r xs h)

has_front : (r : Run) (xs ys : List Run) → Has r xs → Has r (xs ++ ys)
has_front r [] ys h = absurd h
has_front r (x ∷ xs) ys (inl e) = inl e
has_front r (x ∷ xs) ys (inr h) = inr (has_front r xs ys h)

has_behind : (r : Run) (xs ys : List Run) → Has r ys → Has r (xs ++ ys)
has_behind r [] ys h = h
has_behind r (x ∷ xs) ys h = inr (has_behind r xs ys h)

some_is : (q r : Run) → Some q ≡ Some r → q ≡ r
some_is q r e = cc

some_has : (q r : Run) → Some q ≡ Some r → Has r (q ∷ [])
some_has q r e = inl (some_is q r e)

none_has : (r : Run) (rs : List Run) → ◌≡◌ {A = Option Run} None (Some r) → Has r rs
none_has r rs e = cc

-- ---- behind a step

abbrev IsIn : (World → Option Run) → (World → List Run) → Type 0
IsIn run runs = (v : World) (r : Run) → run v ≡ Some r → Has r (runs v)

mapped_in : (f : Run → Run) (o : Option Run) (rs : List Run) (r : Run) → ((q : Run) → o ≡ Some q → Has q rs) → option_map f o ≡ Some r → Has r (map f rs)
mapped_in f None rs r all e = none_has r (map f rs) e
mapped_in f (Some q) rs r all e = let is : f q ≡ r = some_is (f q) r e in rw (sym is) (has_mapped f q rs (all q refl))

from_in : (run : World → Option Run) (runs : World → List Run) (o : Option World) (q : Run) → IsIn run runs → run_from run o ≡ Some q → Has q (runs_of runs o)
from_in run runs None q all e = none_has q [] e
from_in run runs (Some v) q all e = all v q e

step_in : (run : World → Option Run) (runs : World → List Run) (f : Run → Run) (o : Option World) (r : Run) → IsIn run runs → option_map f (run_from run o) ≡ Some r → Has r (map f (runs_of runs o))
step_in run runs f o r all e = mapped_in f (run_from run o) (runs_of runs o) r (λ q h. from_in run runs o q all h) e

-- ---- behind a candidate

branch_in : (run : World → Option Run) (runs : World → List Run) (w : World) (i c j : ℕ) (candidates : List Step) (r : Run) → IsIn run runs → j ≡ i + c → run_taken run w j (slice_get candidates c) ≡ Some r → Has r (branches runs w i candidates)
branch_in run runs w i c j [] r all number e = none_has r [] e
branch_in run runs w i zero j (a ∷ more) r all number e =
    let at : j ≡ i = omega (arith, number) in
    has_front r (map (chosen i a) (runs_of runs (next w a))) (branches runs w (suc i) more) (step_in run runs (chosen i a) (next w a) r all (rw at at e))
branch_in run runs w i (suc c) j (a ∷ more) r all number e =
    has_behind r (map (chosen i a) (runs_of runs (next w a))) (branches runs w (suc i) more) (branch_in run runs w (suc i) c j more r all (omega (arith, number)) e)

-- ---- the walk

followed_in : (run : List ℕ → World → Option Run) (runs : World → List Run) (w : World) (cs : List ℕ) (d : Decision) (r : Run) → ((ds : List ℕ) → IsIn (run ds) runs) → run_followed run w cs d ≡ Some r → Has r (followed runs runs w d)
followed_in run runs w cs (Forced a) r all e = step_in (run cs) runs (stepped a) (next w a) r (all cs) e
followed_in run runs w [] (Choice candidates) r all e = none_has r (branches runs w 0 candidates) e
followed_in run runs w (c ∷ cs) (Choice candidates) r all e = branch_in (run cs) runs w 0 c c candidates r (all cs) (omega arith) e
followed_in run runs w [] (Leaf o) r all e = some_has _ r e
followed_in run runs w (c ∷ cs) (Leaf o) r all e = none_has r (here (Ended o) ∷ []) e

stopped_in : (cs : List ℕ) (d : Decision) (r : Run) → run_stopped cs d ≡ Some r → Has r (stopped d)
stopped_in [] (Forced a) r e = some_has _ r e
stopped_in [] (Choice candidates) r e = some_has _ r e
stopped_in [] (Leaf o) r e = some_has _ r e
stopped_in (c ∷ cs) d r e = none_has r (stopped d) e

pub walk_has : (n : ℕ) (cs : List ℕ) (w : World) (r : Run) → run_by wide_decision n cs w ≡ Some r → Has r (wide_walk n w)
unfolding wide_walk run_by
walk_has zero cs w r e = stopped_in cs (wide_decision w) r e
walk_has (suc n) cs w r e = followed_in (run_by wide_decision n) (wide_walk n) w cs (wide_decision w) r (λ ds v q h. walk_has n ds v q h) e
