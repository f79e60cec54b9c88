-- The runs of a state, by its decision, and runs behind steps and choices.
use Rattle.std.proofs.Common.{◌≡◌, ℕ, ◌<◌, List, [], ◌∷◌, ◌++◌, length, map, Option, Some, None, IsSome, refl, sym, ap, arith, append_assoc, append-nil}
use Rattle.mpd_model.specs.declared.step.Step.{Step}
use Rattle.mpd_model.specs.declared.decision.Decision.{Decision}
use Rattle.mpd_model.specs.declared.decision.Decision.TheVariants.{Forced, Choice, Leaf}
use Rattle.mpd_model.specs.steps.World.{World}
use Rattle.mpd_policy.specs.declared.ending.Ending.{Ending}
use Rattle.mpd_policy.specs.Walk.{Run, here, stepped, chosen, prefixed, runs_of, stopped}

-- ---- runs behind a step and a choice

prefixed_step : (choices : List ℕ) (path : List Step) (a : Step) (r : Run) → prefixed choices path (stepped a r) ≡ prefixed choices (path ++ a ∷ []) r
prefixed_step choices path a r = ap (λ steps. record { choices = choices ++ r.choices; steps = steps; ending = r.ending }) (sym (append_assoc path (a ∷ []) r.steps))

pub map_stepped : (choices : List ℕ) (path : List Step) (a : Step) (rs : List Run) → map (prefixed choices path) (map (stepped a) rs) ≡ map (prefixed choices (path ++ a ∷ [])) rs
map_stepped choices path a [] = refl
map_stepped choices path a (r ∷ rs) = λ i. prefixed_step choices path a r i ∷ map_stepped choices path a rs i

prefixed_choice : (choices : List ℕ) (path : List Step) (n : ℕ) (a : Step) (r : Run) → prefixed choices path (chosen n a r) ≡ prefixed (choices ++ n ∷ []) (path ++ a ∷ []) r
prefixed_choice choices path n a r = λ i. record { choices = sym (append_assoc choices (n ∷ []) r.choices) i; steps = sym (append_assoc path (a ∷ []) r.steps) i; ending = r.ending }

pub map_chosen : (choices : List ℕ) (path : List Step) (n : ℕ) (a : Step) (rs : List Run) → map (prefixed choices path) (map (chosen n a) rs) ≡ map (prefixed (choices ++ n ∷ []) (path ++ a ∷ [])) rs
map_chosen choices path n a [] = refl
map_chosen choices path n a (r ∷ rs) = λ i. prefixed_choice choices path n a r i ∷ map_chosen choices path n a rs i

pub map_join : (f : Run → Run) (xs ys : List Run) → map f (xs ++ ys) ≡ map f xs ++ map f ys
map_join f [] ys = refl
map_join f (x ∷ xs) ys = ap (λ zs. f x ∷ zs) (map_join f xs ys)

pub prefixed_here : (choices : List ℕ) (path : List Step) (e : Ending) → prefixed choices path (here e) ≡ record { choices = choices; steps = path; ending = e }
prefixed_here choices path e = λ i. record { choices = append-nil choices i; steps = append-nil path i; ending = e }

-- ---- from each state there is a run

pub stopped_some : (d : Decision) → 0 < length (stopped d)
stopped_some (Forced a) = omega arith
stopped_some (Choice candidates) = omega arith
stopped_some (Leaf o) = omega arith

pub runs_some : (runs : World → List Run) (o : Option World) → ((v : World) → 0 < length (runs v)) → IsSome o → 0 < length (runs_of runs o)
runs_some runs None all h = cc
runs_some runs (Some v) all h = all v
