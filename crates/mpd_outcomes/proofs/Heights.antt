-- With enough fuel for the longest run the wide walk is the same.
use Rattle.std.proofs.Common.{◌≡◌, ℕ, zero, suc, ◌+◌, ◌≤◌, max, Option, Some, None, List, [], ◌∷◌, ◌++◌, map, refl, ap, arith}
use Rattle.mpd_model.specs.declared.step.Step.{Step}
use Rattle.mpd_model.specs.declared.decision.Decision.{Decision}
use Rattle.mpd_model.specs.declared.decision.Decision.TheVariants.{Forced, Choice, Leaf}
use Rattle.mpd_model.specs.steps.World.{World}
use Rattle.mpd_model.specs.steps.Next.{next}
use Rattle.mpd_policy.specs.Wide.{wide_decision}
use Rattle.mpd_policy.specs.Walk.{stepped, chosen, runs_of, branches, followed, stopped, wide_walk}
use Rattle.mpd_outcomes.specs.Height.{height_of, highest, height_by, height_stopped, height}

abbrev EnoughFor : ℕ → Type 0
EnoughFor m = (n : ℕ) (w : World) → height m w ≤ m → height m w ≤ n → (wide_walk n w ≡ wide_walk m w) × (height n w ≡ height m w)

behind : (m : ℕ) → EnoughFor m → (n : ℕ) (o : Option World) → height_of (height m) o ≤ m → height_of (height m) o ≤ n
    → (runs_of (wide_walk n) o ≡ runs_of (wide_walk m) o) × (height_of (height n) o ≡ height_of (height m) o)
behind m ih n None low enough = (refl, refl)
behind m ih n (Some w) low enough = ih n w low enough

all_branches : (m : ℕ) → EnoughFor m → (n : ℕ) (w : World) (i : ℕ) (candidates : List Step) → highest (height m) w candidates ≤ m → highest (height m) w candidates ≤ n
    → (branches (wide_walk n) w i candidates ≡ branches (wide_walk m) w i candidates) × (highest (height n) w candidates ≡ highest (height m) w candidates)
all_branches m ih n w i [] low enough = (refl, refl)
all_branches m ih n w i (a ∷ more) low enough =
    let first = behind m ih n (next w a) (omega (arith, low)) (omega (arith, enough)) in
    let rest = all_branches m ih n w (suc i) more (omega (arith, low)) (omega (arith, enough)) in
    ((λ j. map (chosen i a) (first.0 j) ++ rest.0 j), λ j. max (first.1 j) (rest.1 j))

no_steps : (n : ℕ) (w : World) (d : Decision) → height_stopped d ≤ 0 → (followed (wide_walk n) (wide_walk n) w d ≡ stopped d) × (height_by (height n) w d ≡ height_stopped d)
no_steps n w (Forced a) low = absurd (omega (arith, low))
no_steps n w (Choice candidates) low = absurd (omega (arith, low))
no_steps n w (Leaf o) low = (refl, refl)

no_fuel : (m : ℕ) (w : World) (d : Decision) → height_by (height m) w d ≤ 0 → (stopped d ≡ followed (wide_walk m) (wide_walk m) w d) × (height_stopped d ≡ height_by (height m) w d)
no_fuel m w (Forced a) low = absurd (omega (arith, low))
no_fuel m w (Choice candidates) low = absurd (omega (arith, low))
no_fuel m w (Leaf o) low = (refl, refl)

both_go_on : (m : ℕ) → EnoughFor m → (n : ℕ) (w : World) (d : Decision) → height_by (height m) w d ≤ suc m → height_by (height m) w d ≤ suc n
    → (followed (wide_walk n) (wide_walk n) w d ≡ followed (wide_walk m) (wide_walk m) w d) × (height_by (height n) w d ≡ height_by (height m) w d)
both_go_on m ih n w (Forced a) low enough =
    let rest = behind m ih n (next w a) (omega (arith, low)) (omega (arith, enough)) in
    (ap (map (stepped a)) rest.0, ap (λ (k : ℕ). 1 + k) rest.1)
both_go_on m ih n w (Choice candidates) low enough =
    let rest = all_branches m ih n w 0 candidates (omega (arith, low)) (omega (arith, enough)) in
    (rest.0, ap (λ (k : ℕ). 1 + k) rest.1)
both_go_on m ih n w (Leaf o) low enough = (refl, refl)

pub enough_for : (m : ℕ) → EnoughFor m
unfolding wide_walk height
enough_for zero zero w low enough = (refl, refl)
enough_for zero (suc n) w low enough = no_steps n w (wide_decision w) low
enough_for (suc m) zero w low enough = no_fuel m w (wide_decision w) enough
enough_for (suc m) (suc n) w low enough = both_go_on m (enough_for m) n w (wide_decision w) low enough
