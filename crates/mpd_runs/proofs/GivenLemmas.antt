-- Steps that are taken one after another.
use Rattle.std.proofs.Common.{◌≡◌, ℕ, ◌<◌, ◌+◌, List, [], ◌∷◌, ◌++◌, length, take, get_or, Option, Some, None, is_some, refl, sym, ap, subst, ◌∙◌, append_assoc}
use Rattle.std.proofs.lemmas.List.{take_more}
use Rattle.std.specs.Option.{option_and_then}
use Rattle.mpd_model.specs.declared.step.Step.{Step}
use Rattle.mpd_model.specs.steps.World.{World}
use Rattle.mpd_model.specs.steps.Next.{next, fold}
use Rattle.mpd_runs.specs.Given.{StopsAt}

fold_on : (steps : List Step) (a : Step) (u : World) → fold u (steps ++ a ∷ []) ≡ option_and_then (λ w. fold w (a ∷ [])) (fold u steps)
fold_on [] a u = refl
fold_on (b ∷ steps) a u = elim (next u b) as (λ o. option_and_then (λ v. fold v (steps ++ a ∷ [])) o ≡ option_and_then (λ w. fold w (a ∷ [])) (option_and_then (λ v. fold v steps) o)) [ None ↦ refl | Some v ↦ fold_on steps a v ]

-- where a step leads on from where others led
pub fold_more : (steps : List Step) (a : Step) (u w : World) (o : Option World) → fold u steps ≡ Some w → next w a ≡ o → fold u (steps ++ a ∷ []) ≡ o
fold_more steps a u w o h k = fold_on steps a u ∙ ap (option_and_then (λ v. fold v (a ∷ []))) h ∙ same (next w a) ∙ k
  where
    same : (o : Option World) → option_and_then (λ v. fold v []) o ≡ o
    same None = refl
    same (Some v) = refl

one_more : (steps : List Step) (i : ℕ) (a d : Step) → i < length steps → a ≡ get_or steps i d → take (i + 1) steps ≡ take i steps ++ a ∷ []
one_more steps i a d h is = take_more steps i d h ∙ ap (λ b. take i steps ++ b ∷ []) (sym is)

-- one step more leads on
pub given_on : (steps : List Step) (i : ℕ) (a d : Step) (u w v : World) → i < length steps → a ≡ get_or steps i d → fold u (take i steps) ≡ Some w → next w a ≡ Some v → fold u (take (i + 1) steps) ≡ Some v
given_on steps i a d u w v h is leads more = ap (fold u) (one_more steps i a d h is) ∙ fold_more (take i steps) a u w (Some v) leads more

-- one step more isn't enabled
pub given_stops : (steps : List Step) (i place : ℕ) (a d : Step) (u w : World) → i < length steps → a ≡ get_or steps i d → fold u (take i steps) ≡ Some w → next w a ≡ None → place ≡ i → StopsAt u steps place
given_stops steps i place a d u w h is leads none at =
    subst (λ k. StopsAt u steps k) (sym at) (record { before = ap is_some leads; here = ap (fold u) (one_more steps i a d h is) ∙ fold_more (take i steps) a u w None leads none })

-- the steps that were taken, with one more
pub given_kept : (steps : List Step) (i : ℕ) (a d : Step) (old so_far now : List Step) → i < length steps → a ≡ get_or steps i d → so_far ≡ old ++ take i steps → now ≡ so_far ++ a ∷ [] → now ≡ old ++ take (i + 1) steps
given_kept steps i a d old so_far now h is e more = more ∙ ap (λ xs. xs ++ a ∷ []) e ∙ append_assoc old (take i steps) (a ∷ []) ∙ ap (λ xs. old ++ xs) (sym (one_more steps i a d h is))

pub ruleset taking = (given_on, given_stops, given_kept)
