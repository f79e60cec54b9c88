-- What a way means for the runs that begin with it.
use Rattle.std.proofs.Common.{◌≡◌, ℕ, suc, ◌+◌, List, ◌∷◌, ◌++◌, length, Option, Some, None, refl, ap, ◌∙◌, arith}
use Rattle.std.specs.Option.{option_map}
use Rattle.mpd_model.specs.declared.step.Step.{Step}
use Rattle.mpd_model.specs.declared.decision.Decision.{Decision}
use Rattle.mpd_model.specs.declared.decision.Decision.TheVariants.{Forced, Choice}
use Rattle.mpd_model.specs.steps.World.{World}
use Rattle.mpd_policy.specs.Walk.{Run, stepped, chosen, prefixed, run_from, run_taken, run_followed, run_by}
use Rattle.mpd_policy.specs.Walked.{Walked}
use Rattle.mpd_policy.specs.Walked.Walked.{here as way_here, forced as way_forced, chosen as way_chosen}

pub run_is : (decide : World → Decision) (n : ℕ) (cs : List ℕ) (w : World) (d : Decision) → decide w ≡ d → run_by decide (suc n) cs w ≡ run_followed (run_by decide n) w cs d
unfolding run_by
run_is decide n cs w d e = ap (run_followed (run_by decide n) w cs) e

option_same : {A : Type 0} (o : Option A) → o ≡ option_map (λ x. x) o
option_same None = refl
option_same (Some x) = refl

stepped_prefixed : (a : Step) (cs : List ℕ) (p : List Step) (o : Option Run) → option_map (stepped a) (option_map (prefixed cs p) o) ≡ option_map (prefixed cs (a ∷ p)) o
stepped_prefixed a cs p None = refl
stepped_prefixed a cs p (Some r) = refl

chosen_prefixed : (i : ℕ) (a : Step) (cs : List ℕ) (p : List Step) (o : Option Run) → option_map (chosen i a) (option_map (prefixed cs p) o) ≡ option_map (prefixed (i ∷ cs) (a ∷ p)) o
chosen_prefixed i a cs p None = refl
chosen_prefixed i a cs p (Some r) = refl

module _ {C : Type 0} (decide : World → Decision) (takes : C → ℕ → World → List Step → ℕ → C → Type 0) (passes : C → ℕ → World → Step → C → Type 0) where
  -- what begins there is what begins here with the way in front
  pub run_along : (c e : C) (n k m : ℕ) (w v : World) (cs : List ℕ) (p : List Step) (x : List ℕ) → k ≡ length p + m → Walked decide takes passes c n w cs p v e → run_by decide k (cs ++ x) w ≡ option_map (prefixed cs p) (run_by decide m x v)
  run_along c e n k m w v cs p x at (way_here _ _ _) = ap (λ i. run_by decide i x w) (let same : k ≡ m = omega (arith, at) in same) ∙ option_same (run_by decide m x w)
  run_along c e n k m w v cs p x at (way_forced _ d _ _ _ u _ a _ path is passed step h) =
      let more : k ≡ suc (length path + m) = omega (arith, at) in
      ap (λ i. run_by decide i (cs ++ x) w) more
      ∙ run_is decide (length path + m) (cs ++ x) w (Forced a) is ∙ ap (λ o. option_map (stepped a) (run_from (run_by decide (length path + m) (cs ++ x)) o)) step
      ∙ ap (option_map (stepped a)) (run_along d e (suc n) (length path + m) m u v cs path x refl h) ∙ stepped_prefixed a cs path (run_by decide m x v)
  run_along c e n k m w v cs p x at (way_chosen _ d _ _ i _ u _ a candidates bs path is read taken step h) =
      let more : k ≡ suc (length path + m) = omega (arith, at) in
      ap (λ j. run_by decide j (i ∷ bs ++ x) w) more
      ∙ run_is decide (length path + m) (i ∷ bs ++ x) w (Choice candidates) is ∙ ap (run_taken (run_by decide (length path + m) (bs ++ x)) w i) read
      ∙ ap (λ o. option_map (chosen i a) (run_from (run_by decide (length path + m) (bs ++ x)) o)) step
      ∙ ap (option_map (chosen i a)) (run_along d e (suc n) (length path + m) m u v bs path x refl h) ∙ chosen_prefixed i a bs path (run_by decide m x v)
