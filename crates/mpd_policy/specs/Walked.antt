-- A way along decisions: which candidates are taken at the choices, and what is made of the steps that nobody has to choose, is told by
-- relations of a chooser before and after.
use Rattle.std.specs.Prelude.{◌≡◌, ℕ, suc, List, [], ◌∷◌, slice_get, Option, Some, None}
use Rattle.mpd_model.specs.declared.step.Step.{Step}
use Rattle.mpd_model.specs.declared.decision.Decision.{Decision}
use Rattle.mpd_model.specs.declared.decision.Decision.TheVariants.{Forced, Choice}
use Rattle.mpd_model.specs.steps.World.{World}
use Rattle.mpd_model.specs.steps.Next.{next}

-- The chooser before, where the way begins (the depth and the world), the choices that are made, the steps, the world they lead to, and the
-- chooser after.
pub data Walked {C : Type 0} (decide : World → Decision) (takes : C → ℕ → World → List Step → ℕ → C → Type 0) (passes : C → ℕ → World → Step → C → Type 0) : C → ℕ → World → List ℕ → List Step → World → C → Type 0 where
  here : (c : C) (n : ℕ) (w : World) → Walked decide takes passes c n w [] [] w c
  forced : (c d e : C) (n : ℕ) (w u v : World) (a : Step) (cs : List ℕ) (path : List Step)
      → decide w ≡ Forced a → passes c n w a d → next w a ≡ Some u → Walked decide takes passes d (suc n) u cs path v e → Walked decide takes passes c n w cs (a ∷ path) v e
  chosen : (c d e : C) (n i : ℕ) (w u v : World) (a : Step) (candidates : List Step) (cs : List ℕ) (path : List Step)
      → decide w ≡ Choice candidates → slice_get candidates i ≡ Some a → takes c n w candidates i d → next w a ≡ Some u → Walked decide takes passes d (suc n) u cs path v e
      → Walked decide takes passes c n w (i ∷ cs) (a ∷ path) v e

-- a candidate is taken, or none
abbrev pub Chose : {C : Type 0} → (C → ℕ → World → List Step → ℕ → C → Type 0) → (C → ℕ → World → List Step → C → Type 0) → C → ℕ → World → List Step → Option Step → C → Type 0
Chose takes leaves c n w candidates None d = leaves c n w candidates d
Chose takes leaves c n w candidates (Some a) d = (i : ℕ) × (slice_get candidates i ≡ Some a) × takes c n w candidates i d
