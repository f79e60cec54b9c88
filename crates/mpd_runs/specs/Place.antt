-- Which of some choices is none. What comes next in a state is told by a function.
use Rattle.std.specs.Prelude.{ℕ, zero, suc, List, [], ◌∷◌, slice_get, Option, Some, None}
use Rattle.mpd_model.specs.declared.step.Step.{Step}
use Rattle.mpd_model.specs.declared.decision.Decision.{Decision}
use Rattle.mpd_model.specs.declared.decision.Decision.TheVariants.{Forced, Choice, Leaf}
use Rattle.mpd_model.specs.steps.World.{World}
use Rattle.mpd_model.specs.steps.Next.{next}

-- the first of the choices that are left over where a run is over, by its number
abbrev pub left_over : ℕ → List ℕ → Option ℕ
left_over k [] = None
left_over k (c ∷ cs) = Some k

-- after a step, where it is enabled
abbrev pub bad_behind : (World → Option ℕ) → ℕ → Option World → Option ℕ
bad_behind bad k None = Some k
bad_behind bad k (Some w) = bad w

-- where a choice takes this candidate, or there are fewer
abbrev pub bad_taken : (World → Option ℕ) → World → ℕ → Option Step → Option ℕ
bad_taken bad w k None = Some k
bad_taken bad w k (Some a) = bad_behind bad k (next w a)

abbrev pub bad_by : (ℕ → List ℕ → World → Option ℕ) → World → ℕ → List ℕ → Decision → Option ℕ
bad_by bad w k cs (Forced a) = bad_behind (bad k cs) k (next w a)
bad_by bad w k [] (Choice candidates) = Some k
bad_by bad w k (c ∷ cs) (Choice candidates) = bad_taken (bad (suc k) cs) w k (slice_get candidates c)
bad_by bad w k cs (Leaf o) = left_over k cs

-- The first of some choices, of which the first is number k, that is none in the run that they tell from a state with so much fuel: there are
-- fewer candidates, or the run is over before it. Where they are too few it is the number of the one that is missing; none stands for all being right.
unfoldable pub bad_place : (World → Decision) → ℕ → ℕ → List ℕ → World → Option ℕ
bad_place decide zero k cs w = left_over k cs
bad_place decide (suc n) k cs w = bad_by (bad_place decide n) w k cs (decide w)
