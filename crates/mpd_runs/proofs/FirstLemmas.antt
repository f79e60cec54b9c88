-- The run of the first candidates is the way along which each choice takes candidate number 0. What comes next in a state is told by a
-- function.
use Rattle.std.proofs.Common.{nat_lt, ◌≡◌, ℕ, zero, suc, ◌≤◌, ◌+◌, ◌-◌, min, Bool, false, List, [], ◌∷◌, ◌++◌, length, slice_get, Some, refl, sym, ap, ◌∙◌, arith, append-nil}
use Rattle.std.proofs.lemmas.Bool.Decides.{nat_tests}
use Rattle.mpd_model.specs.declared.step.Step.{Step}
use Rattle.mpd_model.specs.declared.outcome.Outcome.{Outcome}
use Rattle.mpd_model.specs.declared.decision.Decision.{Decision}
use Rattle.mpd_model.specs.declared.decision.Decision.TheVariants.{Leaf}
use Rattle.mpd_model.specs.steps.World.{World}
use Rattle.mpd_model.specs.steps.Next.{next}
use Rattle.mpd_model.specs.runs.Trail.{Standing, done_steps}
use Rattle.mpd_policy.specs.declared.along.WalkEnd.{WalkEnd}
use Rattle.mpd_policy.specs.declared.along.WalkEnd.TheVariants.{Ended, Fuel, Untaken}
use Rattle.mpd_policy.specs.declared.choosers.First.{First}
use Rattle.mpd_policy.specs.Walked.{Walked}
use Rattle.mpd_policy.specs.Walked.Walked.{here, forced, chosen}
use Rattle.mpd_policy.specs.Choosers.{takes_first, never_leaves, stays}
use Rattle.mpd_policy.specs.Walks.{Walks}
use Rattle.mpd_runs.specs.First.{first_in, first_of, behind_step, from_first, first_steps}

first_read : (candidates : List Step) (i : ℕ) (a : Step) → i ≡ 0 → slice_get candidates i ≡ Some a → first_in candidates ≡ Some a
first_read [] zero a e h = absurd (let x : ⊥ = cc in x)
first_read (b ∷ more) zero a e h = h
first_read candidates (suc i) a e h = absurd (omega (arith, e))

module _ (decide : World → Decision) where
  abbrev on : ℕ → World → List Step
  on n v = first_steps decide n v

  first_one : (n : ℕ) (w v : World) (a : Step) → first_of (decide w) ≡ Some a → next w a ≡ Some v → first_steps decide (suc n) w ≡ a ∷ first_steps decide n v
  first_one n w v a h k = ap (from_first (on n) w) h ∙ ap (behind_step (on n) a) k

  -- what comes here is the way, and what comes there
  first_along : (c e : First) (n l m : ℕ) (w v : World) (cs : List ℕ) (p : List Step) → l ≡ length p + m → Walked decide takes_first stays c n w cs p v e → first_steps decide l w ≡ p ++ first_steps decide m v
  first_along c e n l m w v cs p fuel (here _ _ _) = ap (λ i. first_steps decide i w) (let same : l ≡ m = omega (arith, fuel) in same)
  first_along c e n l m w v cs p fuel (forced _ d _ _ _ u _ a _ path is passed step h) =
      let more : l ≡ suc (length path + m) = omega (arith, fuel) in
      ap (λ i. first_steps decide i w) more ∙ first_one (length path + m) w u a (ap first_of is) step ∙ ap (λ xs. a ∷ xs) (first_along d e (suc n) (length path + m) m u v cs path refl h)
  first_along c e n l m w v cs p fuel (chosen _ d _ _ i _ u _ a candidates bs path is read taken step h) =
      let more : l ≡ suc (length path + m) = omega (arith, fuel) in
      ap (λ i. first_steps decide i w) more ∙ first_one (length path + m) w u a (ap first_of is ∙ first_read candidates i a taken read) step ∙ ap (λ xs. a ∷ xs) (first_along d e (suc n) (length path + m) m u v bs path refl h)

  first_leaf : (n : ℕ) (w : World) (o : Outcome) → decide w ≡ Leaf o → first_steps decide n w ≡ []
  first_leaf zero w o is = refl
  first_leaf (suc n) w o is = ap (from_first (on n) w) (ap first_of is)

  -- all of the fuel fits, where it is used up
  pub lead : (base fuel few : ℕ) (is_cut : Bool) (d e : Standing) (c f : First) (s : WalkEnd) → base ≡ d.trail.depth → few ≤ fuel → (is_cut ≡ false → few ≡ fuel)
      → Walks decide takes_first never_leaves stays (base + few) d c s e f → (s ≡ Fuel → is_cut ≡ false) → done_steps e.trail ≡ done_steps d.trail ++ first_steps decide fuel d.world
  lead base fuel few is_cut d e c f (Ended o) at less whole h fits =
      let g = h.gone in
      let left : fuel ≡ length g.path + (fuel - length g.path) = (let x = g.depth in let y = h.stops.2 in omega (arith, at, less, x, y)) in
      let all : first_steps decide fuel d.world ≡ g.path = first_along c h.middle d.trail.depth fuel (fuel - length g.path) d.world e.world g.choices g.path left g.walked ∙ ap (λ q. g.path ++ q) (first_leaf (fuel - length g.path) e.world o h.stops.1) ∙ append-nil g.path in
      g.done_steps_are ∙ ap (λ p. done_steps d.trail ++ p) (sym all)
  lead base fuel few is_cut d e c f Fuel at less whole h fits =
      let g = h.gone in
      let same : few ≡ fuel = whole (fits refl) in
      let left : fuel ≡ length g.path + 0 = (let x = g.depth in let y = h.stops.1 in omega (arith, at, same, x, y)) in
      let all : first_steps decide fuel d.world ≡ g.path = first_along c h.middle d.trail.depth fuel 0 d.world e.world g.choices g.path left g.walked ∙ append-nil g.path in
      g.done_steps_are ∙ ap (λ p. done_steps d.trail ++ p) (sym all)
  lead base fuel few is_cut d e c f Untaken at less whole h fits = absurd h.stops.0.left

not_less : (m n : ℕ) → nat_lt m n ≡ false → n ≤ m
not_less m n h = grind (arith, nat_tests)

pub fits_few : (fuel room few : ℕ) → few ≡ min fuel room → nat_lt room fuel ≡ false → few ≡ fuel
fits_few fuel room few is e =
    let less : fuel ≤ room = not_less room fuel e in
    omega (arith, is, less)
