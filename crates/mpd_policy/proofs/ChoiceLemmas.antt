-- What choices tell where a way by them stops.
use Rattle.std.proofs.Common.{◌≡◌, ℕ, zero, suc, ◌≤◌, ◌+◌, ◌-◌, List, [], ◌∷◌, ◌++◌, length, Option, Some, None, IsSome, refl, sym, ap, ◌∙◌, arith, append-nil}
use Rattle.std.specs.Option.{option_map, option_and_then}
use Rattle.std.proofs.lemmas.Option.{slice_get_past}
use Rattle.std.proofs.lemmas.List.{length-append}
use Rattle.mpd_model.specs.declared.step.Step.{Step}
use Rattle.mpd_model.specs.declared.outcome.Outcome.{Outcome}
use Rattle.mpd_model.specs.declared.decision.Decision.{Decision}
use Rattle.mpd_model.specs.declared.decision.Decision.TheVariants.{Forced, Choice, Leaf}
use Rattle.mpd_model.specs.steps.World.{World}
use Rattle.mpd_model.specs.steps.Next.{fold}
use Rattle.mpd_model.specs.runs.Trail.{Standing, done_steps}
use Rattle.mpd_policy.specs.declared.along.WalkEnd.{WalkEnd}
use Rattle.mpd_policy.specs.declared.along.WalkEnd.TheVariants.{Ended, Fuel, Untaken}
use Rattle.mpd_policy.specs.declared.choosers.ByChoices.{ByChoices}
use Rattle.mpd_policy.specs.Walk.{Run, here as run_here, prefixed, ending_by, run_taken, run_followed, run_stopped, run_by, steps_by}
use Rattle.mpd_policy.specs.Walked.{Walked}
use Rattle.mpd_policy.specs.Walked.Walked.{here, forced, chosen}
use Rattle.mpd_policy.specs.Choosers.{takes_listed, leaves_listed, stays, NoSuch}
use Rattle.mpd_policy.specs.Walks.{Gone, Walks}
use Rattle.mpd_policy.proofs.WayLemmas.{run_is, run_along}

-- ---- a run that is over

leaf_same : (run : List ℕ → World → Option Run) (w : World) (left : List ℕ) (o : Outcome) → run_followed run w left (Leaf o) ≡ run_stopped left (Leaf o)
leaf_same run w [] o = refl
leaf_same run w (c ∷ cs) o = refl

pub no_fuel : (decide : World → Decision) (left : List ℕ) (w : World) → run_by decide zero left w ≡ run_stopped left (decide w)
unfolding run_by
no_fuel decide left w = refl

pub at_leaf : (decide : World → Decision) (n : ℕ) (left : List ℕ) (w : World) (o : Outcome) → decide w ≡ Leaf o → run_by decide n left w ≡ run_stopped left (decide w)
at_leaf decide zero left w o is = no_fuel decide left w
at_leaf decide (suc n) left w o is = run_is decide n left w (Leaf o) is ∙ leaf_same (run_by decide n) w left o ∙ ap (run_stopped left) (sym is)

pub stopped_here : (d : Decision) → run_stopped [] d ≡ Some (run_here (ending_by d))
stopped_here (Forced a) = refl
stopped_here (Choice candidates) = refl
stopped_here (Leaf o) = refl

-- no candidate is taken
pub no_such : (decide : World → Decision) (n : ℕ) (left : List ℕ) (w : World) (candidates : List Step) → decide w ≡ Choice candidates → NoSuch left candidates → run_by decide (suc n) left w ≡ None
no_such decide n [] w candidates is h = run_is decide n [] w (Choice candidates) is
no_such decide n (i ∷ left) w candidates is h = run_is decide n (i ∷ left) w (Choice candidates) is ∙ ap (run_taken (run_by decide n left) w i) (slice_get_past candidates i h)

-- the steps of what begins with a way that a run ends behind
steps_prefixed : (cs : List ℕ) (p : List Step) (left : List ℕ) (x : Decision) → IsSome (option_map (prefixed cs p) (run_stopped left x)) → steps_by (option_map (prefixed cs p) (run_stopped left x)) ≡ p
steps_prefixed cs p [] (Forced a) h = append-nil p
steps_prefixed cs p [] (Choice candidates) h = append-nil p
steps_prefixed cs p [] (Leaf o) h = append-nil p
steps_prefixed cs p (i ∷ left) x h = absurd (let no : ⊥ = cc in no)

-- ---- along a way

-- where its steps lead
pub fold_along : {C : Type 0} (decide : World → Decision) (takes : C → ℕ → World → List Step → ℕ → C → Type 0) (passes : C → ℕ → World → Step → C → Type 0) (c e : C) (n : ℕ) (w v : World) (cs : List ℕ) (p : List Step) → Walked decide takes passes c n w cs p v e → fold w p ≡ Some v
fold_along decide takes passes c e n w v cs p (here _ _ _) = refl
fold_along decide takes passes c e n w v cs p (forced _ d _ _ _ u _ a _ path is passed step h) = ap (option_and_then (λ t. fold t path)) step ∙ fold_along decide takes passes d e (suc n) u v cs path h
fold_along decide takes passes c e n w v cs p (chosen _ d _ _ i _ u _ a candidates bs path is read taken step h) = ap (option_and_then (λ t. fold t path)) step ∙ fold_along decide takes passes d e (suc n) u v bs path h

module _ (decide : World → Decision) where
  -- the choices that were made, and those that are left
  pub left_along : (c e : ByChoices) (n : ℕ) (w v : World) (cs : List ℕ) (p : List Step) → Walked decide takes_listed stays c n w cs p v e → c.left.now ≡ cs ++ e.left.now
  left_along c e n w v cs p (here _ _ _) = refl
  left_along c e n w v cs p (forced _ d _ _ _ u _ _ _ path _ same _ h) = ap (λ (b : ByChoices). b.left.now) (sym same) ∙ left_along d e (suc n) u v cs path h
  left_along c e n w v cs p (chosen _ d _ _ i _ u _ _ _ bs path _ _ taken _ h) = taken ∙ ap (λ l. i ∷ l) (left_along d e (suc n) u v bs path h)

  -- what the choices tell at the outset is what those that are left tell, with the way in front
  pub run_gone : (limit : ℕ) (d e : Standing) (c m : ByChoices) → e.trail.depth ≤ limit → (h : Gone decide takes_listed stays d c e m)
      → run_by decide (limit - d.trail.depth) c.left.now d.world ≡ option_map (prefixed h.choices h.path) (run_by decide (limit - e.trail.depth) m.left.now e.world)
  run_gone limit d e c m within h =
      let fuel : limit - d.trail.depth ≡ length h.path + (limit - e.trail.depth) = (let x = h.depth in omega (arith, x, within)) in
      ap (λ l. run_by decide (limit - d.trail.depth) l d.world) (left_along c m d.trail.depth d.world e.world h.choices h.path h.walked)
      ∙ run_along decide takes_listed stays c m d.trail.depth (limit - d.trail.depth) (limit - e.trail.depth) d.world e.world h.choices h.path m.left.now fuel h.walked

  -- the chooser in the end has what is left
  pub left_last : (limit : ℕ) (d e : Standing) (c f : ByChoices) (s : WalkEnd) → (h : Walks decide takes_listed leaves_listed stays limit d c s e f) → h.middle.left.now ≡ f.left.now
  left_last limit d e c f (Ended o) h = ap (λ (b : ByChoices). b.left.now) (sym h.stops.0)
  left_last limit d e c f Fuel h = ap (λ (b : ByChoices). b.left.now) (sym h.stops.0)
  left_last limit d e c f Untaken h = sym h.stops.0.left.1

  pub fewer_left : (limit : ℕ) (d e : Standing) (c f : ByChoices) (s : WalkEnd) → Walks decide takes_listed leaves_listed stays limit d c s e f → length f.left.now ≤ length c.left.now
  fewer_left limit d e c f s h =
      omega (arith, ap length (left_along c h.middle d.trail.depth d.world e.world h.gone.choices h.gone.path h.gone.walked), length-append h.gone.choices h.middle.left.now, ap length (left_last limit d e c f s h))

  over_last : (limit : ℕ) (d e : Standing) (c f : ByChoices) (s : WalkEnd) → (h : Walks decide takes_listed leaves_listed stays limit d c s e f) → (s ≡ Untaken → ⊥) → run_by decide (limit - e.trail.depth) h.middle.left.now e.world ≡ run_stopped h.middle.left.now (decide e.world)
  over_last limit d e c f (Ended o) h never = at_leaf decide (limit - e.trail.depth) h.middle.left.now e.world o h.stops.1
  over_last limit d e c f Fuel h never =
      let spent : limit - e.trail.depth ≡ 0 = (let x = h.stops.1 in omega (arith, x)) in
      ap (λ n. run_by decide n h.middle.left.now e.world) spent ∙ no_fuel decide h.middle.left.now e.world
  over_last limit d e c f Untaken h never = absurd (never refl)

  pub within_limit : {C : Type 0} (takes : C → ℕ → World → List Step → ℕ → C → Type 0) (leaves : C → ℕ → World → List Step → C → Type 0) (passes : C → ℕ → World → Step → C → Type 0) (limit : ℕ) (d e : Standing) (c f : C) (s : WalkEnd) → Walks decide takes leaves passes limit d c s e f → e.trail.depth ≤ limit
  within_limit takes leaves passes limit d e c f (Ended o) h = let x = h.stops.2 in omega (arith, x)
  within_limit takes leaves passes limit d e c f Fuel h = let x = h.stops.1 in omega (arith, x)
  within_limit takes leaves passes limit d e c f Untaken h = let x = h.stops.1 in omega (arith, x)

  -- where it doesn't stop at a choice, they tell a run if none is left
  pub run_ended : (limit : ℕ) (d e : Standing) (c f : ByChoices) (s : WalkEnd) → (h : Walks decide takes_listed leaves_listed stays limit d c s e f) → (s ≡ Untaken → ⊥)
      → run_by decide (limit - d.trail.depth) c.left.now d.world ≡ option_map (prefixed h.gone.choices h.gone.path) (run_stopped f.left.now (decide e.world))
  run_ended limit d e c f s h never =
      run_gone limit d e c h.middle (within_limit takes_listed leaves_listed stays limit d e c f s h) h.gone
      ∙ ap (option_map (prefixed h.gone.choices h.gone.path)) (over_last limit d e c f s h never ∙ ap (λ l. run_stopped l (decide e.world)) (left_last limit d e c f s h))

  -- where it does, they tell none
  pub run_untaken : (limit : ℕ) (d e : Standing) (c f : ByChoices) → Walks decide takes_listed leaves_listed stays limit d c Untaken e f → run_by decide (limit - d.trail.depth) c.left.now d.world ≡ None
  run_untaken limit d e c f h =
      let room = h.stops.1 in
      let fuel : limit - e.trail.depth ≡ suc (limit - suc e.trail.depth) = omega (arith, room) in
      run_gone limit d e c h.middle (omega (arith, room)) h.gone
      ∙ ap (λ n. option_map (prefixed h.gone.choices h.gone.path) (run_by decide n h.middle.left.now e.world)) fuel
      ∙ ap (option_map (prefixed h.gone.choices h.gone.path)) (no_such decide (limit - suc e.trail.depth) h.middle.left.now e.world h.stops.0.candidates h.stops.0.choice h.stops.0.left.0)

  none_not : (o : Option Run) → o ≡ None → IsSome o → ⊥
  none_not None e h = let no : ⊥ = cc in no
  none_not (Some r) e h = let no : ⊥ = cc in no

  pub not_untaken : (limit : ℕ) (d e : Standing) (c f : ByChoices) (s : WalkEnd) → Walks decide takes_listed leaves_listed stays limit d c s e f → IsSome (run_by decide (limit - d.trail.depth) c.left.now d.world) → s ≡ Untaken → ⊥
  not_untaken limit d e c f (Ended o) h some is = let no : ⊥ = cc in no
  not_untaken limit d e c f Fuel h some is = let no : ⊥ = cc in no
  not_untaken limit d e c f Untaken h some is = none_not _ (run_untaken limit d e c f h) some

  -- where there is a run by them, its steps are those of the way
  pub steps_told : (limit : ℕ) (d e : Standing) (c f : ByChoices) (s : WalkEnd) → (h : Walks decide takes_listed leaves_listed stays limit d c s e f) → IsSome (run_by decide (limit - d.trail.depth) c.left.now d.world)
      → steps_by (run_by decide (limit - d.trail.depth) c.left.now d.world) ≡ h.gone.path
  steps_told limit d e c f s h some =
      let is = run_ended limit d e c f s h (not_untaken limit d e c f s h some) in
      ap steps_by is ∙ steps_prefixed h.gone.choices h.gone.path f.left.now (decide e.world) (rw is at some)

  pub followed : (base fuel : ℕ) (d e : Standing) (c f : ByChoices) (s : WalkEnd) → base ≡ d.trail.depth → Walks decide takes_listed leaves_listed stays (base + fuel) d c s e f → IsSome (run_by decide fuel c.left.now d.world)
      → (done_steps e.trail ≡ done_steps d.trail ++ steps_by (run_by decide fuel c.left.now d.world)) × (fold d.world (steps_by (run_by decide fuel c.left.now d.world)) ≡ Some e.world)
  followed base fuel d e c f s at h some =
      let left : (base + fuel) - d.trail.depth ≡ fuel = omega (arith, at) in
      let is : steps_by (run_by decide fuel c.left.now d.world) ≡ h.gone.path = ap (λ n. steps_by (run_by decide n c.left.now d.world)) (sym left) ∙ steps_told (base + fuel) d e c f s h (rw left some) in
      (h.gone.done_steps_are ∙ ap (λ p. done_steps d.trail ++ p) (sym is), ap (fold d.world) is ∙ fold_along decide takes_listed stays c h.middle d.trail.depth d.world e.world h.gone.choices h.gone.path h.gone.walked)
