-- A run is drawn a step at a time.
use Rattle.std.proofs.Common.{◌≡◌, ℕ, zero, suc, ◌+◌, ◌-◌, List, [], ◌∷◌, ◌++◌, length, Some, None, refl, sym, ap, ◌∙◌, arith, append_assoc, append-nil}
use Rattle.std.specs.Option.{option_map}
use Rattle.rand_core.specs.Stream.{Stream}
use Rattle.mpd_model.specs.declared.step.Step.{Step}
use Rattle.mpd_model.specs.declared.outcome.Outcome.{Outcome}
use Rattle.mpd_model.specs.declared.decision.Decision.{Decision}
use Rattle.mpd_model.specs.declared.decision.Decision.TheVariants.{Forced, Choice, Leaf}
use Rattle.mpd_model.specs.steps.World.{World}
use Rattle.mpd_policy.specs.Wide.{wide_decision}
use Rattle.mpd_model.specs.runs.Trail.{Standing}
use Rattle.mpd_policy.specs.declared.ending.Ending.{Ending}
use Rattle.mpd_policy.specs.declared.ending.Ending.TheVariants as ending_is
use Rattle.mpd_policy.specs.declared.along.WalkEnd.{WalkEnd}
use Rattle.mpd_policy.specs.declared.along.WalkEnd.TheVariants.{Ended, Fuel, Untaken}
use Rattle.mpd_policy.specs.Walked.{Walked}
use Rattle.mpd_policy.specs.Walked.Walked.{here, forced, chosen}
use Rattle.mpd_policy.specs.Walk.{here as run_here, prefixed, ending_by, run_by}
use Rattle.mpd_policy.specs.Choosers.{never_leaves, stays}
use Rattle.mpd_policy.specs.Walks.{Gone, Walks, ending_after}
use Rattle.mpd_policy.proofs.WayLemmas.{run_is, run_along}
use Rattle.mpd_policy.proofs.ChoiceLemmas.{no_fuel, stopped_here}
use Rattle.mpd_explore.proofs.RunLemmas.{prefixed_here}
use Rattle.mpd_runs.specs.Drawn.{drawn_from, drawn_by, led, drawn_choice, drawn_followed, drawn}
use Rattle.mpd_runs.specs.Drawing.{Drew, takes_drawn}

-- ---- what is drawn in a state, by what comes next there

pub drawn_is : (n : ℕ) (w : World) (s : Stream) (d : Decision) → wide_decision w ≡ d → drawn (suc n) w s ≡ drawn_followed (drawn n) w s d
unfolding drawn
drawn_is n w s d h = ap (drawn_followed (drawn n) w s) h

drawn_empty : (w : World) (s : Stream) → drawn zero w s ≡ ([], s)
unfolding drawn
drawn_empty w s = refl

-- ---- the end of a run

-- a run ends here, and nothing is drawn any more
record Ends (n : ℕ) (w : World) (ending : Ending) : Type 0 where
  pub run : run_by wide_decision n [] w ≡ Some (run_here ending)
  pub drawn_same : (s : Stream) → drawn n w s ≡ ([], s)

leaf_ends : (w : World) (o : Outcome) → wide_decision w ≡ Leaf o → (n : ℕ) → Ends (suc n) w (ending_is.Ended o)
leaf_ends w o leaf n = record { run = run_is wide_decision n [] w (Leaf o) leaf; drawn_same = λ s. drawn_is n w s (Leaf o) leaf }

fuel_ends : (w : World) → Ends 0 w (ending_by (wide_decision w))
fuel_ends w = record { run = no_fuel wide_decision [] w ∙ stopped_here (wide_decision w); drawn_same = λ s. drawn_empty w s }

one_is : (a b : Ending) → Some a ≡ Some b → a ≡ b
one_is a b e = cc

-- ---- along a way

-- what a generator gives, and what was noted
module _ {C N M : Type 0} (stream : C → Stream) (noted : C → List ℕ) (name : C → N) (mark : C → M) where
  abbrev Drawing : C → ℕ → World → List ℕ → List Step → World → C → Type 0
  Drawing c n w cs p v e = Walked wide_decision (takes_drawn stream noted name mark) (stays {C = C}) c n w cs p v e

  abbrev Drawn : ℕ → Standing → C → WalkEnd → Standing → C → Type 0
  Drawn limit d c s e f = Walks wide_decision (takes_drawn stream noted name mark) (never_leaves {C = C}) (stays {C = C}) limit d c s e f

  drawn_along : (c e : C) (n l m : ℕ) (w v : World) (cs : List ℕ) (p : List Step) → l ≡ length p + m → Drawing c n w cs p v e → drawn l w (stream c) ≡ (cs ++ (drawn m v (stream e)).0, (drawn m v (stream e)).1)
  drawn_along c e n l m w v cs p fuel (here _ _ _) = ap (λ i. drawn i w (stream c)) (let same : l ≡ m = omega (arith, fuel) in same)
  drawn_along c e n l m w v cs p fuel (forced _ d _ _ _ u _ a _ path is same step h) =
      let more : l ≡ suc (length path + m) = omega (arith, fuel) in
      ap (λ i. drawn i w (stream c)) more
      ∙ drawn_is (length path + m) w (stream c) (Forced a) is ∙ ap (λ o. drawn_from (drawn (length path + m)) o (stream c)) step
      ∙ ap (λ x. drawn (length path + m) u (stream x)) (sym same) ∙ drawn_along d e (suc n) (length path + m) m u v cs path refl h
  drawn_along c e n l m w v cs p fuel (chosen _ d _ _ i _ u _ a candidates bs path is read taken step h) =
      let more : l ≡ suc (length path + m) = omega (arith, fuel) in
      ap (λ j. drawn j w (stream c)) more
      ∙ drawn_is (length path + m) w (stream c) (Choice candidates) is ∙ ap (drawn_choice (drawn (length path + m)) w candidates) (sym taken.0)
      ∙ ap (λ o. led i (drawn_by (drawn (length path + m)) w o (stream d))) read ∙ ap (λ o. led i (drawn_from (drawn (length path + m)) o (stream d))) step
      ∙ ap (led i) (drawn_along d e (suc n) (length path + m) m u v bs path refl h)

  noted_along : (c e : C) (n : ℕ) (w v : World) (cs : List ℕ) (p : List Step) → Drawing c n w cs p v e → noted e ≡ noted c ++ cs
  noted_along c e n w v cs p (here _ _ _) = sym (append-nil (noted c))
  noted_along c e n w v cs p (forced _ d _ _ _ u _ _ _ path _ same _ h) = noted_along d e (suc n) u v cs path h ∙ ap (λ x. noted x ++ cs) same
  noted_along c e n w v cs p (chosen _ d _ _ i _ u _ _ _ bs path _ _ taken _ h) = noted_along d e (suc n) u v bs path h ∙ ap (λ l. l ++ bs) taken.1 ∙ append_assoc (noted c) (i ∷ []) bs

  name_along : (c e : C) (n : ℕ) (w v : World) (cs : List ℕ) (p : List Step) → Drawing c n w cs p v e → name e ≡ name c
  name_along c e n w v cs p (here _ _ _) = refl
  name_along c e n w v cs p (forced _ d _ _ _ u _ _ _ path _ same _ h) = name_along d e (suc n) u v cs path h ∙ ap name same
  name_along c e n w v cs p (chosen _ d _ _ i _ u _ _ _ bs path _ _ taken _ h) = name_along d e (suc n) u v bs path h ∙ taken.2

  mark_along : (c e : C) (n : ℕ) (w v : World) (cs : List ℕ) (p : List Step) → Drawing c n w cs p v e → mark e ≡ mark c
  mark_along c e n w v cs p (here _ _ _) = refl
  mark_along c e n w v cs p (forced _ d _ _ _ u _ _ _ path _ same _ h) = mark_along d e (suc n) u v cs path h ∙ ap mark same
  mark_along c e n w v cs p (chosen _ d _ _ i _ u _ _ _ bs path _ _ taken _ h) = mark_along d e (suc n) u v bs path h ∙ taken.3

  drew : (fuel m : ℕ) (d e : Standing) (c f : C) (end : Ending) → noted c ≡ [] → (h : Gone wide_decision (takes_drawn stream noted name mark) (stays {C = C}) d c e f) → fuel ≡ length h.path + m → Ends m e.world end → Drew fuel d (stream c) (noted f) end e (stream f)
  drew fuel m d e c f end empty h left x =
      let all : h.choices ≡ noted f = sym (noted_along c f d.trail.depth d.world e.world h.choices h.path h.walked ∙ ap (λ l. l ++ h.choices) empty) in
      let whole : h.choices ++ [] ≡ noted f = append-nil h.choices ∙ all in
      record {
        path = h.path;
        done_steps_are = h.done_steps_are;
        run = ap (λ l. run_by wide_decision fuel l d.world) (sym whole) ∙ run_along wide_decision (takes_drawn stream noted name mark) (stays {C = C}) c f d.trail.depth fuel m d.world e.world h.choices h.path [] left h.walked ∙ ap (option_map (prefixed h.choices h.path)) x.run
            ∙ ap Some (prefixed_here h.choices h.path end) ∙ ap (λ (l : List ℕ). Some (record { choices = l; steps = h.path; ending = end })) all;
        drawn_is = drawn_along c f d.trail.depth fuel m d.world e.world h.choices h.path left h.walked ∙ ap (λ (p : List ℕ × Stream). (h.choices ++ p.0, p.1)) (x.drawn_same (stream f)) ∙ ap (λ (l : List ℕ). (l, stream f)) whole;
      }

  pub drew_by : (fuel base : ℕ) (d e : Standing) (c f : C) (s : WalkEnd) (end : Ending) → noted c ≡ [] → base ≡ d.trail.depth → Drawn (base + fuel) d c s e f → Some end ≡ ending_after wide_decision s e.world → Drew fuel d (stream c) (noted f) end e (stream f)
  drew_by fuel base d e c f (Ended o) end empty at h x =
      let left : fuel ≡ length h.gone.path + suc (fuel - suc (length h.gone.path)) = (let y = h.gone.depth in let z = h.stops.2 in omega (arith, at, y, z)) in
      let m : ℕ = fuel - suc (length h.gone.path) in
      let ends : Ends (suc m) e.world end = rw (one_is end (ending_is.Ended o) x) (leaf_ends e.world o h.stops.1 m) in
      rw (h.stops.0) (drew fuel (suc m) d e c h.middle end empty h.gone left ends)
  drew_by fuel base d e c f Fuel end empty at h x =
      let left : fuel ≡ length h.gone.path + 0 = (let y = h.gone.depth in let z = h.stops.1 in omega (arith, at, y, z)) in
      let ends : Ends 0 e.world end = rw (one_is end (ending_by (wide_decision e.world)) x) (fuel_ends e.world) in
      rw (h.stops.0) (drew fuel 0 d e c h.middle end empty h.gone left ends)
  drew_by fuel base d e c f Untaken end empty at h x = absurd h.stops.0.left

  pub same_name : (limit : ℕ) (d e : Standing) (c f : C) (s : WalkEnd) → Drawn limit d c s e f → name f ≡ name c
  same_name limit d e c f (Ended o) h = ap name h.stops.0 ∙ name_along c h.middle d.trail.depth d.world e.world h.gone.choices h.gone.path h.gone.walked
  same_name limit d e c f Fuel h = ap name h.stops.0 ∙ name_along c h.middle d.trail.depth d.world e.world h.gone.choices h.gone.path h.gone.walked
  same_name limit d e c f Untaken h = absurd h.stops.0.left

  pub same_mark : (limit : ℕ) (d e : Standing) (c f : C) (s : WalkEnd) → Drawn limit d c s e f → mark f ≡ mark c
  same_mark limit d e c f (Ended o) h = ap mark h.stops.0 ∙ mark_along c h.middle d.trail.depth d.world e.world h.gone.choices h.gone.path h.gone.walked
  same_mark limit d e c f Fuel h = ap mark h.stops.0 ∙ mark_along c h.middle d.trail.depth d.world e.world h.gone.choices h.gone.path h.gone.walked
  same_mark limit d e c f Untaken h = absurd h.stops.0.left

  pub always_ends : (limit : ℕ) (d e : Standing) (c f : C) (s : WalkEnd) → Drawn limit d c s e f → None ≡ ending_after wide_decision s e.world → ⊥
  always_ends limit d e c f (Ended o) h x = let no : ⊥ = cc in no
  always_ends limit d e c f Fuel h x = let no : ⊥ = cc in no
  always_ends limit d e c f Untaken h x = h.stops.0.left
