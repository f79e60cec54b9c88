-- Where the steps of a run lead. What comes next in a state is told by a function.
use Rattle.std.proofs.Common.{◌≡◌, ℕ, zero, suc, Bool, true, false, List, [], ◌∷◌, if◌then◌else◌, Option, Some, None, refl, ap, sym, ◌∙◌, subst}
use Rattle.std.specs.Prelude.{option_map, option_and_then, slice_get, ◌||◌}
use Rattle.std.specs.List.{filter, list_any}
use Rattle.mpd_model.specs.declared.step.Step.{Step}
use Rattle.mpd_model.specs.declared.decision.Decision.{Decision}
use Rattle.mpd_model.specs.declared.decision.Decision.TheVariants.{Forced, Choice, Leaf}
use Rattle.mpd_model.specs.steps.World.{World}
use Rattle.mpd_model.specs.steps.Next.{next, fold, is_enabled, steps_of, enabled}
use Rattle.mpd_model.specs.steps.Outcomes.{ending, outcome}
use Rattle.mpd_model.specs.runs.Decisions.{CanFollow}
use Rattle.mpd_policy.specs.declared.ending.Ending.{Ending}
use Rattle.mpd_policy.specs.declared.ending.Ending.TheVariants.{Ended, Cut}
use Rattle.mpd_policy.specs.Walk.{Run, here, run_by, run_from, run_taken, run_followed, run_stopped, stepped, chosen}
pub use Rattle.mpd_policy.proofs.FewLemmas.{few_steps}
use Rattle.mpd_runs.specs.Seek.{EndsAs, LeadsTo}

-- ---- where a step comes next, none has ended

abbrev IsNoLeaf : Decision → Type 0
IsNoLeaf (Forced a) = Unit {0}
IsNoLeaf (Choice steps) = Unit {0}
IsNoLeaf (Leaf o) = ⊥

none_passes : (t : Step → Bool) (xs : List Step) → list_any t xs ≡ false → filter t xs ≡ []
none_passes t [] e = refl
none_passes t (x ∷ xs) e = none_by (t x) (list_any t xs) e (none_passes t xs)
  where
    none_by : (b c : Bool) → (b || c) ≡ false → (c ≡ false → filter t xs ≡ []) → (if b then x ∷ filter t xs else filter t xs) ≡ []
    none_by true c e h = absurd cc
    none_by false c e h = h e

not_stuck : (w : World) (b : Bool) → list_any (is_enabled w) (steps_of w) ≡ b → (enabled w ≡ [] → ⊥) → (if (if b then false else true) then Some (ending w) else None) ≡ None
not_stuck w true e h = refl
not_stuck w false e h = absurd (h (none_passes (is_enabled w) (steps_of w) e))

goes_on : (w : World) (d : Decision) → IsNoLeaf d → (enabled w ≡ [] → d ≡ Leaf (ending w)) → outcome w ≡ None
goes_on w d more leaf = not_stuck w (list_any (is_enabled w) (steps_of w)) refl (λ e. subst IsNoLeaf (leaf e) more)

-- ---- where a run leads

mapped_leads : (w v : World) (a : Step) (g : Run → Run) (p : Option Run) (r : Run) → ((q : Run) → (g q).steps ≡ a ∷ q.steps) → ((q : Run) → (g q).ending ≡ q.ending) → next w a ≡ Some v
    → ((q : Run) → p ≡ Some q → LeadsTo v q.steps q.ending) → option_map g p ≡ Some r → LeadsTo w r.steps r.ending
mapped_leads w v a g None r steps ends leads h e = absurd cc
mapped_leads w v a g (Some q) r steps ends leads h e =
    let is : g q ≡ r = cc in
    let k : LeadsTo v q.steps q.ending = h q refl in
    let whole : LeadsTo w (g q).steps (g q).ending = record {
      last = k.last;
      leads = ap (fold w) (steps q) ∙ ap (option_and_then (λ u. fold u q.steps)) leads ∙ k.leads;
      ends = subst (EndsAs k.last) (sym (ends q)) k.ends;
    } in
    subst (λ (x : Run). LeadsTo w x.steps x.ending) is whole

from_leads : (w : World) (a : Step) (g : Run → Run) (run : World → Option Run) (o : Option World) (r : Run) → ((q : Run) → (g q).steps ≡ a ∷ q.steps) → ((q : Run) → (g q).ending ≡ q.ending) → next w a ≡ o
    → ((v : World) (q : Run) → run v ≡ Some q → LeadsTo v q.steps q.ending) → option_map g (run_from run o) ≡ Some r → LeadsTo w r.steps r.ending
from_leads w a g run None r steps ends is h e = absurd cc
from_leads w a g run (Some v) r steps ends is h e = mapped_leads w v a g (run v) r steps ends is (h v) e

taken_leads : (w : World) (c : ℕ) (run : World → Option Run) (o : Option Step) (r : Run) → ((v : World) (q : Run) → run v ≡ Some q → LeadsTo v q.steps q.ending) → run_taken run w c o ≡ Some r → LeadsTo w r.steps r.ending
taken_leads w c run None r h e = absurd cc
taken_leads w c run (Some a) r h e = from_leads w a (chosen c a) run (next w a) r (λ q. refl) (λ q. refl) refl h e

here_leads : (w : World) (e : Ending) (r : Run) → Some (here e) ≡ Some r → EndsAs w e → LeadsTo w r.steps r.ending
here_leads w e r is h =
    let same : here e ≡ r = cc in
    let whole : LeadsTo w (here e).steps (here e).ending = record { last = w; leads = refl; ends = h } in
    subst (λ (x : Run). LeadsTo w x.steps x.ending) same whole

module _ (decide : World → Decision) (can : (w : World) → CanFollow w (decide w)) (leaf : (w : World) → enabled w ≡ [] → decide w ≡ Leaf (ending w)) where
  followed_leads : (run : List ℕ → World → Option Run) (w : World) (cs : List ℕ) (d : Decision) (r : Run) → ((cs : List ℕ) (v : World) (q : Run) → run cs v ≡ Some q → LeadsTo v q.steps q.ending) → decide w ≡ d
      → run_followed run w cs d ≡ Some r → LeadsTo w r.steps r.ending
  followed_leads run w cs (Forced a) r h is e = from_leads w a (stepped a) (run cs) (next w a) r (λ q. refl) (λ q. refl) refl (h cs) e
  followed_leads run w [] (Choice candidates) r h is e = absurd cc
  followed_leads run w (c ∷ cs) (Choice candidates) r h is e = taken_leads w c (run cs) (slice_get candidates c) r (h cs) e
  followed_leads run w [] (Leaf o) r h is e = here_leads w (Ended o) r e (subst (CanFollow w) is (can w)).1
  followed_leads run w (c ∷ cs) (Leaf o) r h is e = absurd cc

  stopped_leads : (w : World) (cs : List ℕ) (d : Decision) (r : Run) → decide w ≡ d → run_stopped cs d ≡ Some r → LeadsTo w r.steps r.ending
  stopped_leads w [] (Forced a) r is e = here_leads w Cut r e (goes_on w (Forced a) tt (λ none. sym is ∙ leaf w none))
  stopped_leads w [] (Choice candidates) r is e = here_leads w Cut r e (goes_on w (Choice candidates) tt (λ none. sym is ∙ leaf w none))
  stopped_leads w [] (Leaf o) r is e = here_leads w (Ended o) r e (subst (CanFollow w) is (can w)).1
  stopped_leads w (c ∷ cs) d r is e = absurd cc

  pub run_leads : (n : ℕ) (cs : List ℕ) (w : World) (r : Run) → run_by decide n cs w ≡ Some r → LeadsTo w r.steps r.ending
  unfolding run_by
  run_leads zero cs w r e = stopped_leads w cs (decide w) r refl e
  run_leads (suc n) cs w r e = followed_leads (run_by decide n) w cs (decide w) r (run_leads n) refl e
