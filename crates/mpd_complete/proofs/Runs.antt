-- What walks list are runs: each leads somewhere, and where it isn't cut it has ended there.
use Rattle.std.proofs.Common.{◌≡◌, ◌⊎◌, ℕ, zero, suc, Bool, true, false, Option, Some, None, option_and_then, List, [], ◌∷◌, map, inl, inr, refl, sym, ap, subst, ◌∙◌}
use Rattle.std.specs.List.{list_any, Contains}
use Rattle.mpd_model.specs.declared.step.Step.{Step}
use Rattle.mpd_model.specs.declared.outcome.Outcome.{Outcome}
use Rattle.mpd_model.specs.declared.decision.Decision.{Decision}
use Rattle.mpd_model.specs.declared.decision.Decision.TheVariants.{Forced, Choice, Leaf}
use Rattle.mpd_model.specs.steps.World.{World}
use Rattle.mpd_model.specs.steps.Next.{next, fold, enabled}
use Rattle.mpd_model.specs.steps.Outcomes.{ending}
use Rattle.mpd_model.specs.runs.Trail.{step_eq}
use Rattle.mpd_model.specs.runs.Decisions.{decision, CanFollow}
use Rattle.mpd_policy.specs.Wide.{wide_decision, sleeps_on}
use Rattle.mpd_policy.proofs.Followed.{followed, leaf_where}
use Rattle.mpd_policy.proofs.WideLemmas.{wide_followed, wide_leaf}
use Rattle.mpd_policy.specs.declared.ending.Ending.TheVariants.{Ended, Cut}
use Rattle.mpd_policy.specs.Asleep.{same_match, nothing_wakes}
use Rattle.mpd_policy.specs.Walk.{Run, here, stepped, chosen, runs_of, stopped, walk, wide_walk}
use Rattle.mpd_explore.specs.Sleeping.{awake_runs, put_to_sleep, branches_by, followed_by, awake_by, sleeping_wide_walk}
use Rattle.mpd_explore.proofs.AwakeLemmas as awake
use Rattle.mpd_meaning.proofs.listed.Members.{In, in_contains, in_either, map_from}
use Rattle.mpd_complete.specs.CompleteLaws.{was_cut, IsRun}
use Rattle.mpd_complete.specs.Sleeping.{awake_walk, sleeping_walk}
use Rattle.mpd_complete.specs.WideWalks.{awake_wide_walk}
use Rattle.mpd_complete.proofs.Complete as complete

pub only : {A : Type 0} (x y : A) → In (x ∷ []) y → x ≡ y
only x y (inl e) = e
only x y (inr h) = absurd h

-- ---- what a walk lists: the run of no step at a leaf, and runs that begin by a step

-- the rest of the run is one from the world after the step
record StepRun (runs : List Step → World → List Run) (u : World) (t : Run) : Type 0 where
  step : Step
  asleep : List Step
  rest : Run
  within : In (runs_of (runs asleep) (next u step)) rest
  steps : t.steps ≡ step ∷ rest.steps
  ending : t.ending ≡ rest.ending

abbrev Listed : (World → Decision) → (List Step → World → List Run) → World → Run → Type 0
Listed decide runs u t = StepRun runs u t ⊎ ((o : Outcome) × (decide u ≡ Leaf o) × (here (Ended o) ≡ t))

run_after : (runs : List Step → World → List Run) (u : World) (t : Run) → StepRun runs u t → ((asleep : List Step) (x : World) (r : Run) → In (runs asleep x) r → IsRun x r) → IsRun u t
run_after runs u t s each = by_world (next u s.step) refl s.within
  where
    by_world : (o : Option World) → next u s.step ≡ o → In (runs_of (runs s.asleep) o) s.rest → IsRun u t
    by_world None e k = absurd k
    by_world (Some x) e k =
        let r = each s.asleep x s.rest k in
        record {
          end = r.end;
          leads = ap (fold u) s.steps ∙ ap (option_and_then (λ z. fold z s.rest.steps)) e ∙ r.leads;
          ended = λ whole. let m = r.ended (sym (ap was_cut s.ending) ∙ whole) in (m.0, s.ending ∙ m.1);
        }

cut_here : (u : World) (t : Run) → here Cut ≡ t → IsRun u t
cut_here u t is = subst (IsRun u) is (record { end = u; leads = refl; ended = λ whole. absurd (cc) })

-- ---- a walk along decisions that can be followed, and that end a run where no step is enabled

module _ (decide : World → Decision) (follows : (u : World) → CanFollow u (decide u)) (ends : (u : World) → enabled u ≡ [] → decide u ≡ Leaf (ending u)) (runs : ℕ → List Step → World → List Run) (none : (asleep : List Step) (u : World) (t : Run) → In (runs zero asleep u) t → In (stopped (decide u)) t) (more : (n : ℕ) (asleep : List Step) (u : World) (t : Run) → In (runs (suc n) asleep u) t → Listed decide (runs n) u t) where
  leaf_ended : (u : World) (o : Outcome) → decide u ≡ Leaf o → (enabled u ≡ []) × (Ended o ≡ Ended (ending u))
  leaf_ended u o e =
      let can : CanFollow u (Leaf o) = subst (CanFollow u) e (follows u) in
      (can.0, same (sym e ∙ ends u can.0))
    where
      same : {p q : Outcome} → Leaf p ≡ Leaf q → Ended p ≡ Ended q
      same k = cc

  at_leaf : (u : World) (o : Outcome) (t : Run) → decide u ≡ Leaf o → here (Ended o) ≡ t → IsRun u t
  at_leaf u o t e is = subst (IsRun u) is (record { end = u; leads = refl; ended = λ whole. leaf_ended u o e })

  at_stop : (u : World) (d : Decision) (t : Run) → decide u ≡ d → In (stopped d) t → IsRun u t
  at_stop u (Forced a) t e k = cut_here u t (only (here Cut) t k)
  at_stop u (Choice candidates) t e k = cut_here u t (only (here Cut) t k)
  at_stop u (Leaf o) t e k = at_leaf u o t e (only (here (Ended o)) t k)

  are_runs : (n : ℕ) (asleep : List Step) (u : World) (t : Run) → In (runs n asleep u) t → IsRun u t
  are_runs zero asleep u t k = at_stop u (decide u) t refl (none asleep u t k)
  are_runs (suc n) asleep u t k =
      elim (more n asleep u t k) [
        | inl s ↦ run_after (runs n) u t s (are_runs n)
        | inr l ↦ at_leaf u l.0 t l.1 l.2
      ]

-- ---- a walk in which steps may be asleep, whatever it goes by

still_asleep : (sleeps : Bool) (a : Step) (asleep : List Step) (z : Step) → In asleep z → In (put_to_sleep sleeps a asleep) z
still_asleep true a asleep z h = inr h
still_asleep false a asleep z h = h

-- a run of a branch
pub record BranchRun (same : Step → Step → Bool) (keeps : World → Step → List Step → List Step) (runs : List Step → World → List Run) (u : World) (asleep : List Step) (t : Run) : Type 0 where
  pub step : Step
  pub number : ℕ
  pub others : List Step
  pub more : (z : Step) → In asleep z → In others z
  pub awake : list_any (same step) others ≡ false
  pub rest : Run
  pub within : In (runs_of (runs (keeps u step others)) (next u step)) rest
  pub is : chosen number step rest ≡ t

awake_from : (b : Bool) (runs : World → List Run) (o : Option World) (t : Run) → In (awake_runs b runs o) t → (b ≡ false) × In (runs_of runs o) t
awake_from true runs o t h = absurd h
awake_from false runs o t h = (refl, h)

pub branch_from : (same : Step → Step → Bool) (keeps : World → Step → List Step → List Step) (sleeps : Bool) (runs : List Step → World → List Run) (u : World) (asleep : List Step) (i : ℕ) (candidates : List Step) (t : Run)
    → In (branches_by same keeps sleeps runs u asleep i candidates) t → BranchRun same keeps runs u asleep t
branch_from same keeps sleeps runs u asleep i [] t h = absurd h
branch_from same keeps sleeps runs u asleep i (a ∷ more) t h =
    let first : List Run = awake_runs (list_any (same a) asleep) (runs (keeps u a asleep)) (next u a) in
    elim (in_either (map (chosen i a) first) (branches_by same keeps sleeps runs u (put_to_sleep sleeps a asleep) (suc i) more) t h) [
      | inl here ↦
          let k = map_from (chosen i a) first t here in
          let m = awake_from (list_any (same a) asleep) (runs (keeps u a asleep)) (next u a) k.0 k.1 in
          record { step = a; number = i; others = asleep; more = λ z j. j; awake = m.0; rest = k.0; within = m.1; is = k.2 }
      | inr later ↦
          let k = branch_from same keeps sleeps runs u (put_to_sleep sleeps a asleep) (suc i) more t later in
          record { step = k.step; number = k.number; others = k.others; more = λ z j. k.more z (still_asleep sleeps a asleep z j); awake = k.awake; rest = k.rest; within = k.within; is = k.is }
    ]

module _ (decide : World → Decision) (follows : (u : World) → CanFollow u (decide u)) (ends : (u : World) → enabled u ≡ [] → decide u ≡ Leaf (ending u)) (same : Step → Step → Bool) (keeps : World → Step → List Step → List Step) (sleeps : Bool) where
  walk_lists : (n : ℕ) (asleep : List Step) (u : World) (t : Run) (d : Decision) → decide u ≡ d → In (followed_by same keeps sleeps (awake_by decide same keeps sleeps n) asleep u d) t
      → Listed decide (awake_by decide same keeps sleeps n) u t
  walk_lists n asleep u t (Forced a) e k =
      let m = map_from (stepped a) (runs_of (awake_by decide same keeps sleeps n (keeps u a asleep)) (next u a)) t k in
      inl (record { step = a; asleep = keeps u a asleep; rest = m.0; within = m.1; steps = ap (λ (y : Run). y.steps) (sym m.2); ending = ap (λ (y : Run). y.ending) (sym m.2) })
  walk_lists n asleep u t (Choice candidates) e k =
      let b = branch_from same keeps sleeps (awake_by decide same keeps sleeps n) u asleep 0 candidates t k in
      inl (record { step = b.step; asleep = keeps u b.step b.others; rest = b.rest; within = b.within; steps = ap (λ (y : Run). y.steps) (sym b.is); ending = ap (λ (y : Run). y.ending) (sym b.is) })
  walk_lists n asleep u t (Leaf o) e k = inr (o, e, only (here (Ended o)) t k)

  awake_run : (n : ℕ) (asleep : List Step) (u : World) (t : Run) → In (awake_by decide same keeps sleeps n asleep u) t → IsRun u t
  unfolding awake_by
  awake_run = are_runs decide follows ends (awake_by decide same keeps sleeps) (λ asleep u t k. k) (λ n asleep u t k. walk_lists n asleep u t (decide u) refl k)

-- ---- the walks by the decisions

pub sleeping_walks_run : (fuel : ℕ) (u : World) (r : Run) → Contains (sleeping_walk fuel u) r → IsRun u r
sleeping_walks_run fuel u r k = awake_run decision followed leaf_where same_match nothing_wakes true fuel [] u r (in_contains (sleeping_walk fuel u) r k)

pub walks_run : (fuel : ℕ) (u : World) (r : Run) → Contains (walk fuel u) r → IsRun u r
walks_run fuel u r k =
    awake_run decision followed leaf_where same_match nothing_wakes false fuel [] u r
    (in_contains (awake_walk false fuel [] u) r (subst (λ (runs : List Run). Contains runs r) (sym (awake.nothing_sleeps fuel u)) k))

-- ---- the wide walks

pub sleeping_wide_walks_run : (fuel : ℕ) (u : World) (r : Run) → Contains (sleeping_wide_walk fuel u) r → IsRun u r
sleeping_wide_walks_run fuel u r k = awake_run wide_decision wide_followed wide_leaf step_eq sleeps_on true fuel [] u r (in_contains (sleeping_wide_walk fuel u) r k)

pub wide_walks_run : (fuel : ℕ) (u : World) (r : Run) → Contains (wide_walk fuel u) r → IsRun u r
wide_walks_run fuel u r k =
    awake_run wide_decision wide_followed wide_leaf step_eq sleeps_on false fuel [] u r
    (in_contains (awake_wide_walk false fuel [] u) r (subst (λ (runs : List Run). Contains runs r) (sym (complete.nothing_sleeps fuel u)) k))
