-- The walk in which steps may be asleep: where nothing falls asleep it is the walk with every order; where nothing is asleep it has a run; and
-- the texts of its runs are those of their choices.
use Rattle.std.proofs.Common.{◌≡◌, ℕ, zero, suc, ◌<◌, Bool, true, false, List, [], ◌∷◌, ◌++◌, length, take, map, Option, Some, None, refl, sym, ap, subst, ◌∙◌, arith}
use Rattle.std.specs.List.{AllByRecursion}
use Rattle.std.proofs.lemmas.List.{length-append, length-map}
use Rattle.mpd_model.specs.declared.step.Step.{Step}
use Rattle.mpd_model.specs.declared.decision.Decision.{Decision}
use Rattle.mpd_model.specs.declared.decision.Decision.TheVariants.{Forced, Choice, Leaf}
use Rattle.mpd_model.specs.steps.World.{World}
use Rattle.mpd_model.specs.steps.Next.{next}
use Rattle.mpd_model.specs.runs.Trail.{step_eq}
use Rattle.mpd_model.specs.runs.Decisions.{decision, CanFollow}
use Rattle.mpd_policy.specs.Wide.{wide_decision, sleeps_on}
use Rattle.mpd_policy.specs.Walk.{Run, stepped, chosen, prefixed, runs_of, branches, followed, walk, wide_walk, steps_by}
use Rattle.mpd_explore.specs.declared.report.SearchLeaf as leaf
use Rattle.mpd_explore.specs.declared.report.SearchLimits.{SearchLimits}
use Rattle.mpd_explore.specs.Report.{shown, listed}
use Rattle.mpd_explore.specs.Gathered.{run_text, run_texts}
use Rattle.mpd_explore.specs.declared.report.Witnesses.{Witnesses}
use Rattle.mpd_explore.specs.declared.report.Witnesses.TheVariants.{OfNone, OfDeadlocks, OfAll}
use Rattle.mpd_explore.specs.Asked.{asked_text}
use Rattle.mpd_explore.specs.Sleeping.{same_match, nothing_wakes, put_to_sleep, branches_by, followed_by, awake_by, Rules, rules_by, walk_with, walk_by}
use Rattle.mpd_explore.specs.Witness.{witness_by}
use Rattle.mpd_explore.specs.WitnessTexts.{behind_number, witness_text, witness_texts}
use Rattle.mpd_explore.proofs.ListedLemmas.{first_listed}
use Rattle.mpd_explore.proofs.RunLemmas.{stopped_some, runs_some}
use Rattle.mpd_explore.proofs.WitnessLemmas.{Holds, awake_holds}

-- ---- where nothing falls asleep it is the walk with every order

module _ (decide : World → Decision) (same : Step → Step → Bool) (keeps : World → Step → List Step → List Step) (none : (u : World) (a : Step) → keeps u a [] ≡ []) where
  -- the walk in which nothing falls asleep
  abbrev open_walk : ℕ → List Step → World → List Run
  open_walk = awake_by decide same keeps false

  -- so it is, with so much fuel
  abbrev AllOpen : (ℕ → World → List Run) → ℕ → Type 0
  AllOpen all n = (u : World) → open_walk n [] u ≡ all n u

  open_from : (all : ℕ → World → List Run) (n : ℕ) (u : World) (a : Step) → AllOpen all n → (o : Option World) → runs_of (open_walk n (keeps u a [])) o ≡ runs_of (all n) o
  open_from all n u a ih None = refl
  open_from all n u a ih (Some x) = ap (λ (z : List Step). open_walk n z x) (none u a) ∙ ih x

  open_branches : (all : ℕ → World → List Run) (n : ℕ) → AllOpen all n → (u : World) (i : ℕ) (candidates : List Step) → branches_by same keeps false (open_walk n) u [] i candidates ≡ branches (all n) u i candidates
  open_branches all n ih u i [] = refl
  open_branches all n ih u i (a ∷ more) = λ j. map (chosen i a) (open_from all n u a ih (next u a) j) ++ open_branches all n ih u (suc i) more j

  pub open_more : (all : ℕ → World → List Run) (n : ℕ) → AllOpen all n → (u : World) (d : Decision) → followed_by same keeps false (open_walk n) [] u d ≡ followed (all n) (all n) u d
  open_more all n ih u (Forced a) = ap (map (stepped a)) (open_from all n u a ih (next u a))
  open_more all n ih u (Choice candidates) = open_branches all n ih u 0 candidates
  open_more all n ih u (Leaf o) = refl

pub nothing_sleeps : (n : ℕ) (u : World) → awake_by decision same_match nothing_wakes false n [] u ≡ walk n u
unfolding awake_by walk
nothing_sleeps zero u = refl
nothing_sleeps (suc n) u = open_more decision same_match nothing_wakes (λ w a. refl) walk n (nothing_sleeps n) u (decision u)

-- the same by the wide decisions
pub no_wide_sleeps : (n : ℕ) (u : World) → awake_by wide_decision step_eq sleeps_on false n [] u ≡ wide_walk n u
unfolding awake_by wide_walk
no_wide_sleeps zero u = refl
no_wide_sleeps (suc n) u = open_more wide_decision step_eq sleeps_on (λ w a. refl) wide_walk n (no_wide_sleeps n) u (wide_decision u)

-- the walk that is asked for
pub walk_by_is : (ends : Bool) (n : ℕ) (u : World) → walk_with (rules_by ends) n [] u ≡ walk_by ends n u
walk_by_is false n u = nothing_sleeps n u
walk_by_is true n u = refl

-- where each order is wanted
pub plain_walk_is : (ends : Bool) (n : ℕ) (u : World) → ends ≡ false → awake_by decision same_match nothing_wakes ends n [] u ≡ walk_by ends n u
plain_walk_is ends n u off = ap (λ b. awake_by decision same_match nothing_wakes b n [] u) off ∙ nothing_sleeps n u ∙ sym (ap (λ b. walk_by b n u) off)

-- What is told of it by the rules that a test picks is told by those of either.
pub by_rules : (P : Rules → Type 0) (ends picked : Bool) → ends ≡ picked → P (rules_by picked) → P (rules_by ends)
by_rules P ends picked e h = subst (λ b. P (rules_by b)) (sym e) h

module _ (decide : World → Decision) (same : Step → Step → Bool) (keeps : World → Step → List Step → List Step) (sleeps : Bool) where
  abbrev runs : ℕ → List Step → World → List Run
  runs n asleep w = awake_by decide same keeps sleeps n asleep w

  -- ---- where nothing is asleep there is a run

  abbrev SomeRuns : ℕ → Type 0
  SomeRuns n = (v : World) → 0 < length (runs n [] v)

  -- nothing is asleep after a step either
  runs_none : (n : ℕ) (w : World) (a : Step) → SomeRuns n → keeps w a [] ≡ [] → (v : World) → 0 < length (runs n (keeps w a []) v)
  runs_none n w a some none v = subst (λ (z : List Step). 0 < length (runs n z v)) (sym none) (some v)

  followed_some : (n : ℕ) (w : World) (d : Decision) → SomeRuns n → ((u : World) (a : Step) → keeps u a [] ≡ []) → CanFollow w d → 0 < length (followed_by same keeps sleeps (runs n) [] w d)
  followed_some n w (Forced a) f none h =
      omega (arith, length-map (runs_of (runs n (keeps w a [])) (next w a)) (stepped a), runs_some (runs n (keeps w a [])) (next w a) (runs_none n w a f (none w a)) h)
  followed_some n w (Choice []) f none h = absurd (omega (arith, h.0))
  followed_some n w (Choice (a ∷ more)) f none h =
      omega (
        arith,
        length-append (map (chosen 0 a) (runs_of (runs n (keeps w a [])) (next w a))) (branches_by same keeps sleeps (runs n) w (put_to_sleep sleeps a []) (suc 0) more),
        length-map (runs_of (runs n (keeps w a [])) (next w a)) (chosen 0 a),
        runs_some (runs n (keeps w a [])) (next w a) (runs_none n w a f (none w a)) (h.1 0 a (omega arith)),
      )
  followed_some n w (Leaf o) f none h = omega arith

  pub awake_some : (n : ℕ) (w : World) → ((v : World) → CanFollow v (decide v)) → ((u : World) (a : Step) → keeps u a [] ≡ []) → 0 < length (runs n [] w)
  unfolding awake_by
  awake_some zero w law none = stopped_some (decide w)
  awake_some (suc n) w law none = followed_some n w (decide w) (λ v. awake_some n v law none) none (law w)

  -- ---- the text of a run is that of the run which its choices tell

  one_text : (asked : Witnesses) (path : List Step) (n : ℕ) (w : World) (r : Run) → Holds decide n w r → run_text asked (prefixed [] path r) ≡ witness_text decide asked path n w (shown r)
  one_text asked path n w r h = ap (λ o. asked_text asked r.ending (behind_number (witness_by (path ++ steps_by o) r.ending))) (sym h.by)

  each_text : (asked : Witnesses) (path : List Step) (n k : ℕ) (w : World) (rs : List Run) → AllByRecursion (Holds decide n w) rs → map (run_text asked) (take k (map (prefixed [] path) rs)) ≡ map (witness_text decide asked path n w) (take k (map shown rs))
  each_text asked path n zero w rs h = refl
  each_text asked path n (suc k) w [] h = refl
  each_text asked path n (suc k) w (r ∷ rs) h = λ i. one_text asked path n w r h.0 i ∷ each_text asked path n k w rs h.1 i

  texts_by : (asleep : List Step) (asked : Witnesses) (path : List Step) (n k : ℕ) (w : World) → run_texts asked (take k (map (prefixed [] path) (runs n asleep w))) ≡ witness_texts decide asked path n w (take k (map shown (runs n asleep w)))
  texts_by asleep OfNone path n k w = refl
  texts_by asleep OfDeadlocks path n k w = each_text OfDeadlocks path n k w (runs n asleep w) (awake_holds decide same keeps sleeps n asleep w)
  texts_by asleep OfAll path n k w = each_text OfAll path n k w (runs n asleep w) (awake_holds decide same keeps sleeps n asleep w)

  pub awake_told : (asleep : List Step) (l : SearchLimits) (path : List Step) (n : ℕ) (w : World) (all : List Run) (leaves : List leaf.SearchLeaf) (texts : List (List ℕ)) → all ≡ map (prefixed [] path) (runs n asleep w) → leaves ≡ listed l (map shown (runs n asleep w)) → texts ≡ run_texts l.witnesses (take (length leaves) all)
      → texts ≡ witness_texts decide l.witnesses path n w leaves
  awake_told asleep l path n w all leaves texts all_are is told =
      told ∙ ap (λ rs. run_texts l.witnesses (take (length leaves) rs)) all_are ∙ texts_by asleep l.witnesses path n (length leaves) w
      ∙ ap (witness_texts decide l.witnesses path n w) (sym (first_listed l (map shown (runs n asleep w)) leaves is))
