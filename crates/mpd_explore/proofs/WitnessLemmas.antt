-- Each run of a walk is told by its choices, and leads where it says.
use Rattle.std.proofs.Common.{◌≡◌, ℕ, zero, suc, Bool, true, false, List, [], ◌∷◌, ◌++◌, take, drop, map, slice_get, Option, Some, None, Ok, Err, Result, IfOk, refl, ap, ◌∙◌}
use Rattle.std.specs.Option.{option_and_then, option_map}
use Rattle.std.specs.List.{list_any, AllByRecursion}
use Rattle.mpd_model.specs.declared.call.Mode.{Mode}
use Rattle.mpd_model.specs.declared.step.Step.{Step}
use Rattle.mpd_model.specs.declared.outcome.Outcome.{Outcome}
use Rattle.mpd_model.specs.declared.outcome.Outcome.TheVariants.{Done, Leftovers, Deadlock, Trap}
use Rattle.mpd_model.specs.declared.decision.Decision.{Decision}
use Rattle.mpd_model.specs.declared.decision.Decision.TheVariants.{Forced, Choice, Leaf}
use Rattle.mpd_model.specs.script.Program.{Program}
use Rattle.mpd_model.specs.steps.World.{World, start}
use Rattle.mpd_model.specs.steps.Next.{next, fold}
use Rattle.mpd_model.specs.steps.Outcomes.{outcome}
use Rattle.mpd_model.specs.runs.Decisions.{decision, CanFollow}
use Rattle.mpd_trail.proofs.KeptLemmas.{fold-append}
use Rattle.mpd_policy.specs.declared.ending.Ending.{Ending}
use Rattle.mpd_policy.specs.declared.ending.Ending.TheVariants.{Ended, Cut}
use Rattle.mpd_policy.specs.Walk.{Run, stepped, chosen, runs_of, stopped, run_from, run_taken, run_stopped, run_by}
use Rattle.mpd_policy.proofs.WayLemmas.{run_is}
use Rattle.mpd_explore.specs.declared.report.SearchLeaf as leaf
use Rattle.mpd_explore.specs.Report.{shown}
use Rattle.mpd_explore.specs.Sleeping.{awake_runs, put_to_sleep, branches_by, followed_by, awake_by}
use Rattle.mpd_explore.specs.Witness.{end_in, WitnessBy, HasWitness}

drop_next : (xs ys : List Step) (i : ℕ) (a : Step) → drop i xs ≡ a ∷ ys → drop (suc i) xs ≡ ys
drop_next [] ys zero a e = cc
drop_next [] ys (suc i) a e = cc
drop_next (x ∷ xs) ys zero a e = cc
drop_next (x ∷ xs) ys (suc i) a e = drop_next xs ys i a e

drop_read : (xs ys : List Step) (i : ℕ) (a : Step) → drop i xs ≡ a ∷ ys → slice_get xs i ≡ Some a
drop_read [] ys zero a e = cc
drop_read [] ys (suc i) a e = cc
drop_read (x ∷ xs) ys zero a e = cc
drop_read (x ∷ xs) ys (suc i) a e = drop_read xs ys i a e

ended_holds : (s : Program) (mode : Mode) (steps : List Step) (v : World) (o : Outcome) → fold (start s mode) steps ≡ Some v → outcome v ≡ Some o → WitnessBy s mode steps (Ended o)
ended_holds s mode steps v Done leads is = tt
ended_holds s mode steps v (Leftovers calls) leads is = tt
ended_holds s mode steps v (Trap ranks) leads is = record { last = v; leads = leads; ends = ap end_in is }
ended_holds s mode steps v (Deadlock calls) leads is = record { last = v; leads = leads; ends = ap end_in is }

leaf_outcome : (v : World) (o : Outcome) (d : Decision) → CanFollow v d → d ≡ Leaf o → outcome v ≡ Some o
leaf_outcome v o (Forced a) h e = cc
leaf_outcome v o (Choice steps) h e = cc
leaf_outcome v o (Leaf p) h e = let same : p ≡ o = cc in h.1 ∙ ap Some same

-- ---- along whatever comes next

module _ (decide : World → Decision) where
  -- where a run leads
  abbrev pub EndsAt : Option World → Ending → Type 0
  EndsAt None e = ⊥
  EndsAt (Some v) (Ended o) = decide v ≡ Leaf o
  EndsAt (Some v) Cut = Unit {0}

  -- it is told by its choices, and its steps lead to the state that its ending tells of
  pub record Holds (n : ℕ) (w : World) (r : Run) : Type 0 where
    pub by : run_by decide n r.choices w ≡ Some r
    pub ends : EndsAt (fold w r.steps) r.ending

  abbrev AllHold : ℕ → World → List Run → Type 0
  AllHold n w rs = AllByRecursion (Holds n w) rs

  all_join : (n : ℕ) (w : World) (xs ys : List Run) → AllHold n w xs → AllHold n w ys → AllHold n w (xs ++ ys)
  all_join n w [] ys h k = k
  all_join n w (x ∷ xs) ys h k = (h.0, all_join n w xs ys h.1 k)

  ends_by : (o : Option World) (v : World) (steps : List Step) (e : Ending) → o ≡ Some v → EndsAt (fold v steps) e → EndsAt (option_and_then (λ u. fold u steps) o) e
  ends_by o v steps e is h = rw is h

  -- after a forced step
  by_stepped : (n : ℕ) (w v : World) (a : Step) (r : Run) → decide w ≡ Forced a → next w a ≡ Some v → run_by decide n r.choices v ≡ Some r → run_by decide (suc n) r.choices w ≡ Some (stepped a r)
  by_stepped n w v a r forced is h = run_is decide n r.choices w (Forced a) forced ∙ ap (λ o. option_map (stepped a) (run_from (run_by decide n r.choices) o)) is ∙ ap (option_map (stepped a)) h

  all_stepped : (n : ℕ) (w v : World) (a : Step) (rs : List Run) → decide w ≡ Forced a → next w a ≡ Some v → AllHold n v rs → AllHold (suc n) w (map (stepped a) rs)
  all_stepped n w v a [] forced is h = tt
  all_stepped n w v a (r ∷ rs) forced is h = (record { by = by_stepped n w v a r forced is h.0.by; ends = ends_by (next w a) v r.steps r.ending is h.0.ends }, all_stepped n w v a rs forced is h.1)

  stepped_by : (n : ℕ) (w : World) (a : Step) (runs : World → List Run) (o : Option World) → ((v : World) → AllHold n v (runs v)) → decide w ≡ Forced a → next w a ≡ o → AllHold (suc n) w (map (stepped a) (runs_of runs o))
  stepped_by n w a runs None all forced e = tt
  stepped_by n w a runs (Some v) all forced e = all_stepped n w v a (runs v) forced e (all v)

  -- after a choice
  by_chosen : (n : ℕ) (w v : World) (candidates : List Step) (i : ℕ) (a : Step) (r : Run) → decide w ≡ Choice candidates → slice_get candidates i ≡ Some a → next w a ≡ Some v → run_by decide n r.choices v ≡ Some r → run_by decide (suc n) (i ∷ r.choices) w ≡ Some (chosen i a r)
  by_chosen n w v candidates i a r choice at is h =
      run_is decide n (i ∷ r.choices) w (Choice candidates) choice
      ∙ ap (run_taken (run_by decide n r.choices) w i) at
      ∙ ap (λ o. option_map (chosen i a) (run_from (run_by decide n r.choices) o)) is ∙ ap (option_map (chosen i a)) h

  all_chosen : (n : ℕ) (w v : World) (candidates : List Step) (i : ℕ) (a : Step) (rs : List Run) → decide w ≡ Choice candidates → slice_get candidates i ≡ Some a → next w a ≡ Some v → AllHold n v rs → AllHold (suc n) w (map (chosen i a) rs)
  all_chosen n w v candidates i a [] choice at is h = tt
  all_chosen n w v candidates i a (r ∷ rs) choice at is h =
      (record { by = by_chosen n w v candidates i a r choice at is h.0.by; ends = ends_by (next w a) v r.steps r.ending is h.0.ends }, all_chosen n w v candidates i a rs choice at is h.1)

  chosen_by : (n : ℕ) (w : World) (candidates : List Step) (i : ℕ) (a : Step) (dozes : Bool) (runs : World → List Run) (o : Option World) → ((v : World) → AllHold n v (runs v)) → decide w ≡ Choice candidates → slice_get candidates i ≡ Some a → next w a ≡ o
      → AllHold (suc n) w (map (chosen i a) (awake_runs dozes runs o))
  chosen_by n w candidates i a true runs o all choice at e = tt
  chosen_by n w candidates i a false runs None all choice at e = tt
  chosen_by n w candidates i a false runs (Some v) all choice at e = all_chosen n w v candidates i a (runs v) choice at e (all v)

  -- where a run has ended, and where no fuel is left
  all_stopped : (w : World) (d : Decision) → decide w ≡ d → AllHold 0 w (stopped d)
  unfolding run_by
  all_stopped w (Forced a) e = (record { by = ap (run_stopped []) e; ends = tt }, tt)
  all_stopped w (Choice candidates) e = (record { by = ap (run_stopped []) e; ends = tt }, tt)
  all_stopped w (Leaf o) e = (record { by = ap (run_stopped []) e; ends = e }, tt)

  -- and what is shown of it has a witness, if what comes next can be followed
  run_holds : (s : Program) (mode : Mode) (steps : List Step) (o : Option World) (e : Ending) → ((v : World) → CanFollow v (decide v)) → fold (start s mode) steps ≡ o → EndsAt o e → WitnessBy s mode steps e
  run_holds s mode steps None e law is h = absurd h
  run_holds s mode steps (Some v) (Ended o) law is h = ended_holds s mode steps v o is (leaf_outcome v o (decide v) (law v) h)
  run_holds s mode steps (Some v) Cut law is h = tt

  one_holds : (s : Program) (mode : Mode) (before : List Step) (n : ℕ) (w : World) (r : Run) → ((v : World) → CanFollow v (decide v)) → fold (start s mode) before ≡ Some w → Holds n w r → HasWitness decide s mode before n w (shown r)
  one_holds s mode before n w r law there h =
      let far : EndsAt (fold (start s mode) (before ++ r.steps)) r.ending = rw (fold-append (start s mode) before r.steps) (ends_by (fold (start s mode) before) w r.steps r.ending there h.ends) in
      record { run = r; by = h.by; ending = refl; witness = run_holds s mode (before ++ r.steps) _ r.ending law refl far }

  all_shown : (s : Program) (mode : Mode) (before : List Step) (n : ℕ) (w : World) (rs : List Run) → ((v : World) → CanFollow v (decide v)) → fold (start s mode) before ≡ Some w → AllHold n w rs → AllByRecursion (HasWitness decide s mode before n w) (map shown rs)
  all_shown s mode before n w [] law there h = tt
  all_shown s mode before n w (r ∷ rs) law there h = (one_holds s mode before n w r law there h.0, all_shown s mode before n w rs law there h.1)

all_taken : (P : leaf.SearchLeaf → Type 0) (n : ℕ) (ls : List leaf.SearchLeaf) → AllByRecursion P ls → AllByRecursion P (take n ls)
all_taken P zero ls h = tt
all_taken P (suc n) [] h = tt
all_taken P (suc n) (l ∷ ls) h = (h.0, all_taken P n ls h.1)

module _ (decide : World → Decision) (same : Step → Step → Bool) (keeps : World → Step → List Step → List Step) (sleeps : Bool) where
  abbrev runs : ℕ → List Step → World → List Run
  runs n asleep w = awake_by decide same keeps sleeps n asleep w

  abbrev AllWays : ℕ → Type 0
  AllWays n = (asleep : List Step) (w : World) → AllByRecursion (Holds decide n w) (runs n asleep w)

  all_branches : (n : ℕ) → AllWays n → (w : World) (asleep candidates : List Step) (i : ℕ) (more : List Step) → decide w ≡ Choice candidates → drop i candidates ≡ more → AllByRecursion (Holds decide (suc n) w) (branches_by same keeps sleeps (runs n) w asleep i more)
  all_branches n all w asleep candidates i [] choice e = tt
  all_branches n all w asleep candidates i (a ∷ more) choice e =
      all_join decide (suc n) w (map (chosen i a) (awake_runs (list_any (same a) asleep) (runs n (keeps w a asleep)) (next w a))) (branches_by same keeps sleeps (runs n) w (put_to_sleep sleeps a asleep) (suc i) more)
      (chosen_by decide n w candidates i a (list_any (same a) asleep) (runs n (keeps w a asleep)) (next w a) (all (keeps w a asleep)) choice (drop_read candidates more i a e) refl)
      (all_branches n all w (put_to_sleep sleeps a asleep) candidates (suc i) more choice (drop_next candidates more i a e))

  all_followed : (n : ℕ) → AllWays n → (asleep : List Step) (w : World) (d : Decision) → decide w ≡ d → AllByRecursion (Holds decide (suc n) w) (followed_by same keeps sleeps (runs n) asleep w d)
  all_followed n all asleep w (Forced a) e = stepped_by decide n w a (runs n (keeps w a asleep)) (next w a) (all (keeps w a asleep)) e refl
  all_followed n all asleep w (Choice candidates) e = all_branches n all w asleep candidates 0 candidates e refl
  all_followed n all asleep w (Leaf o) e = (record { by = run_is decide n [] w (Leaf o) e; ends = e }, tt)

  -- so each run of the walk
  pub awake_holds : (n : ℕ) → AllWays n
  unfolding awake_by
  awake_holds zero asleep w = all_stopped decide w (decide w) refl
  awake_holds (suc n) asleep w = all_followed n (awake_holds n) asleep w (decide w) refl

  pub awake_witnessed : (asleep : List Step) (s : Program) (mode : Mode) (before : List Step) (n k : ℕ) (w : World) (items : List leaf.SearchLeaf) → ((v : World) → CanFollow v (decide v)) → fold (start s mode) before ≡ Some w → items ≡ take k (map shown (runs n asleep w)) → AllByRecursion (HasWitness decide s mode before n w) items
  awake_witnessed asleep s mode before n k w items law there is =
      rw is (all_taken (HasWitness decide s mode before n w) k (map shown (runs n asleep w)) (all_shown decide s mode before n w (runs n asleep w) law there (awake_holds n asleep w)))

abbrev pub AllFollow : Type 0
AllFollow = (v : World) → CanFollow v (decision v)

pub on_ok : {A E : Type 0} (r : Result A E) (P Q : A → Type 0) → ((x : A) → P x → Q x) → IfOk r P → IfOk r Q
on_ok (Ok x) P Q f h = f x h
on_ok (Err e) P Q f h = tt
