-- How a wide walk is complete that is nowhere cut, whether steps fall asleep in it or not. Where a run of it begins by a step that is
-- asleep, so does a run to the same end from where the step was tried.
use Rattle.std.proofs.Common.{◌≡◌, ◌⊎◌, ℕ, zero, suc, ◌≤◌, Bool, true, false, ◌||◌, not, Option, Some, None, is_some, option_and_then, List, [], ◌∷◌, ◌++◌, map, length, inl, inr, refl, sym, ap, subst, ◌∙◌, arith}
use Rattle.std.proofs.lemmas.Bool.{not-true}
use Rattle.std.specs.List.{list_any}
use Rattle.mpd_model.specs.declared.step.Step.{Step}
use Rattle.mpd_model.specs.declared.call.Mode.{Mode}
use Rattle.mpd_model.specs.declared.decision.Decision.{Decision}
use Rattle.mpd_model.specs.declared.decision.Decision.TheVariants.{Forced, Choice, Leaf}
use Rattle.mpd_model.specs.script.Program.{Program}
use Rattle.mpd_model.specs.steps.World.{World, start}
use Rattle.mpd_model.specs.steps.Next.{next, fold}
use Rattle.mpd_model.specs.runs.Trail.{step_eq}
use Rattle.mpd_trail.proofs.TrailLemmas.{step_eq-true}
use Rattle.mpd_policy.specs.declared.ending.Ending.TheVariants.{Ended, Cut}
use Rattle.mpd_policy.specs.Walk.{Run, here, stepped, chosen, runs_of, branches, followed, stopped, wide_walk}
use Rattle.mpd_explore.specs.Sleeping.{awake_runs, put_to_sleep, awake_by, sleeping_wide_walk}
use Rattle.mpd_laws.proofs.ordered.CallsInOrder.{joined_from}
use Rattle.mpd_meaning.specs.Same.{Same}
use Rattle.mpd_policy.specs.Wide.{conflict, is_asleep, sleeps_on, wide_decision}
use Rattle.mpd_complete.specs.CompleteLaws.{IsWhole, IsComplete}
use Rattle.mpd_complete.specs.WideWalks.{wide_branches, followed_wide, awake_wide_walk}
use Rattle.mpd_meaning.proofs.listed.Members.{In, in_left, in_right, in_map, filter_from}
use Rattle.mpd_meaning.proofs.moving.Worlds.{same_refl, same_trans, follows_all}
use Rattle.mpd_complete.proofs.Invariants.{Sound, keeps, fold_sound, start_sound}
use Rattle.mpd_complete.proofs.Diamond.{diamond}
use Rattle.mpd_complete.proofs.Views.{world_of, Stuck, ForcedView, ChoiceView, View, view}
use Rattle.mpd_complete.proofs.Walks.{Whole, Complete, front, behind_step, whole_behind, whole_each, stuck_same, some_on, at_leaf, stuck_from, listed_from, Bounded, goes_on}

-- ---- runs that begin by a step

-- Steps from u to w: as many, or more, begin by a, and where no step is enabled in w they lead there too.
record Begins (a : Step) (u w : World) (steps : List Step) : Type 0 where
  world : World
  leads : next u a ≡ Some world
  rest : List Step
  end : World
  goes : fold world rest ≡ Some end
  long : length steps ≤ suc (length rest)
  same : Stuck w → Same w end

-- they begin by a step that is asleep
record Through (asleep : List Step) (u w : World) (steps : List Step) : Type 0 where
  step : Step
  among : In asleep step
  begins : Begins step u w steps

-- what is asleep can be taken
abbrev pub Tried : List Step → World → Type 0
Tried asleep u = (z : Step) → In asleep z → is_some (next u z) ≡ true

-- what sleeps on after a step was asleep before, and does not conflict with it
pub on_from : (u : World) (a : Step) (asleep : List Step) (z : Step) → In (sleeps_on u a asleep) z → In asleep z × (conflict u a z ≡ false)
on_from u a asleep z h = let k = filter_from (λ (y : Step). not (conflict u a y)) asleep z h in (k.0, not-true (conflict u a z) k.1)

pub tried_on : (u : World) → Sound u → (a : Step) (x : World) → next u a ≡ Some x → (asleep : List Step) → Tried asleep u → Tried (sleeps_on u a asleep) x
tried_on u h a x e asleep tried z k =
    let on = on_from u a asleep z k in
    let to = world_of (next u z) (tried z on.0) in
    some_on x z _ (diamond u h a z x to.0 e to.1 on.1).by_b

-- steps that begin by a, and after it by a step that slept on, begin by that step as well
begins_back : (u : World) → Sound u → (asleep : List Step) → Tried asleep u → (a : Step) (w : World) (steps : List Step) → (k : Begins a u w steps) → Through (sleeps_on u a asleep) k.world k.end k.rest
    → Through asleep u w steps
begins_back u h asleep tried a w steps k t =
    let m = t.begins in
    let on = on_from u a asleep t.step t.among in
    let to = world_of (next u t.step) (tried t.step on.0) in
    let joins = diamond u h a t.step k.world to.0 k.leads to.1 on.1 in
    let is : joins.behind_a ≡ m.world = some_same (sym joins.by_b ∙ m.leads) in
    let all = follows_all m.rest joins.behind_a joins.behind_b joins.same m.end (ap (λ (z : World). fold z m.rest) is ∙ m.goes) in
    let one = k.long in
    let two = m.long in
    record {
      step = t.step;
      among = on.0;
      begins = record {
        world = to.0;
        leads = to.1;
        rest = a ∷ m.rest;
        end = all.world;
        goes = ap (option_and_then (λ z. fold z m.rest)) joins.by_a ∙ all.leads;
        long = omega (arith, one, two);
        same = λ stuck. same_trans w k.end all.world (k.same stuck) (same_trans k.end m.end all.world (m.same (stuck_same w k.end (k.same stuck) stuck)) all.same);
      };
    }
  where
    some_same : {x y : World} → Some x ≡ Some y → x ≡ y
    some_same p = cc

-- what is complete after a step is so before it
complete_after : (n : ℕ) (runs more : List Run) (a : Step) (put : Run → Run) (u w : World) (steps : List Step) → ((r : Run) → (put r).steps ≡ a ∷ r.steps) → ((r : Run) → (put r).ending ≡ r.ending)
    → (k : Begins a u w steps) → ((r : Run) → In more r → In runs (put r)) → Complete n more k.world k.end k.rest → Complete (suc n) runs u w steps
complete_after n runs more a put u w steps puts ends k within c =
    let one = k.long in
    let two = c.short in
    record {
      short = omega (arith, one, two);
      found = λ stuck. behind_step runs more a put u k.world w k.end within puts ends k.leads (k.same stuck) (c.found (stuck_same w k.end (k.same stuck) stuck));
    }

-- ---- which steps are asleep

pub found_in : (a : Step) (asleep : List Step) → is_asleep asleep a ≡ true → In asleep a
found_in a [] e = absurd (cc)
found_in a (z ∷ asleep) e = by_test (step_eq a z) refl e (λ f. found_in a asleep f)
  where
    by_test : (b : Bool) → step_eq a z ≡ b → (b || list_any (step_eq a) asleep) ≡ true → (is_asleep asleep a ≡ true → In asleep a) → In (z ∷ asleep) a
    by_test true is f more = inl (sym (step_eq-true a z is))
    by_test false is f more = inr (more f)

-- what is asleep after a step that was tried is that step, or was asleep before
asleep_from : (sleeps : Bool) (a : Step) (asleep : List Step) (z : Step) → In (put_to_sleep sleeps a asleep) z → (a ≡ z) ⊎ In asleep z
asleep_from true a asleep z h = h
asleep_from false a asleep z h = inr h

-- ---- a walk in which steps fall asleep, or none do

module _ (sleeps : Bool) where
  -- what is shown of each world, by recursion on the fuel
  abbrev AllComplete : ℕ → Type 0
  AllComplete n =
      (asleep : List Step) (u : World) → Sound u → Tried asleep u → Whole (awake_wide_walk sleeps n asleep u) → (steps : List Step) (w : World) → fold u steps ≡ Some w
      → Complete n (awake_wide_walk sleeps n asleep u) u w steps ⊎ Through asleep u w steps

  -- after a step by which the steps begin
  by_step : (n : ℕ) → AllComplete n → (asleep : List Step) (u : World) → Sound u → Tried asleep u → (runs : List Run) (a : Step) (put : Run → Run) → ((r : Run) → (put r).steps ≡ a ∷ r.steps)
      → ((r : Run) → (put r).ending ≡ r.ending) → (steps : List Step) (w : World) → (k : Begins a u w steps)
      → ((r : Run) → In (awake_wide_walk sleeps n (sleeps_on u a asleep) k.world) r → In runs (put r)) → Whole runs
      → Complete (suc n) runs u w steps ⊎ Through asleep u w steps
  by_step n ih asleep u h tried runs a put puts ends steps w k within whole =
      let x : World = k.world in
      let more : List Run = awake_wide_walk sleeps n (sleeps_on u a asleep) x in
      elim (ih (sleeps_on u a asleep) x ((keeps u a x k.leads).sound h) (tried_on u h a x k.leads asleep tried) (whole_behind runs more put within ends whole) k.rest k.end k.goes) [
        | inl c ↦ inl (complete_after n runs more a put u w steps puts ends k within c)
        | inr t ↦ inr (begins_back u h asleep tried a w steps k t)
      ]

  -- ---- a forced step comes to the front

  forced_begins : (u : World) → Sound u → (a : Step) → ForcedView u a → (steps : List Step) (w : World) → fold u steps ≡ Some w → Begins a u w steps
  forced_begins u h a force steps w e =
      let k = front steps a u force.world w h force.quiet force.leads e in
      record {
        world = force.world;
        leads = force.leads;
        rest = k.rest;
        end = k.end;
        goes = k.leads;
        long = elim k.either [
          | inl took ↦ let count = took.0 in omega (arith, count)
          | inr left ↦ let count = left.as_long in omega (arith, count)
        ];
        same = λ stuck. elim k.either [
          | inl took ↦ took.1
          | inr left ↦ absurd (stuck a (some_on w a left.world left.leads))
        ];
      }

  complete_forced : (n : ℕ) → AllComplete n → (asleep : List Step) (u : World) → Sound u → Tried asleep u → (a : Step) → ForcedView u a
      → Whole (map (stepped a) (runs_of (awake_wide_walk sleeps n (sleeps_on u a asleep)) (next u a))) → (steps : List Step) (w : World) → fold u steps ≡ Some w
      → Complete (suc n) (map (stepped a) (runs_of (awake_wide_walk sleeps n (sleeps_on u a asleep)) (next u a))) u w steps ⊎ Through asleep u w steps
  unfolding forced_begins
  complete_forced n ih asleep u h tried a force whole steps w e =
      let runs : List Run = map (stepped a) (runs_of (awake_wide_walk sleeps n (sleeps_on u a asleep)) (next u a)) in
      by_step n ih asleep u h tried runs a (stepped a) (λ r. refl) (λ r. refl) steps w (forced_begins u h a force steps w e)
      (λ r i. subst (λ (o : Option World). In (map (stepped a) (runs_of (awake_wide_walk sleeps n (sleeps_on u a asleep)) o)) (stepped a r)) (sym force.leads)
      (in_map (stepped a) (awake_wide_walk sleeps n (sleeps_on u a asleep) force.world) r i))
      whole

  -- ---- of the candidates by which the steps can begin, the first is the branch

  abbrev Branched : (n : ℕ) (asleep : List Step) (u : World) (i : ℕ) (candidates steps : List Step) (w : World) → Type 0
  Branched n asleep u i candidates steps w = Complete (suc n) (wide_branches sleeps (awake_wide_walk sleeps n) u asleep i candidates) u w steps ⊎ Through asleep u w steps

  complete_branches : (n : ℕ) → AllComplete n → (u : World) → Sound u → (steps : List Step) (w : World) → (i : ℕ) (candidates asleep : List Step) → Tried asleep u
      → ((a : Step) → In candidates a → is_some (next u a) ≡ true) → Whole (wide_branches sleeps (awake_wide_walk sleeps n) u asleep i candidates)
      → (b : Step) → In candidates b → Begins b u w steps → Branched n asleep u i candidates steps w
  complete_branches n ih u h steps w i [] asleep tried on whole b within k = absurd within
  complete_branches n ih u h steps w i (a ∷ more) asleep tried on whole b within k =
      by_place within (λ j. complete_branches n ih u h steps w (suc i) more (put_to_sleep sleeps a asleep) tried_more (λ z m. on z (inr m)) (λ r m. whole r (in_right first others r m)) b j k)
    where
      first : List Run
      first = map (chosen i a) (awake_runs (is_asleep asleep a) (awake_wide_walk sleeps n (sleeps_on u a asleep)) (next u a))

      others : List Run
      others = wide_branches sleeps (awake_wide_walk sleeps n) u (put_to_sleep sleeps a asleep) (suc i) more

      by_sleep : (t : Bool) → is_asleep asleep a ≡ t → Begins a u w steps → Branched n asleep u i (a ∷ more) steps w
      by_sleep true is m = inr (record { step = a; among = found_in a asleep is; begins = m })
      by_sleep false is m =
          by_step n ih asleep u h tried (first ++ others) a (chosen i a) (λ r. refl) (λ r. refl) steps w m
          (λ r j. in_left first others (chosen i a r) (in_map (chosen i a) (awake_runs (is_asleep asleep a) (awake_wide_walk sleeps n (sleeps_on u a asleep)) (next u a)) r
          (subst (λ (t : Bool). In (awake_runs t (awake_wide_walk sleeps n (sleeps_on u a asleep)) (next u a)) r) (sym is)
          (subst (λ (o : Option World). In (runs_of (awake_wide_walk sleeps n (sleeps_on u a asleep)) o) r) (sym m.leads) j))))
          whole

      tried_more : Tried (put_to_sleep sleeps a asleep) u
      tried_more z j =
          elim (asleep_from sleeps a asleep z j) [
            | inl is ↦ on z (inl is)
            | inr m ↦ tried z m
          ]

      by_later : Branched n (put_to_sleep sleeps a asleep) u (suc i) more steps w → Branched n asleep u i (a ∷ more) steps w
      by_later (inl c) = inl (record { short = c.short; found = λ stuck. let f = c.found stuck in record { run = f.run; listed = in_right first others f.run f.listed; ending = f.ending; end = f.end; leads = f.leads; same = f.same } })
      by_later (inr t) =
          elim (asleep_from sleeps a asleep t.step t.among) [
            | inl is ↦ by_sleep (is_asleep asleep a) refl (subst (λ (c : Step). Begins c u w steps) (sym is) t.begins)
            | inr m ↦ inr (record { step = t.step; among = m; begins = t.begins })
          ]

      by_place : In (a ∷ more) b → (In more b → Branched n (put_to_sleep sleeps a asleep) u (suc i) more steps w) → Branched n asleep u i (a ∷ more) steps w
      by_place (inl is) go = by_sleep (is_asleep asleep a) refl (subst (λ (c : Step). Begins c u w steps) (sym is) k)
      by_place (inr j) go = by_later (go j)

  complete_choice : (n : ℕ) → AllComplete n → (asleep : List Step) (u : World) → Sound u → Tried asleep u → (candidates : List Step) → ChoiceView u candidates
      → Whole (wide_branches sleeps (awake_wide_walk sleeps n) u asleep 0 candidates) → (steps : List Step) (w : World) → fold u steps ≡ Some w → Branched n asleep u 0 candidates steps w
  complete_choice n ih asleep u h tried candidates choice whole [] w e =
      let is : u ≡ w = cc in
      inl (record { short = omega arith; found = λ all. absurd (all choice.one (subst (λ (z : World). is_some (next z choice.one) ≡ true) is choice.leads)) })
  complete_choice n ih asleep u h tried candidates choice whole (b ∷ steps) w e =
      let after = joined_from (λ x. fold x steps) (next u b) w e in
      complete_branches n ih u h (b ∷ steps) w 0 candidates asleep tried choice.each whole b (choice.listed b (some_on u b after.0 after.1))
      (record { world = after.0; leads = after.1; rest = steps; end = w; goes = after.2; long = omega arith; same = λ stuck. same_refl w })

  -- ---- any decision

  complete_more : (n : ℕ) → AllComplete n → (asleep : List Step) (u : World) → Sound u → Tried asleep u → (d : Decision) → View u d → Whole (followed_wide sleeps (awake_wide_walk sleeps n) asleep u d)
      → (steps : List Step) (w : World) → fold u steps ≡ Some w → Complete (suc n) (followed_wide sleeps (awake_wide_walk sleeps n) asleep u d) u w steps ⊎ Through asleep u w steps
  complete_more n ih asleep u h tried (Forced a) is whole steps w e = complete_forced n ih asleep u h tried a is whole steps w e
  complete_more n ih asleep u h tried (Choice candidates) is whole steps w e = complete_choice n ih asleep u h tried candidates is whole steps w e
  complete_more n ih asleep u h tried (Leaf o) is whole steps w e = inl (at_leaf (suc n) u o (here (Ended o) ∷ []) is (inl refl) steps w e)

  complete_none : (u : World) (d : Decision) → View u d → Whole (stopped d) → (steps : List Step) (w : World) → fold u steps ≡ Some w → Complete zero (stopped d) u w steps
  complete_none u (Forced a) is whole steps w e = absurd (let cut : true ≡ false = whole (here Cut) (inl refl) in cc)
  complete_none u (Choice candidates) is whole steps w e = absurd (let cut : true ≡ false = whole (here Cut) (inl refl) in cc)
  complete_none u (Leaf o) is whole steps w e = at_leaf zero u o (here (Ended o) ∷ []) is (inl refl) steps w e

  all_complete : (n : ℕ) → AllComplete n
  unfolding awake_by
  all_complete zero asleep u h tried whole steps w e = inl (complete_none u (wide_decision u) (view u h) whole steps w e)
  all_complete (suc n) asleep u h tried whole steps w e = complete_more n (all_complete n) asleep u h tried (wide_decision u) (view u h) whole steps w e

  -- where nothing is asleep
  complete_awake : (n : ℕ) (u : World) → Sound u → Whole (awake_wide_walk sleeps n [] u) → (steps : List Step) (w : World) → fold u steps ≡ Some w → Complete n (awake_wide_walk sleeps n [] u) u w steps
  complete_awake n u h whole steps w e =
      elim (all_complete n [] u h (λ z k. absurd k) whole steps w e) [
        | inl c ↦ c
        | inr t ↦ absurd t.among
      ]

  -- ---- the law

  complete_from : (u : World) → Sound u → (fuel : ℕ) → IsWhole (awake_wide_walk sleeps fuel [] u) → (steps : List Step) (w : World) → fold u steps ≡ Some w → IsComplete (awake_wide_walk sleeps fuel [] u) fuel u w steps
  complete_from u h fuel whole steps w e =
      let each = whole_each (awake_wide_walk sleeps fuel [] u) whole in
      let bound : Bounded fuel u = λ more v f. (complete_awake fuel u h each more v f).short in
      record {
        short = bound steps w e;
        goes_on = goes_on fuel fuel u w steps e bound (omega arith);
        listed = λ none. listed_from (awake_wide_walk sleeps fuel [] u) u w ((complete_awake fuel u h each steps w e).found (stuck_from w (fold_sound steps u w e h) none));
      }

  pub complete_by : (s : Program) (mode : Mode) (before : List Step) (u : World) → fold (start s mode) before ≡ Some u
      → (fuel : ℕ) → IsWhole (awake_wide_walk sleeps fuel [] u) → (steps : List Step) (w : World) → fold u steps ≡ Some w → IsComplete (awake_wide_walk sleeps fuel [] u) fuel u w steps
  complete_by s mode before u e = complete_from u (fold_sound before (start s mode) u e (start_sound s mode))

-- ---- where nothing falls asleep

abbrev AllPlain : ℕ → Type 0
AllPlain n = (u : World) → awake_wide_walk false n [] u ≡ wide_walk n u

plain_after : (n : ℕ) → AllPlain n → (o : Option World) → runs_of (awake_wide_walk false n []) o ≡ runs_of (wide_walk n) o
plain_after n ih None = refl
plain_after n ih (Some x) = ih x

plain_branches : (n : ℕ) → AllPlain n → (u : World) (i : ℕ) (candidates : List Step) → wide_branches false (awake_wide_walk false n) u [] i candidates ≡ branches (wide_walk n) u i candidates
plain_branches n ih u i [] = refl
plain_branches n ih u i (a ∷ more) = λ j. map (chosen i a) (plain_after n ih (next u a) j) ++ plain_branches n ih u (suc i) more j

plain_more : (n : ℕ) → AllPlain n → (u : World) (d : Decision) → followed_wide false (awake_wide_walk false n) [] u d ≡ followed (wide_walk n) (wide_walk n) u d
plain_more n ih u (Forced a) = ap (map (stepped a)) (plain_after n ih (next u a))
plain_more n ih u (Choice candidates) = plain_branches n ih u 0 candidates
plain_more n ih u (Leaf o) = refl

pub nothing_sleeps : (n : ℕ) → AllPlain n
unfolding awake_by wide_walk
nothing_sleeps zero u = refl
nothing_sleeps (suc n) u = plain_more n (nothing_sleeps n) u (wide_decision u)

pub sleeping_complete : (s : Program) (mode : Mode) (before : List Step) (u : World) → fold (start s mode) before ≡ Some u
    → (fuel : ℕ) → IsWhole (sleeping_wide_walk fuel u) → (steps : List Step) (w : World) → fold u steps ≡ Some w → IsComplete (sleeping_wide_walk fuel u) fuel u w steps
sleeping_complete = complete_by true

pub complete : (s : Program) (mode : Mode) (before : List Step) (u : World) → fold (start s mode) before ≡ Some u
    → (fuel : ℕ) → IsWhole (wide_walk fuel u) → (steps : List Step) (w : World) → fold u steps ≡ Some w → IsComplete (wide_walk fuel u) fuel u w steps
complete s mode before u e fuel =
    subst (λ (runs : List Run). IsWhole runs → (steps : List Step) (w : World) → fold u steps ≡ Some w → IsComplete runs fuel u w steps) (nothing_sleeps fuel u)
    (complete_by false s mode before u e fuel)
