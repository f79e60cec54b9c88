-- A run, one step after another.
use Rattle.std.proofs.Common.{◌≡◌, ◌≢◌, ℕ, zero, suc, ◌+◌, ◌-◌, ◌<◌, ◌≤◌, ◌==◌, Bool, true, false, cond, Option, Some, None, IsSome, IfSome, IfNone, List, [], ◌∷◌, ◌++◌, length, take, inl, inr, refl, sym, ap, subst, ◌∙◌, append-nil, append_assoc, arith}
use Rattle.std.proofs.lemmas.List.{length-append, length-take, take_all, take-append-le}
use Rattle.std.proofs.lemmas.Bool.Decides.{eqb_tells}
use Rattle.std.specs.Option.{option_and_then}
use Rattle.mpd_model.specs.declared.limits.TheConstants.{STEPS_MAX}
use Rattle.mpd_model.specs.declared.step.Step.{Step}
use Rattle.mpd_model.specs.declared.decision.Decision.{Decision}
use Rattle.mpd_model.specs.declared.decision.Decision.TheVariants.{Forced, Choice, Leaf}
use Rattle.mpd_model.specs.declared.breakpoint.Breakpoint.{Breakpoint}
use Rattle.mpd_model.specs.declared.breakpoint.Stop.{Stop}
use Rattle.mpd_model.specs.declared.breakpoint.Cause.{Cause}
use Rattle.mpd_model.specs.declared.breakpoint.Cause.TheVariants as for
use Rattle.mpd_model.specs.declared.call.Mode.{Mode}
use Rattle.mpd_model.specs.script.Program.{Program}
use Rattle.mpd_model.specs.steps.World.{World}
use Rattle.mpd_model.specs.steps.Next.{next, fold}
use Rattle.mpd_model.specs.steps.Outcomes.{is_stuck}
use Rattle.mpd_model.specs.runs.Trail.{Trail, Standing, IsReached, IsRun, applied, done_steps, gone_back, forgotten, with_steps, world_of}
use Rattle.mpd_model.specs.runs.Decisions.{forced_step, choices, chosen_from, CanFollow}
use Rattle.mpd_model.specs.runs.Breakpoints.{lowest_hit}
use Rattle.mpd_model.specs.runs.Running.{Ran, ran_along, ran_by, ran_taking, at_most, stopped, behind, stop_of, all_applied}
use Rattle.mpd_trail.proofs.KeptLemmas.{fold-append}
use Rattle.mpd_policy.specs.declared.runs.Ahead.{Ahead}
use Rattle.mpd_policy.specs.declared.runs.Ahead.TheVariants.{Take, Halt}
use Rattle.mpd_policy.specs.declared.runs.Taking.{Taking}
use Rattle.mpd_policy.specs.declared.runs.Taking.TheVariants as taking
use Rattle.mpd_policy.specs.Ahead.{comes, forced_in, ahead_of, Lists, Wants, ran_from, Ended, Broken}
use Rattle.mpd_policy.proofs.StepKinds.{decided_none}
use Rattle.mpd_policy.proofs.Followed.{leaf_where, nothing_enabled, enabled_where, stuck_where}
use Rattle.mpd_policy.proofs.SingleLemmas.{comes_leaf, comes_on, comes_followed}

-- ---- what is ahead

at_most_all : (depth : ℕ) → depth < STEPS_MAX → (depth == STEPS_MAX) ≡ false
at_most_all depth lt = elim (eqb_tells depth STEPS_MAX) [ inl t ↦ absurd (omega (arith, lt, t.1)) | inr t ↦ t.0 ]

at_all : (depth : ℕ) → depth ≡ STEPS_MAX → (depth == STEPS_MAX) ≡ true
at_all depth e = elim (eqb_tells depth STEPS_MAX) [ inl t ↦ t.0 | inr t ↦ absurd (t.1 e) ]

forced_is : (d : Decision) (a : Step) → forced_in d ≡ Some a → d ≡ Forced a
forced_is (Forced b) a e = let h : Some b ≡ Some a = e in let same : b ≡ a = cc in ap Forced same
forced_is (Choice steps) a e = let h : None ≡ Some a = e in absurd (cc)
forced_is (Leaf o) a e = let h : None ≡ Some a = e in absurd (cc)

forced_ahead : (d : Decision) (a : Step) (depth : ℕ) → forced_in d ≡ Some a → ahead_of depth d ≡ cond (depth == STEPS_MAX) (Halt for.Full) (Take a)
forced_ahead d a depth e = ap (ahead_of depth) (forced_is d a e)

full_ahead : (d : Decision) (o : Option Step) (a : Step) (depth : ℕ) → o ≡ forced_in d → o ≡ Some a → depth ≤ STEPS_MAX → STEPS_MAX ≤ depth → Halt for.Full ≡ ahead_of depth d
full_ahead d o a depth is some few many =
    sym (forced_ahead d a depth (sym is ∙ some) ∙ ap (λ (b : Bool). cond b (Halt for.Full) (Take a)) (at_all depth (omega (arith, few, many))))

step_ahead : (d : Decision) (o : Option Step) (a : Step) (depth : ℕ) → o ≡ forced_in d → o ≡ Some a → depth < STEPS_MAX → Take a ≡ ahead_of depth d
step_ahead d o a depth is some few =
    sym (forced_ahead d a depth (sym is ∙ some) ∙ ap (λ (b : Bool). cond b (Halt for.Full) (Take a)) (at_most_all depth few))

leaf_ahead : (t : Taking) (w : World) (stuck : Bool) (depth : ℕ) → stuck ≡ is_stuck w → stuck ≡ true → Halt for.Leaf ≡ ahead_of depth (comes t w)
leaf_ahead t w stuck depth same yes_stuck = sym (ap (ahead_of depth) (comes_leaf t w (leaf_where w (enabled_where w (sym same ∙ yes_stuck)))))

choice_by : (w : World) (steps : List Step) (depth : ℕ) → (steps ≡ [] → ⊥) → Halt for.Choice ≡ ahead_of depth (chosen_from w steps)
choice_by w [] depth some = absurd (some refl)
choice_by w (a ∷ steps) depth some = refl

not_both : (b : Bool) → b ≡ true → b ≡ false → ⊥
not_both b e f = cc

choice_ahead : (t : Taking) (w : World) (o : Option Step) (stuck : Bool) (depth : ℕ) → o ≡ forced_in (comes t w) → o ≡ None → stuck ≡ is_stuck w → stuck ≡ false → Halt for.Choice ≡ ahead_of depth (comes t w)
choice_ahead t w o stuck depth is none same not_stuck =
    let both = comes_on t w (sym is ∙ none) in
    let forced : forced_step w ≡ None = both.1 in
    choice_by w (choices w) depth (λ e. not_both (is_stuck w) (stuck_where w (nothing_enabled w forced e)) (sym same ∙ not_stuck))
    ∙ ap (ahead_of depth) (sym (both.0 ∙ decided_none w forced))

-- what a core tells that shows the same world
pub sees_full : (t : Taking) (v w : World) (o : Option Step) (a : Step) (d depth : ℕ) → v ≡ w → d ≡ depth → o ≡ forced_in (comes t v) → o ≡ Some a → d ≤ STEPS_MAX → STEPS_MAX ≤ d → Halt for.Full ≡ ahead_of depth (comes t w)
sees_full t v w o a d depth same deep is some few many = full_ahead (comes t v) o a d is some few many ∙ ap (λ (u : World). ahead_of d (comes t u)) same ∙ ap (λ (n : ℕ). ahead_of n (comes t w)) deep

pub sees_step : (t : Taking) (v w : World) (o : Option Step) (a : Step) (d depth : ℕ) → v ≡ w → d ≡ depth → o ≡ forced_in (comes t v) → o ≡ Some a → d < STEPS_MAX → Take a ≡ ahead_of depth (comes t w)
sees_step t v w o a d depth same deep is some few = step_ahead (comes t v) o a d is some few ∙ ap (λ (u : World). ahead_of d (comes t u)) same ∙ ap (λ (n : ℕ). ahead_of n (comes t w)) deep

pub sees_leaf : (t : Taking) (v w : World) (stuck : Bool) (depth : ℕ) → v ≡ w → stuck ≡ is_stuck v → stuck ≡ true → Halt for.Leaf ≡ ahead_of depth (comes t w)
sees_leaf t v w stuck depth same tells here = leaf_ahead t v stuck depth tells here ∙ ap (λ (u : World). ahead_of depth (comes t u)) same

pub sees_choice : (t : Taking) (v w : World) (o : Option Step) (stuck : Bool) (depth : ℕ) → v ≡ w → o ≡ forced_in (comes t v) → o ≡ None → stuck ≡ is_stuck v → stuck ≡ false → Halt for.Choice ≡ ahead_of depth (comes t w)
sees_choice t v w o stuck depth same is none tells here = choice_ahead t v o stuck depth is none tells here ∙ ap (λ (u : World). ahead_of depth (comes t u)) same

-- candidates are listed in the same world
pub sees_lists : (t : Taking) (v w : World) → v ≡ w → Lists t v → Lists t w
sees_lists t v w same h = subst (Lists t) same h

pub ruleset looking = (sees_full, sees_step, sees_leaf, sees_choice, sees_lists)

-- the decision of what is ahead

ahead_forced : (depth : ℕ) (d : Decision) (a : Step) → ahead_of depth d ≡ Take a → (d ≡ Forced a) × ((depth == STEPS_MAX) ≡ false)
ahead_forced depth (Forced b) a e = forced_by (depth == STEPS_MAX) refl e
  where
    forced_by : (f : Bool) → (depth == STEPS_MAX) ≡ f → cond f (Halt for.Full) (Take b) ≡ Take a → (Forced b ≡ Forced a) × ((depth == STEPS_MAX) ≡ false)
    forced_by true is e = let h : Halt for.Full ≡ Take a = e in absurd (cc)
    forced_by false is e = let h : Take b ≡ Take a = e in let same : b ≡ a = cc in (ap Forced same, is)
ahead_forced depth (Choice steps) a e = let h : Halt for.Choice ≡ Take a = e in absurd (cc)
ahead_forced depth (Leaf o) a e = let h : Halt for.Leaf ≡ Take a = e in absurd (cc)

pub ahead_enabled : (t : Taking) (w : World) (depth : ℕ) (x : Ahead) (a : Step) → x ≡ ahead_of depth (comes t w) → x ≡ Take a → IsSome (next w a)
ahead_enabled t w depth x a is takes = subst (CanFollow w) (ahead_forced depth (comes t w) a (sym is ∙ takes)).0 (comes_followed t w)

pub ahead_few : (t : Taking) (s : Standing) (x : Ahead) (a : Step) → IsReached s → x ≡ ahead_of s.trail.depth (comes t s.world) → x ≡ Take a → s.trail.depth < STEPS_MAX
ahead_few t s x a r is takes =
    elim (eqb_tells s.trail.depth STEPS_MAX) [
      | inl q ↦ absurd (not_both (s.trail.depth == STEPS_MAX) q.0 (ahead_forced s.trail.depth (comes t s.world) a (sym is ∙ takes)).1)
      | inr q ↦ let differs : s.trail.depth ≢ STEPS_MAX = q.1 in omega (arith, differs, r.within, r.run.few)
    ]

-- ---- one step of a run

ran_step : (t : Taking) (s : Program) (places : List (Option Breakpoint)) (n depth : ℕ) (w v : World) (a : Step) → ahead_of depth (comes t w) ≡ Take a → next w a ≡ Some v
    → ran_along (comes t) s places (suc n) depth w ≡ behind a (lowest_hit s places w a v) (ran_along (comes t) s places n (depth + 1) v)
ran_step t s places n depth w v a e leads =
    let both = ahead_forced depth (comes t w) a e in
    ap (ran_by (ran_along (comes t) s places n (depth + 1)) s places depth w) both.0
    ∙ ap (λ (b : Bool). cond b (stopped for.Full) (ran_taking (ran_along (comes t) s places n (depth + 1)) s places w a (next w a))) both.1
    ∙ ap (ran_taking (ran_along (comes t) s places n (depth + 1)) s places w a) leads

halts_by : (more : World → Ran) (s : Program) (places : List (Option Breakpoint)) (depth : ℕ) (w : World) (d : Decision) (cause : Cause) → ahead_of depth d ≡ Halt cause → ran_by more s places depth w d ≡ stopped cause
halts_by more s places depth w (Forced a) cause e = forced_by (depth == STEPS_MAX) e
  where
    forced_by : (f : Bool) → cond f (Halt for.Full) (Take a) ≡ Halt cause → cond f (stopped for.Full) (ran_taking more s places w a (next w a)) ≡ stopped cause
    forced_by true e = let h : Halt for.Full ≡ Halt cause = e in let same : for.Full ≡ cause = cc in ap stopped same
    forced_by false e = let h : Take a ≡ Halt cause = e in absurd (cc)
halts_by more s places depth w (Choice steps) cause e = let h : Halt for.Choice ≡ Halt cause = e in let same : for.Choice ≡ cause = cc in ap stopped same
halts_by more s places depth w (Leaf o) cause e = let h : Halt for.Leaf ≡ Halt cause = e in let same : for.Leaf ≡ cause = cc in ap stopped same

halts_last : (depth : ℕ) (d : Decision) (cause : Cause) → ahead_of depth d ≡ Halt cause → at_most depth d ≡ cause
halts_last depth (Forced a) cause e = forced_by (depth == STEPS_MAX) e
  where
    forced_by : (f : Bool) → cond f (Halt for.Full) (Take a) ≡ Halt cause → cond f for.Full for.Max ≡ cause
    forced_by true e = let h : Halt for.Full ≡ Halt cause = e in let same : for.Full ≡ cause = cc in same
    forced_by false e = let h : Take a ≡ Halt cause = e in absurd (cc)
halts_last depth (Choice steps) cause e = let h : Halt for.Choice ≡ Halt cause = e in let same : for.Choice ≡ cause = cc in same
halts_last depth (Leaf o) cause e = let h : Halt for.Leaf ≡ Halt cause = e in let same : for.Leaf ≡ cause = cc in same

ran_halts : (t : Taking) (s : Program) (places : List (Option Breakpoint)) (n depth : ℕ) (w : World) (cause : Cause) → ahead_of depth (comes t w) ≡ Halt cause → ran_along (comes t) s places n depth w ≡ stopped cause
ran_halts t s places zero depth w cause e = ap stopped (halts_last depth (comes t w) cause e)
ran_halts t s places (suc n) depth w cause e = halts_by (ran_along (comes t) s places n (depth + 1)) s places depth w (comes t w) cause e

takes_last : (depth : ℕ) (d : Decision) (a : Step) → ahead_of depth d ≡ Take a → at_most depth d ≡ for.Max
takes_last depth d a e =
    let both = ahead_forced depth d a e in
    ap (at_most depth) both.0 ∙ ap (λ (b : Bool). cond b for.Full for.Max) both.1

-- ---- a run that is on its way

abbrev pub made_of : List Step → Cause → Ran
made_of steps cause = record { steps = steps; cause = cause }

abbrev pub stop_at : ℕ → Cause → Stop
stop_at steps cause = record { steps = steps; cause = cause }

abbrev pub behind_all : List Step → Ran → Ran
behind_all taken r = record { steps = taken ++ r.steps; cause = r.cause }

pub record Going (t : Taking) (places : List (Option Breakpoint)) (max : ℕ) (old now : Standing) (made : ℕ) : Type 0 where
  pub taken : List Step
  pub count : length taken ≡ made
  pub within : made ≤ max
  pub trail : now.trail ≡ all_applied old.trail taken
  pub world : fold old.world taken ≡ Some now.world
  pub total : ran_from t places max old ≡ behind_all taken (ran_along (comes t) old.trail.program places (max - made) now.trail.depth now.world)
  pub begins : take old.trail.depth (done_steps now.trail) ≡ done_steps old.trail
  pub deeper : old.trail.depth ≤ now.trail.depth
  pub program : now.trail.program ≡ old.trail.program
  pub mode : now.trail.mode ≡ old.trail.mode

take_twice : (n : ℕ) (xs : List Step) → take n (take n xs) ≡ take n xs
take_twice n xs = take_all n (take n xs) (omega (arith, length-take n xs))

pub going_begins : (t : Taking) (places : List (Option Breakpoint)) (max : ℕ) (old : Standing) → Going t places max old old 0
going_begins t places max old = record {
  taken = [];
  count = refl;
  within = omega arith;
  trail = refl;
  world = refl;
  total = let k : max ≡ max - 0 = omega arith in ap (λ (n : ℕ). ran_along (comes t) old.trail.program places n old.trail.depth old.world) k;
  begins = take_twice old.trail.depth old.trail.steps;
  deeper = omega arith;
  program = refl;
  mode = refl;
}

applied_more : (t : Trail) (xs : List Step) (a : Step) → all_applied t (xs ++ a ∷ []) ≡ applied (all_applied t xs) a
applied_more t [] a = refl
applied_more t (x ∷ xs) a = applied_more (applied t x) xs a

fold_more : (first w v : World) (xs : List Step) (a : Step) → fold first xs ≡ Some w → next w a ≡ Some v → fold first (xs ++ a ∷ []) ≡ Some v
fold_more first w v xs a e leads =
    fold-append first xs (a ∷ []) ∙ ap (option_and_then (λ (v : World). fold v (a ∷ []))) e ∙ ap (option_and_then (λ (v : World). fold v [])) leads

-- what a step adds, whatever it hits
total_more : (t : Taking) (places : List (Option Breakpoint)) (max : ℕ) (old now new : Standing) (made : ℕ) (a : Step) (x : Ahead) (hit : Option ℕ) (g : Going t places max old now made) → made < max
    → x ≡ ahead_of now.trail.depth (comes t now.world) → x ≡ Take a → next now.world a ≡ Some new.world → hit ≡ lowest_hit now.trail.program places now.world a new.world
    → ran_from t places max old ≡ behind_all g.taken (behind a hit (ran_along (comes t) old.trail.program places (max - (made + 1)) (now.trail.depth + 1) new.world))
total_more t places max old now new made a x hit g lt is takes leads hits =
    let s : Program = old.trail.program in
    let n : ℕ = max - (made + 1) in
    let k : max - made ≡ suc n = omega (arith, lt) in
    g.total
    ∙ ap (λ (m : ℕ). behind_all g.taken (ran_along (comes t) s places m now.trail.depth now.world)) k
    ∙ ap (behind_all g.taken) (ran_step t s places n now.trail.depth now.world new.world a (sym is ∙ takes) leads)
    ∙ ap (λ (p : Program). behind_all g.taken (behind a (lowest_hit p places now.world a new.world) (ran_along (comes t) s places n (now.trail.depth + 1) new.world))) (sym g.program)
    ∙ ap (λ (o : Option ℕ). behind_all g.taken (behind a o (ran_along (comes t) s places n (now.trail.depth + 1) new.world))) (sym hits)

kept_more : (n : ℕ) (xs ys total : List Step) (a : Step) → n ≤ length xs → take n xs ≡ total → ys ≡ xs ++ a ∷ [] → take n ys ≡ total
kept_more n xs ys total a le e more = ap (take n) more ∙ take-append-le n xs (a ∷ []) le ∙ e

done_steps_long : (s : Standing) → IsReached s → length (done_steps s.trail) ≡ s.trail.depth
done_steps_long s r = omega (arith, length-take s.trail.depth s.trail.steps, r.within)

pub going_more : (t : Taking) (places : List (Option Breakpoint)) (max : ℕ) (old now new : Standing) (made : ℕ) (a : Step) (x : Ahead) (hit : Option ℕ) → Going t places max old now made → IsReached now → made < max
    → x ≡ ahead_of now.trail.depth (comes t now.world) → x ≡ Take a → new.trail ≡ applied now.trail a → next now.world a ≡ Some new.world → done_steps new.trail ≡ done_steps now.trail ++ a ∷ []
    → hit ≡ lowest_hit now.trail.program places now.world a new.world → hit ≡ None → Going t places max old new (made + 1)
going_more t places max old now new made a x hit g r lt is takes notes leads steps hits none =
    let s : Program = old.trail.program in
    let deep : new.trail.depth ≡ now.trail.depth + 1 = ap (λ (t : Trail). t.depth) notes in
    record {
      taken = g.taken ++ a ∷ [];
      count = omega (arith, length-append g.taken (a ∷ []), g.count);
      within = omega (arith, lt);
      trail = notes ∙ ap (λ (t : Trail). applied t a) g.trail ∙ sym (applied_more old.trail g.taken a);
      world = fold_more old.world now.world new.world g.taken a g.world leads;
      total =
          total_more t places max old now new made a x hit g lt is takes leads hits
          ∙ ap (λ (o : Option ℕ). behind_all g.taken (behind a o (ran_along (comes t) s places (max - (made + 1)) (now.trail.depth + 1) new.world))) none
          ∙ ap (λ (xs : List Step). made_of xs (ran_along (comes t) s places (max - (made + 1)) (now.trail.depth + 1) new.world).cause)
          (sym (append_assoc g.taken (a ∷ []) (ran_along (comes t) s places (max - (made + 1)) (now.trail.depth + 1) new.world).steps))
          ∙ ap (λ (d : ℕ). behind_all (g.taken ++ a ∷ []) (ran_along (comes t) s places (max - (made + 1)) d new.world)) (sym deep);
      begins = kept_more old.trail.depth (done_steps now.trail) (done_steps new.trail) (done_steps old.trail) a (omega (arith, done_steps_long now r, g.deeper)) g.begins steps;
      deeper = omega (arith, g.deeper, deep);
      program = ap (λ (t : Trail). t.program) notes ∙ g.program;
      mode = ap (λ (t : Trail). t.mode) notes ∙ g.mode;
    }

ended_with : (t : Taking) (places : List (Option Breakpoint)) (max : ℕ) (old new : Standing) (steps : List Step) (cause : Cause) (made : ℕ) → ran_from t places max old ≡ made_of steps cause → length steps ≡ made
    → new.trail ≡ all_applied old.trail steps → fold old.world steps ≡ Some new.world → Ended t places max old new (record { steps = made; cause = cause })
ended_with t places max old new steps cause made e count notes leads = record {
  stop = ap (λ (n : ℕ). stop_at n cause) (sym count) ∙ ap stop_of (sym e);
  trail = notes ∙ ap (λ (r : Ran). all_applied old.trail r.steps) (sym e);
  world = ap (λ (r : Ran). fold old.world r.steps) e ∙ leads;
}

pub going_hit : (t : Taking) (places : List (Option Breakpoint)) (max : ℕ) (old now new : Standing) (made n : ℕ) (a : Step) (x : Ahead) (hit : Option ℕ) → Going t places max old now made → made < max
    → x ≡ ahead_of now.trail.depth (comes t now.world) → x ≡ Take a → new.trail ≡ applied now.trail a → next now.world a ≡ Some new.world
    → hit ≡ lowest_hit now.trail.program places now.world a new.world → hit ≡ Some n → Ended t places max old new (record { steps = made + 1; cause = for.Break n })
going_hit t places max old now new made n a x hit g lt is takes notes leads hits some =
    ended_with t places max old new (g.taken ++ a ∷ []) (for.Break n) (made + 1)
    (total_more t places max old now new made a x hit g lt is takes leads hits
    ∙ ap (λ (o : Option ℕ). behind_all g.taken (behind a o (ran_along (comes t) old.trail.program places (max - (made + 1)) (now.trail.depth + 1) new.world))) some)
    (omega (arith, length-append g.taken (a ∷ []), g.count))
    (notes ∙ ap (λ (t : Trail). applied t a) g.trail ∙ sym (applied_more old.trail g.taken a))
    (fold_more old.world now.world new.world g.taken a g.world leads)

pub going_halted : (t : Taking) (places : List (Option Breakpoint)) (max : ℕ) (old now : Standing) (made : ℕ) (cause : Cause) (x : Ahead) → Going t places max old now made → x ≡ ahead_of now.trail.depth (comes t now.world) → x ≡ Halt cause
    → Ended t places max old now (record { steps = made; cause = cause })
going_halted t places max old now made cause x g is halts =
    ended_with t places max old now g.taken cause made
    (g.total ∙ ap (behind_all g.taken) (ran_halts t old.trail.program places (max - made) now.trail.depth now.world cause (sym is ∙ halts))
    ∙ ap (λ (xs : List Step). made_of xs cause) (append-nil g.taken)) g.count g.trail g.world

pub going_spent : (t : Taking) (places : List (Option Breakpoint)) (max : ℕ) (old now : Standing) (made : ℕ) (a : Step) (x : Ahead) → Going t places max old now made → max ≤ made → x ≡ ahead_of now.trail.depth (comes t now.world) → x ≡ Take a
    → Ended t places max old now (record { steps = max; cause = for.Max })
going_spent t places max old now made a x g all is takes =
    let k : max - made ≡ 0 = omega (arith, all) in
    ended_with t places max old now g.taken for.Max max
    (g.total ∙ ap (λ (n : ℕ). behind_all g.taken (ran_along (comes t) old.trail.program places n now.trail.depth now.world)) k
    ∙ ap (λ (c : Cause). made_of (g.taken ++ []) c) (takes_last now.trail.depth (comes t now.world) a (sym is ∙ takes))
    ∙ ap (λ (xs : List Step). made_of xs for.Max) (append-nil g.taken)) (omega (arith, g.count, g.within, all)) g.trail g.world

pub going_halted_last : (t : Taking) (places : List (Option Breakpoint)) (max : ℕ) (old now : Standing) (made : ℕ) (cause : Cause) (x : Ahead) → Going t places max old now made → max ≤ made → x ≡ ahead_of now.trail.depth (comes t now.world) → x ≡ Halt cause
    → Ended t places max old now (record { steps = max; cause = cause })
going_halted_last t places max old now made cause x g all is halts =
    let k : made ≡ max = omega (arith, g.within, all) in
    subst (λ (n : ℕ). Ended t places max old now (stop_at n cause)) k (going_halted t places max old now made cause x g is halts)

behind_some : (a : Step) (hit : Option ℕ) (more : Ran) → 0 < length (behind a hit more).steps
behind_some a (Some n) more = omega arith
behind_some a None more = omega arith

-- a run that is to take a step makes one
makes_by : (t : Taking) (places : List (Option Breakpoint)) (max : ℕ) (old now : Standing) (made : ℕ) (a : Step) (x : Ahead) (g : Going t places max old now made) → made < max → x ≡ ahead_of now.trail.depth (comes t now.world) → x ≡ Take a
    → (o : Option World) → next now.world a ≡ o → IsSome o → 0 < length (ran_from t places max old).steps
makes_by t places max old now made a x g lt is takes None leads some = absurd (let h : ⊥ = cc in h)
makes_by t places max old now made a x g lt is takes (Some v) leads some =
    let new : Standing = record { trail = now.trail; world = v } in
    let hit : Option ℕ = lowest_hit now.trail.program places now.world a v in
    let more : Ran = behind a hit (ran_along (comes t) old.trail.program places (max - (made + 1)) (now.trail.depth + 1) v) in
    let total : ran_from t places max old ≡ behind_all g.taken more = total_more t places max old now new made a x hit g lt is takes leads refl in
    omega (arith, ap (λ (r : Ran). length r.steps) total, length-append g.taken more.steps, behind_some a hit (ran_along (comes t) old.trail.program places (max - (made + 1)) (now.trail.depth + 1) v))

some_same : (w v : World) → Some w ≡ Some v → w ≡ v
some_same w v e = cc

wants_made : (t : Taking) (n : ℕ) (w : World) → 0 < n → Wants t n w
wants_made taking.Forced n w h = h
wants_made taking.Single n w h = inl h

wants_listed : (t : Taking) (n : ℕ) (w : World) → Lists t w → Wants t n w
wants_listed taking.Forced n w h = absurd h
wants_listed taking.Single n w h = inr h

pub going_broken : (t : Taking) (places : List (Option Breakpoint)) (max : ℕ) (old now new : Standing) (made : ℕ) (a : Step) (x : Ahead) → Going t places max old now made → made < max → x ≡ ahead_of now.trail.depth (comes t now.world) → x ≡ Take a
    → new.trail ≡ now.trail → Broken t places max old new
going_broken t places max old now new made a x g lt is takes same = record {
  begins = ap (λ (t : Trail). take old.trail.depth (done_steps t)) same ∙ g.begins;
  deeper = subst (λ (t : Trail). old.trail.depth ≤ t.depth) (sym same) g.deeper;
  program = ap (λ (t : Trail). t.program) same ∙ g.program;
  mode = ap (λ (t : Trail). t.mode) same ∙ g.mode;
  makes = wants_made t (length (ran_from t places max old).steps) old.world (makes_by t places max old now made a x g lt is takes (next now.world a) refl (ahead_enabled t now.world now.trail.depth x a is takes));
}

-- where a look is refused, a step was made before it, or it was the first
listed_by : (t : Taking) (v w : World) (taken : List Step) (n : ℕ) → fold v taken ≡ Some w → length taken ≤ n → Lists t w → Wants t n v
listed_by t v w [] n e le h = let same : Some v ≡ Some w = e in wants_listed t n v (subst (Lists t) (sym (some_same v w same)) h)
listed_by t v w (a ∷ taken) n e le h = let more : suc (length taken) ≤ n = le in wants_made t n v (omega (arith, more))

pub going_refused : (t : Taking) (places : List (Option Breakpoint)) (max : ℕ) (old now : Standing) (made : ℕ) → Going t places max old now made → Lists t now.world → Broken t places max old now
going_refused t places max old now made g h = record {
  begins = g.begins;
  deeper = g.deeper;
  program = g.program;
  mode = g.mode;
  makes =
      listed_by t old.world now.world g.taken (length (ran_from t places max old).steps) g.world
      (omega (arith, ap (λ (r : Ran). length r.steps) g.total, length-append g.taken (ran_along (comes t) old.trail.program places (max - made) now.trail.depth now.world).steps)) h;
}

-- ---- after a refusal

pub take_less : (n m : ℕ) (xs : List Step) → n ≤ m → take n (take m xs) ≡ take n xs
take_less zero m xs le = refl
take_less (suc n) zero xs le = absurd (omega (arith, le))
take_less (suc n) (suc m) [] le = refl
take_less (suc n) (suc m) (x ∷ xs) le = ap (λ ys. x ∷ ys) (take_less n m xs (omega (arith, le)))

pub back_begins : (t : Taking) (places : List (Option Breakpoint)) (max : ℕ) (old now : Standing) (steps : List Step) → Broken t places max old now → steps ≡ old.trail.steps → take old.trail.depth steps ≡ take old.trail.depth (done_steps now.trail)
back_begins t places max old now steps b same = ap (take old.trail.depth) same ∙ sym b.begins

pub back_run : (t : Taking) (places : List (Option Breakpoint)) (max : ℕ) (old now : Standing) (steps : List Step) → Broken t places max old now → IsReached old → steps ≡ old.trail.steps → IsRun now.trail.program now.trail.mode steps
back_run t places max old now steps b r same =
    subst (λ (xs : List Step). IsRun now.trail.program now.trail.mode xs) (sym same)
    (subst (λ (p : Program). IsRun p now.trail.mode old.trail.steps) (sym b.program) (subst (λ (m : Mode). IsRun old.trail.program m old.trail.steps) (sym b.mode) r.run))

abbrev pub trail_of : Program → Mode → List Step → ℕ → Trail
trail_of p m steps depth = record { program = p; mode = m; steps = steps; depth = depth }

same_trail : (old now : Standing) (steps : List Step) → now.trail.program ≡ old.trail.program → now.trail.mode ≡ old.trail.mode → steps ≡ old.trail.steps → trail_of now.trail.program now.trail.mode steps old.trail.depth ≡ old.trail
same_trail old now steps p m e =
    ap (λ (q : Program). trail_of q now.trail.mode steps old.trail.depth) p
    ∙ ap (λ (q : Mode). trail_of old.trail.program q steps old.trail.depth) m
    ∙ ap (λ (q : List Step). trail_of old.trail.program old.trail.mode q old.trail.depth) e

pub back_some : (t : Taking) (places : List (Option Breakpoint)) (max : ℕ) (old now new : Standing) (steps : List Step) → Broken t places max old now → steps ≡ old.trail.steps → new.trail ≡ with_steps (gone_back now.trail old.trail.depth) steps → new.trail ≡ old.trail
back_some t places max old now new steps b same put = put ∙ same_trail old now steps b.program b.mode same

pub back_none : (t : Taking) (places : List (Option Breakpoint)) (max : ℕ) (old now new : Standing) → Broken t places max old now → IsReached old → length old.trail.steps ≡ old.trail.depth → new.trail ≡ forgotten (gone_back now.trail old.trail.depth) → new.trail ≡ old.trail
back_none t places max old now new b r all forgets =
    forgets ∙ same_trail old now (take old.trail.depth now.trail.steps) b.program b.mode
    (sym (take_less old.trail.depth now.trail.depth now.trail.steps b.deeper) ∙ b.begins ∙ take_all old.trail.depth old.trail.steps (omega (arith, all)))

pub back_world : (old new : Standing) → IsReached old → IsReached new → new.trail ≡ old.trail → new.world ≡ old.world
back_world old new r q same = some_same new.world old.world (sym q.world ∙ ap world_of same ∙ r.world)

pub ruleset going = (going_begins, going_more, going_hit, going_halted, going_halted_last, going_spent, going_broken, going_refused, ahead_enabled, ahead_few)

-- ---- what was set aside

pub saved_begins : {V : Type 0} (t : Taking) (places : List (Option Breakpoint)) (max : ℕ) (f : V → List Step) (old now : Standing) (d : ℕ) (o : Option V) → d ≡ old.trail.depth → Broken t places max old now → IfSome o (λ v. f v ≡ old.trail.steps) → IfSome o (λ v. take d (f v) ≡ take d (done_steps now.trail))
saved_begins t places max f old now d None e b h = tt
saved_begins t places max f old now d (Some v) e b h =
    ap (λ (n : ℕ). take n (f v)) e ∙ back_begins t places max old now (f v) b h ∙ ap (λ (n : ℕ). take n (done_steps now.trail)) (sym e)

pub saved_run : {V : Type 0} (t : Taking) (places : List (Option Breakpoint)) (max : ℕ) (f : V → List Step) (old now : Standing) (o : Option V) → Broken t places max old now → IsReached old → IfSome o (λ v. f v ≡ old.trail.steps) → IfSome o (λ v. IsRun now.trail.program now.trail.mode (f v))
saved_run t places max f old now None b r h = tt
saved_run t places max f old now (Some v) b r h = back_run t places max old now (f v) b r h

pub put_trail : {V : Type 0} (t : Taking) (places : List (Option Breakpoint)) (max : ℕ) (f : V → List Step) (old now new : Standing) (d : ℕ) (o : Option V) → d ≡ old.trail.depth → Broken t places max old now → IsReached old → IfSome o (λ v. f v ≡ old.trail.steps) → IfNone o (length old.trail.steps ≡ old.trail.depth)
    → IfSome o (λ v. new.trail ≡ with_steps (gone_back now.trail d) (f v)) → IfNone o (new.trail ≡ forgotten (gone_back now.trail d)) → new.trail ≡ old.trail
put_trail t places max f old now new d None e b r some none put forgets = back_none t places max old now new b r none (forgets ∙ ap (λ (n : ℕ). forgotten (gone_back now.trail n)) e)
put_trail t places max f old now new d (Some v) e b r some none put forgets = back_some t places max old now new (f v) b some (put ∙ ap (λ (n : ℕ). with_steps (gone_back now.trail n) (f v)) e)
