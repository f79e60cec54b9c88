-- A debugger that goes back along its run, and what is told of the states that it comes to.
use Rattle.std.proofs.Common.{◌≡◌, ℕ, zero, suc, ◌+◌, ◌-◌, ◌<◌, ◌≤◌, true, inl, inr, Option, Some, None, List, [], ◌∷◌, ◌++◌, length, map, take, slice_get, refl, sym, ap, subst, ◌∙◌, arith}
use Rattle.std.specs.List.{Contains, list_all}
use Rattle.std.specs.Option.{option_map}
use Rattle.std.specs.Prelude.{IsSome}
use Rattle.std.proofs.lemmas.Bool.Decides.{leb_tells}
use Rattle.std.proofs.lemmas.List.{length-take, take_all}
use Rattle.mpd_model.specs.declared.step.Step.{Step}
use Rattle.mpd_model.specs.declared.decision.Decision.{Decision}
use Rattle.mpd_model.specs.declared.decision.Decision.TheVariants.{Forced, Choice, Leaf as Ends}
use Rattle.mpd_model.specs.steps.World.{World, start}
use Rattle.mpd_model.specs.steps.Next.{next, fold, enabled}
use Rattle.mpd_model.specs.runs.Decisions.{CanFollow}
use Rattle.mpd_model.specs.runs.Trail.{Trail, Standing, IsReached, done_steps, world_of, forgotten, gone_back}
use Rattle.mpd_meaning.specs.StepLaws.{HasCalls, EveryStepThatLeadsOnIsListed}
use Rattle.mpd_trail.proofs.KeptLemmas.{fold_on}
use Rattle.mpd_policy.specs.Wide.{wide_decision}
use Rattle.mpd_policy.specs.Walk.{Run, stepped, chosen, run_by, run_from, run_taken, run_followed, steps_by}
use Rattle.mpd_policy.specs.Walks.{Beyond}
use Rattle.mpd_policy.proofs.WayLemmas.{run_is}
use Rattle.mpd_policy.proofs.FewLemmas.{few_steps}
use Rattle.mpd_policy.proofs.WalkLemmas.{length-done_steps}
use Rattle.mpd_outcomes.specs.declared.report.Goal.TheVariants as goal_is
use Rattle.mpd_outcomes.specs.Outcomes.{leaves_from}
use Rattle.mpd_outcomes.specs.Goals.{states_along}
use Rattle.mpd_outcomes.specs.Front.{put, leaves_by, leaves_of}
use Rattle.mpd_outcomes.proofs.WalkLemmas.{leaves_forced, leaves_choice, tried_more}
use Rattle.mpd_blame.specs.declared.sight.Sight.{Sight}
use Rattle.mpd_blame.specs.declared.sight.Sight.TheVariants as sight_is
use Rattle.mpd_blame.specs.declared.back.Blame.{Blame}
use Rattle.mpd_blame.specs.declared.back.Blame.TheVariants as blame_is
use Rattle.mpd_blame.specs.Blame.{ends_badly, is_doomed, tells, DoomedFrom, FirstWell, IsBack, IsBlame, IsOnly, IsThere, NotKnown, Sees, Turned, states_from, states_on}
use Rattle.mpd_blame.proofs.ListLemmas.{all_put}
use Rattle.mpd_blame.proofs.SightLemmas.{known_less}

-- ---- a step that is all that can come next

pub only_doomed : (n : ℕ) (w v : World) (a : Step) (d : Decision) → wide_decision w ≡ d → IsOnly d a → next w a ≡ Some v → is_doomed n v ≡ true → is_doomed (suc n) w ≡ true
only_doomed n w v a (Forced b) d only leads doomed = ap (list_all ends_badly) (leaves_forced n w v a (d ∙ ap (λ c. Forced c) only) leads) ∙ doomed
only_doomed n w v a (Choice candidates) d only leads doomed =
    let is : leaves_from (suc n) w ≡ leaves_by n w 0 (a ∷ []) = leaves_choice n w candidates d ∙ ap (leaves_by n w 0) only in
    let one : leaves_by n w 0 (a ∷ []) ≡ map (put (0 ∷ [])) (leaves_of n (next w a)) = tried_more n w 0 (a ∷ []) a refl in
    ap (list_all ends_badly) (is ∙ one) ∙ all_put goal_is.Bad (0 ∷ []) (leaves_of n (next w a)) ∙ ap (λ (o : Option World). list_all ends_badly (leaves_of n o)) leads ∙ doomed
only_doomed n w v a (Ends o) d only leads doomed = absurd only

-- ---- one step back

some_is : (v w : World) → Some v ≡ Some w → v ≡ w
some_is v w e = cc

take_more : (n : ℕ) (xs : List Step) (a : Step) → slice_get xs n ≡ Some a → take (suc n) xs ≡ take n xs ++ a ∷ []
take_more n [] a e = absurd (cc)
take_more zero (x ∷ xs) a e = let is : x ≡ a = cc in ap (λ y. y ∷ []) is
take_more (suc n) (x ∷ xs) a e = ap (λ ys. x ∷ ys) (take_more n xs a e)

-- the world after some steps more by one is a step from that after these
pub leads_on : (n : ℕ) (first v w : World) (steps : List Step) (a : Step) → slice_get steps n ≡ Some a → fold first (take n steps) ≡ Some v → fold first (take (suc n) steps) ≡ Some w → next v a ≡ Some w
leads_on n first v w steps a here before after = sym (fold_on first v (take n steps) a before) ∙ ap (fold first) (sym (take_more n steps a here)) ∙ after

-- with one state more before those that are doomed
pub doomed_more : (limit : ℕ) (first : World) (steps : List Step) (n : ℕ) (w : World) → fold first (take n steps) ≡ Some w → is_doomed (limit - n) w ≡ true → DoomedFrom limit first steps (suc n) → DoomedFrom limit first steps n
doomed_more limit first steps n w leads doomed h = λ m v low high at.
    elim (leb_tells (suc n) m) [
      | inl t ↦ h m v t.1 high at
      | inr t ↦
          let same : m ≡ n = omega (arith, low, t.1) in
          let is : v ≡ w = some_is v w (sym at ∙ ap (λ k. fold first (take k steps)) same ∙ leads) in
          ap (λ k. is_doomed (limit - k) v) same ∙ ap (is_doomed (limit - n)) is ∙ doomed
    ]

-- ---- where it stands

take_lower : (m n : ℕ) (xs : List Step) → m ≤ n → take m (take n xs) ≡ take m xs
take_lower zero n xs h = refl
take_lower (suc m) zero xs h = absurd (omega (arith, h))
take_lower (suc m) (suc n) [] h = refl
take_lower (suc m) (suc n) (x ∷ xs) h = ap (λ ys. x ∷ ys) (take_lower m n xs (omega (arith, h)))

get_lower : (i n : ℕ) (xs : List Step) → i < n → slice_get (take n xs) i ≡ slice_get xs i
get_lower i zero xs h = absurd (omega (arith, h))
get_lower i (suc n) [] h = refl
get_lower zero (suc n) (x ∷ xs) h = refl
get_lower (suc i) (suc n) (x ∷ xs) h = get_lower i n xs (omega (arith, h))

abbrev pub start_of : Standing → World
start_of d = start d.trail.program d.trail.mode

pub back_same : (d : Standing) → IsReached d → length d.trail.steps ≡ d.trail.depth → IsBack d d
back_same d reached clean = record { within = omega arith; trail = λ i. record { program = d.trail.program; mode = d.trail.mode; steps = sym (take_all d.trail.depth d.trail.steps (omega (arith, clean))) i; depth = d.trail.depth }; reached = reached }

pub back_then : (d e f : Standing) → IsBack d e → f.trail.depth ≤ e.trail.depth → f.trail ≡ forgotten (gone_back e.trail f.trail.depth) → IsReached f → IsBack d f
back_then d e f h low is reached =
    record {
      within = let within = h.within in omega (arith, within, low);
      trail =
          is
          ∙ ap (λ (t : Trail). forgotten (gone_back t f.trail.depth)) h.trail
          ∙ (λ i. record { program = d.trail.program; mode = d.trail.mode; steps = take_lower f.trail.depth e.trail.depth d.trail.steps low i; depth = f.trail.depth });
      reached = reached;
    }

-- it keeps no undone step
pub back_clean : (d e : Standing) → IsReached d → IsBack d e → length e.trail.steps ≡ e.trail.depth
back_clean d e reached h =
    let long : length e.trail.steps ≡ length (take e.trail.depth d.trail.steps) = ap (λ (t : Trail). length t.steps) h.trail in
    omega (arith, long, length-take e.trail.depth d.trail.steps, h.within, reached.within)

-- one step more is taken back
pub back_step : (d e f : Standing) → IsBack d e → f.trail ≡ forgotten (gone_back e.trail (e.trail.depth - 1)) → IsReached f → IsBack d f
back_step d e f h is reached =
    let deep : f.trail.depth ≡ e.trail.depth - 1 = ap (λ (t : Trail). t.depth) is in
    back_then d e f h (omega (arith, deep)) (is ∙ ap (λ k. forgotten (gone_back e.trail k)) (sym deep)) reached

-- the step that was taken back leads on to where it stood
pub led_back : (d e : Standing) (a : Step) (n : ℕ) → IsReached d → IsReached e → 0 < d.trail.depth → slice_get d.trail.steps (d.trail.depth - 1) ≡ Some a → n ≡ d.trail.depth → e.trail ≡ forgotten (gone_back d.trail (n - 1)) → next e.world a ≡ Some d.world
led_back d e a n reached now some here at is =
    let k = d.trail.depth - 1 in
    let deep : suc k ≡ d.trail.depth = omega (arith, some) in
    let same : e.trail ≡ forgotten (gone_back d.trail k) = is ∙ ap (λ m. forgotten (gone_back d.trail (m - 1))) at in
    let before : fold (start_of d) (take k d.trail.steps) ≡ Some e.world = sym (ap world_of same ∙ ap (fold (start_of d)) (take_lower k k d.trail.steps (omega arith))) ∙ now.world in
    let after : fold (start_of d) (take (suc k) d.trail.steps) ≡ Some d.world = ap (λ m. fold (start_of d) (take m d.trail.steps)) deep ∙ reached.world in
    leads_on k (start_of d) e.world d.world d.trail.steps a here before after

-- where the steps lead that are left
pub back_leads : (d e : Standing) → IsBack d e → fold (start_of d) (take e.trail.depth d.trail.steps) ≡ Some e.world
back_leads d e h =
    sym (ap world_of h.trail ∙ ap (fold (start_of d)) (take_lower e.trail.depth e.trail.depth d.trail.steps (omega arith))) ∙ h.reached.world

-- ---- what is told of a step back

stepped_first : (b : Step) (o : Option Run) (r : Run) → option_map (stepped b) o ≡ Some r → slice_get r.steps 0 ≡ None → ⊥
stepped_first b None r is none = absurd (cc)
stepped_first b (Some x) r is none = let first : Some b ≡ slice_get r.steps 0 = ap (λ (q : Option Run). slice_get (steps_by q) 0) is in absurd (cc)

chosen_first : (i : ℕ) (b : Step) (o : Option Run) (r : Run) → option_map (chosen i b) o ≡ Some r → slice_get r.steps 0 ≡ None → ⊥
chosen_first i b None r is none = absurd (cc)
chosen_first i b (Some x) r is none = let first : Some b ≡ slice_get r.steps 0 = ap (λ (q : Option Run). slice_get (steps_by q) 0) is in absurd (cc)

taken_first : (run : World → Option Run) (w : World) (i : ℕ) (o : Option Step) (r : Run) → run_taken run w i o ≡ Some r → slice_get r.steps 0 ≡ None → ⊥
taken_first run w i None r is none = absurd (cc)
taken_first run w i (Some b) r is none = chosen_first i b (run_from run (next w b)) r is none

-- a run from a state that a step leads on from has a step
followed_first : (run : List ℕ → World → Option Run) (w v : World) (a : Step) (cs : List ℕ) (d : Decision) (r : Run) → CanFollow w d → HasCalls w → EveryStepThatLeadsOnIsListed → next w a ≡ Some v → run_followed run w cs d ≡ Some r
    → slice_get r.steps 0 ≡ None → ⊥
followed_first run w v a cs (Forced b) r follow calls law leads is none = stepped_first b (run_from (run cs) (next w b)) r is none
followed_first run w v a [] (Choice candidates) r follow calls law leads is none = absurd (cc)
followed_first run w v a (c ∷ cs) (Choice candidates) r follow calls law leads is none = taken_first (run cs) w c (slice_get candidates c) r is none
followed_first run w v a cs (Ends o) r follow calls law leads is none =
    let listed : Contains (enabled w) a = (law w calls a).1 (subst (λ (o : Option World). IsSome o) (sym leads) refl) in
    let there : Contains [] a = subst (λ (steps : List Step). Contains steps a) follow.0 listed in
    absurd (omega (arith, there.1))

pub has_first : (n : ℕ) (w v : World) (a : Step) → 0 < n → CanFollow w (wide_decision w) → HasCalls w → EveryStepThatLeadsOnIsListed → next w a ≡ Some v → FirstWell n w None → ⊥
has_first zero w v a some follow calls law leads h = absurd (omega (arith, some))
has_first (suc n) w v a some follow calls law leads h = followed_first (run_by wide_decision n) w v a h.leaf.choices (wide_decision w) h.run follow calls law leads (sym (run_is wide_decision n h.leaf.choices w (wide_decision w) refl) ∙ h.by) h.begins

-- where nothing is told, it is doomed
pub told_turned : (most limit : ℕ) (d e : Standing) (taken : Step) (sight : Sight) (o : Option Blame) → slice_get d.trail.steps e.trail.depth ≡ Some taken → Sees most (limit - e.trail.depth) e.world sight → (sight ≡ sight_is.Well None → ⊥)
    → o ≡ tells e.trail.depth taken sight → Turned most limit d o e
told_turned most limit d e taken (sight_is.Well None) o here sees not is = absurd (not refl)
told_turned most limit d e taken (sight_is.Well (Some b)) o here sees not is = subst (λ (x : Option Blame). Turned most limit d x e) (sym is) (refl, here, sees)
told_turned most limit d e taken sight_is.Doomed o here sees not is = subst (λ (x : Option Blame). Turned most limit d x e) (sym is) sees
told_turned most limit d e taken sight_is.Unknown o here sees not is = subst (λ (x : Option Blame). Turned most limit d x e) (sym is) (refl, sees)

pub turned_same : (most limit : ℕ) (d e f : Standing) (o : Option Blame) → f.trail ≡ e.trail → f.world ≡ e.world → Turned most limit d o e → Turned most limit d o f
turned_same most limit d e f o trail world h = subst (λ (s : Standing). Turned most limit d o s) (λ i. record { trail = sym trail i; world = sym world i }) h

-- what is told of one step back is told of the run
pub turned_blames : (all most limit : ℕ) (d e f : Standing) (b : Blame) → IsReached d → length d.trail.steps ≡ d.trail.depth → IsBack d e → IsBack d f → e.trail.depth ≡ suc f.trail.depth → DoomedFrom limit (start_of d) d.trail.steps e.trail.depth
    → all ≤ most + states_on limit (start_of d) d.trail.steps e.trail.depth (suc (length d.trail.steps - e.trail.depth)) → Turned most limit e (Some b) f → IsBlame all limit (start_of d) d.trail.steps b
turned_blames all most limit d e f (blame_is.At x) reached clean back now deep doomed spent h =
    let low : f.trail.depth < e.trail.depth = omega (arith, deep) in
    let here : slice_get d.trail.steps f.trail.depth ≡ Some x.taken = sym (ap (λ (t : Trail). slice_get t.steps f.trail.depth) back.trail ∙ get_lower f.trail.depth e.trail.depth d.trail.steps low) ∙ h.1 in
    record {
      taken = ap (slice_get d.trail.steps) h.0 ∙ here;
      world = f.world;
      leads = ap (λ k. fold (start_of d) (take k d.trail.steps)) h.0 ∙ back_leads d f now;
      other = subst (λ k. FirstWell (limit - k) f.world (Some x.other)) (sym h.0) h.2;
      doomed = subst (λ k. DoomedFrom limit (start_of d) d.trail.steps k) (deep ∙ ap (λ k. suc k) (sym h.0)) doomed;
    }
turned_blames all most limit d e f (blame_is.OrEarlier n) reached clean back now deep doomed spent h =
    let within = back.within in
    let is = h.0 in
    let next : suc n ≡ e.trail.depth = omega (arith, deep, is) in
    let left : length d.trail.steps - n ≡ suc (length d.trail.steps - e.trail.depth) = omega (arith, clean, within, deep, is) in
    let along : states_on limit (start_of d) d.trail.steps (suc n) (length d.trail.steps - n) ≡ states_on limit (start_of d) d.trail.steps e.trail.depth (suc (length d.trail.steps - e.trail.depth)) =
    λ j. states_on limit (start_of d) d.trail.steps (next j) (left j)
    in
    record {
      before = omega (arith, clean, within, deep, is);
      world = f.world;
      leads = ap (λ k. fold (start_of d) (take k d.trail.steps)) h.0 ∙ back_leads d f now;
      unknown = subst (λ k. NotKnown (all - states_on limit (start_of d) d.trail.steps (suc n) (length d.trail.steps - n)) (limit - k) f.world) (sym is)
          (known_less most (all - states_on limit (start_of d) d.trail.steps (suc n) (length d.trail.steps - n)) (limit - f.trail.depth) f.world (omega (arith, spent, along)) h.1);
      doomed = subst (λ k. DoomedFrom limit (start_of d) d.trail.steps k) (deep ∙ ap (λ k. suc k) (sym h.0)) doomed;
    }
turned_blames all most limit d e f blame_is.FromStart reached clean back now deep doomed spent h = absurd h
turned_blames all most limit d e f blame_is.Open reached clean back now deep doomed spent h = absurd h
turned_blames all most limit d e f blame_is.Unknown reached clean back now deep doomed spent h = absurd h

pub turned_there : (most limit : ℕ) (d e f : Standing) (b : Blame) → IsBack d f → Turned most limit e (Some b) f → IsThere (start_of d) d.trail.steps b f.world
turned_there most limit d e f (blame_is.At x) now h = ap (λ k. fold (start_of d) (take k d.trail.steps)) h.0 ∙ back_leads d f now
turned_there most limit d e f (blame_is.OrEarlier n) now h = tt
turned_there most limit d e f blame_is.FromStart now h = tt
turned_there most limit d e f blame_is.Open now h = tt
turned_there most limit d e f blame_is.Unknown now h = tt

-- ---- how many states may still be come to

-- at the end of a run
pub spent_end : (limit visited all : ℕ) (d : Standing) → IsReached d → visited ≤ states_along (leaves_from (limit - d.trail.depth) d.world)
    → all ≤ (all - visited) + states_on limit (start_of d) d.trail.steps d.trail.depth (suc (length d.trail.steps - d.trail.depth))
spent_end limit visited all d reached few = let here = ap (states_from (limit - d.trail.depth)) reached.world in omega (arith, few, here)

-- one step before
pub spent_more : (limit all most left : ℕ) (d e f : Standing) → IsBack d f → e.trail.depth ≡ suc f.trail.depth → e.trail.depth ≤ length d.trail.steps
    → all ≤ most + states_on limit (start_of d) d.trail.steps e.trail.depth (suc (length d.trail.steps - e.trail.depth)) → most ≤ left + states_along (leaves_from (limit - f.trail.depth) f.world)
    → all ≤ left + states_on limit (start_of d) d.trail.steps f.trail.depth (suc (length d.trail.steps - f.trail.depth))
spent_more limit all most left d e f back deep within spent few =
    let here = ap (states_from (limit - f.trail.depth)) (back_leads d f back) in
    let longer : length d.trail.steps - f.trail.depth ≡ suc (length d.trail.steps - e.trail.depth) = omega (arith, deep, within) in
    let along : states_on limit (start_of d) d.trail.steps (suc f.trail.depth) (length d.trail.steps - f.trail.depth) ≡ states_on limit (start_of d) d.trail.steps e.trail.depth (suc (length d.trail.steps - e.trail.depth)) =
    λ j. states_on limit (start_of d) d.trail.steps (sym deep j) (longer j)
    in
    omega (arith, spent, few, here, along)

-- ---- the end of a run, and its start

pub doomed_end : (limit : ℕ) (d : Standing) → IsReached d → length d.trail.steps ≡ d.trail.depth → is_doomed (limit - d.trail.depth) d.world ≡ true → DoomedFrom limit (start_of d) d.trail.steps d.trail.depth
doomed_end limit d reached clean doomed = λ m v low high at.
    let same : m ≡ d.trail.depth = omega (arith, low, high, clean) in
    let is : v ≡ d.world = some_is v d.world (sym at ∙ ap (λ k. fold (start_of d) (take k d.trail.steps)) same ∙ reached.world) in
    ap (λ k. is_doomed (limit - k) v) same ∙ ap (is_doomed (limit - d.trail.depth)) is ∙ doomed

pub end_leads : (d : Standing) → IsReached d → length d.trail.steps ≡ d.trail.depth → fold (start_of d) d.trail.steps ≡ Some d.world
end_leads d reached clean = ap (fold (start_of d)) (sym (take_all d.trail.depth d.trail.steps (omega (arith, clean)))) ∙ reached.world

-- ---- from the start of a script to the end of a run, and back

at_start_none : (d : Standing) → d.trail.depth ≡ 0 → done_steps d.trail ≡ []
at_start_none d start = ap (λ n. take n d.trail.steps) start

-- a debugger on a run from the start
pub begun_beyond : (d e f : Standing) → d.trail.depth ≡ 0 → e.trail.program ≡ d.trail.program → e.trail.mode ≡ d.trail.mode → IsBack e f → Beyond d f
begun_beyond d e f start program mode back =
    record {
      program = ap (λ (t : Trail). t.program) back.trail ∙ program;
      mode = ap (λ (t : Trail). t.mode) back.trail ∙ mode;
      reached = back.reached;
      path = done_steps f.trail;
      done_steps_are = ap (λ (l : List Step). l ++ done_steps f.trail) (sym (at_start_none d start));
    }

-- it has taken no more steps than the fuel
pub followed_few : (fuel : ℕ) (cs : List ℕ) (d e : Standing) → d.trail.depth ≡ 0 → IsReached e → IsSome (run_by wide_decision fuel cs d.world) → done_steps e.trail ≡ done_steps d.trail ++ steps_by (run_by wide_decision fuel cs d.world) → e.trail.depth ≤ fuel
followed_few fuel cs d e start reached some are = one (run_by wide_decision fuel cs d.world) refl some
  where
    one : (r : Option Run) → run_by wide_decision fuel cs d.world ≡ r → IsSome r → e.trail.depth ≤ fuel
    one None is h = absurd (cc)
    one (Some r) is h =
        let few : length r.steps ≤ fuel = few_steps wide_decision fuel cs d.world r is in
        let long : length (done_steps e.trail) ≡ length r.steps = ap (λ (l : List Step). length l) (are ∙ (λ i. at_start_none d start i ++ steps_by (is i))) in
        let depth = length-done_steps e reached in
        omega (arith, few, long, depth)
