-- Where a search stands after each of its moves.
use Rattle.std.proofs.Common.{◌≡◌, ℕ, zero, suc, ◌<◌, ◌≤◌, ◌+◌, ◌-◌, Bool, true, List, [], ◌∷◌, ◌++◌, length, take, map, reverse, slice_get, Option, Some, None, IsSome, refl, sym, ap, subst, ◌∙◌, arith, append_assoc, append-nil}
use Rattle.std.proofs.lemmas.List.{length-append, length-take, take-append-le}
use Rattle.std.proofs.lemmas.Option.{slice_get_within, get_or_from_slice_get}
use Rattle.mpd_model.specs.declared.step.Step.{Step}
use Rattle.mpd_model.specs.declared.decision.Decision.{Decision}
use Rattle.mpd_model.specs.declared.decision.Decision.TheVariants.{Forced, Choice, Leaf}
use Rattle.mpd_model.specs.steps.World.{World, start}
use Rattle.mpd_model.specs.steps.Next.{next, fold}
use Rattle.mpd_model.specs.runs.Decisions.{CanFollow}
use Rattle.mpd_model.specs.runs.Trail.{Trail, Standing, IsReached, done_steps}
use Rattle.mpd_trail.specs.Run.{first_of}
use Rattle.mpd_policy.specs.declared.ending.Ending.{Ending}
use Rattle.mpd_policy.specs.declared.ending.Ending.TheVariants as ending_is
use Rattle.mpd_policy.specs.declared.along.WalkEnd.{WalkEnd}
use Rattle.mpd_policy.specs.declared.along.WalkEnd.TheVariants.{Ended, Fuel, Untaken}
use Rattle.mpd_policy.specs.Walk.{here as run_here, prefixed, stopped, ending_by}
use Rattle.mpd_policy.specs.Walked.{Walked}
use Rattle.mpd_policy.specs.Walked.Walked.{here, forced, chosen}
use Rattle.mpd_policy.specs.Walks.{Beyond, Walks, ending_after}
use Rattle.mpd_policy.proofs.WalkLemmas.{length-done_steps}
use Rattle.mpd_policy.proofs.ChoiceLemmas.{within_limit}
use Rattle.mpd_explore.specs.declared.search.Open.{Open}
use Rattle.mpd_explore.specs.declared.search.Frontier.{Frontier}
use Rattle.mpd_explore.specs.Asleep.{Skips}
use Rattle.mpd_explore.specs.Sleeping.{put_off}
use Rattle.mpd_explore.specs.Search.{Search, picked, runs_from, later, to_come, to_choose, states_to_come, states_to_choose, AllEnabled, EnabledAt, Stands, At, after, states_left, Opens, OpensNone, Tried, Stopped, Advanced, Safe, takes_awake, leaves_asleep, passes_on}
use Rattle.mpd_explore.proofs.ListLemmas.{reverse_pushed}
use Rattle.mpd_explore.proofs.MoveLemmas.{runs_empty, stands_pushed, fold_pushed, forced_moved, forced_fewer, choice_moved, choice_fewer, passed_moved, none_moved, Taken, candidate_taken, back_moved, back_states, leaf_here, some_left}

-- ---- of a debugger

-- a step was taken
pub record Went (d : Standing) (a : Step) (e : Standing) : Type 0 where
  pub done_steps_are : done_steps e.trail ≡ done_steps d.trail ++ a ∷ []
  pub world : next d.world a ≡ Some e.world
  pub depth : e.trail.depth ≡ d.trail.depth + 1
  pub program : e.trail.program ≡ d.trail.program
  pub mode : e.trail.mode ≡ d.trail.mode
  pub reached : IsReached e

-- steps were taken back
pub record Came (d : Standing) (n : ℕ) (e : Standing) : Type 0 where
  pub done_steps_are : done_steps e.trail ≡ take n (done_steps d.trail)
  pub depth : e.trail.depth ≡ n
  pub program : e.trail.program ≡ d.trail.program
  pub mode : e.trail.mode ≡ d.trail.mode
  pub reached : IsReached e

first_same : (t u : Trail) → u.program ≡ t.program → u.mode ≡ t.mode → first_of u ≡ first_of t
first_same t u program mode = λ i. start (program i) (mode i)

at_length : (s : Search) (fs : List Open) (d : Standing) → At s fs d → length (done_steps d.trail) ≡ d.trail.depth
at_length s fs d h = length-done_steps d h.reached

at_world : (s : Search) (fs : List Open) (d : Standing) → At s fs d → fold s.first (done_steps d.trail) ≡ Some d.world
at_world s fs d h = ap (λ w. fold w (done_steps d.trail)) (sym h.first_is) ∙ h.reached.world

-- ---- a way down

-- the runs to come are the same
record Moved (s : Search) (fs : List Open) (asleep p : List Step) (w : World) (gs : List Open) (there q : List Step) (v : World) : Type 0 where
  pub stands : Stands s gs q
  pub leads : fold s.first q ≡ Some v
  pub same : to_come s fs asleep p w ≡ to_come s gs there q v
  pub fewer : states_to_come s gs q v ≤ states_to_come s fs p w

moved_then : (s : Search) (fs gs hs : List Open) (asleep there far p q r : List Step) (w v u : World) → Moved s fs asleep p w gs there q v → Moved s gs there q v hs far r u → Moved s fs asleep p w hs far r u
moved_then s fs gs hs asleep there far p q r w v u x y =
    let one = x.fewer in
    let two = y.fewer in
    record { stands = y.stands; leads = y.leads; same = x.same ∙ y.same; fewer = omega (arith, one, two) }

moved_forced : (s : Search) (fs : List Open) (asleep p : List Step) (w v : World) (a : Step) → Stands s fs p → fold s.first p ≡ Some w → length p < s.limit → s.decides w ≡ Forced a → next w a ≡ Some v → Moved s fs asleep p w fs (s.keeps w a asleep) (p ++ a ∷ []) v
moved_forced s fs asleep p w v a stands leads room is step =
    let less = forced_fewer s fs p w v a stands room is step in
    record { stands = stands_pushed s fs p a stands; leads = fold_pushed s.first w v p a leads step; same = forced_moved s fs asleep p w v a stands room is step; fewer = omega (arith, less) }

moved_chosen : (s : Search) (fs : List Open) (asleep p : List Step) (w v : World) (n i : ℕ) (a : Step) (candidates : List Step) → s.decides w ≡ Choice candidates → length p < s.limit → Taken s (record { depth = n; candidates = candidates; index = 0; asleep = asleep }) fs p w i a v
    → Moved s fs asleep p w (record { depth = n; candidates = candidates; index = i; asleep = asleep } ∷ fs) (s.keeps w a (put_off s.sleeps i candidates asleep)) (p ++ a ∷ []) v
moved_chosen s fs asleep p w v n i a candidates is room t =
    let less = choice_fewer s fs p w candidates room is in
    let few = t.fewer in
    record { stands = t.stands; leads = t.leads; same = choice_moved s fs asleep p w candidates room is ∙ t.same; fewer = omega (arith, less, few) }

stopped_one : (d : Decision) → stopped d ≡ run_here (ending_by d) ∷ []
stopped_one (Forced a) = refl
stopped_one (Choice candidates) = refl
stopped_one (Leaf o) = refl

module _ (s : Search) {C N : Type 0} (sleeps : C → Bool) (frontier : C → Frontier) (name : C → N) where
  abbrev opened : C → List Open
  opened c = reverse (frontier c).stack.items

  abbrev Takes : C → ℕ → World → List Step → ℕ → C → Type 0
  Takes = takes_awake s.same s.keeps sleeps frontier name

  abbrev Leaves : C → ℕ → World → List Step → C → Type 0
  Leaves = leaves_asleep s.same sleeps frontier name

  abbrev Passes : C → ℕ → World → Step → C → Type 0
  Passes = passes_on s.keeps sleeps frontier name

  -- where a way leads, what it is lent stays the same place
  record Leads (c : C) (p : List Step) (w : World) (e : C) (q : List Step) (v : World) : Type 0 where
    pub moved : Moved s (opened c) (frontier c).asleep p w (opened e) (frontier e).asleep q v
    pub sleeps_are : sleeps e ≡ s.sleeps
    pub named : name e ≡ name c

  leads_none : (c : C) (p : List Step) (w : World) → sleeps c ≡ s.sleeps → Stands s (opened c) p → fold s.first p ≡ Some w → Leads c p w c (p ++ []) w
  leads_none c p w on stands leads =
      subst (λ (q : List Step). Leads c p w c q w) (sym (append-nil p)) (record { moved = record { stands = stands; leads = leads; same = refl; fewer = omega arith }; sleeps_are = on; named = refl })

  leads_then : (c d e : C) (p q r t : List Step) (w u v : World) → Leads c p w d q u → r ≡ t → Leads d q u e r v → Leads c p w e t v
  leads_then c d e p q r t w u v x is y =
      subst (λ (z : List Step). Leads c p w e z v) is
      (record {
        moved = moved_then s (opened c) (opened d) (opened e) (frontier c).asleep (frontier d).asleep (frontier e).asleep p q r w u v x.moved y.moved;
        sleeps_are = y.sleeps_are;
        named = y.named ∙ x.named;
      })

  leads_forced : (c d : C) (p : List Step) (w u : World) (a : Step) (n : ℕ) → sleeps c ≡ s.sleeps → Stands s (opened c) p → fold s.first p ≡ Some w → length p < s.limit → s.decides w ≡ Forced a → Passes c n w a d → next w a ≡ Some u → Leads c p w d (p ++ a ∷ []) u
  leads_forced c d p w u a n on stands leads room is passed step =
      let same : opened c ≡ opened d = ap reverse (sym passed.0) in
      let base = moved_forced s (opened c) (frontier c).asleep p w u a stands leads room is step in
      record {
        moved = subst (λ (fs : List Open). Moved s (opened c) (frontier c).asleep p w fs (frontier d).asleep (p ++ a ∷ []) u) same
            (subst (λ (z : List Step). Moved s (opened c) (frontier c).asleep p w (opened c) z (p ++ a ∷ []) u) (sym passed.1) base);
        sleeps_are = passed.2 ∙ on;
        named = passed.3;
      }

  leads_chosen : (c d : C) (p : List Step) (w u : World) (a : Step) (n i : ℕ) (candidates : List Step) → CanFollow w (Choice candidates) → sleeps c ≡ s.sleeps → length p ≡ n → Stands s (opened c) p → fold s.first p ≡ Some w → length p < s.limit → s.decides w ≡ Choice candidates
      → slice_get candidates i ≡ Some a → Takes c n w candidates i d → next w a ≡ Some u → Leads c p w d (p ++ a ∷ []) u
  leads_chosen c d p w u a n i candidates follows on long stands leads room is read taken step =
      let choice : Open = record { depth = n; candidates = candidates; index = 0; asleep = (frontier c).asleep } in
      let f : Open = record { depth = n; candidates = candidates; index = i; asleep = (frontier c).asleep } in
      let opens : Opens s.same s.keeps s.sleeps w choice (frontier c) i (frontier d) = subst (λ (b : Bool). Opens s.same s.keeps b w choice (frontier c) i (frontier d)) on taken.0 in
      let t = candidate_taken s choice (opened c) p w u i a stands leads (sym long) room follows.1 opens.skips read step in
      let base = moved_chosen s (opened c) (frontier c).asleep p w u n i a candidates is room t in
      let same : f ∷ opened c ≡ opened d = sym (reverse_pushed (frontier c).stack.items (frontier d).stack.items f opens.stack) in
      record {
        moved = subst (λ (fs : List Open). Moved s (opened c) (frontier c).asleep p w fs (frontier d).asleep (p ++ a ∷ []) u) same
            (subst (λ (z : List Step). Moved s (opened c) (frontier c).asleep p w (f ∷ opened c) z (p ++ a ∷ []) u) (sym (opens.asleep a read)) base);
        sleeps_are = taken.1 ∙ on;
        named = taken.2;
      }

  along : ((w : World) → CanFollow w (s.decides w)) → (c e : C) (n : ℕ) (w v : World) (cs : List ℕ) (path p : List Step) → sleeps c ≡ s.sleeps → length p ≡ n → n + length path ≤ s.limit → fold s.first p ≡ Some w → Stands s (opened c) p
      → Walked s.decides Takes Passes c n w cs path v e → Leads c p w e (p ++ path) v
  along law c e n w v cs path p on long within leads stands (here _ _ _) = leads_none c p w on stands leads
  along law c e n w v cs path p on long within leads stands (forced _ d _ _ _ u _ a _ rest is passed step h) =
      let first = leads_forced c d p w u a n on stands leads (omega (arith, within, long)) is passed step in
      leads_then c d e p (p ++ a ∷ []) ((p ++ a ∷ []) ++ rest) (p ++ a ∷ rest) w u v first (append_assoc p (a ∷ []) rest)
      (along law d e (suc n) u v cs rest (p ++ a ∷ []) first.sleeps_are (omega (arith, long, length-append p (a ∷ []))) (omega (arith, within)) first.moved.leads first.moved.stands h)
  along law c e n w v cs path p on long within leads stands (chosen _ d _ _ i _ u _ a candidates bs rest is read taken step h) =
      let follows : CanFollow w (Choice candidates) = subst (CanFollow w) is (law w) in
      let first = leads_chosen c d p w u a n i candidates follows on long stands leads (omega (arith, within, long)) is read taken step in
      leads_then c d e p (p ++ a ∷ []) ((p ++ a ∷ []) ++ rest) (p ++ a ∷ rest) w u v first (append_assoc p (a ∷ []) rest)
      (along law d e (suc n) u v bs rest (p ++ a ∷ []) first.sleeps_are (omega (arith, long, length-append p (a ∷ []))) (omega (arith, within)) first.moved.leads first.moved.stands h)

  -- ---- and where it stops

  abbrev Walking : Standing → C → WalkEnd → Standing → C → Type 0
  Walking d c stop e f = Walks s.decides Takes Leaves Passes s.limit d c stop e f

  walk_leads : ((w : World) → CanFollow w (s.decides w)) → (d e : Standing) (c f : C) (stop : WalkEnd) → At s (opened c) d → sleeps c ≡ s.sleeps → (h : Walking d c stop e f) → Leads c (done_steps d.trail) d.world h.middle (done_steps e.trail) e.world
  walk_leads law d e c f stop at on h =
      let deep = h.gone.depth in
      let most = within_limit s.decides Takes Leaves Passes s.limit d e c f stop h in
      subst (λ (q : List Step). Leads c (done_steps d.trail) d.world h.middle q e.world) (sym h.gone.done_steps_are)
      (along law c h.middle d.trail.depth d.world e.world h.gone.choices h.gone.path (done_steps d.trail) on (at_length s (opened c) d at) (omega (arith, deep, most)) (at_world s (opened c) d at) at.stands h.gone.walked)

  stop_at : (d e : Standing) (c m : C) → At s (opened c) d → Beyond d e → e.trail.depth ≤ s.limit → Leads c (done_steps d.trail) d.world m (done_steps e.trail) e.world → At s (opened m) e
  stop_at d e c m at beyond within l =
      record { first_is = first_same d.trail e.trail beyond.program beyond.mode ∙ at.first_is; reached = beyond.reached; within = within; stands = l.moved.stands }

  run_ended : (d e : Standing) (c m : C) (end : Ending) → At s (opened m) e → Leads c (done_steps d.trail) d.world m (done_steps e.trail) e.world → runs_from s (s.limit - length (done_steps e.trail)) (frontier m).asleep e.world ≡ run_here end ∷ []
      → Stopped s (opened c) (frontier c).asleep d (Some end) (opened m) e
  run_ended d e c m end at l is =
      let less = some_left s (opened m) (done_steps e.trail) e.world in
      let few = l.moved.fewer in
      (at, l.moved.same ∙ ap (λ rs. map (prefixed (picked (opened m)) (done_steps e.trail)) rs ++ later s (opened m) (done_steps e.trail)) is, omega (arith, less, few))

  all_asleep : (d e : Standing) (c m : C) (candidates : List Step) (n : ℕ) → At s (opened m) e → Leads c (done_steps d.trail) d.world m (done_steps e.trail) e.world → e.trail.depth < s.limit → s.decides e.world ≡ Choice candidates
      → OpensNone s.same s.sleeps (record { depth = n; candidates = candidates; index = 0; asleep = (frontier m).asleep }) (frontier m) (frontier m) → Stopped s (opened c) (frontier c).asleep d None (opened m) e
  all_asleep d e c m candidates n at l room is none =
      let less = some_left s (opened m) (done_steps e.trail) e.world in
      let few = l.moved.fewer in
      let short : length (done_steps e.trail) < s.limit = (let long = at_length s (opened m) e at in omega (arith, long, room)) in (
        at,
        l.moved.same ∙ choice_moved s (opened m) (frontier m).asleep (done_steps e.trail) e.world candidates short is
            ∙ passed_moved s (opened m) (done_steps e.trail) e.world (frontier m).asleep candidates 0 (length candidates) none.skips
            ∙ none_moved s (opened m) (done_steps e.trail) e.world (frontier m).asleep candidates (length candidates) (omega arith),
        omega (arith, less, few),
      )

  stop_by : ((w : World) → CanFollow w (s.decides w)) → (d e : Standing) (c f : C) (stop : WalkEnd) → At s (opened c) d → sleeps c ≡ s.sleeps → Beyond d e → Walking d c stop e f → Stopped s (opened c) (frontier c).asleep d (ending_after s.decides stop e.world) (opened f) e
  stop_by law d e c f (Ended o) at on beyond h =
      let l = walk_leads law d e c f (Ended o) at on h in
      let room = h.stops.2 in
      let here = stop_at d e c h.middle at beyond (omega (arith, room)) l in
      let long = at_length s (opened h.middle) e here in
      subst (λ (x : C). Stopped s (opened c) (frontier c).asleep d (Some (ending_is.Ended o)) (opened x) e) (sym h.stops.0)
      (run_ended d e c h.middle (ending_is.Ended o) here l (leaf_here s (frontier h.middle).asleep (done_steps e.trail) e.world o (omega (arith, long, room)) h.stops.1))
  stop_by law d e c f Fuel at on beyond h =
      let l = walk_leads law d e c f Fuel at on h in
      let spent = h.stops.1 in
      let here = stop_at d e c h.middle at beyond (omega (arith, spent)) l in
      let long = at_length s (opened h.middle) e here in
      let none : s.limit - length (done_steps e.trail) ≡ zero = omega (arith, long, spent) in
      subst (λ (x : C). Stopped s (opened c) (frontier c).asleep d (Some (ending_by (s.decides e.world))) (opened x) e) (sym h.stops.0)
      (run_ended d e c h.middle (ending_by (s.decides e.world)) here l (ap (λ n. runs_from s n (frontier h.middle).asleep e.world) none ∙ runs_empty s (frontier h.middle).asleep e.world ∙ stopped_one (s.decides e.world)))
  stop_by law d e c f Untaken at on beyond h =
      let l = walk_leads law d e c f Untaken at on h in
      let room = h.stops.1 in
      let u = h.stops.0 in
      let here = stop_at d e c h.middle at beyond (omega (arith, room)) l in
      let left = u.left in
      let asleep : OpensNone s.same s.sleeps (record { depth = e.trail.depth; candidates = u.candidates; index = 0; asleep = (frontier h.middle).asleep }) (frontier h.middle) (frontier h.middle) =
      record { skips = subst (λ (b : Bool). Skips s.same b (frontier h.middle).asleep u.candidates 0 (length u.candidates)) l.sleeps_are left.0.skips; stack = refl } in
      subst (λ (fs : List Open). Stopped s (opened c) (frontier c).asleep d None fs e) (ap reverse (sym left.0.stack))
      (all_asleep d e c h.middle u.candidates e.trail.depth here l room u.choice asleep)

  -- the same, with how it ends as the code tells it
  pub stops : ((w : World) → CanFollow w (s.decides w)) → (d e : Standing) (c f : C) (stop : WalkEnd) (o : Option Ending) → At s (opened c) d → sleeps c ≡ s.sleeps → Beyond d e → Walking d c stop e f → o ≡ ending_after s.decides stop e.world
      → Stopped s (opened c) (frontier c).asleep d o (opened f) e
  stops law d e c f stop o at on beyond h is = subst (λ (x : Option Ending). Stopped s (opened c) (frontier c).asleep d x (opened f) e) (sym is) (stop_by law d e c f stop at on beyond h)

  named_along : (c e : C) (n : ℕ) (w v : World) (cs : List ℕ) (path : List Step) → Walked s.decides Takes Passes c n w cs path v e → name e ≡ name c
  named_along c e n w v cs path (here _ _ _) = refl
  named_along c e n w v cs path (forced _ d _ _ _ u _ a _ rest is passed step h) = named_along d e (suc n) u v cs rest h ∙ passed.3
  named_along c e n w v cs path (chosen _ d _ _ i _ u _ a candidates bs rest is read taken step h) = named_along d e (suc n) u v bs rest h ∙ taken.2

  -- what it is lent stays the same place
  pub same_place : (limit : ℕ) (d e : Standing) (c f : C) (stop : WalkEnd) → Walks s.decides Takes Leaves Passes limit d c stop e f → name f ≡ name c
  same_place limit d e c f (Ended o) h = ap name h.stops.0 ∙ named_along c h.middle d.trail.depth d.world e.world h.gone.choices h.gone.path h.gone.walked
  same_place limit d e c f Fuel h = ap name h.stops.0 ∙ named_along c h.middle d.trail.depth d.world e.world h.gone.choices h.gone.path h.gone.walked
  same_place limit d e c f Untaken h = h.stops.0.left.2 ∙ named_along c h.middle d.trail.depth d.world e.world h.gone.choices h.gone.path h.gone.walked

-- ---- back to a choice

pub at_popped : (s : Search) (f : Open) (fs : List Open) (d e : Standing) → At s (f ∷ fs) d → Came d f.depth e → At s fs e
at_popped s f fs d e at came =
    record { first_is = first_same d.trail e.trail came.program came.mode ∙ at.first_is; reached = came.reached; within = omega (arith, came.depth, at.stands.1); stands = rw came.done_steps_are at.stands.4 }

enabled_by : (o : Option World) (w : World) (candidates : List Step) → o ≡ Some w → EnabledAt o candidates → AllEnabled w candidates
enabled_by o w candidates e h = rw e at h

popped_leads : (s : Search) (f : Open) (fs : List Open) (d e : Standing) → At s (f ∷ fs) d → Came d f.depth e → fold s.first (take f.depth (done_steps d.trail)) ≡ Some e.world
popped_leads s f fs d e at came = ap (fold s.first) (sym came.done_steps_are) ∙ at_world s fs e (at_popped s f fs d e at came)

popped_enabled : (s : Search) (f : Open) (fs : List Open) (d e : Standing) → At s (f ∷ fs) d → Came d f.depth e → AllEnabled e.world f.candidates
popped_enabled s f fs d e at came = enabled_by (fold s.first (take f.depth (done_steps d.trail))) e.world f.candidates (popped_leads s f fs d e at came) at.stands.3

popped_after : (s : Search) (f : Open) (fs : List Open) (d e : Standing) → At s (f ∷ fs) d → Came d f.depth e → after s (f ∷ fs) d ≡ to_choose s fs (done_steps e.trail) e.world f.asleep f.candidates (suc f.index)
popped_after s f fs d e at came =
    back_moved s f fs (done_steps d.trail) e.world (popped_leads s f fs d e at came) at.stands.0 ∙ ap (λ p. to_choose s fs p e.world f.asleep f.candidates (suc f.index)) (sym came.done_steps_are)

popped_states : (s : Search) (f : Open) (fs : List Open) (d e : Standing) → At s (f ∷ fs) d → Came d f.depth e → states_left s (f ∷ fs) d ≡ states_to_choose s fs (done_steps e.trail) e.world f.candidates (suc f.index)
popped_states s f fs d e at came =
    back_states s f fs (done_steps d.trail) e.world (popped_leads s f fs d e at came) at.stands.0 ∙ ap (λ p. states_to_choose s fs p e.world f.candidates (suc f.index)) (sym came.done_steps_are)

-- what was found at a choice
pub tried_some : (s : Search) (w : World) (choice : Open) (o : Option Step) (a : Step) (f g : Frontier) → o ≡ Some a → Tried s.same s.keeps s.sleeps w choice f o g → (i : ℕ) × (slice_get choice.candidates i ≡ Some a) × Opens s.same s.keeps s.sleeps w choice f i g
tried_some s w choice o a f g is h = let t : Tried s.same s.keeps s.sleeps w choice f (Some a) g = rw is at h in t

pub tried_none : (s : Search) (w : World) (choice : Open) (o : Option Step) (f g : Frontier) → ((a : Step) → o ≡ Some a → ⊥) → Tried s.same s.keeps s.sleeps w choice f o g → OpensNone s.same s.sleeps choice f g
tried_none s w choice None f g never h = h
tried_none s w choice (Some a) f g never h = absurd (never a refl)

-- a candidate that was found can be taken
pub next_enabled : (s : Search) (f : Open) (fs : List Open) (d e : Standing) (a : Step) (i : ℕ) → At s (f ∷ fs) d → Came d f.depth e → slice_get f.candidates i ≡ Some a → IsSome (next e.world a)
next_enabled s f fs d e a i at came read =
    let all = popped_enabled s f fs d e at came in
    subst (λ (b : Step). IsSome (next e.world b)) (get_or_from_slice_get f.candidates i a a read) (all i a (slice_get_within f.candidates i a read))

-- the next candidate that is awake is taken, seen from further back
pub retaken : (s : Search) (f : Open) (before fs : List Open) (g : Frontier) (old : Frontier) (d0 d e n : Standing) (a : Step) (from i : ℕ) → At s (f ∷ fs) d → Came d f.depth e → from ≡ suc f.index → fs ≡ reverse old.stack.items → slice_get f.candidates i ≡ Some a
    → Opens s.same s.keeps s.sleeps e.world (record { depth = f.depth; candidates = f.candidates; index = from; asleep = f.asleep }) old i g → Went e a n → after s before d0 ≡ after s (f ∷ fs) d → states_left s (f ∷ fs) d ≤ states_left s before d0
    → Advanced s before d0 true (reverse g.stack.items) g.asleep n
retaken s f before fs g old d0 d e n a from i at came next fs_are read opens went same less =
    let choice : Open = record { depth = f.depth; candidates = f.candidates; index = from; asleep = f.asleep } in
    let now : Open = record { depth = f.depth; candidates = f.candidates; index = i; asleep = f.asleep } in
    let here = at_popped s f fs d e at came in
    let long = at_length s fs e here in
    let deep = came.depth in
    let most = at.stands.1 in
    let room : length (done_steps e.trail) < s.limit = omega (arith, long, deep, most) in
    let t = candidate_taken s choice fs (done_steps e.trail) e.world n.world i a here.stands (at_world s fs e here) (omega (arith, long, deep)) room (popped_enabled s f fs d e at came) opens.skips read went.world in
    let few = t.fewer in
    let left : states_left s (f ∷ fs) d ≡ states_to_choose s fs (done_steps e.trail) e.world f.candidates from = popped_states s f fs d e at came ∙ ap (states_to_choose s fs (done_steps e.trail) e.world f.candidates) (sym next) in
    let runs : after s (f ∷ fs) d ≡ to_choose s fs (done_steps e.trail) e.world f.asleep f.candidates from = popped_after s f fs d e at came ∙ ap (to_choose s fs (done_steps e.trail) e.world f.asleep f.candidates) (sym next) in
    let gs : reverse g.stack.items ≡ now ∷ fs = reverse_pushed old.stack.items g.stack.items now opens.stack ∙ ap (λ xs. now ∷ xs) (sym fs_are) in
    let path : done_steps n.trail ≡ done_steps e.trail ++ a ∷ [] = went.done_steps_are in
    let below : List Step = s.keeps e.world a (put_off s.sleeps i f.candidates f.asleep) in
    let deeper = went.depth in
    let base : Advanced s before d0 true (now ∷ fs) below n = (
      record { first_is = first_same e.trail n.trail went.program went.mode ∙ here.first_is; reached = went.reached; within = omega (arith, deeper, long, room); stands = rw path t.stands },
      same ∙ runs ∙ t.same ∙ ap (λ p. to_come s (now ∷ fs) below p n.world) (sym path),
      omega (arith, few, left, less, ap (λ p. states_to_come s (now ∷ fs) p n.world) path),
    ) in
    subst (λ (xs : List Open). Advanced s before d0 true xs g.asleep n) (sym gs) (subst (λ (z : List Step). Advanced s before d0 true (now ∷ fs) z n) (sym (opens.asleep a read)) base)

-- none is left
pub exhausted : (s : Search) (f : Open) (fs : List Open) (g old : Frontier) (d e : Standing) (from : ℕ) → At s (f ∷ fs) d → Came d f.depth e → from ≡ suc f.index → fs ≡ reverse old.stack.items
    → OpensNone s.same s.sleeps (record { depth = f.depth; candidates = f.candidates; index = from; asleep = f.asleep }) old g
    → At s (reverse g.stack.items) e × (after s (f ∷ fs) d ≡ after s (reverse g.stack.items) e) × (states_left s (reverse g.stack.items) e ≤ states_left s (f ∷ fs) d)
exhausted s f fs g old d e from at came next fs_are none =
    let gs : fs ≡ reverse g.stack.items = fs_are ∙ ap reverse (sym none.stack) in
    let left = popped_states s f fs d e at came in
    let path : List Step = done_steps e.trail in
    let base : At s fs e × (after s (f ∷ fs) d ≡ after s fs e) × (states_left s fs e ≤ states_left s (f ∷ fs) d) = (
      at_popped s f fs d e at came,
      popped_after s f fs d e at came ∙ ap (to_choose s fs path e.world f.asleep f.candidates) (sym next) ∙ passed_moved s fs path e.world f.asleep f.candidates from (length f.candidates) none.skips
          ∙ none_moved s fs path e.world f.asleep f.candidates (length f.candidates) (omega arith),
      omega (arith, left),
    ) in
    subst (λ (xs : List Open). At s xs e × (after s (f ∷ fs) d ≡ after s xs e) × (states_left s xs e ≤ states_left s (f ∷ fs) d)) gs base

-- ---- what is below the base stays

-- nothing below the base goes
base_within : (s : Search) (fs : List Open) (path : List Step) → Stands s fs path → s.base ≤ length path
base_within s [] path h = h
base_within s (f ∷ fs) path h = omega (arith, base_within s fs (take f.depth path) h.4, length-take f.depth path)

pub safe_beyond : (s : Search) (fs : List Open) (d e : Standing) → At s fs d → Beyond d e → Safe s.base d e
safe_beyond s fs d e at beyond =
    record { program = beyond.program; mode = beyond.mode; reached = beyond.reached; below = ap (take s.base) beyond.done_steps_are ∙ take-append-le s.base (done_steps d.trail) beyond.path (base_within s fs (done_steps d.trail) at.stands) }

pub safe_pushed : (s : Search) (fs : List Open) (d e : Standing) (a : Step) → At s fs d → Went d a e → Safe s.base d e
safe_pushed s fs d e a at went =
    record { program = went.program; mode = went.mode; reached = went.reached; below = ap (take s.base) went.done_steps_are ∙ take-append-le s.base (done_steps d.trail) (a ∷ []) (base_within s fs (done_steps d.trail) at.stands) }

take_lower : (m n : ℕ) (xs : List Step) → m ≤ n → take m (take n xs) ≡ take m xs
take_lower zero n xs h = refl
take_lower (suc m) zero xs h = absurd (omega arith)
take_lower (suc m) (suc n) [] h = refl
take_lower (suc m) (suc n) (x ∷ xs) h = ap (λ ys. x ∷ ys) (take_lower m n xs (omega arith))

pub safe_popped : (s : Search) (f : Open) (fs : List Open) (d e : Standing) → At s (f ∷ fs) d → Came d f.depth e → Safe s.base d e
safe_popped s f fs d e at came =
    let low : s.base ≤ f.depth = omega (arith, base_within s fs (take f.depth (done_steps d.trail)) at.stands.4, length-take f.depth (done_steps d.trail)) in
    record { program = came.program; mode = came.mode; reached = came.reached; below = ap (take s.base) came.done_steps_are ∙ take_lower s.base f.depth (done_steps d.trail) low }

pub safe_same : (base : ℕ) (d e : Standing) → e.trail ≡ d.trail → IsReached e → Safe base d e
safe_same base d e same reached = record { program = ap (λ (t : Trail). t.program) same; mode = ap (λ (t : Trail). t.mode) same; reached = reached; below = ap (λ (t : Trail). take base (done_steps t)) same }

pub safe_then : (base : ℕ) (c d e : Standing) → Safe base c d → Safe base d e → Safe base c e
safe_then base c d e x y = record { program = y.program ∙ x.program; mode = y.mode ∙ x.mode; reached = y.reached; below = y.below ∙ x.below }
