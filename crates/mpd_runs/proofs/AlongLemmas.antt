-- One step along some choices, and many. What comes next in a state is told by a function.
use Rattle.std.proofs.Common.{Bool, true, false, ◌≡◌, ℕ, zero, suc, ◌<◌, ◌≤◌, ◌+◌, ◌-◌, List, [], ◌∷◌, ◌++◌, length, drop, slice_get, Option, Some, None, Result, Ok, Err, refl, sym, ap, ◌∙◌, arith, append-nil}
use Rattle.std.specs.Option.{option_map}
use Rattle.std.proofs.lemmas.Option.{slice_get_past}
use Rattle.std.proofs.lemmas.List.{length-take, length-append}
use Rattle.mpd_model.specs.declared.step.Step.{Step}
use Rattle.mpd_model.specs.declared.outcome.Outcome.{Outcome}
use Rattle.mpd_model.specs.declared.decision.Decision.{Decision}
use Rattle.mpd_model.specs.declared.decision.Decision.TheVariants.{Forced, Choice, Leaf}
use Rattle.mpd_model.specs.steps.World.{World}
use Rattle.mpd_model.specs.steps.Next.{next}
use Rattle.mpd_model.specs.runs.Trail.{Standing, IsReached, done_steps}
use Rattle.mpd_policy.specs.Walk.{Run, stepped, chosen, prefixed, run_from, run_taken, run_followed, run_stopped, run_by}
use Rattle.mpd_runs.specs.declared.fault.WordsFault.{WordsFault}
use Rattle.mpd_runs.specs.declared.fault.WordsFault.TheVariants.{BadChoices, Memory}
use Rattle.mpd_runs.specs.Place.{left_over, bad_behind, bad_taken, bad_by, bad_place}
use Rattle.mpd_runs.specs.Led.{Led, RunsOrIsBad}
use Rattle.mpd_runs.specs.Along.{steps_at, behind, no_steps, IsOver, IsBad, Ends, GoesOn}
use Rattle.mpd_policy.specs.declared.along.WalkEnd.{WalkEnd}
use Rattle.mpd_policy.specs.declared.along.WalkEnd.TheVariants.{Ended, Fuel, Untaken}
use Rattle.mpd_policy.specs.declared.choosers.ByChoices.{ByChoices}
use Rattle.mpd_policy.specs.Walked.{Walked}
use Rattle.mpd_policy.specs.Walked.Walked.{here as way_here, forced as way_forced, chosen as way_chosen}
use Rattle.mpd_policy.specs.Choosers.{takes_listed, leaves_listed, stays, NoSuch}
use Rattle.mpd_policy.specs.Walks.{Gone, StopsBy, Walks}
use Rattle.mpd_policy.proofs.ChoiceLemmas.{no_fuel, at_leaf, no_such, left_along, left_last, run_gone}

-- ---- the steps of a run

abbrev steps_in : Option Run → Option (List Step)
steps_in o = option_map (λ (r : Run). r.steps) o

stopped_steps : (cs : List ℕ) (d : Decision) → steps_in (run_stopped cs d) ≡ no_steps cs
stopped_steps [] (Forced a) = refl
stopped_steps [] (Choice candidates) = refl
stopped_steps [] (Leaf o) = refl
stopped_steps (c ∷ cs) d = refl

prefixed_steps : (cs : List ℕ) (p : List Step) (o : Option Run) → steps_in (option_map (prefixed cs p) o) ≡ behind p (steps_in o)
prefixed_steps cs p None = refl
prefixed_steps cs p (Some r) = refl

no_more : (path : List Step) (left : List ℕ) (o : Option (List Step)) → o ≡ behind path (no_steps left) → left ≡ [] → o ≡ Some path
no_more path left o h e = h ∙ ap (λ xs. behind path (no_steps xs)) e ∙ ap Some (append-nil path)

some_more : (k : ℕ) (path : List Step) (left : List ℕ) (o : Option (List Step)) → o ≡ behind path (no_steps left) → left_over k left ≡ Some k → o ≡ None
some_more k path [] o h e = absurd (let x : ⊥ = cc in x)
some_more k path (c ∷ left) o h e = h

pub not_so : {P : Type 0} (b : Bool) → b ≡ false → (P → b ≡ true) → P → ⊥
not_so true e h p = let x : ⊥ = cc in x
not_so false e h p = let q : false ≡ true = h p in let x : ⊥ = cc in x

length-done_steps : (d : Standing) → IsReached d → length (done_steps d.trail) ≡ d.trail.depth
length-done_steps d h = omega (arith, length-take d.trail.depth d.trail.steps, h.within)

run_of : (o : Option Run) (path : List Step) → steps_in o ≡ Some path → (r : Run) × (o ≡ Some r) × (path ≡ r.steps)
run_of None path h = absurd (let x : ⊥ = cc in x)
run_of (Some r) path h = (r, refl, (let s : path ≡ r.steps = cc in s))

no_run : (o : Option Run) → steps_in o ≡ None → o ≡ None
no_run None h = refl
no_run (Some r) h = absurd (let x : ⊥ = cc in x)

drop_path : (n : ℕ) (xs path : List Step) → length xs ≡ n → drop n (xs ++ path) ≡ path
drop_path n [] path e = rw (sym e) refl
drop_path zero (x ∷ xs) path e = absurd (omega (arith, e))
drop_path (suc n) (x ∷ xs) path e = drop_path n xs path (omega (arith, e))

-- ---- a run, or a choice that is none

abbrev RunsOr : Option Run → Option ℕ → Type 0
RunsOr run bad = (run ≡ None → (place : ℕ) × (bad ≡ Some place)) × ((r : Run) → run ≡ Some r → bad ≡ None)

no_none : (r : Run) → (Some r ≡ None) → ⊥
no_none r e = let x : ⊥ = cc in x

no_some : (r : Run) → (let none : Option Run = None in none) ≡ Some r → ⊥
no_some r e = let x : ⊥ = cc in x

bad_or : (place : ℕ) → RunsOr None (Some place)
bad_or place = (λ e. (place, refl), λ r e. absurd (no_some r e))

run_or : (r : Run) → RunsOr (Some r) None
run_or r = (λ e. absurd (no_none r e), λ q e. refl)

through : (f : Run → Run) (o : Option Run) (bad : Option ℕ) → RunsOr o bad → RunsOr (option_map f o) bad
through f None bad h = (λ e. h.0 refl, λ r e. absurd (no_some r e))
through f (Some r) bad h = (λ e. absurd (no_none (f r) e), λ q e. h.1 r refl)

behind_or : (f : Run → Run) (run : World → Option Run) (bad : World → Option ℕ) (k : ℕ) (o : Option World) → ((v : World) → RunsOr (run v) (bad v)) → RunsOr (option_map f (run_from run o)) (bad_behind bad k o)
behind_or f run bad k None h = bad_or k
behind_or f run bad k (Some v) h = through f (run v) (bad v) (h v)

taken_or : (run : World → Option Run) (bad : World → Option ℕ) (w : World) (c k : ℕ) (o : Option Step) → ((v : World) → RunsOr (run v) (bad v)) → RunsOr (run_taken run w c o) (bad_taken bad w k o)
taken_or run bad w c k None h = bad_or k
taken_or run bad w c k (Some a) h = behind_or (chosen c a) run bad k (next w a) h

stopped_or : (k : ℕ) (cs : List ℕ) (d : Decision) → RunsOr (run_stopped cs d) (left_over k cs)
stopped_or k [] (Forced a) = run_or _
stopped_or k [] (Choice candidates) = run_or _
stopped_or k [] (Leaf o) = run_or _
stopped_or k (c ∷ cs) d = bad_or k

-- ---- by what comes next

module _ (decide : World → Decision) where
  bad_is : (n k : ℕ) (cs : List ℕ) (w : World) (d : Decision) → decide w ≡ d → bad_place decide (suc n) k cs w ≡ bad_by (bad_place decide n) w k cs d
  unfolding bad_place
  bad_is n k cs w d e = ap (bad_by (bad_place decide n) w k cs) e

  -- ---- a run is over

  bad_zero : (k : ℕ) (cs : List ℕ) (w : World) → bad_place decide zero k cs w ≡ left_over k cs
  unfolding bad_place
  bad_zero k cs w = refl

  over_zero : (k : ℕ) (cs : List ℕ) (w : World) → IsOver decide zero k cs w
  over_zero k cs w = record { steps = ap steps_in (no_fuel decide cs w) ∙ stopped_steps cs (decide w); bad = bad_zero k cs w }

  bad_leaf : (n k : ℕ) (cs : List ℕ) (w : World) (o : Outcome) → decide w ≡ Leaf o → bad_place decide n k cs w ≡ left_over k cs
  bad_leaf zero k cs w o leaf = bad_zero k cs w
  bad_leaf (suc n) k cs w o leaf = bad_is n k cs w (Leaf o) leaf

  over_leaf : (n k : ℕ) (cs : List ℕ) (w : World) (o : Outcome) → decide w ≡ Leaf o → IsOver decide n k cs w
  over_leaf n k cs w o leaf = record { steps = ap steps_in (at_leaf decide n cs w o leaf) ∙ stopped_steps cs (decide w); bad = bad_leaf n k cs w o leaf }

  -- ---- along a way

  bad_along : (c e : ByChoices) (n l m k j : ℕ) (w v : World) (cs : List ℕ) (p : List Step) → l ≡ length p + m → j ≡ k + length cs → Walked decide takes_listed stays c n w cs p v e → bad_place decide l k c.left.now w ≡ bad_place decide m j e.left.now v
  bad_along c e n l m k j w v cs p fuel at (way_here _ _ _) =
      ap (λ i. bad_place decide i k c.left.now w) (let x : l ≡ m = omega (arith, fuel) in x) ∙ ap (λ i. bad_place decide m i c.left.now w) (let y : k ≡ j = omega (arith, at) in y)
  bad_along c e n l m k j w v cs p fuel at (way_forced _ d _ _ _ u _ a _ path is same step h) =
      let more : l ≡ suc (length path + m) = omega (arith, fuel) in
      ap (λ i. bad_place decide i k c.left.now w) more
      ∙ bad_is (length path + m) k c.left.now w (Forced a) is ∙ ap (bad_behind (bad_place decide (length path + m) k c.left.now) k) step
      ∙ ap (λ (b : ByChoices). bad_place decide (length path + m) k b.left.now u) (sym same) ∙ bad_along d e (suc n) (length path + m) m k j u v cs path refl at h
  bad_along c e n l m k j w v cs p fuel at (way_chosen _ d _ _ i _ u _ a candidates bs path is read taken step h) =
      let more : l ≡ suc (length path + m) = omega (arith, fuel) in
      let number : j ≡ suc k + length bs = omega (arith, at) in
      ap (λ x. bad_place decide x k c.left.now w) more ∙ ap (λ x. bad_place decide (suc (length path + m)) k x w) taken
      ∙ bad_is (length path + m) k (i ∷ d.left.now) w (Choice candidates) is ∙ ap (bad_taken (bad_place decide (length path + m) (suc k) d.left.now) w k) read
      ∙ ap (bad_behind (bad_place decide (length path + m) (suc k) d.left.now) k) step ∙ bad_along d e (suc n) (length path + m) m (suc k) j u v bs path refl number h

  -- what the choices told at the outset, by those that are left
  record Went (n k : ℕ) (cs : List ℕ) (w : World) (path : List Step) (m : ℕ) (left : List ℕ) (v : World) : Type 0 where
    pub steps : steps_at decide n cs w ≡ behind path (steps_at decide m left v)
    pub bad : bad_place decide n 0 cs w ≡ bad_place decide m k left v

  went : (limit place : ℕ) (cs left : List ℕ) (d e : Standing) (c m : ByChoices) → c.left.now ≡ cs → m.left.now ≡ left → place ≡ length cs - length left → e.trail.depth ≤ limit
      → (h : Gone decide takes_listed stays d c e m) → Went (limit - d.trail.depth) place cs d.world h.path (limit - e.trail.depth) left e.world
  went limit place cs left d e c m first rest at within h =
      let whole : cs ≡ h.choices ++ left = sym first ∙ left_along decide c m d.trail.depth d.world e.world h.choices h.path h.walked ∙ ap (λ l. h.choices ++ l) rest in
      let fuel : limit - d.trail.depth ≡ length h.path + (limit - e.trail.depth) = (let x = h.depth in omega (arith, x, within)) in
      let number : place ≡ 0 + length h.choices = omega (arith, at, ap length whole, length-append h.choices left) in
      record {
        steps = ap (λ l. steps_at decide (limit - d.trail.depth) l d.world) (sym first)
            ∙ ap steps_in (run_gone decide limit d e c m within h) ∙ prefixed_steps h.choices h.path (run_by decide (limit - e.trail.depth) m.left.now e.world) ∙ ap (λ l. behind h.path (steps_at decide (limit - e.trail.depth) l e.world)) rest;
        bad = ap (λ l. bad_place decide (limit - d.trail.depth) 0 l d.world) (sym first)
            ∙ bad_along c m d.trail.depth (limit - d.trail.depth) (limit - e.trail.depth) 0 place d.world e.world h.choices h.path fuel number h.walked ∙ ap (λ l. bad_place decide (limit - e.trail.depth) place l e.world) rest;
      }

  -- ---- the end of a way

  over_on : (m k : ℕ) (cs left : List ℕ) (limit : ℕ) (d e : Standing) (path : List Step) (r : Result (Unit {0}) WordsFault) → done_steps e.trail ≡ done_steps d.trail ++ path → Went (limit - d.trail.depth) k cs d.world path m left e.world → IsOver decide m k left e.world → Ends k left r → GoesOn decide limit cs d r e
  over_on m k cs left limit d e path (Ok u) same g over h = (path, same, no_more path left (steps_at decide (limit - d.trail.depth) cs d.world) (g.steps ∙ ap (behind path) over.steps) h)
  over_on m k cs left limit d e path (Err (BadChoices place)) same g over h = (some_more k path left (steps_at decide (limit - d.trail.depth) cs d.world) (g.steps ∙ ap (behind path) over.steps) h.1, g.bad ∙ over.bad ∙ h.1 ∙ ap Some (sym h.0))
  over_on m k cs left limit d e path (Err Memory) same g over h = absurd h

  -- the way ends where the run does
  pub ended_on : (limit place : ℕ) (cs : List ℕ) (d e : Standing) (c f : ByChoices) (s : WalkEnd) (r : Result (Unit {0}) WordsFault) → c.left.now ≡ cs → place ≡ length cs - length f.left.now → Walks decide takes_listed leaves_listed stays limit d c s e f → (s ≡ Untaken → ⊥) → Ends place f.left.now r → GoesOn decide limit cs d r e
  ended_on limit place cs d e c f (Ended o) r first at h never ends =
      let x = h.stops in
      over_on (limit - e.trail.depth) place cs f.left.now limit d e h.gone.path r h.gone.done_steps_are (went limit place cs f.left.now d e c h.middle first (left_last decide limit d e c f (Ended o) h) at (let room = x.2 in omega (arith, room)) h.gone) (over_leaf (limit - e.trail.depth) place f.left.now e.world o x.1) ends
  ended_on limit place cs d e c f Fuel r first at h never ends =
      let x = h.stops in
      let spent : limit - e.trail.depth ≡ 0 = (let y = x.1 in omega (arith, y)) in
      let g = went limit place cs f.left.now d e c h.middle first (left_last decide limit d e c f Fuel h) at (let y = x.1 in omega (arith, y)) h.gone in
      over_on 0 place cs f.left.now limit d e h.gone.path r h.gone.done_steps_are (rw spent at g) (over_zero place f.left.now e.world) ends
  ended_on limit place cs d e c f Untaken r first at h never ends = absurd (never refl)

  -- no candidate was taken
  bad_none : (n k : ℕ) (left : List ℕ) (w : World) (candidates : List Step) → decide w ≡ Choice candidates → NoSuch left candidates → bad_place decide (suc n) k left w ≡ Some k
  bad_none n k [] w candidates is h = bad_is n k [] w (Choice candidates) is
  bad_none n k (c ∷ left) w candidates is h = bad_is n k (c ∷ left) w (Choice candidates) is ∙ ap (bad_taken (bad_place decide n (suc k) left) w k) (slice_get_past candidates c h)

  no_candidate : (n k : ℕ) (left : List ℕ) (w : World) (candidates : List Step) → decide w ≡ Choice candidates → NoSuch left candidates → IsBad decide (suc n) k left w k
  no_candidate n k left w candidates is h = (ap steps_in (no_such decide n left w candidates is h), bad_none n k left w candidates is h)

  bad_on : (n m k : ℕ) (cs left : List ℕ) (w v : World) (path : List Step) → Went n k cs w path m left v → IsBad decide m k left v k → IsBad decide n 0 cs w k
  bad_on n m k cs left w v path g h = (g.steps ∙ ap (behind path) h.0, g.bad ∙ h.1)

  pub untaken_on : (limit place : ℕ) (cs : List ℕ) (d e : Standing) (c f : ByChoices) (s : WalkEnd) → c.left.now ≡ cs → place ≡ length cs - length f.left.now → Walks decide takes_listed leaves_listed stays limit d c s e f → s ≡ Untaken → GoesOn decide limit cs d (Err (BadChoices place)) e
  untaken_on limit place cs d e c f s first at h is =
      let x : StopsBy decide leaves_listed (λ n. n ≡ limit) (λ n. n < limit) e h.middle Untaken f = rw is at h.stops in
      let same : h.middle.left.now ≡ f.left.now = sym x.0.left.1 in
      let room = x.1 in
      let fuel : limit - e.trail.depth ≡ suc (limit - suc e.trail.depth) = omega (arith, room) in
      let g = went limit place cs f.left.now d e c h.middle first same at (omega (arith, room)) h.gone in
      bad_on (limit - d.trail.depth) (suc (limit - suc e.trail.depth)) place cs f.left.now d.world e.world h.gone.path (rw fuel at g)
      (no_candidate (limit - suc e.trail.depth) place f.left.now e.world x.0.candidates x.0.choice (rw same at x.0.left.0))

  -- ---- what is answered

  led_by : (fuel : ℕ) (cs : List ℕ) (w : World) (path steps : List Step) → steps_at decide fuel cs w ≡ Some path → steps ≡ path → Led decide fuel cs w (Ok steps)
  led_by fuel cs w path steps h is = let x = run_of (run_by decide fuel cs w) path h in (x.0, x.1, is ∙ x.2)

  pub led_there : (fuel base : ℕ) (cs : List ℕ) (d e : Standing) (u : Unit {0}) (steps : List Step) → base ≡ d.trail.depth → IsReached d → GoesOn decide (base + fuel) cs d (Ok u) e → steps ≡ drop base (done_steps e.trail) → Led decide fuel cs d.world (Ok steps)
  led_there fuel base cs d e u steps is reached h found =
      let left : (base + fuel) - d.trail.depth ≡ fuel = omega (arith, is) in
      let long : length (done_steps d.trail) ≡ base = length-done_steps d reached ∙ sym is in
      led_by fuel cs d.world h.0 steps (rw left at h.2) (found ∙ ap (drop base) h.1 ∙ drop_path base (done_steps d.trail) h.0 long)

  pub led_nowhere : (fuel base : ℕ) (cs : List ℕ) (d e : Standing) (r : WordsFault) → base ≡ d.trail.depth → GoesOn decide (base + fuel) cs d (Err r) e → Led decide fuel cs d.world (Err r)
  led_nowhere fuel base cs d e (BadChoices place) is h =
      let left : (base + fuel) - d.trail.depth ≡ fuel = omega (arith, is) in
      let there : IsBad decide fuel 0 cs d.world place = rw left at h in
      (no_run (run_by decide fuel cs d.world) there.0, there.1)
  led_nowhere fuel base cs d e Memory is h = tt

  pub led_refused : (fuel : ℕ) (cs : List ℕ) (w : World) (r : WordsFault) → ((place : ℕ) → r ≡ BadChoices place → ⊥) → Led decide fuel cs w (Err r)
  led_refused fuel cs w (BadChoices place) never = absurd (never place refl)
  led_refused fuel cs w Memory never = tt

  -- ---- there is a run, or a choice is none

  followed_or : (n k : ℕ) (cs : List ℕ) (w : World) (d : Decision) → ((j : ℕ) (ds : List ℕ) (v : World) → RunsOr (run_by decide n ds v) (bad_place decide n j ds v)) → RunsOr (run_followed (run_by decide n) w cs d) (bad_by (bad_place decide n) w k cs d)
  followed_or n k cs w (Forced a) h = behind_or (stepped a) (run_by decide n cs) (bad_place decide n k cs) k (next w a) (h k cs)
  followed_or n k [] w (Choice candidates) h = bad_or k
  followed_or n k (c ∷ cs) w (Choice candidates) h = taken_or (run_by decide n cs) (bad_place decide n (suc k) cs) w c k (slice_get candidates c) (h (suc k) cs)
  followed_or n k [] w (Leaf o) h = run_or _
  followed_or n k (c ∷ cs) w (Leaf o) h = bad_or k

  pub runs_or_bad : (n k : ℕ) (cs : List ℕ) (w : World) → RunsOrIsBad decide n k cs w
  unfolding run_by bad_place
  runs_or_bad zero k cs w = stopped_or k cs (decide w)
  runs_or_bad (suc n) k cs w = followed_or n k cs w (decide w) (λ j ds v. runs_or_bad n j ds v)

pub ruleset leading = (led_there, led_nowhere, led_refused)
