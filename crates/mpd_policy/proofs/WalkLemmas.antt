-- A way is lengthened step by step.
use Rattle.std.proofs.Common.{◌≡◌, ℕ, zero, suc, ◌+◌, ◌<◌, ◌≤◌, List, [], ◌∷◌, ◌++◌, length, take, slice_get, Option, Some, None, refl, sym, ap, ◌∙◌, arith, append_assoc, append-nil}
use Rattle.std.proofs.lemmas.List.{length-take, length-append, take-append-le, take_all}
use Rattle.mpd_model.specs.declared.step.Step.{Step}
use Rattle.mpd_model.specs.declared.decision.Decision.{Decision}
use Rattle.mpd_model.specs.declared.decision.Decision.TheVariants.{Forced, Choice}
use Rattle.mpd_model.specs.steps.World.{World}
use Rattle.mpd_model.specs.steps.Next.{next}
use Rattle.mpd_model.specs.runs.Trail.{Trail, Standing, IsReached, done_steps, world_of, gone_back, forgotten}
use Rattle.mpd_trail.specs.DebuggerViews.{AsFound}
use Rattle.mpd_policy.specs.declared.along.WalkEnd.{WalkEnd}
use Rattle.mpd_policy.specs.declared.along.WalkEnd.TheVariants.{Ended, Fuel, Untaken}
use Rattle.mpd_policy.specs.Walked.{Walked, Chose}
use Rattle.mpd_policy.specs.Walked.Walked.{here, forced, chosen}
use Rattle.mpd_policy.specs.Walks.{Beyond, Gone, StopsBy, Goes, Walks}

-- ---- a debugger that goes on

pub beyond_same : (d e : Standing) → e.trail ≡ d.trail → IsReached e → Beyond d e
beyond_same d e same reached =
    record { program = ap (λ (t : Trail). t.program) same; mode = ap (λ (t : Trail). t.mode) same; reached = reached; path = []; done_steps_are = ap done_steps same ∙ sym (append-nil (done_steps d.trail)) }

pub beyond_went : (d e : Standing) (a : Step) → e.trail.program ≡ d.trail.program → e.trail.mode ≡ d.trail.mode → IsReached e → done_steps e.trail ≡ done_steps d.trail ++ a ∷ [] → Beyond d e
beyond_went d e a program mode reached same = record { program = program; mode = mode; reached = reached; path = a ∷ []; done_steps_are = same }

pub beyond_then : (c d e : Standing) → Beyond c d → Beyond d e → Beyond c e
beyond_then c d e x y =
    record { program = y.program ∙ x.program; mode = y.mode ∙ x.mode; reached = y.reached; path = x.path ++ y.path; done_steps_are = y.done_steps_are ∙ ap (λ p. p ++ y.path) x.done_steps_are ∙ append_assoc (done_steps c.trail) x.path y.path }

-- ---- as found

pub length-done_steps : (d : Standing) → IsReached d → length (done_steps d.trail) ≡ d.trail.depth
length-done_steps d h = omega (arith, length-take d.trail.depth d.trail.steps, h.within)

take_lower : (m n : ℕ) (xs : List Step) → m ≤ n → take m (take n xs) ≡ take m xs
take_lower zero n xs h = refl
take_lower (suc m) zero xs h = absurd (omega (arith, h))
take_lower (suc m) (suc n) [] h = refl
take_lower (suc m) (suc n) (x ∷ xs) h = ap (λ ys. x ∷ ys) (take_lower m n xs (omega (arith, h)))

pub beyond_depth : (d e : Standing) → IsReached d → Beyond d e → d.trail.depth ≤ e.trail.depth
beyond_depth d e reached h = omega (arith, length-done_steps d reached, length-done_steps e h.reached, ap length h.done_steps_are, length-append (done_steps d.trail) h.path)

beyond_below : (d e : Standing) → IsReached d → Beyond d e → take d.trail.depth (done_steps e.trail) ≡ take d.trail.depth (done_steps d.trail)
beyond_below d e reached h = ap (take d.trail.depth) h.done_steps_are ∙ take-append-le d.trail.depth (done_steps d.trail) h.path (omega (arith, length-done_steps d reached))

as_found : (d m e : Trail) → length d.steps ≡ d.depth → d.depth ≤ m.depth → m.program ≡ d.program → m.mode ≡ d.mode → take d.depth (done_steps m) ≡ take d.depth (done_steps d) → e ≡ forgotten (gone_back m d.depth) → e ≡ d
as_found d m e clean deep program mode below is =
    let whole : take d.depth (done_steps d) ≡ d.steps = take_lower d.depth d.depth d.steps (omega arith) ∙ take_all d.depth d.steps (omega (arith, clean)) in
    let same : take d.depth m.steps ≡ d.steps = sym (take_lower d.depth m.depth m.steps deep) ∙ below ∙ whole in
    is ∙ λ i. record { program = program i; mode = mode i; steps = same i; depth = d.depth }

trail_found : (d m e : Standing) (base : ℕ) → IsReached d → length d.trail.steps ≡ d.trail.depth → base ≡ d.trail.depth → Beyond d m → e.trail ≡ forgotten (gone_back m.trail base) → e.trail ≡ d.trail
trail_found d m e base reached clean at h is = as_found d.trail m.trail e.trail clean (beyond_depth d m reached h) h.program h.mode (beyond_below d m reached h) (rw at at is)

some_is : (v w : World) → Some v ≡ Some w → v ≡ w
some_is v w e = cc

pub all_found : (m e : Standing) (base : ℕ) → e.trail ≡ forgotten (gone_back m.trail base) → IsReached e → (d : Standing) → IsReached d → length d.trail.steps ≡ d.trail.depth → base ≡ d.trail.depth → Beyond d m → AsFound d e
all_found m e base is reached d stood clean at h =
    let same : e.trail ≡ d.trail = trail_found d m e base stood clean at h is in
    record { trail = same; world = some_is e.world d.world (sym reached.world ∙ ap world_of same ∙ stood.world); reached = reached }

-- ---- a way behind a way

module _ {C : Type 0} (decide : World → Decision) (takes : C → ℕ → World → List Step → ℕ → C → Type 0) (passes : C → ℕ → World → Step → C → Type 0) where
  walked_then : (c d e : C) (n m : ℕ) (w v u : World) (cs ds : List ℕ) (p q : List Step) → m ≡ n + length p → Walked decide takes passes c n w cs p v d → Walked decide takes passes d m v ds q u e → Walked decide takes passes c n w (cs ++ ds) (p ++ q) u e
  walked_then c d e n m w v u cs ds p q h (here _ _ _) y = rw (let x : m ≡ n = omega (arith, h) in x) at y
  walked_then c d e n m w v u cs ds p q h (forced _ k _ _ _ t _ a _ path is passed step x) y = forced c k e n w t u a (cs ++ ds) (path ++ q) is passed step (walked_then k d e (suc n) m t v u cs ds path q (omega (arith, h)) x y)
  walked_then c d e n m w v u cs ds p q h (chosen _ k _ _ i _ t _ a candidates bs path is read taken step x) y = chosen c k e n i w t u a candidates (bs ++ ds) (path ++ q) is read taken step (walked_then k d e (suc n) m t v u bs ds path q (omega (arith, h)) x y)

  pub gone_none : (d : Standing) (c : C) → Gone decide takes passes d c d c
  gone_none d c = record { choices = []; path = []; done_steps_are = sym (append-nil (done_steps d.trail)); depth = omega arith; walked = here c d.trail.depth d.world }

  pub gone_then : (a b e : Standing) (c d f : C) → Gone decide takes passes a c b d → Gone decide takes passes b d e f → Gone decide takes passes a c e f
  gone_then a b e c d f x y =
      record {
        choices = x.choices ++ y.choices;
        path = x.path ++ y.path;
        done_steps_are = y.done_steps_are ∙ ap (λ p. p ++ y.path) x.done_steps_are ∙ append_assoc (done_steps a.trail) x.path y.path;
        depth = (let i = x.depth in let j = y.depth in omega (arith, i, j, length-append x.path y.path));
        walked = walked_then c d f a.trail.depth b.trail.depth a.world b.world e.world x.choices y.choices x.path y.path x.depth x.walked y.walked;
      }

  pub gone_forced : (d e : Standing) (c f : C) (a : Step) → decide d.world ≡ Forced a → passes c d.trail.depth d.world a f → next d.world a ≡ Some e.world → done_steps e.trail ≡ done_steps d.trail ++ a ∷ [] → e.trail.depth ≡ d.trail.depth + 1 → Gone decide takes passes d c e f
  gone_forced d e c f a is passed step same deeper =
      record { choices = []; path = a ∷ []; done_steps_are = same; depth = deeper; walked = forced c f f d.trail.depth d.world e.world e.world a [] [] is passed step (here f (suc d.trail.depth) e.world) }

  pub gone_chosen : (d e : Standing) (c f : C) (a : Step) (candidates : List Step) (i : ℕ) → decide d.world ≡ Choice candidates → slice_get candidates i ≡ Some a → takes c d.trail.depth d.world candidates i f
      → next d.world a ≡ Some e.world → done_steps e.trail ≡ done_steps d.trail ++ a ∷ [] → e.trail.depth ≡ d.trail.depth + 1 → Gone decide takes passes d c e f
  gone_chosen d e c f a candidates i is read taken step same deeper =
      record { choices = i ∷ []; path = a ∷ []; done_steps_are = same; depth = deeper; walked = chosen c f f d.trail.depth i d.world e.world e.world a candidates [] [] is read taken step (here f (suc d.trail.depth) e.world) }

  pub goes_chosen : (d e : Standing) (c f : C) (leaves : C → ℕ → World → List Step → C → Type 0) (o : Option Step) (a : Step) (candidates : List Step) → decide d.world ≡ Choice candidates → o ≡ Some a → Chose takes leaves c d.trail.depth d.world candidates o f
      → next d.world a ≡ Some e.world → done_steps e.trail ≡ done_steps d.trail ++ a ∷ [] → e.trail.depth ≡ d.trail.depth + 1 → (e.trail.depth ≡ d.trail.depth + 1) × Gone decide takes passes d c e f
  goes_chosen d e c f leaves o a candidates is some chose step same deeper =
      let h : Chose takes leaves c d.trail.depth d.world candidates (Some a) f = rw some at chose in
      (deeper, gone_chosen d e c f a candidates h.0 is h.1 h.2 step same deeper)

  pub goes_on : (leaves : C → ℕ → World → List Step → C → Type 0) (o : Option WalkEnd) (d e : Standing) (c f : C) → ((s : WalkEnd) → o ≡ Some s → ⊥) → Goes decide takes leaves passes d c o e f → (e.trail.depth ≡ d.trail.depth + 1) × Gone decide takes passes d c e f
  goes_on leaves None d e c f never h = h
  goes_on leaves (Some s) d e c f never h = absurd (never s refl)

  stops_any : (leaves : C → ℕ → World → List Step → C → Type 0) (limit : ℕ) (e : Standing) (c f : C) (s : WalkEnd) → e.trail.depth < limit → StopsBy decide leaves (λ n. ⊥) (λ n. Unit {0}) e c s f → StopsBy decide leaves (λ n. n ≡ limit) (λ n. n < limit) e c s f
  stops_any leaves limit e c f (Ended o) room h = (h.0, h.1, room)
  stops_any leaves limit e c f Fuel room h = absurd h.1
  stops_any leaves limit e c f Untaken room h = (h.0, room)

  stops_now : (leaves : C → ℕ → World → List Step → C → Type 0) (limit : ℕ) (s : WalkEnd) (a d e : Standing) (c m f : C) → d.trail.depth < limit → Gone decide takes passes a c d m → e ≡ d → StopsBy decide leaves (λ n. ⊥) (λ n. Unit {0}) d m s f → Walks decide takes leaves passes limit a c s e f
  stops_now leaves limit s a d e c m f room gone same h = rw same (record { middle = m; gone = gone; stops = stops_any leaves limit d m f s room h })

  pub goes_stop : (leaves : C → ℕ → World → List Step → C → Type 0) (limit : ℕ) (o : Option WalkEnd) (s : WalkEnd) (a d e : Standing) (c m f : C) → d.trail.depth < limit → o ≡ Some s → Gone decide takes passes a c d m → Goes decide takes leaves passes d m o e f → Walks decide takes leaves passes limit a c s e f
  goes_stop leaves limit o s a d e c m f room is gone h =
      let k : Goes decide takes leaves passes d m (Some s) e f = rw is at h in
      stops_now leaves limit s a d e c m f room gone k.0 k.1

  pub fuel_stop : (leaves : C → ℕ → World → List Step → C → Type 0) (limit : ℕ) (a d : Standing) (c m : C) → d.trail.depth ≡ limit → Gone decide takes passes a c d m → Walks decide takes leaves passes limit a c Fuel d m
  fuel_stop leaves limit a d c m spent gone = record { middle = m; gone = gone; stops = (refl, spent) }
