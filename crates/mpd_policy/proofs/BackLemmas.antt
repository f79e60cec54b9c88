-- What a step that is taken or taken back hits, and a run back.
use Rattle.std.proofs.Common.{◌≡◌, ℕ, zero, suc, ◌+◌, ◌-◌, ◌<◌, ◌≤◌, Option, Some, None, List, [], ◌∷◌, length, get_or, slice_get, refl, sym, ap, subst, ◌∙◌, arith}
use Rattle.mpd_model.specs.declared.step.Step.{Step}
use Rattle.mpd_model.specs.declared.breakpoint.Breakpoint.{Breakpoint}
use Rattle.mpd_model.specs.declared.breakpoint.Stop.{Stop}
use Rattle.mpd_model.specs.declared.breakpoint.Cause.{Cause}
use Rattle.mpd_model.specs.declared.breakpoint.Cause.TheVariants as for
use Rattle.mpd_model.specs.script.Program.{Program}
use Rattle.mpd_model.specs.steps.World.{World}
use Rattle.mpd_model.specs.runs.Trail.{Trail, Standing, IsReached, taken_back, gone_back, world_of}
use Rattle.mpd_model.specs.runs.Breakpoints.{break_at, lowest_hit}
use Rattle.mpd_model.specs.runs.Running.{world_at, hit_of, hit_at, one_back, ran_back}
use Rattle.mpd_policy.specs.declared.hits.Watched.{Watched}
use Rattle.mpd_policy.specs.declared.hits.Watched.TheVariants.{Nothing}
use Rattle.mpd_policy.specs.Places.{watched_at, lowest_told, lowest_changed, lower}
use Rattle.mpd_policy.proofs.HitLemmas.{hit_forward, hit_backward}

-- ---- one step

told_in : (s p : Program) (places : List (Option Breakpoint)) (a : Step) (w v : World) → s ≡ p → w ≡ v → lowest_told s places a w ≡ lowest_told p places a v
told_in s p places a w v same e = ap (λ (q : Program). lowest_told q places a w) same ∙ ap (lowest_told p places a) e

lower_in : (one other one' other' : Option ℕ) → one ≡ one' → other ≡ other' → lower one other ≡ lower one' other'
lower_in one other one' other' e f = ap (λ (o : Option ℕ). lower o other) e ∙ ap (lower one') f

-- The state after a step is known by the core that is lent there.
pub take_hit : (places : List (Option Breakpoint)) (values : List Watched) (s p : Program) (w v old new : World) (a : Step) (told changed found : Option ℕ) → s ≡ p → w ≡ old → v ≡ new
    → ((n : ℕ) → get_or values n Nothing ≡ watched_at w (break_at places n)) → told ≡ lowest_told s places a v → changed ≡ lowest_changed places values v → found ≡ lower told changed → found ≡ lowest_hit p places old a new
take_hit places values s p w v old new a told changed found same before after held is differs low =
    low
    ∙ lower_in told changed (lowest_told p places a new) (lowest_changed places values new) (is ∙ told_in s p places a v new same after) (differs ∙ ap (lowest_changed places values) after)
    ∙ sym (hit_forward p places values old a new (λ n. held n ∙ ap (λ (u : World). watched_at u (break_at places n)) before))

at_place : (places : List (Option Breakpoint)) (old new : Standing) (a : Step) → IsReached old → IsReached new → 0 < old.trail.depth → new.trail ≡ taken_back old.trail → slice_get old.trail.steps (old.trail.depth - 1) ≡ Some a
    → lowest_hit old.trail.program places new.world a old.world ≡ hit_at places old.trail (old.trail.depth - 1)
at_place places old new a r q some back at =
    let t : Trail = old.trail in
    let k : (t.depth - 1) + 1 ≡ t.depth = omega (arith, some) in
    let before : world_at t (t.depth - 1) ≡ Some new.world = sym (ap world_of back) ∙ q.world in
    let after : world_at t ((t.depth - 1) + 1) ≡ Some old.world = ap (world_at t) k ∙ r.world in
    sym (ap (λ (o : Option World). hit_of t.program places o (slice_get t.steps (t.depth - 1)) (world_at t ((t.depth - 1) + 1))) before
    ∙ ap (λ (o : Option Step). hit_of t.program places (Some new.world) o (world_at t ((t.depth - 1) + 1))) at
    ∙ ap (λ (o : Option World). hit_of t.program places (Some new.world) (Some a) o) after)

pub back_hit : (places : List (Option Breakpoint)) (values : List Watched) (s : Program) (w v : World) (old new : Standing) (a : Step) (told changed found : Option ℕ) → IsReached old → IsReached new → 0 < old.trail.depth → new.trail ≡ taken_back old.trail
    → slice_get old.trail.steps (old.trail.depth - 1) ≡ Some a → s ≡ old.trail.program → w ≡ old.world → v ≡ new.world
    → ((n : ℕ) → get_or values n Nothing ≡ watched_at w (break_at places n)) → told ≡ lowest_told s places a w → changed ≡ lowest_changed places values v → found ≡ lower told changed → found ≡ hit_at places old.trail (old.trail.depth - 1)
back_hit places values s w v old new a told changed found r q some back at same after before held is differs low =
    low
    ∙ lower_in told changed (lowest_told old.trail.program places a old.world) (lowest_changed places values new.world) (is ∙ told_in s old.trail.program places a w old.world same after) (differs ∙ ap (lowest_changed places values) before)
    ∙ sym (hit_backward old.trail.program places values new.world a old.world (λ n. held n ∙ ap (λ (u : World). watched_at u (break_at places n)) after))
    ∙ at_place places old new a r q some back at

at_index : (xs : List Step) (n : ℕ) (d : Step) → n < length xs → slice_get xs n ≡ Some (get_or xs n d)
at_index [] n d lt = absurd (omega (arith, lt))
at_index (x ∷ xs) zero d lt = refl
at_index (x ∷ xs) (suc n) d lt = at_index xs n d (omega (arith, lt))

-- the last step not undone
pub last_step : (t : Trail) (steps : List Step) (depth : ℕ) (d : Step) → steps ≡ t.steps → depth ≡ t.depth → 0 < t.depth → t.depth ≤ length t.steps → slice_get t.steps (t.depth - 1) ≡ Some (get_or steps (depth - 1) d)
last_step t steps depth d same deep some within =
    at_index t.steps (t.depth - 1) d (omega (arith, some, within))
    ∙ ap (λ (xs : List Step). Some (get_or xs (t.depth - 1) d)) (sym same)
    ∙ ap (λ (n : ℕ). Some (get_or steps (n - 1) d)) (sym deep)

-- ---- a run back that is on its way

abbrev pub stop_at : ℕ → Cause → Stop
stop_at steps cause = record { steps = steps; cause = cause }

abbrev pub more_back : ℕ → Stop → Stop
more_back n stop = record { steps = stop.steps + n; cause = stop.cause }

pub record Backing (places : List (Option Breakpoint)) (old now : Standing) (undone : ℕ) : Type 0 where
  pub within : undone ≤ old.trail.depth
  pub trail : now.trail ≡ gone_back old.trail (old.trail.depth - undone)
  pub total : ran_back places old.trail old.trail.depth ≡ more_back undone (ran_back places old.trail (old.trail.depth - undone))

of_steps : (n m : ℕ) (cause : Cause) → n ≡ m → stop_at n cause ≡ stop_at m cause
of_steps n m cause e = ap (λ (k : ℕ). stop_at k cause) e

pub backing_begins : (places : List (Option Breakpoint)) (old : Standing) → Backing places old old 0
backing_begins places old =
    let t : Trail = old.trail in
    let k : t.depth ≡ t.depth - 0 = omega arith in
    let r : Stop = ran_back places t t.depth in
    record {
      within = omega arith;
      trail = ap (gone_back t) k;
      total = of_steps r.steps (r.steps + 0) r.cause (omega arith) ∙ ap (λ (n : ℕ). more_back 0 (ran_back places t n)) k;
    }

-- what a step back adds, whatever it hits
back_total : (places : List (Option Breakpoint)) (old now : Standing) (undone : ℕ) (hit : Option ℕ) → Backing places old now undone → undone < old.trail.depth → hit ≡ hit_at places now.trail (now.trail.depth - 1)
    → ran_back places old.trail old.trail.depth ≡ more_back undone (one_back hit (ran_back places old.trail (old.trail.depth - (undone + 1))))
back_total places old now undone hit b lt is =
    let t : Trail = old.trail in
    let m : ℕ = t.depth - (undone + 1) in
    let k : t.depth - undone ≡ suc m = omega (arith, lt) in
    let j : (t.depth - undone) - 1 ≡ m = omega (arith, lt) in
    let here : hit ≡ hit_at places t m = is ∙ ap (λ (u : Trail). hit_at places u (u.depth - 1)) b.trail ∙ ap (hit_at places t) j in
    b.total ∙ ap (λ (n : ℕ). more_back undone (ran_back places t n)) k ∙ ap (λ (o : Option ℕ). more_back undone (one_back o (ran_back places t m))) (sym here)

back_trail : (old now new : Standing) (undone : ℕ) → now.trail ≡ gone_back old.trail (old.trail.depth - undone) → undone < old.trail.depth → new.trail ≡ gone_back now.trail (now.trail.depth - 1)
    → new.trail ≡ gone_back old.trail (old.trail.depth - (undone + 1))
back_trail old now new undone at lt back =
    let j : (old.trail.depth - undone) - 1 ≡ old.trail.depth - (undone + 1) = omega (arith, lt) in
    back ∙ ap (λ (u : Trail). gone_back u (u.depth - 1)) at ∙ ap (gone_back old.trail) j

pub backing_more : (places : List (Option Breakpoint)) (old now new : Standing) (undone : ℕ) (hit : Option ℕ) → Backing places old now undone → undone < old.trail.depth → hit ≡ hit_at places now.trail (now.trail.depth - 1) → hit ≡ None
    → new.trail ≡ gone_back now.trail (now.trail.depth - 1) → Backing places old new (undone + 1)
backing_more places old now new undone hit b lt is none back =
    let r : Stop = ran_back places old.trail (old.trail.depth - (undone + 1)) in
    record {
      within = omega (arith, lt);
      trail = back_trail old now new undone b.trail lt back;
      total =
          back_total places old now undone hit b lt is
          ∙ ap (λ (o : Option ℕ). more_back undone (one_back o r)) none
          ∙ of_steps ((r.steps + 1) + undone) (r.steps + (undone + 1)) r.cause (omega arith);
    }

pub backing_some : (places : List (Option Breakpoint)) (old now : Standing) (undone : ℕ) → Backing places old now undone → undone < old.trail.depth → 0 < now.trail.depth
backing_some places old now undone b lt = subst (λ (t : Trail). 0 < t.depth) (sym b.trail) (omega (arith, lt))

pub backed_hit : (places : List (Option Breakpoint)) (old now : Standing) (undone n : ℕ) (hit : Option ℕ) → Backing places old now undone → undone < old.trail.depth → hit ≡ hit_at places now.trail (now.trail.depth - 1) → hit ≡ Some n
    → stop_at (undone + 1) (for.Break n) ≡ ran_back places old.trail old.trail.depth
backed_hit places old now undone n hit b lt is some =
    sym (back_total places old now undone hit b lt is
    ∙ ap (λ (o : Option ℕ). more_back undone (one_back o (ran_back places old.trail (old.trail.depth - (undone + 1))))) some
    ∙ of_steps (1 + undone) (undone + 1) (for.Break n) (omega arith))

pub backed_trail : (places : List (Option Breakpoint)) (old now new : Standing) (undone : ℕ) → Backing places old now undone → undone < old.trail.depth → new.trail ≡ gone_back now.trail (now.trail.depth - 1)
    → new.trail ≡ gone_back old.trail (old.trail.depth - (undone + 1))
backed_trail places old now new undone b lt back = back_trail old now new undone b.trail lt back

pub backed_start : (places : List (Option Breakpoint)) (old now : Standing) (undone : ℕ) → Backing places old now undone → old.trail.depth ≤ undone → stop_at old.trail.depth for.Start ≡ ran_back places old.trail old.trail.depth
backed_start places old now undone b all =
    let k : old.trail.depth - undone ≡ 0 = omega (arith, all) in
    sym (b.total ∙ ap (λ (n : ℕ). more_back undone (ran_back places old.trail n)) k ∙ of_steps (0 + undone) old.trail.depth for.Start (omega (arith, b.within, all)))

pub backed_whole : (places : List (Option Breakpoint)) (old now : Standing) (undone : ℕ) → Backing places old now undone → old.trail.depth ≤ undone → now.trail ≡ gone_back old.trail (old.trail.depth - old.trail.depth)
backed_whole places old now undone b all =
    let k : old.trail.depth - undone ≡ old.trail.depth - old.trail.depth = omega (arith, b.within, all) in b.trail ∙ ap (gone_back old.trail) k

pub ruleset backing = (backing_begins, backing_more, backing_some, backed_hit, backed_trail, backed_start, backed_whole)
