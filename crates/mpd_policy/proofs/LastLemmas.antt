-- What the last step hits: the first step of a run back says it, and with it taken again all is as found.
use Rattle.std.proofs.Common.{◌≡◌, ℕ, zero, suc, ◌+◌, ◌-◌, ◌<◌, ◌≤◌, ◌==◌, cond, Option, Some, None, List, [], ◌∷◌, length, take, slice_get, inl, inr, refl, sym, ap, ◌∙◌, arith}
use Rattle.std.proofs.lemmas.Bool.Decides.{eqb_tells}
use Rattle.mpd_model.specs.declared.step.Step.{Step}
use Rattle.mpd_model.specs.declared.breakpoint.Breakpoint.{Breakpoint}
use Rattle.mpd_model.specs.declared.breakpoint.Stop.{Stop}
use Rattle.mpd_model.specs.steps.World.{World, start}
use Rattle.mpd_model.specs.steps.Next.{fold}
use Rattle.mpd_model.specs.runs.Trail.{Trail, Standing, IsReached, gone_back, redone, forgotten}
use Rattle.mpd_model.specs.runs.Breakpoints.{break_at}
use Rattle.mpd_model.specs.runs.Running.{world_at, hit_of, hit_at, one_back, ran_back}
use Rattle.mpd_trail.specs.DebuggerViews.{AsFound}
use Rattle.mpd_policy.specs.Last.{cause_number, hit_by, last_hit}
use Rattle.mpd_policy.proofs.NumberLemmas.{no_hit_at}
use Rattle.mpd_policy.proofs.RunLemmas.{take_less, back_world}

-- ---- what is undone doesn't matter

pub get_lower : (i n : ℕ) (xs : List Step) → i < n → slice_get (take n xs) i ≡ slice_get xs i
get_lower i zero xs lt = absurd (omega (arith, lt))
get_lower i (suc n) [] lt = refl
get_lower zero (suc n) (x ∷ xs) lt = refl
get_lower (suc i) (suc n) (x ∷ xs) lt = get_lower i n xs (omega (arith, lt))

world_there : (t : Trail) (n : ℕ) → n ≤ t.depth → world_at (forgotten t) n ≡ world_at t n
world_there t n le = ap (fold (start t.program t.mode)) (take_less n t.depth t.steps le)

hit_there : (places : List (Option Breakpoint)) (t : Trail) (n : ℕ) → n < t.depth → hit_at places (forgotten t) n ≡ hit_at places t n
hit_there places t n lt =
    ap (λ (o : Option World). hit_of t.program places o (slice_get (take t.depth t.steps) n) (world_at (forgotten t) (n + 1))) (world_there t n (omega (arith, lt)))
    ∙ ap (λ (o : Option Step). hit_of t.program places (world_at t n) o (world_at (forgotten t) (n + 1))) (get_lower n t.depth t.steps lt)
    ∙ ap (λ (o : Option World). hit_of t.program places (world_at t n) (slice_get t.steps n) o) (world_there t (n + 1) (omega (arith, lt)))

-- ---- one step of a run back

one_more : (hit : Option ℕ) (more : Stop) → 0 < (one_back hit more).steps
one_more (Some k) more = omega arith
one_more None more = omega arith

not_first : (n : ℕ) (o : Option ℕ) → 0 < n → cond (n + 1 == 1) o None ≡ None
not_first n o some = elim (eqb_tells (n + 1) 1) [
  | inl t ↦ absurd (omega (arith, some, t.1))
  | inr t ↦ ap (λ b. cond b o None) t.0
]

-- a run back that goes on stops elsewhere
goes_on : (places : List (Option Breakpoint)) (t : Trail) (n : ℕ) → hit_by (one_back None (ran_back places t n)) ≡ None
goes_on places t zero = refl
goes_on places t (suc n) =
    let more : Stop = ran_back places t (suc n) in
    not_first more.steps (cause_number more.cause) (one_more (hit_at places t n) (ran_back places t n))

first_is : (places : List (Option Breakpoint)) (t : Trail) (n : ℕ) (hit : Option ℕ) → hit_by (one_back hit (ran_back places t n)) ≡ hit
first_is places t n (Some k) = refl
first_is places t n None = goes_on places t n

-- ---- the last step

last_is : (places : List (Option Breakpoint)) (t : Trail) → 0 < t.depth → last_hit places t ≡ hit_at places t (t.depth - 1)
last_is places t some =
    let n : ℕ = t.depth - 1 in
    let k : t.depth ≡ suc n = omega (arith, some) in
    ap (λ m. hit_by (ran_back places (forgotten t) m)) k
    ∙ first_is places (forgotten t) n (hit_at places (forgotten t) n)
    ∙ hit_there places t n (omega (arith, some))

pub last_there : (places : List (Option Breakpoint)) (t u : Trail) (hit : Option ℕ) → 0 < t.depth → u ≡ t → hit ≡ hit_at places u (u.depth - 1) → hit ≡ last_hit places t
last_there places t u hit some same is = is ∙ ap (λ (v : Trail). hit_at places v (v.depth - 1)) same ∙ sym (last_is places t some)

pub last_at_start : (places : List (Option Breakpoint)) (t : Trail) → t.depth ≡ 0 → None ≡ last_hit places t
last_at_start places t none_taken = sym (ap (λ m. hit_by (ran_back places (forgotten t) m)) none_taken)

pub last_unset : (places : List (Option Breakpoint)) (t : Trail) → 0 < t.depth → ((n : ℕ) → break_at places n ≡ None) → None ≡ last_hit places t
last_unset places t some free =
    last_there places t t None some refl (no_hit_at t.program places free (world_at t (t.depth - 1)) (slice_get t.steps (t.depth - 1)) (world_at t ((t.depth - 1) + 1)))

-- ---- back, and again

pub back_again : (t u v : Trail) → 0 < t.depth → u ≡ gone_back t (t.depth - 1) → v ≡ redone u → v ≡ t
back_again t u v some back again = again ∙ ap redone back ∙ ap (gone_back t) (let k : (t.depth - 1) + 1 ≡ t.depth = omega (arith, some) in k)

pub found_again : (old mid new : Standing) → 0 < old.trail.depth → IsReached old → mid.trail ≡ gone_back old.trail (old.trail.depth - 1) → new.trail ≡ redone mid.trail → IsReached new → AsFound old new
found_again old mid new some r back again q =
    let same : new.trail ≡ old.trail = back_again old.trail mid.trail new.trail some back again in
    record { trail = same; world = back_world old new r q same; reached = q }

pub undone_there : (t u : Trail) → 0 < t.depth → t.depth ≤ length t.steps → u ≡ gone_back t (t.depth - 1) → u.depth < length u.steps
undone_there t u some within back =
    let d : u.depth ≡ t.depth - 1 = ap (λ (x : Trail). x.depth) back in
    let s : length u.steps ≡ length t.steps = ap (λ (x : Trail). length x.steps) back in
    omega (arith, some, within, d, s)

pub found_on : (old mid new : Standing) → AsFound old mid → AsFound mid new → AsFound old new
found_on old mid new f g = record { trail = g.trail ∙ f.trail; world = g.world ∙ f.world; reached = g.reached }

pub ruleset turning = (found_again, undone_there)

pub ruleset lasting = (last_there, last_at_start, last_unset, found_on)
