-- Steps that are taken back until a run would stop.
use Rattle.std.proofs.Common.{◌≡◌, ℕ, zero, suc, ◌+◌, ◌-◌, ◌<◌, ◌≤◌, Bool, true, false, ◌||◌, if◌then◌else◌, List, [], ◌∷◌, take, slice_get, Option, Some, None, is_some, refl, sym, ap, subst, ◌∙◌, arith}
use Rattle.mpd_model.specs.declared.breakpoint.Breakpoint.{Breakpoint}
use Rattle.mpd_model.specs.declared.decision.Decision.{Decision}
use Rattle.mpd_model.specs.declared.step.Step.{Step}
use Rattle.mpd_model.specs.steps.World.{World, start}
use Rattle.mpd_model.specs.steps.Next.{fold}
use Rattle.mpd_model.specs.runs.Breakpoints.{no_breaks}
use Rattle.mpd_model.specs.runs.Decisions.{decision}
use Rattle.mpd_model.specs.runs.Running.{hit_at, ran_back, world_at}
use Rattle.mpd_model.specs.runs.Trail.{Trail, Standing, IsReached, taken_back, gone_back, forgotten, world_of}
use Rattle.mpd_trail.specs.DebuggerViews.{AsFound}
use Rattle.mpd_policy.specs.Last.{hit_by, last_hit}
use Rattle.mpd_policy.proofs.LastLemmas.{last_there, last_at_start}
use Rattle.mpd_policy.proofs.NumberLemmas.{no_hit_at}
use Rattle.mpd_policy.proofs.PlaceLemmas.{nothing_used}
use Rattle.mpd_runs.specs.LastChoice.{is_choice, is_open, is_open_at, greatest_below, last_choice, is_hit_at, stops_at, stops_by, last_stop}

-- ---- whether a run would stop here

pub stopped_by : (hit : Option ℕ) (d : Decision) (b : Bool) → b ≡ is_some hit → b ≡ true → true ≡ stops_by hit d
stopped_by hit d b is some = ap (λ (c : Bool). c || is_choice d) (sym some ∙ is)

pub chosen_by : (hit : Option ℕ) (d e : Decision) (b c : Bool) → b ≡ is_some hit → b ≡ false → c ≡ is_choice e → e ≡ d → c ≡ stops_by hit d
chosen_by hit d e b c is none opened same = opened ∙ ap is_choice same ∙ ap (λ (f : Bool). f || is_choice d) (sym none ∙ is)

pub ruleset stopping = (stopped_by, chosen_by)

-- ---- where the steps taken back lead

-- So many steps were taken back, and a run would stop behind none that is left of those.
pub record Undoing (places : List (Option Breakpoint)) (t : Trail) (now : Standing) (undone : ℕ) : Type 0 where
  pub within : undone ≤ t.depth
  pub trail : now.trail ≡ gone_back t (t.depth - undone)
  pub total : last_stop places t ≡ greatest_below (stops_at places t) (t.depth - undone)
  pub reached : IsReached now

pub undoing_begins : (places : List (Option Breakpoint)) (now : Standing) → IsReached now → Undoing places now.trail now 0
undoing_begins places now reached =
    let k : now.trail.depth ≡ now.trail.depth - 0 = omega arith in
    record { within = omega arith; trail = ap (gone_back now.trail) k; total = ap (greatest_below (stops_at places now.trail)) k; reached = reached }

-- the last of these steps hits what a run back of one step would stop for
hit_is : (places : List (Option Breakpoint)) (t : Trail) (n : ℕ) → is_some (last_hit places (gone_back t n)) ≡ is_hit_at places t n
hit_is places t zero = ap is_some (sym (last_at_start places (gone_back t zero) refl))
hit_is places t (suc n) =
    let one : suc n - 1 ≡ n = omega arith in
    ap is_some (sym (last_there places (gone_back t (suc n)) (gone_back t (suc n)) (hit_at places (gone_back t (suc n)) (suc n - 1)) (omega arith) refl refl))
    ∙ ap (λ m. is_some (hit_at places t m)) one

-- one step was taken back
behind : (places : List (Option Breakpoint)) (t : Trail) (now new : Standing) (undone : ℕ) → Undoing places t now undone → undone < t.depth → new.trail ≡ taken_back now.trail → new.trail ≡ gone_back t (t.depth - (undone + 1))
behind places t now new undone h lt back =
    let k : (t.depth - undone) - 1 ≡ t.depth - (undone + 1) = omega (arith, lt) in
    back ∙ ap taken_back h.trail ∙ ap (gone_back t) k

-- whether a run would stop there is told by the last step that is left, and by the world
stop_is : (places : List (Option Breakpoint)) (t : Trail) (now new : Standing) (undone : ℕ) (b : Bool) → Undoing places t now undone → undone < t.depth → new.trail ≡ taken_back now.trail → IsReached new → b ≡ stops_by (last_hit places new.trail) (decision new.world)
    → stops_at places t (t.depth - (undone + 1)) ≡ b
stop_is places t now new undone b h lt back reached is =
    let m : ℕ = t.depth - (undone + 1) in
    let there : new.trail ≡ gone_back t m = behind places t now new undone h lt back in
    let hit : is_some (last_hit places new.trail) ≡ is_hit_at places t m = ap (λ (u : Trail). is_some (last_hit places u)) there ∙ hit_is places t m in
    let open_is : is_open_at t m ≡ is_choice (decision new.world) = ap is_open (sym (ap world_of there) ∙ reached.world) in
    sym (is ∙ ap (λ (c : Bool). c || is_choice (decision new.world)) hit ∙ ap (λ (c : Bool). is_hit_at places t m || c) (sym open_is))

below : (test : ℕ → Bool) (n m : ℕ) (b : Bool) → n ≡ suc m → test m ≡ b → greatest_below test n ≡ (if b then Some m else greatest_below test m)
below test n m b e is = ap (greatest_below test) e ∙ ap (λ (c : Bool). if c then Some m else greatest_below test m) is

pub undoing_more : (places : List (Option Breakpoint)) (t : Trail) (now new last : Standing) (undone : ℕ) (b : Bool) → Undoing places t now undone → undone < t.depth → new.trail ≡ taken_back now.trail → IsReached new → AsFound new last
    → b ≡ stops_by (last_hit places new.trail) (decision new.world) → b ≡ false → Undoing places t last (undone + 1)
undoing_more places t now new last undone b h lt back reached found is none = record {
  within = omega (arith, lt);
  trail = found.trail ∙ behind places t now new undone h lt back;
  total = h.total ∙ below (stops_at places t) (t.depth - undone) (t.depth - (undone + 1)) false (omega (arith, lt)) (stop_is places t now new undone b h lt back reached is ∙ none);
  reached = found.reached;
}

pub undone_to : (places : List (Option Breakpoint)) (t : Trail) (now new : Standing) (undone : ℕ) (b : Bool) → Undoing places t now undone → undone < t.depth → new.trail ≡ taken_back now.trail → IsReached new → b ≡ stops_by (last_hit places new.trail) (decision new.world) → b ≡ true
    → Some (t.depth - undone - 1) ≡ last_stop places t
undone_to places t now new undone b h lt back reached is some =
    let k : t.depth - (undone + 1) ≡ t.depth - undone - 1 = omega (arith, lt) in
    sym (h.total ∙ below (stops_at places t) (t.depth - undone) (t.depth - (undone + 1)) true (omega (arith, lt)) (stop_is places t now new undone b h lt back reached is ∙ some) ∙ ap Some k)

pub undone_all : (places : List (Option Breakpoint)) (t : Trail) (now : Standing) (undone : ℕ) → Undoing places t now undone → t.depth ≤ undone → None ≡ last_stop places t
undone_all places t now undone h all =
    let k : t.depth - undone ≡ 0 = omega (arith, all) in
    sym (h.total ∙ ap (greatest_below (stops_at places t)) k)

pub deep_enough : (places : List (Option Breakpoint)) (t : Trail) (now : Standing) (undone : ℕ) → Undoing places t now undone → undone < t.depth → 0 < now.trail.depth
deep_enough places t now undone h lt = subst (λ (u : Trail). 0 < u.depth) (sym h.trail) (omega (arith, lt))

-- ---- a copy

take_taken : (n d : ℕ) (xs : List Step) → n ≤ d → take n (take d xs) ≡ take n xs
take_taken zero d xs le = refl
take_taken (suc n) zero xs le = absurd (omega (arith, le))
take_taken (suc n) (suc d) [] le = refl
take_taken (suc n) (suc d) (x ∷ xs) le = ap (λ ys. x ∷ ys) (take_taken n d xs (omega (arith, le)))

same_hit : (places : List (Option Breakpoint)) (t : Trail) (n : ℕ) → n ≤ t.depth → is_hit_at places (forgotten t) n ≡ is_hit_at places t n
same_hit places t n le =
    sym (hit_is places (forgotten t) n)
    ∙ ap (λ (xs : List Step). is_some (hit_by (ran_back places (record t { steps = xs; depth = n }) n))) (take_taken n t.depth t.steps le)
    ∙ hit_is places t n

same_stop : (places : List (Option Breakpoint)) (t : Trail) (n : ℕ) → n ≤ t.depth → stops_at places (forgotten t) n ≡ stops_at places t n
same_stop places t n le =
    ap (λ (c : Bool). c || is_open_at (forgotten t) n) (same_hit places t n le)
    ∙ ap (λ (xs : List Step). is_hit_at places t n || is_open (fold (start t.program t.mode) xs)) (take_taken n t.depth t.steps le)

same_below : (one other : ℕ → Bool) (n : ℕ) → ((m : ℕ) → m < n → one m ≡ other m) → greatest_below one n ≡ greatest_below other n
same_below one other zero same = refl
same_below one other (suc n) same =
    ap (λ (b : Bool). if b then Some n else greatest_below one n) (same n (omega arith))
    ∙ ap (λ (o : Option ℕ). if other n then Some n else o) (same_below one other n (λ m lt. same m (omega (arith, lt))))

pub copied_stop : (places : List (Option Breakpoint)) (t u : Trail) (o : Option ℕ) → u ≡ forgotten t → o ≡ last_stop places u → o ≡ last_stop places t
copied_stop places t u o e is = is ∙ ap (last_stop places) e ∙ same_below (stops_at places (forgotten t)) (stops_at places t) t.depth (λ m lt. same_stop places t m (omega (arith, lt)))

pub ruleset undoing = (undoing_begins, undoing_more, undone_to, undone_all, deep_enough, copied_stop)

-- ---- without breakpoints it is the last choice

none_hit : (t : Trail) (n : ℕ) → is_hit_at no_breaks t n ≡ false
none_hit t zero = refl
none_hit t (suc n) = ap is_some (sym (no_hit_at t.program no_breaks (λ m. nothing_used.free m (omega arith)) (world_at t n) (slice_get t.steps n) (world_at t (n + 1))))

pub choice_is : (places : List (Option Breakpoint)) (t : Trail) (o : Option ℕ) → places ≡ no_breaks → o ≡ last_stop places t → o ≡ last_choice t
choice_is places t o none is =
    is ∙ ap (λ p. last_stop p t) none
    ∙ same_below (stops_at no_breaks t) (is_open_at t) t.depth (λ m lt. ap (λ (c : Bool). c || is_open_at t m) (none_hit t m))

pub ruleset choosing = (choice_is)
