-- How far a copy of a debugger runs on.
use Rattle.std.proofs.Common.{◌≡◌, ℕ, suc, ◌-◌, ◌+◌, ◌<◌, ◌≤◌, Bool, true, false, if◌then◌else◌, List, [], ◌∷◌, length, drop, get_or, slice_set, Option, Some, IfSome, refl, sym, ap, subst, ◌∙◌, arith}
use Rattle.std.proofs.lemmas.Option.{slice_get_read}
use Rattle.std.specs.List.{position}
use Rattle.mpd_model.specs.declared.limits.TheConstants.{STEPS_MAX}
use Rattle.mpd_model.specs.declared.breakpoint.Stop.{Stop}
use Rattle.mpd_model.specs.declared.step.Step.{Step}
use Rattle.mpd_model.specs.steps.World.{World}
use Rattle.mpd_model.specs.runs.Running.{all_applied, stop_of}
use Rattle.mpd_model.specs.runs.Trail.{Trail, forgotten, applied}
use Rattle.mpd_policy.specs.Single.{ran_on}
use Rattle.mpd_model.specs.declared.breakpoint.Breakpoint.{Breakpoint}
use Rattle.mpd_model.specs.runs.Breakpoints.{no_breaks, lowest_free}
use Rattle.mpd_console.specs.Onward.{alone, frees, is_local_of, is_local_at, depth_before, steps_by, steps_to, steps_to_wake, steps_with}

-- A breakpoint that was set where there was none is the only one.
first_is_free : lowest_free no_breaks ≡ Some 0
first_is_free = refl

-- the lowest place of none that are taken is the first
pub added_alone : (b : Breakpoint) (places all : List (Option Breakpoint)) (number : Option ℕ) → places ≡ no_breaks → number ≡ lowest_free places → IfSome number (λ k. all ≡ slice_set places k (Some b)) → all ≡ alone b
added_alone b places all number none is set =
    let first : number ≡ Some 0 = is ∙ ap lowest_free none ∙ first_is_free in
    subst (λ o. IfSome o (λ k. all ≡ slice_set places k (Some b))) first set ∙ ap (λ p. slice_set p 0 (Some b)) none

pub stop_is : (t u : Trail) (w v : World) (b : List (Option Breakpoint)) (c : Breakpoint) (k : ℕ) (s : Stop) → u ≡ forgotten t → v ≡ w → b ≡ alone c → s ≡ stop_of (ran_on u.program b STEPS_MAX u.depth v) → k ≡ steps_by s → k ≡ steps_to t w c
unfolding steps_to
stop_is t u w v b c k s copied there only ran e =
    e ∙ ap steps_by
    (ran ∙ ap (λ (x : Trail). stop_of (ran_on x.program b STEPS_MAX x.depth v)) copied ∙ ap (λ x. stop_of (ran_on t.program b STEPS_MAX t.depth x)) there
    ∙ ap (λ x. stop_of (ran_on t.program x STEPS_MAX t.depth w)) only)

pub wake_is : (t u after : Trail) (w v : World) (b : List (Option Breakpoint)) (p k : ℕ) (since : List Step) → u ≡ forgotten t → v ≡ w → b ≡ no_breaks → after ≡ all_applied u (ran_on u.program b STEPS_MAX u.depth v).steps → since ≡ drop t.depth after.steps → k ≡ steps_with (position (frees p) since)
    → k ≡ steps_to_wake t w p
unfolding steps_to_wake
wake_is t u after w v b p k since copied there none ran cut e =
    e ∙ ap (λ (xs : List Step). steps_with (position (frees p) xs))
    (cut ∙ ap (λ (x : Trail). drop t.depth x.steps)
    (ran ∙ ap (λ (x : Trail). all_applied x (ran_on x.program b STEPS_MAX x.depth v).steps) copied ∙ ap (λ x. all_applied (forgotten t) (ran_on t.program b STEPS_MAX t.depth x).steps) there
    ∙ ap (λ x. all_applied (forgotten t) (ran_on t.program x STEPS_MAX t.depth w).steps) none))

-- ---- a copy that has run on

-- as deep as it was, or deeper
deeper : (t : Trail) (steps : List Step) → t.depth ≤ (all_applied t steps).depth
deeper t [] = omega arith
deeper t (a ∷ steps) = omega (arith, deeper (applied t a) steps)

pub is_there : (t : Trail) (u : Trail) (n : ℕ) (steps : List Step) → n ≡ t.depth → u ≡ all_applied t steps → u.depth ≤ length u.steps → n ≤ length u.steps
is_there t u n steps begun is within = omega (arith, begun, ap (λ (x : Trail). x.depth) is, deeper t steps, within)

-- ---- back to before the last local step of a rank

pub local_begins : (p : ℕ) (steps : List Step) (depth : ℕ) → depth_before p steps (depth - 0) ≡ depth_before p steps depth
local_begins p steps depth = let k : depth - 0 ≡ depth = omega arith in ap (depth_before p steps) k

local_by : (p : ℕ) (steps : List Step) (n m : ℕ) (a : Step) (found : Bool) → n ≡ suc m → m < length steps → a ≡ get_or steps m a → found ≡ is_local_of p a → depth_before p steps n ≡ (if found then m else depth_before p steps m)
local_by p steps n m a found e within read is =
    ap (depth_before p steps) e ∙ ap (λ (o : Option Step). if is_local_at p o then m else depth_before p steps m) (slice_get_read steps (length steps) m a refl within read)
    ∙ ap (λ (b : Bool). if b then m else depth_before p steps m) (sym is)

pub local_here : (p : ℕ) (steps : List Step) (depth undone place : ℕ) (a : Step) (found : Bool) → undone < depth → depth ≤ length steps → place ≡ depth - undone - 1 → a ≡ get_or steps place a → found ≡ is_local_of p a → found ≡ true
    → depth_before p steps (depth - undone) ≡ depth_before p steps depth → place ≡ depth_before p steps depth
local_here p steps depth undone place a found lt within at read is some total =
    let k : depth - undone ≡ suc place = omega (arith, lt, at) in
    let there : place < length steps = omega (arith, lt, within, at) in
    ap (λ (b : Bool). if b then place else depth_before p steps place) (sym some) ∙ sym (local_by p steps (depth - undone) place a found k there read is) ∙ total

pub local_more : (p : ℕ) (steps : List Step) (depth undone place : ℕ) (a : Step) (found : Bool) → undone < depth → depth ≤ length steps → place ≡ depth - undone - 1 → a ≡ get_or steps place a → found ≡ is_local_of p a → found ≡ false
    → depth_before p steps (depth - undone) ≡ depth_before p steps depth → depth_before p steps (depth - (undone + 1)) ≡ depth_before p steps depth
local_more p steps depth undone place a found lt within at read is none total =
    let k : depth - undone ≡ suc place = omega (arith, lt, at) in
    let next : depth - (undone + 1) ≡ place = omega (arith, lt, at) in
    let there : place < length steps = omega (arith, lt, within, at) in
    ap (depth_before p steps) next ∙ ap (λ (b : Bool). if b then place else depth_before p steps place) (sym none) ∙ sym (local_by p steps (depth - undone) place a found k there read is) ∙ total

pub local_none : (p : ℕ) (steps : List Step) (depth undone : ℕ) → depth ≤ undone → depth_before p steps (depth - undone) ≡ depth_before p steps depth → 0 ≡ depth_before p steps depth
local_none p steps depth undone all total = let k : depth - undone ≡ 0 = omega (arith, all) in ap (depth_before p steps) (sym k) ∙ total

pub ruleset seeking_local = (local_begins, local_here, local_more, local_none)
