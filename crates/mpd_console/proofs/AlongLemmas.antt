-- How far a copy of a debugger goes along the steps ahead, and why no further.
use Rattle.std.proofs.Common.{◌≡◌, ℕ, zero, suc, ◌+◌, ◌-◌, ◌<◌, ◌≤◌, Bool, true, false, ◌||◌, List, length, Option, Some, None, is_some, refl, sym, ap, ◌∙◌, arith}
use Rattle.mpd_model.specs.declared.breakpoint.Breakpoint.{Breakpoint}
use Rattle.mpd_model.specs.declared.step.Step.{Step}
use Rattle.mpd_model.specs.steps.World.{World}
use Rattle.mpd_model.specs.runs.Decisions.{decision}
use Rattle.mpd_model.specs.runs.Running.{world_at, hit_at}
use Rattle.mpd_model.specs.runs.Trail.{Trail, Standing, IsReached, redone, gone_back, world_of}
use Rattle.mpd_trail.specs.DebuggerViews.{AsFound}
use Rattle.mpd_policy.specs.Last.{last_hit}
use Rattle.mpd_policy.specs.Single.{only_step}
use Rattle.mpd_policy.proofs.LastLemmas.{last_there, last_at_start, found_on}
use Rattle.mpd_policy.proofs.NumberLemmas.{number_from, number_on, number_now, number_over}
use Rattle.mpd_runs.specs.LastChoice.{is_choice, is_open, is_open_at, is_hit_at}
use Rattle.mpd_vocabulary.specs.declared.word.Word.{Word}
use Rattle.mpd_console.specs.declared.along.Along.{Along}
use Rattle.mpd_console.specs.declared.along.Goal.{Goal}
use Rattle.mpd_console.specs.declared.along.Goal.TheVariants.{Steps, Hit, Freed}
use Rattle.mpd_console.specs.declared.told.Stopped.{Stopped}
use Rattle.mpd_console.specs.Onward.{alone}
use Rattle.mpd_console.specs.Along.{is_asked_at, is_choice_at, halts_at, first_halt, or_end, end_along, hit_behind, only_at, stopped_short, stopped_by, stopped_along, along_of}

-- ---- the last step

hit_by_depth : (places : List (Option Breakpoint)) (t : Trail) (n : ℕ) → t.depth ≡ n → last_hit places t ≡ hit_behind places t n
hit_by_depth places t zero e = sym (last_at_start places t e)
hit_by_depth places t (suc n) e =
    let one : t.depth - 1 ≡ n = omega (arith, e) in
    sym (last_there places t t (hit_at places t (t.depth - 1)) (omega (arith, e)) refl refl) ∙ ap (hit_at places t) one

hit_is : (places : List (Option Breakpoint)) (t : Trail) → last_hit places t ≡ hit_behind places t t.depth
hit_is places t = hit_by_depth places t t.depth refl

hits_some : (places : List (Option Breakpoint)) (t : Trail) (n : ℕ) → is_some (hit_behind places t n) ≡ is_hit_at places t n
hits_some places t zero = refl
hits_some places t (suc n) = refl

pub hit_told : (places : List (Option Breakpoint)) (t : Trail) (hit : Option ℕ) (b : Bool) → hit ≡ last_hit places t → b ≡ is_some hit → b ≡ is_hit_at places t t.depth
hit_told places t hit b is e = e ∙ ap is_some (is ∙ hit_is places t) ∙ hits_some places t t.depth

pub open_told : (t : Trail) (w v : World) (b : Bool) → world_of t ≡ Some w → v ≡ w → b ≡ is_choice (decision v) → b ≡ is_open_at t t.depth
open_told t w v b there same is = is ∙ ap (λ x. is_choice (decision x)) same ∙ ap is_open (sym there)

pub ruleset stopping = (hit_told, open_told)

-- ---- whether it stops here

pub halted_hit : (places : List (Option Breakpoint)) (g : Goal) (begun : ℕ) (t : Trail) (b : Bool) → b ≡ is_hit_at places t t.depth → b ≡ true → true ≡ halts_at places g begun t t.depth
halted_hit places g begun t b is hit = ap (λ (c : Bool). c || (is_asked_at g begun t t.depth || is_choice_at g t t.depth)) (sym hit ∙ is)

rest_by : (places : List (Option Breakpoint)) (g : Goal) (begun : ℕ) (t : Trail) (b : Bool) → b ≡ is_hit_at places t t.depth → b ≡ false → (is_asked_at g begun t t.depth || is_choice_at g t t.depth) ≡ halts_at places g begun t t.depth
rest_by places g begun t b is none = ap (λ (c : Bool). c || (is_asked_at g begun t t.depth || is_choice_at g t t.depth)) (sym none ∙ is)

asked_at : (g : Goal) (begun : ℕ) (t u : Trail) → u ≡ t → is_asked_at g begun u u.depth ≡ is_asked_at g begun t t.depth
asked_at g begun t u e = ap (λ (x : Trail). is_asked_at g begun x x.depth) e

pub halted_asked : (places : List (Option Breakpoint)) (g : Goal) (begun : ℕ) (t u : Trail) (b c : Bool) → b ≡ is_hit_at places t t.depth → b ≡ false → u ≡ t → c ≡ is_asked_at g begun u u.depth → c ≡ true → true ≡ halts_at places g begun t t.depth
halted_asked places g begun t u b c is none same asked hit =
    ap (λ (d : Bool). d || is_choice_at g t t.depth) (sym hit ∙ asked ∙ asked_at g begun t u same) ∙ rest_by places g begun t b is none

pub halted_choice : (places : List (Option Breakpoint)) (g : Goal) (begun : ℕ) (t u v : Trail) (b c d : Bool) → b ≡ is_hit_at places t t.depth → b ≡ false → u ≡ t → c ≡ is_asked_at g begun u u.depth → c ≡ false → v ≡ u → d ≡ is_choice_at g v v.depth
    → d ≡ halts_at places g begun t t.depth
halted_choice places g begun t u v b c d is none same asked hit there chosen =
    chosen ∙ ap (λ (x : Trail). is_choice_at g x x.depth) (there ∙ same)
    ∙ ap (λ (e : Bool). e || is_choice_at g t t.depth) (sym hit ∙ asked ∙ asked_at g begun t u same)
    ∙ rest_by places g begun t b is none

pub ruleset halting = (halted_hit, halted_asked, halted_choice, found_on)

-- ---- where a trail stands doesn't matter

hit_same : (places : List (Option Breakpoint)) (t : Trail) (m n : ℕ) → is_hit_at places (gone_back t m) n ≡ is_hit_at places t n
hit_same places t m zero = refl
hit_same places t m (suc n) = refl

asked_same : (g : Goal) (begun : ℕ) (t : Trail) (m n : ℕ) → is_asked_at g begun (gone_back t m) n ≡ is_asked_at g begun t n
asked_same (Steps count) begun t m n = refl
asked_same (Hit b) begun t m n = hit_same (alone b) t m n
asked_same (Freed p) begun t m n = refl

choice_same : (g : Goal) (t : Trail) (m n : ℕ) → is_choice_at g (gone_back t m) n ≡ is_choice_at g t n
choice_same (Steps count) t m n = refl
choice_same (Hit b) t m n = refl
choice_same (Freed p) t m n = refl

halts_same : (places : List (Option Breakpoint)) (g : Goal) (begun : ℕ) (t : Trail) (m n : ℕ) → halts_at places g begun (gone_back t m) n ≡ halts_at places g begun t n
halts_same places g begun t m n =
    ap (λ (c : Bool). c || (is_asked_at g begun (gone_back t m) n || is_choice_at g (gone_back t m) n)) (hit_same places t m n)
    ∙ ap (λ (c : Bool). is_hit_at places t n || (c || is_choice_at g (gone_back t m) n)) (asked_same g begun t m n)
    ∙ ap (λ (c : Bool). is_hit_at places t n || (is_asked_at g begun t n || c)) (choice_same g t m n)

behind_same : (places : List (Option Breakpoint)) (t : Trail) (m n : ℕ) → hit_behind places (gone_back t m) n ≡ hit_behind places t n
behind_same places t m zero = refl
behind_same places t m (suc n) = refl

-- ---- along the steps ahead

-- It has come to a depth, and it stops at none before that; the first at which it does is among those that follow.
pub record Going (places : List (Option Breakpoint)) (g : Goal) (t : Trail) (now : Standing) (n : ℕ) : Type 0 where
  pub within : n ≤ length t.steps
  pub trail : now.trail ≡ gone_back t n
  pub reached : IsReached now
  pub total : number_from (halts_at places g t.depth t) (n + 1) (length t.steps - n) ≡ first_halt places g t

pub going_begins : (places : List (Option Breakpoint)) (g : Goal) (now : Standing) → IsReached now → Going places g now.trail now now.trail.depth
going_begins places g now r = record { within = r.within; trail = refl; reached = r; total = refl }

left_more : (i n : ℕ) → (n + 1) - (i + 1) ≡ n - i
left_more i n = omega arith

-- one step more
stands : (places : List (Option Breakpoint)) (g : Goal) (t : Trail) (now mid : Standing) (n : ℕ) → Going places g t now n → mid.trail ≡ redone now.trail → mid.trail ≡ gone_back t (n + 1)
stands places g t now mid n h again = again ∙ ap redone h.trail

halts_there : (places : List (Option Breakpoint)) (g : Goal) (t : Trail) (now mid : Standing) (n : ℕ) (b : Bool) → Going places g t now n → mid.trail ≡ redone now.trail → b ≡ halts_at places g t.depth mid.trail mid.trail.depth → b ≡ halts_at places g t.depth t (n + 1)
halts_there places g t now mid n b h again is =
    is ∙ ap (λ (x : Trail). halts_at places g t.depth x x.depth) (stands places g t now mid n h again) ∙ halts_same places g t.depth t (n + 1) (n + 1)

begun_at : (places : List (Option Breakpoint)) (g : Goal) (t : Trail) (now : Standing) (n : ℕ) → Going places g t now n → number_from (halts_at places g t.depth t) (n + 1) ((length t.steps + 1) - (n + 1)) ≡ first_halt places g t
begun_at places g t now n h = ap (number_from (halts_at places g t.depth t) (n + 1)) (left_more n (length t.steps)) ∙ h.total

pub going_more : (places : List (Option Breakpoint)) (g : Goal) (t : Trail) (now mid new : Standing) (begun n : ℕ) (b : Bool) → Going places g t now n → n < length t.steps → begun ≡ t.depth → mid.trail ≡ redone now.trail → AsFound mid new
    → b ≡ halts_at places g begun mid.trail mid.trail.depth → b ≡ false → Going places g t new (n + 1)
going_more places g t now mid new begun n b h lt from again found is none =
    let there : b ≡ halts_at places g t.depth t (n + 1) = halts_there places g t now mid n b h again (is ∙ ap (λ m. halts_at places g m mid.trail mid.trail.depth) from) in
    let le : n + 1 < length t.steps + 1 = omega (arith, lt) in
    record {
      within = omega (arith, lt);
      trail = found.trail ∙ stands places g t now mid n h again;
      reached = found.reached;
      total = ap (number_from (halts_at places g t.depth t) (n + 1 + 1)) (sym (left_more (n + 1) (length t.steps))) ∙ number_on (halts_at places g t.depth t) (n + 1) (length t.steps + 1) (first_halt places g t) le (begun_at places g t now n h) (sym there ∙ none);
    }

pub gone_to_halt : (places : List (Option Breakpoint)) (g : Goal) (t : Trail) (now mid new : Standing) (begun n : ℕ) (b : Bool) → Going places g t now n → n < length t.steps → begun ≡ t.depth → mid.trail ≡ redone now.trail → AsFound mid new
    → b ≡ halts_at places g begun mid.trail mid.trail.depth → b ≡ true → new.trail ≡ gone_back t (end_along places g t)
unfolding end_along
gone_to_halt places g t now mid new begun n b h lt from again found is hit =
    let there : b ≡ halts_at places g t.depth t (n + 1) = halts_there places g t now mid n b h again (is ∙ ap (λ m. halts_at places g m mid.trail mid.trail.depth) from) in
    let le : n + 1 < length t.steps + 1 = omega (arith, lt) in
    let first : Some (n + 1) ≡ first_halt places g t = number_now (halts_at places g t.depth t) (n + 1) (length t.steps + 1) (first_halt places g t) le (begun_at places g t now n h) (sym there ∙ hit) in
    found.trail ∙ stands places g t now mid n h again ∙ ap (λ o. gone_back t (or_end (length t.steps) o)) first

pub gone_to_end : (places : List (Option Breakpoint)) (g : Goal) (t : Trail) (now : Standing) (n : ℕ) → Going places g t now n → length t.steps ≤ n → now.trail ≡ gone_back t (end_along places g t)
unfolding end_along
gone_to_end places g t now n h all =
    let over : length t.steps + 1 ≤ n + 1 = omega (arith, all) in
    let whole : n ≡ length t.steps = omega (arith, all, h.within) in
    let none : None ≡ first_halt places g t = number_over (halts_at places g t.depth t) (n + 1) (length t.steps + 1) (first_halt places g t) over (begun_at places g t now n h) in
    h.trail ∙ ap (gone_back t) whole ∙ ap (λ o. gone_back t (or_end (length t.steps) o)) none

pub ruleset going = (going_begins, going_more, gone_to_halt, gone_to_end)

-- ---- why no further

pub told_so : (places : List (Option Breakpoint)) (x : Word) (g : Goal) (begun : ℕ) (t u : Trail) (w v : World) (hit : Option ℕ) (c : Bool) (only : Option Step) (s : Stopped) → hit ≡ last_hit places t → u ≡ t → c ≡ is_asked_at g begun u u.depth
    → world_of t ≡ Some w → v ≡ w → only ≡ only_step v → s ≡ stopped_by places hit (stopped_short x c only) → s ≡ stopped_along places x g begun t t.depth
told_so places x g begun t u w v hit c only s is same asked there at comes e =
    e ∙ ap (λ o. stopped_by places o (stopped_short x c only)) (is ∙ hit_is places t)
    ∙ ap (λ (b : Bool). stopped_by places (hit_behind places t t.depth) (stopped_short x b only)) (asked ∙ asked_at g begun t u same)
    ∙ ap (λ o. stopped_by places (hit_behind places t t.depth) (stopped_short x (is_asked_at g begun t t.depth) o)) (comes ∙ ap only_step at ∙ ap only_at (sym there))

pub ruleset telling = (told_so, found_on)

-- ---- both

along_same : (places : List (Option Breakpoint)) (x : Word) (g : Goal) (begun : ℕ) (t : Trail) (n : ℕ) → stopped_along places x g begun (gone_back t n) n ≡ stopped_along places x g begun t n
along_same places x g begun t n =
    ap (λ (b : Bool). stopped_by places (hit_behind places (gone_back t n) n) (stopped_short x b (only_at (world_at t n)))) (asked_same g begun t n n)
    ∙ ap (λ o. stopped_by places o (stopped_short x (is_asked_at g begun t n) (only_at (world_at t n)))) (behind_same places t n n)

pub along_is : (places : List (Option Breakpoint)) (x : Word) (g : Goal) (begun steps : ℕ) (t u : Trail) (s : Stopped) (a : Along) → begun ≡ t.depth → u ≡ gone_back t (end_along places g t) → steps ≡ u.depth - begun → s ≡ stopped_along places x g begun u u.depth
    → a ≡ record { steps = steps; stopped = s } → a ≡ along_of places x g t
along_is places x g begun steps t u s a from gone took why is =
    let n : ℕ = end_along places g t in
    let count : steps ≡ n - t.depth = took ∙ ap (λ (y : Trail). y.depth - begun) gone ∙ ap (λ m. n - m) from in
    let told : s ≡ stopped_along places x g t.depth t n =
    why ∙ ap (λ (y : Trail). stopped_along places x g begun y y.depth) gone ∙ ap (λ m. stopped_along places x g m (gone_back t n) n) from ∙ along_same places x g t.depth t n in
    is ∙ ap (λ m. record { steps = m; stopped = s }) count ∙ ap (λ y. record { steps = n - t.depth; stopped = y }) told

pub ruleset ending = (along_is, found_on)
