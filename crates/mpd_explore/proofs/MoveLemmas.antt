-- What each move of a search makes of the runs to come, and of how many states are.
use Rattle.std.proofs.Common.{◌≡◌, ℕ, zero, suc, ◌<◌, ◌≤◌, ◌+◌, ◌-◌, Bool, false, List, [], ◌∷◌, ◌++◌, length, take, drop, map, get_or, slice_get, Option, Some, option_and_then, refl, sym, ap, ◌∙◌, arith, append_assoc}
use Rattle.std.specs.List.{list_any}
use Rattle.std.proofs.lemmas.List.{length-append, length-take, take-append-le, drop_all}
use Rattle.std.proofs.lemmas.Option.{slice_get_within, get_or_from_slice_get}
use Rattle.std.proofs.Math.Seq.{take-append_seam}
use Rattle.mpd_model.specs.declared.outcome.Outcome.{Outcome}
use Rattle.mpd_model.specs.declared.step.Step.{Step}
use Rattle.mpd_model.specs.declared.decision.Decision.{Decision}
use Rattle.mpd_model.specs.declared.decision.Decision.TheVariants.{Forced, Choice, Leaf}
use Rattle.mpd_model.specs.steps.World.{World}
use Rattle.mpd_model.specs.steps.Next.{next, fold}
use Rattle.mpd_trail.proofs.KeptLemmas.{fold-append}
use Rattle.mpd_policy.specs.Walk.{Run, stepped, chosen, prefixed, runs_of, stopped}
use Rattle.mpd_explore.specs.Sleeping.{branches_by, followed_by, awake_by, put_off}
use Rattle.mpd_explore.specs.declared.search.Open.{Open}
use Rattle.mpd_explore.specs.Asleep.{Skips}
use Rattle.mpd_explore.specs.States.{states_of, states_by, states}
use Rattle.mpd_explore.specs.Search.{Search, picked, runs_from, branches_from, others, later, to_come, to_choose, states_beside, states_later, states_to_come, states_to_choose, AllEnabled, Stands}
use Rattle.mpd_explore.proofs.RunLemmas.{map_stepped, map_chosen, map_join}
use Rattle.mpd_explore.proofs.ListLemmas.{drop_at}
use Rattle.mpd_explore.proofs.AsleepLemmas.{branch_awake}
use Rattle.mpd_explore.proofs.StateLemmas.{states_is, some_states, states_fewer, states_split}

-- ---- the walk, by what comes next

pub awake_is : (decide : World → Decision) (same : Step → Step → Bool) (keeps : World → Step → List Step → List Step) (sleeps : Bool) (n : ℕ) (asleep : List Step) (w : World) (d : Decision) → decide w ≡ d
    → awake_by decide same keeps sleeps (suc n) asleep w ≡ followed_by same keeps sleeps (awake_by decide same keeps sleeps n) asleep w d
unfolding awake_by
awake_is decide same keeps sleeps n asleep w d h = ap (followed_by same keeps sleeps (awake_by decide same keeps sleeps n) asleep w) h

runs_is : (s : Search) (n : ℕ) (asleep : List Step) (w : World) (d : Decision) → s.decides w ≡ d → runs_from s (suc n) asleep w ≡ followed_by s.same s.keeps s.sleeps (runs_from s n) asleep w d
runs_is s n asleep w d h = awake_is s.decides s.same s.keeps s.sleeps n asleep w d h

pub runs_empty : (s : Search) (asleep : List Step) (w : World) → runs_from s zero asleep w ≡ stopped (s.decides w)
unfolding awake_by
runs_empty s asleep w = refl

fuel_left : (s : Search) (path : List Step) → length path < s.limit → s.limit - length path ≡ suc (s.limit - suc (length path))
fuel_left s path room = omega (arith, room)

-- with fuel left
runs_here : (s : Search) (path asleep : List Step) (w : World) (d : Decision) → length path < s.limit → s.decides w ≡ d → runs_from s (s.limit - length path) asleep w ≡ followed_by s.same s.keeps s.sleeps (runs_from s (s.limit - suc (length path))) asleep w d
runs_here s path asleep w d room is = ap (λ (n : ℕ). runs_from s n asleep w) (fuel_left s path room) ∙ runs_is s (s.limit - suc (length path)) asleep w d is

states_now : (s : Search) (path : List Step) (w : World) → length path < s.limit → states s.decides (s.limit - length path) w ≡ states s.decides (suc (s.limit - suc (length path))) w
states_now s path w room = ap (λ (n : ℕ). states s.decides n w) (fuel_left s path room)

-- ---- a longer path

take_pushed : (n : ℕ) (path : List Step) (a : Step) → n ≤ length path → take n (path ++ a ∷ []) ≡ take n path
take_pushed n path a h = take-append-le n path (a ∷ []) h

pub stands_pushed : (s : Search) (fs : List Open) (path : List Step) (a : Step) → Stands s fs path → Stands s fs (path ++ a ∷ [])
stands_pushed s [] path a h = omega (arith, length-append path (a ∷ []), h)
stands_pushed s (f ∷ fs) path a h =
    let e : take f.depth (path ++ a ∷ []) ≡ take f.depth path = take_pushed f.depth path a (omega (arith, h.0)) in
    (omega (arith, length-append path (a ∷ []), h.0), h.1, h.2, rw e h.3, rw e h.4)

later_pushed : (s : Search) (fs : List Open) (path : List Step) (a : Step) → Stands s fs path → later s fs (path ++ a ∷ []) ≡ later s fs path
later_pushed s [] path a h = refl
later_pushed s (f ∷ fs) path a h =
    let e : take f.depth (path ++ a ∷ []) ≡ take f.depth path = take_pushed f.depth path a (omega (arith, h.0)) in
    ap (λ (p : List Step). map (prefixed (picked fs) p) (others s (fold s.first p) f) ++ later s fs p) e

states_pushed : (s : Search) (fs : List Open) (path : List Step) (a : Step) → Stands s fs path → states_later s fs (path ++ a ∷ []) ≡ states_later s fs path
states_pushed s [] path a h = refl
states_pushed s (f ∷ fs) path a h =
    let e : take f.depth (path ++ a ∷ []) ≡ take f.depth path = take_pushed f.depth path a (omega (arith, h.0)) in
    ap (λ (p : List Step). states_beside s (fold s.first p) f + states_later s fs p) e

fuel_pushed : (s : Search) (path : List Step) (a : Step) → s.limit - length (path ++ a ∷ []) ≡ s.limit - suc (length path)
fuel_pushed s path a = let long = length-append path (a ∷ []) in omega (arith, long)

-- the runs to come after a step, where some runs are those from there
come_pushed : (s : Search) (fs : List Open) (asleep path : List Step) (a : Step) (v : World)
    → map (prefixed (picked fs) (path ++ a ∷ [])) (runs_from s (s.limit - suc (length path)) asleep v) ++ later s fs (path ++ a ∷ []) ≡ to_come s fs asleep (path ++ a ∷ []) v
come_pushed s fs asleep path a v = ap (λ (n : ℕ). map (prefixed (picked fs) (path ++ a ∷ [])) (runs_from s n asleep v) ++ later s fs (path ++ a ∷ [])) (sym (fuel_pushed s path a))

count_pushed : (s : Search) (fs : List Open) (path : List Step) (a : Step) (v : World) → states_to_come s fs (path ++ a ∷ []) v ≡ states s.decides (s.limit - suc (length path)) v + states_later s fs (path ++ a ∷ [])
count_pushed s fs path a v = ap (λ (n : ℕ). states s.decides n v + states_later s fs (path ++ a ∷ [])) (fuel_pushed s path a)

pub fold_pushed : (first w v : World) (path : List Step) (a : Step) → fold first path ≡ Some w → next w a ≡ Some v → fold first (path ++ a ∷ []) ≡ Some v
fold_pushed first w v path a leads step = fold-append first path (a ∷ []) ∙ ap (option_and_then (λ u. fold u (a ∷ []))) leads ∙ ap (option_and_then (λ u. fold u [])) step

-- ---- a forced step

pub forced_moved : (s : Search) (fs : List Open) (asleep path : List Step) (w v : World) (a : Step) → Stands s fs path → length path < s.limit → s.decides w ≡ Forced a → next w a ≡ Some v
    → to_come s fs asleep path w ≡ to_come s fs (s.keeps w a asleep) (path ++ a ∷ []) v
forced_moved s fs asleep path w v a stands room forced step =
    let n : ℕ = s.limit - suc (length path) in
    let below : List Step = s.keeps w a asleep in
    let cs : List ℕ = picked fs in
    ap (λ (rs : List Run). map (prefixed cs path) rs ++ later s fs path) (runs_here s path asleep w (Forced a) room forced ∙ ap (λ (o : Option World). map (stepped a) (runs_of (runs_from s n below) o)) step)
    ∙ ap (λ (rs : List Run). rs ++ later s fs path) (map_stepped cs path a (runs_from s n below v))
    ∙ ap (λ (rs : List Run). map (prefixed cs (path ++ a ∷ [])) (runs_from s n below v) ++ rs) (sym (later_pushed s fs path a stands))
    ∙ come_pushed s fs below path a v

pub forced_fewer : (s : Search) (fs : List Open) (path : List Step) (w v : World) (a : Step) → Stands s fs path → length path < s.limit → s.decides w ≡ Forced a → next w a ≡ Some v → states_to_come s fs (path ++ a ∷ []) v < states_to_come s fs path w
forced_fewer s fs path w v a stands room forced step =
    let n : ℕ = s.limit - suc (length path) in
    let count : states s.decides (suc n) w ≡ suc (states s.decides n v) = states_is s.decides n w (Forced a) forced ∙ ap (λ o. suc (states_of (states s.decides n) o)) step in
    let now = states_now s path w room in
    let there = count_pushed s fs path a v in
    let stay = states_pushed s fs path a stands in
    omega (arith, count, now, there, stay)

-- ---- a choice

pub choice_moved : (s : Search) (fs : List Open) (asleep path : List Step) (w : World) (candidates : List Step) → length path < s.limit → s.decides w ≡ Choice candidates → to_come s fs asleep path w ≡ to_choose s fs path w asleep candidates 0
choice_moved s fs asleep path w candidates room choice = ap (λ (rs : List Run). map (prefixed (picked fs) path) rs ++ later s fs path) (runs_here s path asleep w (Choice candidates) room choice)

pub choice_fewer : (s : Search) (fs : List Open) (path : List Step) (w : World) (candidates : List Step) → length path < s.limit → s.decides w ≡ Choice candidates → states_to_choose s fs path w candidates 0 < states_to_come s fs path w
choice_fewer s fs path w candidates room choice =
    let count = states_is s.decides (s.limit - suc (length path)) w (Choice candidates) choice in
    let now = states_now s path w room in
    omega (arith, count, now)

-- candidates that are asleep are passed
pub passed_moved : (s : Search) (fs : List Open) (path : List Step) (w : World) (asleep candidates : List Step) (from i : ℕ) → Skips s.same s.sleeps asleep candidates from i → to_choose s fs path w asleep candidates from ≡ to_choose s fs path w asleep candidates i
passed_moved s fs path w asleep candidates from i skips =
    ap (λ (rs : List Run). map (prefixed (picked fs) path) rs ++ later s fs path) (skips.passes.same_runs s.keeps (runs_from s (s.limit - suc (length path))) w)

passed_fewer : (s : Search) (fs : List Open) (path : List Step) (w : World) (asleep candidates : List Step) (from i : ℕ) → Skips s.same s.sleeps asleep candidates from i → states_to_choose s fs path w candidates i ≤ states_to_choose s fs path w candidates from
passed_fewer s fs path w asleep candidates from i skips =
    let fewer = states_fewer (states s.decides (s.limit - suc (length path))) w from i candidates skips.passes.low in
    omega (arith, fewer)

-- none is left
pub none_moved : (s : Search) (fs : List Open) (path : List Step) (w : World) (asleep candidates : List Step) (i : ℕ) → length candidates ≤ i → to_choose s fs path w asleep candidates i ≡ later s fs path
none_moved s fs path w asleep candidates i all =
    ap (λ (left : List Step). map (prefixed (picked fs) path) (branches_by s.same s.keeps s.sleeps (runs_from s (s.limit - suc (length path))) w (put_off s.sleeps i candidates asleep) i left) ++ later s fs path) (drop_all i candidates all)

-- ---- a candidate is taken, and the choice is open

-- an open choice at the end of a path, seen from after its candidate
later_open : (s : Search) (f : Open) (fs : List Open) (path : List Step) (w : World) (a : Step) → fold s.first path ≡ Some w → f.depth ≡ length path → later s (f ∷ fs) (path ++ a ∷ []) ≡ to_choose s fs path w f.asleep f.candidates (suc f.index)
later_open s f fs path w a leads depth =
    let cut : take f.depth (path ++ a ∷ []) ≡ path = ap (λ m. take m (path ++ a ∷ [])) depth ∙ take-append_seam path (a ∷ []) in
    ap (λ (p : List Step). map (prefixed (picked fs) p) (others s (fold s.first p) f) ++ later s fs p) cut
    ∙ ap (λ o. map (prefixed (picked fs) path) (others s o f) ++ later s fs path) leads
    ∙ ap (λ m. map (prefixed (picked fs) path) (branches_from s (s.limit - suc m) w f.asleep f.candidates (suc f.index)) ++ later s fs path) depth

states_open : (s : Search) (f : Open) (fs : List Open) (path : List Step) (w : World) (a : Step) → fold s.first path ≡ Some w → f.depth ≡ length path → states_later s (f ∷ fs) (path ++ a ∷ []) ≡ states_to_choose s fs path w f.candidates (suc f.index)
states_open s f fs path w a leads depth =
    let cut : take f.depth (path ++ a ∷ []) ≡ path = ap (λ m. take m (path ++ a ∷ [])) depth ∙ take-append_seam path (a ∷ []) in
    ap (λ (p : List Step). states_beside s (fold s.first p) f + states_later s fs p) cut
    ∙ ap (λ o. states_beside s o f + states_later s fs path) leads
    ∙ ap (λ m. states_by (states s.decides (s.limit - suc m)) w (drop (suc f.index) f.candidates) + states_later s fs path) depth

stands_open : (s : Search) (f : Open) (fs : List Open) (path : List Step) (w : World) (a : Step) → Stands s fs path → f.depth ≡ length path → f.depth < s.limit → f.index < length f.candidates → fold s.first path ≡ Some w → AllEnabled w f.candidates → Stands s (f ∷ fs) (path ++ a ∷ [])
stands_open s f fs path w a stands depth room within leads all =
    let cut : take f.depth (path ++ a ∷ []) ≡ path = ap (λ m. take m (path ++ a ∷ [])) depth ∙ take-append_seam path (a ∷ []) in
    (omega (arith, length-append path (a ∷ []), depth), room, within, rw (cut, leads) all, rw cut stands)

-- It is awake.
taken_moved : (s : Search) (f : Open) (fs : List Open) (path : List Step) (w v : World) (a : Step) → fold s.first path ≡ Some w → f.depth ≡ length path → drop f.index f.candidates ≡ a ∷ drop (suc f.index) f.candidates
    → list_any (s.same a) (put_off s.sleeps f.index f.candidates f.asleep) ≡ false → next w a ≡ Some v
    → to_choose s fs path w f.asleep f.candidates f.index ≡ to_come s (f ∷ fs) (s.keeps w a (put_off s.sleeps f.index f.candidates f.asleep)) (path ++ a ∷ []) v
taken_moved s f fs path w v a leads depth split awake step =
    let n : ℕ = s.limit - suc (length path) in
    let below : List Step = s.keeps w a (put_off s.sleeps f.index f.candidates f.asleep) in
    let cs : List ℕ = picked fs in
    let mine : List Run = runs_from s n below v in
    let rest : List Run = branches_from s n w f.asleep f.candidates (suc f.index) in
    ap (λ (rs : List Run). map (prefixed cs path) rs ++ later s fs path) (branch_awake s.same s.keeps s.sleeps (runs_from s n) w f.asleep f.candidates f.index v a split awake step)
    ∙ ap (λ (rs : List Run). rs ++ later s fs path) (map_join (prefixed cs path) (map (chosen f.index a) mine) rest)
    ∙ ap (λ (rs : List Run). (rs ++ map (prefixed cs path) rest) ++ later s fs path) (map_chosen cs path f.index a mine)
    ∙ append_assoc (map (prefixed (cs ++ f.index ∷ []) (path ++ a ∷ [])) mine) (map (prefixed cs path) rest) (later s fs path)
    ∙ ap (λ (rs : List Run). map (prefixed (cs ++ f.index ∷ []) (path ++ a ∷ [])) mine ++ rs) (sym (later_open s f fs path w a leads depth))
    ∙ come_pushed s (f ∷ fs) below path a v

taken_states : (s : Search) (f : Open) (fs : List Open) (path : List Step) (w v : World) (a : Step) → fold s.first path ≡ Some w → f.depth ≡ length path → drop f.index f.candidates ≡ a ∷ drop (suc f.index) f.candidates → next w a ≡ Some v
    → states_to_come s (f ∷ fs) (path ++ a ∷ []) v ≡ states_to_choose s fs path w f.candidates f.index
taken_states s f fs path w v a leads depth split step =
    let n : ℕ = s.limit - suc (length path) in
    let there = count_pushed s (f ∷ fs) path a v in
    let opened = states_open s f fs path w a leads depth in
    let count = states_split (states s.decides n) w v a (drop f.index f.candidates) (drop (suc f.index) f.candidates) split step in
    omega (arith, there, opened, count)

-- what a search finds as it takes the first candidate that is awake, from one on
pub record Taken (s : Search) (choice : Open) (fs : List Open) (path : List Step) (w : World) (i : ℕ) (a : Step) (v : World) : Type 0 where
  pub stands : Stands s (record { depth = choice.depth; candidates = choice.candidates; index = i; asleep = choice.asleep } ∷ fs) (path ++ a ∷ [])
  pub same : to_choose s fs path w choice.asleep choice.candidates choice.index
      ≡ to_come s (record { depth = choice.depth; candidates = choice.candidates; index = i; asleep = choice.asleep } ∷ fs) (s.keeps w a (put_off s.sleeps i choice.candidates choice.asleep)) (path ++ a ∷ []) v
  pub fewer : states_to_come s (record { depth = choice.depth; candidates = choice.candidates; index = i; asleep = choice.asleep } ∷ fs) (path ++ a ∷ []) v ≤ states_to_choose s fs path w choice.candidates choice.index
  pub leads : fold s.first (path ++ a ∷ []) ≡ Some v

pub candidate_taken : (s : Search) (choice : Open) (fs : List Open) (path : List Step) (w v : World) (i : ℕ) (a : Step) → Stands s fs path → fold s.first path ≡ Some w → choice.depth ≡ length path → length path < s.limit → AllEnabled w choice.candidates
    → Skips s.same s.sleeps choice.asleep choice.candidates choice.index i → slice_get choice.candidates i ≡ Some a → next w a ≡ Some v → Taken s choice fs path w i a v
candidate_taken s choice fs path w v i a stands leads depth room all skips read step =
    let f : Open = record { depth = choice.depth; candidates = choice.candidates; index = i; asleep = choice.asleep } in
    let within : i < length choice.candidates = slice_get_within choice.candidates i a read in
    let got : a ≡ get_or choice.candidates i a = sym (get_or_from_slice_get choice.candidates i a a read) in
    let split : drop i choice.candidates ≡ a ∷ drop (suc i) choice.candidates = drop_at choice.candidates i a within got in
    let passed = passed_fewer s fs path w choice.asleep choice.candidates choice.index i skips in
    let count = taken_states s f fs path w v a leads depth split step in
    record {
      stands = stands_open s f fs path w a stands depth (omega (arith, depth, room)) within leads all;
      same = passed_moved s fs path w choice.asleep choice.candidates choice.index i skips ∙ taken_moved s f fs path w v a leads depth split (skips.awake a within got) step;
      fewer = omega (arith, passed, count);
      leads = fold_pushed s.first w v path a leads step;
    }

-- ---- back to a choice

pub back_moved : (s : Search) (f : Open) (fs : List Open) (path : List Step) (w : World) → fold s.first (take f.depth path) ≡ Some w → f.depth < length path → later s (f ∷ fs) path ≡ to_choose s fs (take f.depth path) w f.asleep f.candidates (suc f.index)
back_moved s f fs path w leads short =
    let p : List Step = take f.depth path in
    let cut = length-take f.depth path in
    let long : f.depth ≡ length p = omega (arith, cut, short) in
    ap (λ (o : Option World). map (prefixed (picked fs) p) (others s o f) ++ later s fs p) leads
    ∙ ap (λ (d : ℕ). map (prefixed (picked fs) p) (branches_from s (s.limit - suc d) w f.asleep f.candidates (suc f.index)) ++ later s fs p) long

pub back_states : (s : Search) (f : Open) (fs : List Open) (path : List Step) (w : World) → fold s.first (take f.depth path) ≡ Some w → f.depth < length path → states_later s (f ∷ fs) path ≡ states_to_choose s fs (take f.depth path) w f.candidates (suc f.index)
back_states s f fs path w leads short =
    let p : List Step = take f.depth path in
    let cut = length-take f.depth path in
    let long : f.depth ≡ length p = omega (arith, cut, short) in
    ap (λ (o : Option World). states_beside s o f + states_later s fs p) leads
    ∙ ap (λ (d : ℕ). states_by (states s.decides (s.limit - suc d)) w (drop (suc f.index) f.candidates) + states_later s fs p) long

-- ---- where a run ends

pub leaf_here : (s : Search) (asleep path : List Step) (w : World) (o : Outcome) → length path < s.limit → s.decides w ≡ Leaf o → runs_from s (s.limit - length path) asleep w ≡ stopped (Leaf o)
leaf_here s asleep path w o room leaf = runs_here s path asleep w (Leaf o) room leaf

pub some_left : (s : Search) (fs : List Open) (path : List Step) (w : World) → states_later s fs path < states_to_come s fs path w
some_left s fs path w = let some = some_states s.decides (s.limit - length path) w in omega (arith, some)
