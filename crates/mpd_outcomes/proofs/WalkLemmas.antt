-- The leaves of the wide walk, and its longest run, one step after another.
use Rattle.std.proofs.Common.{◌≡◌, ℕ, zero, suc, ◌<◌, ◌≤◌, ◌+◌, max, false, Option, Some, None, List, [], ◌∷◌, ◌++◌, map, length, take, drop, slice_get, refl, sym, ap, ◌∙◌, arith, append-nil, append_assoc}
use Rattle.std.proofs.lemmas.List.{length-map}
use Rattle.mpd_model.specs.declared.step.Step.{Step}
use Rattle.mpd_model.specs.declared.outcome.Outcome.{Outcome}
use Rattle.mpd_model.specs.declared.decision.Decision.{Decision}
use Rattle.mpd_model.specs.declared.decision.Decision.TheVariants.{Forced, Choice, Leaf as Ends}
use Rattle.mpd_model.specs.steps.World.{World}
use Rattle.mpd_model.specs.steps.Next.{next}
use Rattle.mpd_model.specs.runs.Decisions.{CanFollow}
use Rattle.mpd_model.specs.runs.Trail.{step_eq}
use Rattle.mpd_policy.specs.Wide.{wide_decision, sleeps_on}
use Rattle.mpd_policy.specs.Walk.{Run, stepped, chosen, runs_of, branches, followed, stopped, wide_walk}
use Rattle.mpd_policy.specs.declared.ending.Ending.TheVariants.{Ended, Cut}
use Rattle.mpd_explore.specs.declared.report.SearchLeaf.{SearchLeaf}
use Rattle.mpd_explore.specs.Report.{shown}
use Rattle.mpd_explore.proofs.AwakeLemmas.{awake_some, no_wide_sleeps}
use Rattle.mpd_outcomes.specs.Height.{height, height_of, highest, height_by, height_stopped}
use Rattle.mpd_outcomes.specs.Outcomes.{leaves_from}
use Rattle.mpd_outcomes.specs.Front.{put, leaves_by, leaves_of, only_leaf}

-- ---- one state

wide_is : (n : ℕ) (w : World) (d : Decision) → wide_decision w ≡ d → wide_walk (suc n) w ≡ followed (wide_walk n) (wide_walk n) w d
unfolding wide_walk
wide_is n w d h = ap (followed (wide_walk n) (wide_walk n) w) h

wide_empty : (w : World) (d : Decision) → wide_decision w ≡ d → wide_walk zero w ≡ stopped d
unfolding wide_walk
wide_empty w d h = ap stopped h

height_is : (n : ℕ) (w : World) (d : Decision) → wide_decision w ≡ d → height (suc n) w ≡ height_by (height n) w d
unfolding height
height_is n w d h = ap (height_by (height n) w) h

height_empty : (w : World) (d : Decision) → wide_decision w ≡ d → height zero w ≡ height_stopped d
unfolding height
height_empty w d h = ap height_stopped h

-- ---- a forced step

shown_stepped : (a : Step) (rs : List Run) → map shown (map (stepped a) rs) ≡ map shown rs
shown_stepped a [] = refl
shown_stepped a (r ∷ rs) = ap (λ (l : List SearchLeaf). shown r ∷ l) (shown_stepped a rs)

pub leaves_forced : (n : ℕ) (w v : World) (a : Step) → wide_decision w ≡ Forced a → next w a ≡ Some v → leaves_from (suc n) w ≡ leaves_from n v
leaves_forced n w v a d s = ap (map shown) (wide_is n w (Forced a) d ∙ ap (λ (o : Option World). map (stepped a) (runs_of (wide_walk n) o)) s) ∙ shown_stepped a (wide_walk n v)

pub height_forced : (n : ℕ) (w v : World) (a : Step) → wide_decision w ≡ Forced a → next w a ≡ Some v → height (suc n) w ≡ 1 + height n v
height_forced n w v a d s = height_is n w (Forced a) d ∙ ap (λ (o : Option World). 1 + height_of (height n) o) s

-- ---- a choice

pub leaves_choice : (n : ℕ) (w : World) (candidates : List Step) → wide_decision w ≡ Choice candidates → leaves_from (suc n) w ≡ leaves_by n w 0 candidates
leaves_choice n w candidates d = ap (map shown) (wide_is n w (Choice candidates) d)

pub height_choice : (n : ℕ) (w : World) (candidates : List Step) → wide_decision w ≡ Choice candidates → height (suc n) w ≡ 1 + highest (height n) w candidates
height_choice n w candidates d = height_is n w (Choice candidates) d

-- ---- an end

pub leaves_ended : (n : ℕ) (w : World) (o : Outcome) → wide_decision w ≡ Ends o → leaves_from n w ≡ only_leaf (Ended o) ∷ []
leaves_ended zero w o d = ap (map shown) (wide_empty w (Ends o) d)
leaves_ended (suc n) w o d = ap (map shown) (wide_is n w (Ends o) d)

pub height_ended : (n : ℕ) (w : World) (o : Outcome) → wide_decision w ≡ Ends o → height n w ≡ 0
height_ended zero w o d = height_empty w (Ends o) d
height_ended (suc n) w o d = height_is n w (Ends o) d

pub forced_cut : (w : World) (a : Step) → wide_decision w ≡ Forced a → (leaves_from 0 w ≡ only_leaf Cut ∷ []) × (height 0 w ≡ 1)
forced_cut w a d = (ap (map shown) (wide_empty w (Forced a) d), height_empty w (Forced a) d)

pub choice_cut : (w : World) (candidates : List Step) → wide_decision w ≡ Choice candidates → (leaves_from 0 w ≡ only_leaf Cut ∷ []) × (height 0 w ≡ 1)
choice_cut w candidates d = (ap (map shown) (wide_empty w (Choice candidates) d), height_empty w (Choice candidates) d)

-- ---- candidates

map_joined : {A B : Type 0} (f : A → B) (xs ys : List A) → map f (xs ++ ys) ≡ map f xs ++ map f ys
map_joined f [] ys = refl
map_joined f (x ∷ xs) ys = ap (λ l. f x ∷ l) (map_joined f xs ys)

shown_chosen : (i : ℕ) (a : Step) (rs : List Run) → map shown (map (chosen i a) rs) ≡ map (put (i ∷ [])) (map shown rs)
shown_chosen i a [] = refl
shown_chosen i a (r ∷ rs) = ap (λ (l : List SearchLeaf). shown (chosen i a r) ∷ l) (shown_chosen i a rs)

shown_of : (n : ℕ) (o : Option World) → map shown (runs_of (wide_walk n) o) ≡ leaves_of n o
shown_of n None = refl
shown_of n (Some w) = refl

by_first : (n : ℕ) (w : World) (i : ℕ) (a : Step) (more : List Step) → leaves_by n w i (a ∷ more) ≡ map (put (i ∷ [])) (leaves_of n (next w a)) ++ leaves_by n w (suc i) more
by_first n w i a more =
    map_joined shown (map (chosen i a) (runs_of (wide_walk n) (next w a))) (branches (wide_walk n) w (suc i) more)
    ∙ (λ j. (shown_chosen i a (runs_of (wide_walk n) (next w a)) ∙ ap (map (put (i ∷ []))) (shown_of n (next w a))) j ++ leaves_by n w (suc i) more)

by_more : (n : ℕ) (w : World) (i k : ℕ) (candidates : List Step) (a : Step) → slice_get candidates k ≡ Some a
    → leaves_by n w i (take (suc k) candidates) ≡ leaves_by n w i (take k candidates) ++ map (put ((i + k) ∷ [])) (leaves_of n (next w a))
by_more n w i k [] a e = absurd (cc)
by_more n w i zero (c ∷ cs) a e =
    let is : c ≡ a = cc in
    by_first n w i c [] ∙ append-nil (map (put (i ∷ [])) (leaves_of n (next w c))) ∙ (λ j. map (put (number_here j ∷ [])) (leaves_of n (next w (is j))))
  where
    number_here : i ≡ i + 0
    number_here = omega arith
by_more n w i (suc k) (c ∷ cs) a e =
    by_first n w i c (take (suc k) cs)
    ∙ ap (λ (l : List SearchLeaf). map (put (i ∷ [])) (leaves_of n (next w c)) ++ l) (by_more n w (suc i) k cs a e)
    ∙ sym (append_assoc (map (put (i ∷ [])) (leaves_of n (next w c))) (leaves_by n w (suc i) (take k cs)) (map (put ((suc i + k) ∷ [])) (leaves_of n (next w a))))
    ∙ (λ j. sym (by_first n w i c (take k cs)) j ++ map (put (next_number j ∷ [])) (leaves_of n (next w a)))
  where
    next_number : suc i + k ≡ i + suc k
    next_number = omega arith

-- the leaves by one candidate more
pub tried_more : (n : ℕ) (w : World) (k : ℕ) (candidates : List Step) (a : Step) → slice_get candidates k ≡ Some a
    → leaves_by n w 0 (take (suc k) candidates) ≡ leaves_by n w 0 (take k candidates) ++ map (put (k ∷ [])) (leaves_of n (next w a))
tried_more n w k candidates a e = by_more n w 0 k candidates a e ∙ (λ j. leaves_by n w 0 (take k candidates) ++ map (put (zero_first j ∷ [])) (leaves_of n (next w a)))
  where
    zero_first : 0 + k ≡ k
    zero_first = omega arith

-- the leaves by the first candidates, and by the others
pub by_parts : (n : ℕ) (w : World) (k : ℕ) (candidates : List Step) → k ≤ length candidates → leaves_by n w 0 candidates ≡ leaves_by n w 0 (take k candidates) ++ leaves_by n w k (drop k candidates)
by_parts n w k candidates le = from n w 0 k candidates le ∙ (λ j. leaves_by n w 0 (take k candidates) ++ leaves_by n w (zero_first j) (drop k candidates))
  where
    zero_first : 0 + k ≡ k
    zero_first = omega arith

    from : (n : ℕ) (w : World) (i k : ℕ) (candidates : List Step) → k ≤ length candidates → leaves_by n w i candidates ≡ leaves_by n w i (take k candidates) ++ leaves_by n w (i + k) (drop k candidates)
    from n w i zero cs le = λ j. leaves_by n w (zero_more j) cs
      where
        zero_more : i ≡ i + 0
        zero_more = omega arith
    from n w i (suc k) [] le = absurd (omega (arith, le))
    from n w i (suc k) (c ∷ cs) le =
        by_first n w i c cs
        ∙ ap (λ (l : List SearchLeaf). map (put (i ∷ [])) (leaves_of n (next w c)) ++ l) (from n w (suc i) k cs (omega (arith, le)))
        ∙ sym (append_assoc (map (put (i ∷ [])) (leaves_of n (next w c))) (leaves_by n w (suc i) (take k cs)) (leaves_by n w (suc i + k) (drop k cs)))
        ∙ (λ j. sym (by_first n w i c (take k cs)) j ++ leaves_by n w (next_number j) (drop k cs))
      where
        next_number : suc i + k ≡ i + suc k
        next_number = omega arith

pub highest_more : (h : World → ℕ) (w : World) (k : ℕ) (candidates : List Step) (a : Step) → slice_get candidates k ≡ Some a
    → highest h w (take (suc k) candidates) ≡ max (highest h w (take k candidates)) (height_of h (next w a))
highest_more h w k [] a e = absurd (cc)
highest_more h w zero (c ∷ cs) a e =
    let is : c ≡ a = cc in
    let same = ap (λ (z : Step). height_of h (next w z)) is in
    omega (arith, same)
highest_more h w (suc k) (c ∷ cs) a e =
    let more = highest_more h w k cs a e in
    omega (arith, more)

-- ---- there is a run from each state

pub some_leaves : ((v : World) → CanFollow v (wide_decision v)) → (n : ℕ) (w : World) → 0 < length (leaves_from n w)
some_leaves law n w =
    let some = awake_some wide_decision step_eq sleeps_on false n w law (λ u a. refl) in
    let is = ap (λ (rs : List Run). length rs) (no_wide_sleeps n w) in
    let long = length-map (wide_walk n w) shown in
    omega (arith, some, is, long)
