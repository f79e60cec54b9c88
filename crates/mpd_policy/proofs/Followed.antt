-- What can be done with a decision.
use Rattle.std.proofs.Common.{◌≡◌, ℕ, zero, suc, ◌+◌, ◌<◌, get_or, Bool, true, false, cond, ◌||◌, ◌&&◌, Option, Some, None, IsSome, is_some, is_none, List, [], ◌∷◌, ◌++◌, inl, inr, refl, sym, ap, subst, ◌∙◌, length, arith, option_and_then}
use Rattle.std.specs.List.{filter, flat_map, range_with_len, list_any}
use Rattle.mpd_model.specs.declared.step.CallId.{CallId}
use Rattle.mpd_model.specs.declared.step.Step.{Step}
use Rattle.mpd_model.specs.declared.call.CallKind.{CallKind}
use Rattle.mpd_model.specs.declared.call.CallKind.TheVariants.{Recv}
use Rattle.mpd_model.specs.declared.decision.Decision.TheVariants.{Leaf}
use Rattle.mpd_model.specs.steps.World.{World, Board, call_id, kind_at, call_numbers, rank_numbers, is_free, receives}
use Rattle.mpd_model.specs.steps.Next.{next, is_enabled, enabled, steps_of}
use Rattle.mpd_model.specs.steps.Outcomes.{ending, is_stuck, outcome}
use Rattle.mpd_model.specs.steps.Why.{first_in, or_else}
use Rattle.mpd_model.specs.runs.Decisions.{is_local, is_release, is_wake, any_rank, is_of, names_source, takes_any, is_named_match, is_open_match, first_enabled, forced_step, open_matches, any_choices, or_those, choices, chosen_from, decided, decision, CanFollow}
use Rattle.mpd_match.specs.Matches.{matches_with, matches_at, matches_on}
use Rattle.mpd_match.specs.Picked.{picked_with, picked_at}
use Rattle.std.proofs.lemmas.Bool.{cases_Bool as bool_tells}
use Rattle.mpd_match.proofs.Listed.{not_posted_none}
use Rattle.mpd_match.proofs.Picked.{picked_all, named_with, open_with}
use Rattle.mpd_core.proofs.EnabledLemmas.{releases, wakes, any_wakes_at, any_wakes, any_wakes_joined, enabled_parts}
use Rattle.mpd_policy.proofs.StepKinds.{local_steps, release_steps, wake_steps, named_steps, open_steps, any_from, any_all}

-- ---- what is picked of a list passes

some_is : {A : Type 0} (o : Option A) → is_some o ≡ true → IsSome o
some_is None e = absurd (cc)
some_is (Some x) e = refl

abbrev pub AllOf : (Step → Type 0) → List Step → Type 0
AllOf P [] = Unit {0}
AllOf P (x ∷ xs) = P x × AllOf P xs

pub all_at : (P : Step → Type 0) (xs : List Step) (k : ℕ) (d : Step) → AllOf P xs → k < length xs → P (get_or xs k d)
all_at P [] k d all lt = absurd (omega (arith, lt))
all_at P (x ∷ xs) zero d all lt = all.0
all_at P (x ∷ xs) (suc k) d all lt = all_at P xs k d all.1 (omega (arith, lt))

pub all_pass : (t : Step → Bool) (xs : List Step) → AllOf (λ a. t a ≡ true) (filter t xs)
all_pass t [] = tt
all_pass t (x ∷ xs) =
    elim (bool_tells (t x)) [
      | inl h ↦ subst (AllOf (λ a. t a ≡ true)) (sym (ap (λ (b : Bool). cond b (x ∷ filter t xs) (filter t xs)) h)) (h, all_pass t xs)
      | inr h ↦ subst (AllOf (λ a. t a ≡ true)) (sym (ap (λ (b : Bool). cond b (x ∷ filter t xs) (filter t xs)) h)) (all_pass t xs)
    ]

pub all_kept : (P : Step → Type 0) (t : Step → Bool) (xs : List Step) → AllOf P xs → AllOf P (filter t xs)
all_kept P t [] all = tt
all_kept P t (x ∷ xs) all =
    elim (bool_tells (t x)) [
      | inl h ↦ subst (AllOf P) (sym (ap (λ (b : Bool). cond b (x ∷ filter t xs) (filter t xs)) h)) (all.0, all_kept P t xs all.1)
      | inr h ↦ subst (AllOf P) (sym (ap (λ (b : Bool). cond b (x ∷ filter t xs) (filter t xs)) h)) (all_kept P t xs all.1)
    ]

all_mapped : (P Q : Step → Type 0) → ((a : Step) → P a → Q a) → (xs : List Step) → AllOf P xs → AllOf Q xs
all_mapped P Q f [] all = tt
all_mapped P Q f (x ∷ xs) all = (f x all.0, all_mapped P Q f xs all.1)

-- all enabled steps are
pub all_enabled : (w : World) → AllOf (λ a. IsSome (next w a)) (enabled w)
all_enabled w = all_mapped (λ a. is_enabled w a ≡ true) (λ a. IsSome (next w a)) (λ a h. some_is (next w a) h) (enabled w) (all_pass (is_enabled w) (steps_of w))

-- the lowest rank that has a step of a waitany
abbrev first_rank : World → Option ℕ
first_rank w = option_and_then any_rank (first_enabled w (λ a. is_some (any_rank a)))

pub first_holds : (P : Step → Type 0) (xs : List Step) (a : Step) → AllOf P xs → first_in xs ≡ Some a → P a
first_holds P [] a all e = absurd (cc)
first_holds P (x ∷ xs) a all e = let same : x ≡ a = cc in subst P same all.0

pub either : (P : Type 0) (o p : Option Step) (a : Step) → (o ≡ Some a → P) → (p ≡ Some a → P) → or_else o p ≡ Some a → P
either P None p a one two e = two e
either P (Some x) p a one two e = one e

forced_enabled : (w : World) (a : Step) → forced_step w ≡ Some a → IsSome (next w a)
forced_enabled w a e =
    let P : Step → Type 0 = λ (a : Step). IsSome (next w a) in
    let of : (t : Step → Bool) → first_enabled w t ≡ Some a → IsSome (next w a) = λ t h. first_holds P (filter t (enabled w)) a (all_kept P t (enabled w) (all_enabled w)) h in
    either (IsSome (next w a)) (first_enabled w is_local) _ a (of is_local)
    (either (IsSome (next w a)) (first_enabled w is_release) _ a (of is_release)
    (either (IsSome (next w a)) (first_enabled w is_wake) _ a (of is_wake) (of (is_named_match w.board)))) e

-- ---- where nothing is picked, nothing is enabled

no_first : (xs : List Step) → first_in xs ≡ None → xs ≡ []
no_first [] e = refl
no_first (x ∷ xs) e = absurd (cc)

no_else : (o p : Option Step) → or_else o p ≡ None → (o ≡ None) × (p ≡ None)
no_else None p e = (refl, e)
no_else (Some x) p e = absurd (cc)

append_none : (xs ys : List Step) → xs ++ ys ≡ [] → (xs ≡ []) × (ys ≡ [])
append_none [] ys e = (refl, e)
append_none (x ∷ xs) ys e = absurd (let k = ap length e in omega (arith, k))

both_none : {A : Type 0} (f g h : A → List Step) → ((x : A) → f x ≡ [] → g x ≡ [] → h x ≡ []) → (xs : List A) → flat_map f xs ≡ [] → flat_map g xs ≡ [] → flat_map h xs ≡ []
both_none f g h each [] none other = refl
both_none f g h each (x ∷ xs) none other =
    let one = append_none (f x) (flat_map f xs) none in
    let two = append_none (g x) (flat_map g xs) other in
    ap (λ ys. ys ++ flat_map h xs) (each x one.0 two.0) ∙ both_none f g h each xs one.1 two.1

-- a receive names its source or is of any
source_tells : (k : Option CallKind) → names_source k ≡ false → takes_any k ≡ false → receives k ≡ false
source_tells (Some (Recv r)) e f = absurd (neither r.from e f)
  where
    neither : (o : Option ℕ) → is_some o ≡ false → is_none o ≡ false → ⊥
    neither None e f = cc
    neither (Some p) e f = cc
source_tells k e f = refl

none_with : (b : Board) (q j : ℕ) → picked_with is_named_match b (call_id q j) ≡ [] → picked_with is_open_match b (call_id q j) ≡ [] → matches_with b (call_id q j) ≡ []
none_with b q j named any =
    let r : CallId = call_id q j in
    elim (bool_tells (names_source (kind_at b r))) [
      | inl h ↦ sym (named_with b r ∙ ap (λ (c : Bool). cond c (matches_with b r) []) h) ∙ named
      | inr h ↦ elim (bool_tells (takes_any (kind_at b r))) [
        | inl k ↦ sym (open_with b r ∙ ap (λ (c : Bool). cond c (matches_with b r) []) k) ∙ any
        | inr k ↦ not_posted_none b q j (ap (λ (c : Bool). c && is_free b r) (source_tells (kind_at b r) h k))
      ]
    ]

none_on : (b : Board) → filter (is_named_match b) (matches_on b) ≡ [] → filter (is_open_match b) (matches_on b) ≡ [] → matches_on b ≡ []
none_on b named any =
    both_none (picked_at is_named_match b) (picked_at is_open_match b) (matches_at b) (λ q.
    both_none (λ j. picked_with is_named_match b (call_id q j)) (λ j. picked_with is_open_match b (call_id q j)) (λ j. matches_with b (call_id q j)) (λ j. none_with b q j) (call_numbers b q))
    (rank_numbers b) (picked_all is_named_match b ∙ named) (picked_all is_open_match b ∙ any)

no_those : (xs ys : List Step) → or_those xs ys ≡ [] → (xs ≡ []) × (ys ≡ [])
no_those [] ys e = (refl, e)
no_those (x ∷ xs) ys e = absurd (let k = ap length e in omega (arith, k))

none_from : (w : World) (i n : ℕ) → any_from w i n ≡ [] → flat_map (any_wakes_at w) (range_with_len i n) ≡ []
none_from w i zero e = refl
none_from w i (suc n) e =
    let both = no_those (any_wakes_at w i) (any_from w (i + 1) n) e in
    ap (λ ys. ys ++ flat_map (any_wakes_at w) (range_with_len (i + 1) n)) both.0 ∙ none_from w (i + 1) n both.1

no_any_wake : (w : World) → any_choices w ≡ [] → any_wakes w ≡ []
no_any_wake w e = sym (any_wakes_joined w) ∙ none_from w 0 (length w.board.calls) (any_all w ∙ e)

pub nothing_enabled : (w : World) → forced_step w ≡ None → choices w ≡ [] → enabled w ≡ []
nothing_enabled w forced chosen =
    let one = no_else (first_enabled w is_local) _ forced in
    let two = no_else (first_enabled w is_release) _ one.1 in
    let three = no_else (first_enabled w is_wake) _ two.1 in
    let both = no_those (any_choices w) (open_matches w) chosen in
    enabled_parts w
    ∙ ap (λ ys. ys ++ (releases w ++ (wakes w ++ (any_wakes w ++ matches_on w.board)))) (sym (local_steps w) ∙ no_first (filter is_local (enabled w)) one.0)
    ∙ ap (λ ys. ys ++ (wakes w ++ (any_wakes w ++ matches_on w.board))) (sym (release_steps w) ∙ no_first (filter is_release (enabled w)) two.0)
    ∙ ap (λ ys. ys ++ (any_wakes w ++ matches_on w.board)) (sym (wake_steps w) ∙ no_first (filter is_wake (enabled w)) three.0)
    ∙ ap (λ ys. ys ++ matches_on w.board) (no_any_wake w both.0)
    ∙ none_on w.board (sym (named_steps w) ∙ no_first (filter (is_named_match w.board) (enabled w)) three.1) (sym (open_steps w) ∙ both.1)

none_any : (t : Step → Bool) (xs : List Step) → filter t xs ≡ [] → list_any t xs ≡ false
none_any t [] e = refl
none_any t (x ∷ xs) e =
    elim (bool_tells (t x)) [
      | inl h ↦ absurd (let k = ap length (sym (ap (λ (b : Bool). cond b (x ∷ filter t xs) (filter t xs)) h) ∙ e) in omega (arith, k))
      | inr h ↦ ap (λ (b : Bool). b || list_any t xs) h ∙ none_any t xs (sym (ap (λ (b : Bool). cond b (x ∷ filter t xs) (filter t xs)) h) ∙ e)
    ]

pub stuck_where : (w : World) → enabled w ≡ [] → is_stuck w ≡ true
stuck_where w e = ap (λ (b : Bool). cond b false true) (none_any (is_enabled w) (steps_of w) e)

any_none : (t : Step → Bool) (xs : List Step) → list_any t xs ≡ false → filter t xs ≡ []
any_none t [] e = refl
any_none t (x ∷ xs) e =
    elim (bool_tells (t x)) [
      | inl h ↦ absurd (let k : list_any t (x ∷ xs) ≡ true = ap (λ (b : Bool). b || list_any t xs) h in cc)
      | inr h ↦ ap (λ (b : Bool). cond b (x ∷ filter t xs) (filter t xs)) h ∙ any_none t xs (sym (ap (λ (b : Bool). b || list_any t xs) h) ∙ e)
    ]

not_any : (b : Bool) → cond b false true ≡ true → b ≡ false
not_any true e = absurd (cc)
not_any false e = refl

pub enabled_where : (w : World) → is_stuck w ≡ true → enabled w ≡ []
enabled_where w e = any_none (is_enabled w) (steps_of w) (not_any (list_any (is_enabled w) (steps_of w)) e)

pub ended_where : (w : World) → enabled w ≡ [] → outcome w ≡ Some (ending w)
ended_where w e = ap (λ (b : Bool). cond b (Some (ending w)) None) (stuck_where w e)

-- ---- the law

all_those : (P : Step → Type 0) (xs ys : List Step) → AllOf P xs → AllOf P ys → AllOf P (or_those xs ys)
all_those P [] ys these those = those
all_those P (x ∷ xs) ys these those = these

chosen_followed : (w : World) (steps : List Step) → forced_step w ≡ None → choices w ≡ steps → CanFollow w (chosen_from w steps)
chosen_followed w [] forced e = let none = nothing_enabled w forced e in (none, ended_where w none)
chosen_followed w (a ∷ steps) forced e =
    let P : Step → Type 0 = λ (a : Step). IsSome (next w a) in
    let kept : (t : Step → Bool) → AllOf P (filter t (enabled w)) = λ t. all_kept P t (enabled w) (all_enabled w) in
    let all : AllOf P (a ∷ steps) = subst (AllOf P) e (all_those P (any_choices w) (open_matches w) (kept (is_of (first_rank w))) (kept (is_open_match w.board))) in
    (omega arith, λ k d lt. all_at P (a ∷ steps) k d all lt)

decided_followed : (w : World) (o : Option Step) → forced_step w ≡ o → CanFollow w (decided w o)
decided_followed w (Some a) e = forced_enabled w a e
decided_followed w None e = chosen_followed w (choices w) e refl

pub followed : (w : World) → CanFollow w (decision w)
unfolding decision
followed w = decided_followed w (forced_step w) refl

-- the first of nothing
abbrev forced_of : Board → List Step → Option Step
forced_of b xs = or_else (first_in (filter is_local xs)) (or_else (first_in (filter is_release xs)) (or_else (first_in (filter is_wake xs)) (first_in (filter (is_named_match b) xs))))

abbrev chosen_of : Board → List Step → List Step
chosen_of b xs = or_those (filter (is_of (option_and_then any_rank (first_in (filter (λ a. is_some (any_rank a)) xs)))) xs) (filter (is_open_match b) xs)

pub leaf_where : (w : World) → enabled w ≡ [] → decision w ≡ Leaf (ending w)
unfolding decision
leaf_where w e = ap (decided w) (ap (forced_of w.board) e) ∙ ap (λ (xs : List Step). chosen_from w (chosen_of w.board xs)) e

pub ruleset following = (followed, leaf_where)
