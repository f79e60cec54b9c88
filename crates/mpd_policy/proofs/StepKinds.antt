-- The enabled steps by their kinds, and the first of each.
use Rattle.std.proofs.Common.{◌≡◌, ℕ, zero, suc, ◌+◌, ◌-◌, ◌<◌, ◌==◌, Bool, true, false, cond, Option, Some, None, is_some, List, [], ◌∷◌, ◌++◌, inl, inr, refl, sym, ap, subst, ◌∙◌, map, length, append-nil, arith, option_and_then}
use Rattle.std.proofs.lemmas.Bool.Decides.{Decides-eqb, eqb_tells}
use Rattle.std.proofs.lemmas.List.Elements.{filter-append}
use Rattle.std.specs.List.{filter, flat_map, range_with_len}
use Rattle.mpd_model.specs.declared.step.CallId.{CallId}
use Rattle.mpd_model.specs.declared.step.Step.{Step}
use Rattle.mpd_model.specs.declared.step.Step.TheVariants.{Local, Match, Wake, WakeAny, Release}
use Rattle.mpd_model.specs.declared.outcome.Outcome.{Outcome}
use Rattle.mpd_model.specs.steps.World.{World, Board, call_id, kind_at, last_call, call_numbers, rank_numbers, eligible}
use Rattle.mpd_model.specs.steps.Next.{is_enabled, enabled, requests_of}
use Rattle.mpd_model.specs.steps.Outcomes.{ending}
use Rattle.mpd_model.specs.steps.Why.{first_in, or_else}
use Rattle.mpd_model.specs.runs.Decisions.{is_local, is_release, is_wake, any_rank, is_of, is_named_match, is_open_match, first_enabled, forced_step, open_matches, any_choices, or_those, choices, chosen_from, decided, decision}
use Rattle.mpd_model.specs.declared.decision.Decision.{Decision}
use Rattle.mpd_model.specs.declared.decision.Decision.TheVariants.{Forced, Choice, Leaf}
use Rattle.mpd_match.specs.Matches.{matches_from, matches_with, matches_at, matches_on}
use Rattle.mpd_core.proofs.EnabledLemmas.{locals, releases, wakes, any_wakes_at, any_wakes, any_wakes_by, any_wakes_joined, enabled_parts}
use Rattle.mpd_policy.specs.Entries.{entries_of}

-- ---- what passes where all do, and where none does

pub all_mapped : {A : Type 0} (t : Step → Bool) (g : A → Step) → ((x : A) → t (g x) ≡ true) → (xs : List A) → filter t (map g xs) ≡ map g xs
all_mapped t g each [] = refl
all_mapped t g each (x ∷ xs) = ap (λ (d : Bool). cond d (g x ∷ filter t (map g xs)) (filter t (map g xs))) (each x) ∙ ap (λ ys. g x ∷ ys) (all_mapped t g each xs)

pub none_mapped : {A : Type 0} (t : Step → Bool) (g : A → Step) → ((x : A) → t (g x) ≡ false) → (xs : List A) → filter t (map g xs) ≡ []
none_mapped t g each [] = refl
none_mapped t g each (x ∷ xs) = ap (λ (d : Bool). cond d (g x ∷ filter t (map g xs)) (filter t (map g xs))) (each x) ∙ none_mapped t g each xs

pub none_joined : {A : Type 0} (t : Step → Bool) (f : A → List Step) → ((x : A) → filter t (f x) ≡ []) → (xs : List A) → filter t (flat_map f xs) ≡ []
none_joined t f each [] = refl
none_joined t f each (x ∷ xs) = filter-append t (f x) (flat_map f xs) ∙ ap (λ ys. ys ++ filter t (flat_map f xs)) (each x) ∙ none_joined t f each xs

all_joined : {A : Type 0} (t : Step → Bool) (f : A → List Step) → ((x : A) → filter t (f x) ≡ f x) → (xs : List A) → filter t (flat_map f xs) ≡ flat_map f xs
all_joined t f each [] = refl
all_joined t f each (x ∷ xs) = filter-append t (f x) (flat_map f xs) ∙ ap (λ ys. ys ++ filter t (flat_map f xs)) (each x) ∙ ap (λ ys. f x ++ ys) (all_joined t f each xs)

pub no_match : (t : Step → Bool) → ((s r : CallId) → t (Match s r) ≡ false) → (b : Board) → filter t (matches_on b) ≡ []
no_match t each b =
    none_joined t (matches_at b) (λ q.
    none_joined t (λ j. matches_with b (call_id q j)) (λ j.
    none_joined t (matches_from b (call_id q j)) (λ p.
    none_mapped t (λ i. Match (call_id p i) (call_id q j)) (λ i. each (call_id p i) (call_id q j)) (filter (λ i. eligible b (call_id p i) (call_id q j)) (call_numbers b p))) (rank_numbers b)) (call_numbers b q)) (rank_numbers b)

pub one_passes : (t : Step → Bool) (c : Bool) (x : Step) → t x ≡ true → filter t (cond c (x ∷ []) []) ≡ cond c (x ∷ []) []
one_passes t true x e = ap (λ (d : Bool). cond d (x ∷ []) []) e
one_passes t false x e = refl

pub one_fails : (t : Step → Bool) (c : Bool) (x : Step) → t x ≡ false → filter t (cond c (x ∷ []) []) ≡ []
one_fails t true x e = ap (λ (d : Bool). cond d (x ∷ []) []) e
one_fails t false x e = refl

-- ---- the enabled steps that pass a test, part by part

pub of_parts : (t : Step → Bool) (w : World) (one two three four five : List Step) → filter t (locals w) ≡ one → filter t (releases w) ≡ two → filter t (wakes w) ≡ three → filter t (any_wakes w) ≡ four → filter t (matches_on w.board) ≡ five
    → filter t (enabled w) ≡ one ++ (two ++ (three ++ (four ++ five)))
of_parts t w one two three four five l r k a m =
    ap (filter t) (enabled_parts w)
    ∙ filter-append t (locals w) (releases w ++ (wakes w ++ (any_wakes w ++ matches_on w.board)))
    ∙ ap (λ ys. ys ++ filter t (releases w ++ (wakes w ++ (any_wakes w ++ matches_on w.board)))) l
    ∙ ap (λ ys. one ++ ys) (filter-append t (releases w) (wakes w ++ (any_wakes w ++ matches_on w.board))
    ∙ ap (λ ys. ys ++ filter t (wakes w ++ (any_wakes w ++ matches_on w.board))) r
    ∙ ap (λ ys. two ++ ys) (filter-append t (wakes w) (any_wakes w ++ matches_on w.board)
    ∙ ap (λ ys. ys ++ filter t (any_wakes w ++ matches_on w.board)) k
    ∙ ap (λ ys. three ++ ys) (filter-append t (any_wakes w) (matches_on w.board)
    ∙ ap (λ ys. ys ++ filter t (matches_on w.board)) a
    ∙ ap (λ ys. four ++ ys) m)))

abbrev local_numbers : World → List ℕ
local_numbers w = filter (λ p. is_enabled w (Local p)) (rank_numbers w.board)

abbrev pub wake_numbers : World → List ℕ
wake_numbers w = filter (λ p. is_enabled w (Wake p)) (rank_numbers w.board)

-- the indexes of a rank's waitany by which it can go on
abbrev any_numbers : World → ℕ → List ℕ
any_numbers w p = filter (λ i. is_enabled w (WakeAny p i)) (range_with_len 0 (requests_of (kind_at w.board (last_call w.board p))))

by_index : (w : World) (p : ℕ) → any_wakes_at w p ≡ map (WakeAny p) (any_numbers w p)
by_index w p = sym (any_wakes_by w p)

by_rank : (w : World) → any_wakes w ≡ flat_map (any_wakes_at w) (rank_numbers w.board)
by_rank w = sym (any_wakes_joined w)

none_at : (t : Step → Bool) (w : World) (p : ℕ) → ((i : ℕ) → t (WakeAny p i) ≡ false) → filter t (any_wakes_at w p) ≡ []
none_at t w p each = ap (filter t) (by_index w p) ∙ none_mapped t (WakeAny p) each (any_numbers w p)

all_at : (t : Step → Bool) (w : World) (p : ℕ) → ((i : ℕ) → t (WakeAny p i) ≡ true) → filter t (any_wakes_at w p) ≡ any_wakes_at w p
all_at t w p each = ap (filter t) (by_index w p) ∙ all_mapped t (WakeAny p) each (any_numbers w p) ∙ sym (by_index w p)

pub no_any : (t : Step → Bool) → ((p i : ℕ) → t (WakeAny p i) ≡ false) → (w : World) → filter t (any_wakes w) ≡ []
no_any t each w = ap (filter t) (by_rank w) ∙ none_joined t (any_wakes_at w) (λ p. none_at t w p (each p)) (rank_numbers w.board)

pub local_steps : (w : World) → filter is_local (enabled w) ≡ locals w
local_steps w =
    of_parts is_local w (locals w) [] [] [] []
    (all_mapped is_local Local (λ p. refl) (local_numbers w))
    (one_fails is_local (is_enabled w Release) Release refl)
    (none_mapped is_local Wake (λ p. refl) (wake_numbers w))
    (no_any is_local (λ p i. refl) w)
    (no_match is_local (λ s r. refl) w.board)
    ∙ append-nil (locals w)

pub release_steps : (w : World) → filter is_release (enabled w) ≡ releases w
release_steps w =
    of_parts is_release w [] (releases w) [] [] []
    (none_mapped is_release Local (λ p. refl) (local_numbers w))
    (one_passes is_release (is_enabled w Release) Release refl)
    (none_mapped is_release Wake (λ p. refl) (wake_numbers w))
    (no_any is_release (λ p i. refl) w)
    (no_match is_release (λ s r. refl) w.board)
    ∙ append-nil (releases w)

pub wake_steps : (w : World) → filter is_wake (enabled w) ≡ wakes w
wake_steps w =
    of_parts is_wake w [] [] (wakes w) [] []
    (none_mapped is_wake Local (λ p. refl) (local_numbers w))
    (one_fails is_wake (is_enabled w Release) Release refl)
    (all_mapped is_wake Wake (λ p. refl) (wake_numbers w))
    (no_any is_wake (λ p i. refl) w)
    (no_match is_wake (λ s r. refl) w.board)
    ∙ append-nil (wakes w)

pub named_steps : (w : World) → filter (is_named_match w.board) (enabled w) ≡ filter (is_named_match w.board) (matches_on w.board)
named_steps w =
    of_parts (is_named_match w.board) w [] [] [] [] (filter (is_named_match w.board) (matches_on w.board))
    (none_mapped (is_named_match w.board) Local (λ p. refl) (local_numbers w))
    (one_fails (is_named_match w.board) (is_enabled w Release) Release refl)
    (none_mapped (is_named_match w.board) Wake (λ p. refl) (wake_numbers w))
    (no_any (is_named_match w.board) (λ p i. refl) w)
    refl

pub open_steps : (w : World) → open_matches w ≡ filter (is_open_match w.board) (matches_on w.board)
open_steps w =
    of_parts (is_open_match w.board) w [] [] [] [] (filter (is_open_match w.board) (matches_on w.board))
    (none_mapped (is_open_match w.board) Local (λ p. refl) (local_numbers w))
    (one_fails (is_open_match w.board) (is_enabled w Release) Release refl)
    (none_mapped (is_open_match w.board) Wake (λ p. refl) (wake_numbers w))
    (no_any (is_open_match w.board) (λ p i. refl) w)
    refl

-- ---- the steps of waitanys

abbrev is_any : Step → Bool
is_any a = is_some (any_rank a)

any_steps : (w : World) → filter is_any (enabled w) ≡ any_wakes w
any_steps w =
    of_parts is_any w [] [] [] (any_wakes w) []
    (none_mapped is_any Local (λ p. refl) (local_numbers w))
    (one_fails is_any (is_enabled w Release) Release refl)
    (none_mapped is_any Wake (λ p. refl) (wake_numbers w))
    (ap (filter is_any) (by_rank w) ∙ all_joined is_any (any_wakes_at w) (λ p. all_at is_any w p (λ i. refl)) (rank_numbers w.board) ∙ sym (by_rank w))
    (no_match is_any (λ s r. refl) w.board)
    ∙ append-nil (any_wakes w)

-- those of one rank
steps_of_one : (w : World) (p : ℕ) → filter (is_of (Some p)) (enabled w) ≡ filter (is_of (Some p)) (any_wakes w)
steps_of_one w p =
    of_parts (is_of (Some p)) w [] [] [] (filter (is_of (Some p)) (any_wakes w)) []
    (none_mapped (is_of (Some p)) Local (λ q. refl) (local_numbers w))
    (one_fails (is_of (Some p)) (is_enabled w Release) Release refl)
    (none_mapped (is_of (Some p)) Wake (λ q. refl) (wake_numbers w))
    refl
    (no_match (is_of (Some p)) (λ s r. refl) w.board)
    ∙ append-nil (filter (is_of (Some p)) (any_wakes w))

same_rank_is : (p : ℕ) → (p == p) ≡ true
same_rank_is p = (Decides-eqb p p).1 refl

other_rank : (p q : ℕ) → p < q → (p == q) ≡ false
other_rank p q lt =
    elim (eqb_tells p q) [
      | inl h ↦ absurd (let same = h.1 in omega (arith, same, lt))
      | inr h ↦ h.0
    ]

-- none of a rank from i on is of one below
none_of_later : (w : World) (p i n : ℕ) → p < i → filter (is_of (Some p)) (flat_map (any_wakes_at w) (range_with_len i n)) ≡ []
none_of_later w p i zero lt = refl
none_of_later w p i (suc n) lt =
    filter-append (is_of (Some p)) (any_wakes_at w i) (flat_map (any_wakes_at w) (range_with_len (i + 1) n))
    ∙ ap (λ ys. ys ++ filter (is_of (Some p)) (flat_map (any_wakes_at w) (range_with_len (i + 1) n))) (none_at (is_of (Some p)) w i (λ k. other_rank p i lt))
    ∙ none_of_later w p (i + 1) n (omega (arith, lt))

-- the steps of the lowest rank from i on that has one
abbrev pub any_from : World → ℕ → ℕ → List Step
any_from w i zero = []
any_from w i (suc n) = or_those (any_wakes_at w i) (any_from w (i + 1) n)

abbrev first_rank : List Step → Option ℕ
first_rank xs = option_and_then any_rank (first_in xs)

-- those of a rank, then those of ranks behind it
abbrev lowest : List Step → List Step
lowest xs = filter (is_of (first_rank xs)) xs

abbrev rest_of : World → ℕ → ℕ → List Step
rest_of w i n = flat_map (any_wakes_at w) (range_with_len i n)

lowest_of : (w : World) (i n : ℕ) (xs : List ℕ) → lowest (rest_of w (i + 1) n) ≡ any_from w (i + 1) n → lowest (map (WakeAny i) xs ++ rest_of w (i + 1) n) ≡ or_those (map (WakeAny i) xs) (any_from w (i + 1) n)
lowest_of w i n [] h = h
lowest_of w i n (x ∷ xs) h =
    let ys : List Step = rest_of w (i + 1) n in
    filter-append (is_of (Some i)) (map (WakeAny i) (x ∷ xs)) ys
    ∙ ap (λ zs. zs ++ filter (is_of (Some i)) ys) (all_mapped (is_of (Some i)) (WakeAny i) (λ k. same_rank_is i) (x ∷ xs))
    ∙ ap (λ zs. map (WakeAny i) (x ∷ xs) ++ zs) (none_of_later w i (i + 1) n (omega arith))
    ∙ append-nil (map (WakeAny i) (x ∷ xs))

lowest_from : (w : World) (i n : ℕ) → lowest (rest_of w i n) ≡ any_from w i n
lowest_from w i zero = refl
lowest_from w i (suc n) =
    subst (λ (ys : List Step). lowest (ys ++ rest_of w (i + 1) n) ≡ or_those ys (any_from w (i + 1) n)) (sym (by_index w i)) (lowest_of w i n (any_numbers w i) (lowest_from w (i + 1) n))

of_nobody : (xs : List Step) → filter (is_of None) xs ≡ []
of_nobody [] = refl
of_nobody (x ∷ xs) = of_nobody xs

-- of all enabled steps, and of those of waitanys alone
of_rank : (w : World) (o : Option ℕ) → filter (is_of o) (enabled w) ≡ filter (is_of o) (any_wakes w)
of_rank w None = of_nobody (enabled w) ∙ sym (of_nobody (any_wakes w))
of_rank w (Some p) = steps_of_one w p

pub any_all : (w : World) → any_from w 0 (length w.board.calls) ≡ any_choices w
any_all w =
    sym (ap (λ xs. filter (is_of (first_rank xs)) (enabled w)) (any_steps w)
    ∙ of_rank w (first_rank (any_wakes w))
    ∙ ap lowest (by_rank w)
    ∙ lowest_from w 0 (length w.board.calls))

-- ---- one rank after another

module _ (t : ℕ → Bool) (f : ℕ → Step) where
  abbrev pub first_from : ℕ → ℕ → Option Step
  first_from i n = first_in (map f (filter t (range_with_len i n)))

  taken : (b : Bool) (i : ℕ) (xs : List ℕ) → first_in (map f (cond b (i ∷ xs) xs)) ≡ cond b (Some (f i)) (first_in (map f xs))
  taken true i xs = refl
  taken false i xs = refl

  first_next : (i n : ℕ) → i < n → first_from i (n - i) ≡ cond (t i) (Some (f i)) (first_from (i + 1) (n - (i + 1)))
  first_next i n lt = let k : n - i ≡ suc (n - (i + 1)) = omega arith in ap (first_from i) k ∙ taken (t i) i (filter t (range_with_len (i + 1) (n - (i + 1))))

  pub first_on : (i n : ℕ) (total : Option Step) → i < n → first_from i (n - i) ≡ total → t i ≡ false → first_from (i + 1) (n - (i + 1)) ≡ total
  first_on i n total lt e misses = sym (first_next i n lt ∙ ap (λ (b : Bool). cond b (Some (f i)) (first_from (i + 1) (n - (i + 1)))) misses) ∙ e

  pub first_now : (i n : ℕ) (total : Option Step) → i < n → first_from i (n - i) ≡ total → t i ≡ true → Some (f i) ≡ total
  first_now i n total lt e hits = sym (first_next i n lt ∙ ap (λ (b : Bool). cond b (Some (f i)) (first_from (i + 1) (n - (i + 1)))) hits) ∙ e

pub first_begins : (w : World) (t : Step → Bool) (f : ℕ → Step) (n : ℕ) → n ≡ length w.board.calls → filter t (enabled w) ≡ map f (filter (λ p. is_enabled w (f p)) (rank_numbers w.board))
    → first_from (λ p. is_enabled w (f p)) f 0 (n - 0) ≡ first_enabled w t
first_begins w t f n e all =
    let k : n - 0 ≡ length w.board.calls = omega (arith, e) in
    ap (first_from (λ p. is_enabled w (f p)) f 0) k ∙ ap first_in (sym all)

pub release_some : (w : World) (c : Bool) → c ≡ is_enabled w Release → c ≡ true → Some Release ≡ first_enabled w is_release
release_some w c is here = sym (ap first_in (release_steps w) ∙ ap (λ (b : Bool). first_in (cond b (Release ∷ []) [])) (sym is ∙ here))

pub release_none : (w : World) (c : Bool) → c ≡ is_enabled w Release → c ≡ false → None ≡ first_enabled w is_release
release_none w c is here = sym (ap first_in (release_steps w) ∙ ap (λ (b : Bool). first_in (cond b (Release ∷ []) [])) (sym is ∙ here))

pub ruleset releasing = (release_some, release_none)

pub named_first : (w : World) (b : Board) (found : Option Step) → b ≡ w.board → found ≡ first_in (filter (is_named_match b) (matches_on b)) → found ≡ first_enabled w (is_named_match w.board)
named_first w b found e is = subst (λ (b : Board). found ≡ first_in (filter (is_named_match b) (matches_on b))) e is ∙ sym (ap first_in (named_steps w))

pub ruleset naming = (named_first)

-- ---- the first of four

pub some_else : (o p : Option Step) → is_some o ≡ true → o ≡ or_else o p
some_else None p e = absurd (cc)
some_else (Some a) p e = refl

pub none_else : (o p : Option Step) → is_some o ≡ false → p ≡ or_else o p
none_else None p e = refl
none_else (Some a) p e = absurd (cc)

pub ruleset first_of_four = (some_else, none_else)

-- ---- the steps of one waitany, rank by rank

pub any_begins : (w : World) (n : ℕ) → n ≡ length w.board.calls → any_from w 0 (n - 0) ≡ any_choices w
any_begins w n e = let k : n - 0 ≡ length w.board.calls = omega (arith, e) in ap (any_from w 0) k ∙ any_all w

any_next : (w : World) (i n : ℕ) → i < n → any_from w i (n - i) ≡ or_those (any_wakes_at w i) (any_from w (i + 1) (n - (i + 1)))
any_next w i n lt = let k : n - i ≡ suc (n - (i + 1)) = omega arith in ap (any_from w i) k

those_first : (xs ys : List Step) → 0 < length xs → or_those xs ys ≡ xs
those_first [] ys some = absurd (omega (arith, some))
those_first (x ∷ xs) ys some = refl

-- a rank has none
any_on : (w : World) (i n : ℕ) (steps : List Step) → i < n → any_from w i (n - i) ≡ any_choices w → steps ≡ any_wakes_at w i → steps ≡ [] → any_from w (i + 1) (n - (i + 1)) ≡ any_choices w
any_on w i n steps lt e is none = sym (any_next w i n lt ∙ ap (λ xs. or_those xs (any_from w (i + 1) (n - (i + 1)))) (sym is ∙ none)) ∙ e

no_steps : (xs : List Step) → length xs ≡ 0 → xs ≡ []
no_steps [] e = refl
no_steps (x ∷ xs) e = absurd (omega (arith, e))

pub any_passed : (w : World) (i n : ℕ) (before steps : List Step) → i < n → (before ≡ []) × (any_from w i (n - i) ≡ any_choices w) → steps ≡ before ++ any_wakes_at w i → length steps ≡ 0
    → (steps ≡ []) × (any_from w (i + 1) (n - (i + 1)) ≡ any_choices w)
any_passed w i n before steps lt found is short =
    let none : steps ≡ [] = no_steps steps short in
    (none, any_on w i n steps lt found.1 (is ∙ ap (λ xs. xs ++ any_wakes_at w i) found.0) none)

-- a rank has some
pub any_now : (w : World) (i n : ℕ) (steps : List Step) → i < n → any_from w i (n - i) ≡ any_choices w → steps ≡ any_wakes_at w i → 0 < length steps → steps ≡ any_choices w
any_now w i n steps lt e is some =
    is ∙ sym (any_next w i n lt ∙ those_first (any_wakes_at w i) (any_from w (i + 1) (n - (i + 1))) (subst (λ (xs : List Step). 0 < length xs) is some)) ∙ e

pub any_refused : (w : World) (i n : ℕ) → i < n → any_from w i (n - i) ≡ any_choices w → 0 < length (any_wakes_at w i) → 0 < length (any_choices w)
any_refused w i n lt e some = subst (λ (xs : List Step). 0 < length xs) (any_now w i n (any_wakes_at w i) lt e refl some) some

-- no rank has one
pub any_ends : (w : World) (n : ℕ) → any_from w n (n - n) ≡ any_choices w → [] ≡ any_choices w
any_ends w n e = let k : 0 ≡ n - n = omega arith in ap (any_from w n) k ∙ e

pub ruleset finding_any = (any_begins, any_now, any_refused, any_ends)

-- ---- the choice

pub any_ok : (w : World) (steps : List Step) → steps ≡ any_choices w → 0 < length steps → steps ≡ choices w
any_ok w steps is some = is ∙ sym (those_first (any_choices w) (open_matches w) (subst (λ (xs : List Step). 0 < length xs) is some))

those_second : (xs ys : List Step) → length xs ≡ 0 → or_those xs ys ≡ ys
those_second [] ys none = refl
those_second (x ∷ xs) ys none = absurd (omega (arith, none))

pub open_now : (w : World) (b : Board) (steps before : List Step) → before ≡ any_choices w → length before ≡ 0 → b ≡ w.board → steps ≡ before ++ filter (is_open_match b) (matches_on b) → steps ≡ choices w
open_now w b steps before any none e is =
    let short : length (any_choices w) ≡ 0 = sym (ap length any) ∙ none in
    is ∙ subst (λ (b : Board). before ++ filter (is_open_match b) (matches_on b) ≡ choices w) (sym e)
    (ap (λ xs. xs ++ filter (is_open_match w.board) (matches_on w.board)) (no_steps before none)
    ∙ sym (open_steps w) ∙ sym (those_second (any_choices w) (open_matches w) short))

pub any_some : (w : World) → 0 < length (any_choices w) → 0 < length (choices w)
any_some w some = subst (λ (xs : List Step). 0 < length xs) (sym (those_first (any_choices w) (open_matches w) some)) some

pub open_some : (w : World) (b : Board) (before : List Step) → before ≡ any_choices w → length before ≡ 0 → b ≡ w.board → 0 < length (filter (is_open_match b) (matches_on b)) → 0 < length (choices w)
open_some w b before any none e some =
    let short : length (any_choices w) ≡ 0 = sym (ap length any) ∙ none in
    subst (λ (xs : List Step). 0 < length xs) (sym (those_second (any_choices w) (open_matches w) short ∙ open_steps w))
    (subst (λ (b : Board). 0 < length (filter (is_open_match b) (matches_on b))) e some)

pub ruleset opening = (any_ok, open_now, any_some, open_some)

-- ---- the decision

pub decided_some : (w : World) (a : Step) → forced_step w ≡ Some a → decision w ≡ Forced a
unfolding decision
decided_some w a e = ap (decided w) e

pub decided_none : (w : World) → forced_step w ≡ None → decision w ≡ chosen_from w (choices w)
unfolding decision
decided_none w e = ap (decided w) e

pub forced_is : (w : World) (o : Option Step) (a : Step) → o ≡ forced_step w → o ≡ Some a → Forced a ≡ decision w
forced_is w o a is some = sym (decided_some w a (sym is ∙ some))

pub chosen_some : (w : World) (steps : List Step) → 0 < length steps → chosen_from w steps ≡ Choice steps
chosen_some w [] some = absurd (omega (arith, some))
chosen_some w (a ∷ steps) some = refl

pub chosen_none : (w : World) (steps : List Step) → length steps ≡ 0 → chosen_from w steps ≡ Leaf (ending w)
chosen_none w [] none = refl
chosen_none w (a ∷ steps) none = absurd (omega (arith, none))

pub choice_is : (w : World) (o : Option Step) (steps : List Step) → o ≡ forced_step w → o ≡ None → steps ≡ choices w → 0 < length steps → decision w ≡ Choice steps
choice_is w o steps is none e some = decided_none w (sym is ∙ none) ∙ ap (chosen_from w) (sym e) ∙ chosen_some w steps some

pub leaf_is : (w : World) (o : Option Step) (steps : List Step) → o ≡ forced_step w → o ≡ None → steps ≡ choices w → length steps ≡ 0 → decision w ≡ Leaf (ending w)
leaf_is w o steps is none e short = decided_none w (sym is ∙ none) ∙ ap (chosen_from w) (sym e) ∙ chosen_none w steps short

pub leaf_now : (w : World) (o : Option Step) (steps : List Step) (out : Outcome) → o ≡ forced_step w → o ≡ None → steps ≡ choices w → length steps ≡ 0 → out ≡ ending w → Leaf out ≡ decision w
leaf_now w o steps out is none e short ends = ap Leaf ends ∙ sym (leaf_is w o steps is none e short)

pub choice_entries : (w : World) (o : Option Step) → o ≡ forced_step w → o ≡ None → 0 < length (choices w) → 0 < entries_of (decision w)
choice_entries w o is none some =
    subst (λ (d : Decision). 0 < entries_of d) (sym (choice_is w o (choices w) is none refl some)) some

pub leaf_entries : (w : World) (o : Option Step) (steps : List Step) → o ≡ forced_step w → o ≡ None → steps ≡ choices w → length steps ≡ 0 → 0 < entries_of (Leaf (ending w)) → 0 < entries_of (decision w)
leaf_entries w o steps is none e short some = subst (λ (d : Decision). 0 < entries_of d) (sym (leaf_is w o steps is none e short)) some

pub ruleset deciding = (forced_is, choice_is, leaf_now, choice_entries, leaf_entries)
