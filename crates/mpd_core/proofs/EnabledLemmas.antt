-- The enabled steps, by their kinds.
use Rattle.std.proofs.Common.{◌≡◌, ℕ, ◌<◌, ◌+◌, ◌-◌, Bool, true, false, ◌&&◌, cond, List, [], ◌∷◌, ◌++◌, refl, sym, ap, subst, ◌∙◌, arith, map, length, append_assoc, append-nil, Some, None, is_some, slice_get}
use Rattle.std.proofs.lemmas.List.{length-append}
use Rattle.std.proofs.lemmas.List.Elements.{filter-append}
use Rattle.std.specs.List.{filter, flat_map, range_with_len}
use Rattle.mpd_model.specs.declared.step.Step.{Step}
use Rattle.mpd_model.specs.declared.step.Step.TheVariants.{Local, Match, Wake, WakeAny, Release}
use Rattle.mpd_model.specs.declared.call.MatchSet.TheVariants.{Pair}
use Rattle.mpd_model.specs.steps.World.{World, Board, call_id, kind_at, last_call, rank_numbers, call_numbers, eligible}
use Rattle.mpd_model.specs.steps.Next.{is_enabled, enabled, with_set, requests_of, waits, any_call, is_complete_some, woken_any, any_wakes_of, any_wakes_in, matches_with, matches_of, matches_in}
use Rattle.mpd_match.specs.Matches as listed

out_of : {A : Type 0} (f : A → Step) (b : Bool) (x : A) (ys : List A) → cond b (f x ∷ map f ys) (map f ys) ≡ map f (cond b (x ∷ ys) ys)
out_of f true x ys = refl
out_of f false x ys = refl

filter_mapped : {A : Type 0} (t : Step → Bool) (f : A → Step) (u : A → Bool) → ((x : A) → t (f x) ≡ u x) → (xs : List A) → filter t (map f xs) ≡ map f (filter u xs)
filter_mapped t f u each [] = refl
filter_mapped t f u each (x ∷ xs) =
    ap (λ b. cond b (f x ∷ filter t (map f xs)) (filter t (map f xs))) (each x)
    ∙ ap (λ ys. cond (u x) (f x ∷ ys) ys) (filter_mapped t f u each xs)
    ∙ out_of f (u x) x (filter u xs)

filter_joined : {A : Type 0} (t : Step → Bool) (f g : A → List Step) → ((x : A) → filter t (f x) ≡ g x) → (xs : List A) → filter t (flat_map f xs) ≡ flat_map g xs
filter_joined t f g each [] = refl
filter_joined t f g each (x ∷ xs) = filter-append t (f x) (flat_map f xs) ∙ ap (λ ys. ys ++ filter t (flat_map f xs)) (each x) ∙ ap (λ ys. g x ++ ys) (filter_joined t f g each xs)

enabled_by : (b : Bool) (w : World) → is_some (cond b (Some w) None) ≡ b
enabled_by true w = refl
enabled_by false w = refl

matches_are : (w : World) → filter (is_enabled w) (matches_in w.board) ≡ listed.matches_on w.board
matches_are w =
    let b : Board = w.board in
    filter_joined (is_enabled w) (matches_of b) (listed.matches_at b) (λ q.
    filter_joined (is_enabled w) (λ j. matches_with b (call_id q j)) (λ j. listed.matches_with b (call_id q j)) (λ j.
    filter_joined (is_enabled w) (λ p. map (λ i. Match (call_id p i) (call_id q j)) (call_numbers b p)) (listed.matches_from b (call_id q j)) (λ p.
    filter_mapped (is_enabled w) (λ i. Match (call_id p i) (call_id q j)) (λ i. eligible b (call_id p i) (call_id q j)) (λ i.
    enabled_by (eligible b (call_id p i) (call_id q j)) (record w { board = with_set b (Pair (call_id p i) (call_id q j)) })) (call_numbers b p)) (rank_numbers b)) (call_numbers b q)) (rank_numbers b)

abbrev pub locals : World → List Step
locals w = map Local (filter (λ p. is_enabled w (Local p)) (rank_numbers w.board))

abbrev pub wakes : World → List Step
wakes w = map Wake (filter (λ p. is_enabled w (Wake p)) (rank_numbers w.board))

-- the release, where it is enabled
abbrev pub releases : World → List Step
releases w = cond (is_enabled w Release) (Release ∷ []) []

split : (b : Bool) (x : Step) (ys : List Step) → cond b (x ∷ ys) ys ≡ cond b (x ∷ []) [] ++ ys
split true x ys = refl
split false x ys = refl

-- those of waitanys, of one rank and of all
abbrev pub any_wakes_at : World → ℕ → List Step
any_wakes_at w p = filter (is_enabled w) (any_wakes_of w.board p)

abbrev pub any_wakes : World → List Step
any_wakes w = filter (is_enabled w) (any_wakes_in w.board)

pub any_wakes_by : (w : World) (p : ℕ) → map (WakeAny p) (filter (λ i. is_enabled w (WakeAny p i)) (range_with_len 0 (requests_of (kind_at w.board (last_call w.board p))))) ≡ any_wakes_at w p
any_wakes_by w p = sym (filter_mapped (is_enabled w) (WakeAny p) (λ i. is_enabled w (WakeAny p i)) (λ i. refl) (range_with_len 0 (requests_of (kind_at w.board (last_call w.board p)))))

pub any_wakes_joined : (w : World) → flat_map (any_wakes_at w) (rank_numbers w.board) ≡ any_wakes w
any_wakes_joined w = sym (filter_joined (is_enabled w) (any_wakes_of w.board) (any_wakes_at w) (λ p. refl) (rank_numbers w.board))

-- a rank that isn't blocked goes on by none
pub no_any_wakes : (w : World) (p : ℕ) (old : List Step) → waits (slice_get w.ranks p) ≡ false → old ≡ old ++ filter (is_enabled w) (any_wakes_of w.board p)
no_any_wakes w p old e = sym (ap (λ ys. old ++ ys) (none (range_with_len 0 (requests_of (kind_at w.board (last_call w.board p))))) ∙ append-nil old)
  where
    not_enabled : (i : ℕ) → is_enabled w (WakeAny p i) ≡ false
    not_enabled i = ap (λ (b : Bool). is_some (cond (b && is_complete_some w.board (any_call w p i)) (Some (woken_any w p i)) None)) e

    none : (xs : List ℕ) → filter (is_enabled w) (map (WakeAny p) xs) ≡ []
    none [] = refl
    none (x ∷ xs) = ap (λ (b : Bool). cond b (WakeAny p x ∷ filter (is_enabled w) (map (WakeAny p) xs)) (filter (is_enabled w) (map (WakeAny p) xs))) (not_enabled x) ∙ none xs

-- gathered from the first number on
pub any_wakes_ahead : (w : World) (p n : ℕ) (old : List Step) → n ≡ requests_of (kind_at w.board (last_call w.board p))
    → old ++ map (WakeAny p) (filter (λ i. is_enabled w (WakeAny p i)) (range_with_len 0 (n - 0))) ≡ old ++ any_wakes_at w p
any_wakes_ahead w p n old e =
    let all : n - 0 ≡ requests_of (kind_at w.board (last_call w.board p)) = omega (arith, e) in
    ap (λ m. old ++ map (WakeAny p) (filter (λ i. is_enabled w (WakeAny p i)) (range_with_len 0 m))) all ∙ ap (λ ys. old ++ ys) (any_wakes_by w p)

pub all_wakes_ahead : (w : World) (n : ℕ) (old : List Step) → n ≡ length w.board.calls → old ++ flat_map (any_wakes_at w) (range_with_len 0 (n - 0)) ≡ old ++ any_wakes w
all_wakes_ahead w n old e =
    let all : n - 0 ≡ length w.board.calls = omega (arith, e) in
    ap (λ m. old ++ flat_map (any_wakes_at w) (range_with_len 0 m)) all ∙ ap (λ ys. old ++ ys) (any_wakes_joined w)

pub enabled_parts : (w : World) → enabled w ≡ locals w ++ (releases w ++ (wakes w ++ (any_wakes w ++ listed.matches_on w.board)))
enabled_parts w =
    let t = is_enabled w in
    let ranks = rank_numbers w.board in
    let rest = any_wakes_in w.board ++ matches_in w.board in
    filter-append t (map Local ranks) (Release ∷ (map Wake ranks ++ rest))
    ∙ ap (λ ys. ys ++ filter t (Release ∷ (map Wake ranks ++ rest))) (filter_mapped t Local (λ p. t (Local p)) (λ p. refl) ranks)
    ∙ ap (λ ys. locals w ++ ys) (split (t Release) Release (filter t (map Wake ranks ++ rest))
    ∙ ap (λ ys. releases w ++ ys) (filter-append t (map Wake ranks) rest
    ∙ ap (λ ys. ys ++ filter t rest) (filter_mapped t Wake (λ p. t (Wake p)) (λ p. refl) ranks)
    ∙ ap (λ ys. wakes w ++ ys) (filter-append t (any_wakes_in w.board) (matches_in w.board)
    ∙ ap (λ ys. any_wakes w ++ ys) (matches_are w))))

-- ---- gathered one kind after the other

pub enabled_all : (w : World) (b : Board) (one two three four five : List Step) → b ≡ w.board → one ≡ locals w → two ≡ one ++ releases w → three ≡ two ++ wakes w → four ≡ three ++ any_wakes w → five ≡ four ++ listed.matches_on b
    → five ≡ enabled w
enabled_all w b one two three four five same l r k a m =
    let last : List Step = listed.matches_on w.board in
    m ∙ ap (λ (c : Board). four ++ listed.matches_on c) same
    ∙ ap (λ ys. ys ++ last) (a ∙ ap (λ ys. ys ++ any_wakes w) (k ∙ ap (λ ys. ys ++ wakes w) (r ∙ ap (λ ys. ys ++ releases w) l)))
    ∙ append_assoc ((locals w ++ releases w) ++ wakes w) (any_wakes w) last
    ∙ append_assoc (locals w ++ releases w) (wakes w) (any_wakes w ++ last)
    ∙ append_assoc (locals w) (releases w) (wakes w ++ (any_wakes w ++ last))
    ∙ sym (enabled_parts w)

enabled_length : (w : World) → length (enabled w) ≡ length (locals w) + (length (releases w) + (length (wakes w) + (length (any_wakes w) + length (listed.matches_on w.board))))
enabled_length w =
    let last : List Step = listed.matches_on w.board in
    ap length (enabled_parts w)
    ∙ length-append (locals w) (releases w ++ (wakes w ++ (any_wakes w ++ last)))
    ∙ ap (λ n. length (locals w) + n) (length-append (releases w) (wakes w ++ (any_wakes w ++ last))
    ∙ ap (λ n. length (releases w) + n) (length-append (wakes w) (any_wakes w ++ last)
    ∙ ap (λ n. length (wakes w) + n) (length-append (any_wakes w) last)))

pub some_local : (w : World) → 0 < length (locals w) → 0 < length (enabled w)
some_local w some = omega (arith, some, enabled_length w)

pub some_release : (w : World) → 0 < length (releases w) → 0 < length (enabled w)
some_release w some = omega (arith, some, enabled_length w)

pub some_wake : (w : World) → 0 < length (wakes w) → 0 < length (enabled w)
some_wake w some = omega (arith, some, enabled_length w)

pub some_any_wake : (w : World) → 0 < length (any_wakes w) → 0 < length (enabled w)
some_any_wake w some = omega (arith, some, enabled_length w)

pub some_match : (w : World) (b : Board) → b ≡ w.board → 0 < length (listed.matches_on b) → 0 < length (enabled w)
some_match w b same some =
    let here : 0 < length (listed.matches_on w.board) = subst (λ (c : Board). 0 < length (listed.matches_on c)) same some in omega (arith, here, enabled_length w)

pub ruleset enabling = (enabled_all, some_local, some_release, some_wake, some_any_wake, some_match)
