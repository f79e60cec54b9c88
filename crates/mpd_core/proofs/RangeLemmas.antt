-- Numbers one after another: what is so of one of them, and what they give together.
use Rattle.std.proofs.Common.{◌≡◌, ℕ, suc, ◌<◌, ◌≤◌, ◌+◌, ◌-◌, Bool, true, false, ◌||◌, List, [], ◌∷◌, ◌++◌, refl, sym, ap, subst, ◌∙◌, arith, cond, map, length, append_assoc, append-nil, Some, None, is_some, Result, Ok, Err, OnOk, IfOk, OnErr}
use Rattle.std.proofs.lemmas.List.{length-append}
use Rattle.std.specs.List.{filter, flat_map, list_any, range_with_len}
use Rattle.mpd_model.specs.declared.step.Step.{Step}
use Rattle.mpd_model.specs.declared.step.Step.TheVariants.{Local, Match, Wake, Release}
use Rattle.mpd_model.specs.declared.call.MatchSet.TheVariants.{Pair}
use Rattle.mpd_model.specs.steps.World.{World, Board, call_id, rank_numbers, call_numbers, eligible}
use Rattle.mpd_model.specs.steps.Next.{is_enabled, with_set, any_wakes_in, matches_with, matches_of, matches_in, steps_of}
use Rattle.mpd_model.specs.declared.step.CallId.{CallId}
use Rattle.mpd_model.specs.declared.outcome.IssuedCall.{IssuedCall}
use Rattle.mpd_model.specs.declared.outcome.TrappedRank.{TrappedRank}
use Rattle.mpd_model.specs.steps.Outcomes.{ending_by, ended_with}
use Rattle.mpd_core.specs.Listed.{listed_by}

list_any-append : {A : Type 0} (t : A → Bool) (xs ys : List A) → list_any t (xs ++ ys) ≡ list_any t xs || list_any t ys
list_any-append t [] ys = refl
list_any-append t (x ∷ xs) ys = elim (t x) as (λ b. b || list_any t (xs ++ ys) ≡ (b || list_any t xs) || list_any t ys) [ true ↦ refl | false ↦ list_any-append t xs ys ]

module _ (t : Step → Bool) (f : ℕ → Step) where
  -- some step of a range
  abbrev pub mapped_from : ℕ → ℕ → Bool
  mapped_from i n = list_any t (map f (range_with_len i n))

  pub mapped_on : (i n : ℕ) (total : Bool) → i < n → mapped_from i (n - i) ≡ total → t (f i) ≡ false → mapped_from (i + 1) (n - (i + 1)) ≡ total
  mapped_on i n total h e other =
      let k : n - i ≡ suc (n - (i + 1)) = omega arith in
      let u : mapped_from i (n - i) ≡ t (f i) || mapped_from (i + 1) (n - (i + 1)) = rw k refl in
      sym (u ∙ ap (λ b. b || mapped_from (i + 1) (n - (i + 1))) other) ∙ e

  pub mapped_now : (i n : ℕ) (total : Bool) → i < n → mapped_from i (n - i) ≡ total → t (f i) ≡ true → total ≡ true
  mapped_now i n total h e here =
      let k : n - i ≡ suc (n - (i + 1)) = omega arith in
      let u : mapped_from i (n - i) ≡ t (f i) || mapped_from (i + 1) (n - (i + 1)) = rw k refl in
      sym e ∙ u ∙ ap (λ b. b || mapped_from (i + 1) (n - (i + 1))) here

module _ (t : Step → Bool) (f : ℕ → List Step) where
  -- some step of the lists of a range
  abbrev pub joined_from : ℕ → ℕ → Bool
  joined_from i n = list_any t (flat_map f (range_with_len i n))

  joined_next : (i n : ℕ) → i < n → joined_from i (n - i) ≡ list_any t (f i) || joined_from (i + 1) (n - (i + 1))
  joined_next i n h =
      let k : n - i ≡ suc (n - (i + 1)) = omega arith in
      rw k (list_any-append t (f i) (flat_map f (range_with_len (i + 1) (n - (i + 1)))))

  pub joined_on : (i n : ℕ) (total : Bool) → i < n → joined_from i (n - i) ≡ total → list_any t (f i) ≡ false → joined_from (i + 1) (n - (i + 1)) ≡ total
  joined_on i n total h e other = sym (joined_next i n h ∙ ap (λ b. b || joined_from (i + 1) (n - (i + 1))) other) ∙ e

  pub joined_now : (i n : ℕ) (total : Bool) → i < n → joined_from i (n - i) ≡ total → list_any t (f i) ≡ true → total ≡ true
  joined_now i n total h e here = sym e ∙ joined_next i n h ∙ ap (λ b. b || joined_from (i + 1) (n - (i + 1))) here

-- what the numbers of a range give together, one number at a time
pub given_more : {A : Type 0} (f : ℕ → List A) (i n : ℕ) (so_far now total : List A) → i < n → so_far ++ flat_map f (range_with_len i (n - i)) ≡ total → now ≡ so_far ++ f i
    → now ++ flat_map f (range_with_len (i + 1) (n - (i + 1))) ≡ total
given_more f i n so_far now total h e more =
    let k : n - i ≡ suc (n - (i + 1)) = omega arith in
    let u : flat_map f (range_with_len i (n - i)) ≡ f i ++ flat_map f (range_with_len (i + 1) (n - (i + 1))) = rw k refl in
    ap (λ xs. xs ++ flat_map f (range_with_len (i + 1) (n - (i + 1)))) more ∙ append_assoc so_far (f i) (flat_map f (range_with_len (i + 1) (n - (i + 1)))) ∙ ap (λ xs. so_far ++ xs) (sym u) ∙ e

module _ {A : Type 0} (t : ℕ → Bool) (f : ℕ → A) where
  abbrev pub chosen_from : ℕ → ℕ → List A
  chosen_from i n = map f (filter t (range_with_len i n))

  chosen_by : (b : Bool) (x : A) (i : ℕ) (xs : List ℕ) → f i ≡ x → map f (cond b (i ∷ xs) xs) ≡ cond b (x ∷ map f xs) (map f xs)
  chosen_by true x i xs e = ap (λ y. y ∷ map f xs) e
  chosen_by false x i xs e = refl

  chosen_next : (i n : ℕ) → i < n → chosen_from i (n - i) ≡ cond (t i) (f i ∷ chosen_from (i + 1) (n - (i + 1))) (chosen_from (i + 1) (n - (i + 1)))
  chosen_next i n h =
      let k : n - i ≡ suc (n - (i + 1)) = omega arith in
      rw k (chosen_by (t i) (f i) i (filter t (range_with_len (i + 1) (n - (i + 1)))) refl)

  chosen_split : (b : Bool) (xs : List A) (x : A) (rest : List A) → xs ++ cond b (x ∷ rest) rest ≡ (xs ++ cond b (x ∷ []) []) ++ rest
  chosen_split true xs x rest = sym (append_assoc xs (x ∷ []) rest)
  chosen_split false xs x rest = ap (λ ys. ys ++ rest) (sym (append-nil xs))

  -- the numbers of a range that are chosen, one number at a time
  pub chosen_more : (i n : ℕ) (so_far now total : List A) → i < n → so_far ++ chosen_from i (n - i) ≡ total → now ≡ so_far ++ cond (t i) (f i ∷ []) [] → now ++ chosen_from (i + 1) (n - (i + 1)) ≡ total
  chosen_more i n so_far now total h e more =
      ap (λ xs. xs ++ chosen_from (i + 1) (n - (i + 1))) more ∙ sym (chosen_split (t i) so_far (f i) (chosen_from (i + 1) (n - (i + 1)))) ∙ ap (λ xs. so_far ++ xs) (sym (chosen_next i n h)) ∙ e

  -- one that is chosen is in what all give behind what there was
  pub chosen_some : (i n : ℕ) (so_far old total : List A) → i < n → length old ≤ length so_far → so_far ++ chosen_from i (n - i) ≡ old ++ total → 0 < length (cond (t i) (f i ∷ []) []) → 0 < length total
  chosen_some i n so_far old total h grows e some =
      let rest : List A = chosen_from (i + 1) (n - (i + 1)) in
      let all : (so_far ++ cond (t i) (f i ∷ []) []) ++ rest ≡ old ++ total = sym (chosen_split (t i) so_far (f i) rest) ∙ ap (λ xs. so_far ++ xs) (sym (chosen_next i n h)) ∙ e in
      omega (arith, ap length all, some, grows, length-append (so_far ++ cond (t i) (f i ∷ []) []) rest, length-append so_far (cond (t i) (f i ∷ []) []), length-append old total)

-- what is added makes no list shorter
pub chosen_grows : {A : Type 0} (old so_far now more : List A) → length old ≤ length so_far → now ≡ so_far ++ more → length old ≤ length now
chosen_grows old so_far now more grows e = omega (arith, ap length e, grows, length-append so_far more)

-- no step is enabled where none of each form is
pub enabled_parts : (w : World) → list_any (is_enabled w) (steps_of w)
    ≡ list_any (is_enabled w) (map Local (rank_numbers w.board))
    || (is_enabled w Release || (list_any (is_enabled w) (map Wake (rank_numbers w.board)) || (list_any (is_enabled w) (any_wakes_in w.board) || list_any (is_enabled w) (matches_in w.board))))
enabled_parts w =
    let ranks = rank_numbers w.board in
    let rest = any_wakes_in w.board ++ matches_in w.board in
    list_any-append (is_enabled w) (map Local ranks) (Release ∷ (map Wake ranks ++ rest))
    ∙ ap (λ b. list_any (is_enabled w) (map Local ranks) || (is_enabled w Release || b)) (list_any-append (is_enabled w) (map Wake ranks) rest
    ∙ ap (λ b. list_any (is_enabled w) (map Wake ranks) || b) (list_any-append (is_enabled w) (any_wakes_in w.board) (matches_in w.board)))

-- ---- whether some match is enabled, told by calls

any_flat : {A : Type 0} (t : Step → Bool) (f : A → List Step) (u : A → Bool) → ((x : A) → list_any t (f x) ≡ u x) → (xs : List A) → list_any t (flat_map f xs) ≡ list_any u xs
any_flat t f u each [] = refl
any_flat t f u each (x ∷ xs) = list_any-append t (f x) (flat_map f xs) ∙ ap (λ b. b || list_any t (flat_map f xs)) (each x) ∙ ap (λ b. u x || b) (any_flat t f u each xs)

any_map : {A : Type 0} (t : Step → Bool) (f : A → Step) (u : A → Bool) → ((x : A) → t (f x) ≡ u x) → (xs : List A) → list_any t (map f xs) ≡ list_any u xs
any_map t f u each [] = refl
any_map t f u each (x ∷ xs) = ap (λ b. b || list_any t (map f xs)) (each x) ∙ ap (λ b. u x || b) (any_map t f u each xs)

enabled_by : (b : Bool) (w : World) → is_some (cond b (Some w) None) ≡ b
enabled_by true w = refl
enabled_by false w = refl

match_at : (w : World) (q : ℕ) → list_any (is_enabled w) (matches_of w.board q)
    ≡ list_any (λ j. list_any (λ p. list_any (λ i. eligible w.board (call_id p i) (call_id q j)) (call_numbers w.board p)) (rank_numbers w.board)) (call_numbers w.board q)
match_at w q =
    any_flat (is_enabled w) (λ j. matches_with w.board (call_id q j)) (λ j. list_any (λ p. list_any (λ i. eligible w.board (call_id p i) (call_id q j)) (call_numbers w.board p)) (rank_numbers w.board))
    (λ j. any_flat (is_enabled w) (λ p. map (λ i. Match (call_id p i) (call_id q j)) (call_numbers w.board p)) (λ p. list_any (λ i. eligible w.board (call_id p i) (call_id q j)) (call_numbers w.board p))
    (λ p. any_map (is_enabled w) (λ i. Match (call_id p i) (call_id q j)) (λ i. eligible w.board (call_id p i) (call_id q j))
    (λ i. enabled_by (eligible w.board (call_id p i) (call_id q j)) (record w { board = with_set w.board (Pair (call_id p i) (call_id q j)) })) (call_numbers w.board p)) (rank_numbers w.board)) (call_numbers w.board q)

pub match_on : (w : World) (b : Board) (q : ℕ) (found : Bool) → b ≡ w.board
    → found ≡ list_any (λ j. list_any (λ p. list_any (λ i. eligible b (call_id p i) (call_id q j)) (call_numbers b p)) (rank_numbers b)) (call_numbers b q)
    → found ≡ list_any (is_enabled w) (matches_of w.board q)
match_on w b q found e is = subst (λ (b : Board). found ≡ list_any (λ j. list_any (λ p. list_any (λ i. eligible b (call_id p i) (call_id q j)) (call_numbers b p)) (rank_numbers b)) (call_numbers b q)) e is ∙ sym (match_at w q)

pub ruleset matching = (match_on)

pub ruleset any_mapped = (mapped_on, mapped_now)

pub ruleset any_joined = (joined_on, joined_now)

pub ruleset stuck_by = (enabled_parts)

-- what some number of a range gives is in what all give
pub given_some : {A : Type 0} (f : ℕ → List A) (i n : ℕ) (so_far total : List A) → i < n → so_far ++ flat_map f (range_with_len i (n - i)) ≡ total → 0 < length (f i) → 0 < length total
given_some f i n so_far total h e some =
    let k : n - i ≡ suc (n - (i + 1)) = omega arith in
    let u : flat_map f (range_with_len i (n - i)) ≡ f i ++ flat_map f (range_with_len (i + 1) (n - (i + 1))) = rw k refl in
    let long : length (so_far ++ (f i ++ flat_map f (range_with_len (i + 1) (n - (i + 1))))) ≡ length total = ap length (ap (λ xs. so_far ++ xs) (sym u) ∙ e) in
    omega (arith, long, some, length-append so_far (f i ++ flat_map f (range_with_len (i + 1) (n - (i + 1)))), length-append (f i) (flat_map f (range_with_len (i + 1) (n - (i + 1)))))

-- and where there was something before them, it is behind that
pub given_some_behind : {A : Type 0} (f : ℕ → List A) (i n : ℕ) (so_far old total : List A) → i < n → length old ≤ length so_far → so_far ++ flat_map f (range_with_len i (n - i)) ≡ old ++ total → 0 < length (f i) → 0 < length total
given_some_behind f i n so_far old total h grows e some =
    let k : n - i ≡ suc (n - (i + 1)) = omega arith in
    let u : flat_map f (range_with_len i (n - i)) ≡ f i ++ flat_map f (range_with_len (i + 1) (n - (i + 1))) = rw k refl in
    let long : length (so_far ++ (f i ++ flat_map f (range_with_len (i + 1) (n - (i + 1))))) ≡ length (old ++ total) = ap length (ap (λ xs. so_far ++ xs) (sym u) ∙ e) in
    omega (arith, long, some, grows, length-append so_far (f i ++ flat_map f (range_with_len (i + 1) (n - (i + 1)))), length-append (f i) (flat_map f (range_with_len (i + 1) (n - (i + 1)))), length-append old total)

-- what holds in any case holds where memory was refused
pub refused_with : {T E : Type 0} {P : Type 0} (r : Result T E) → P → OnErr r P
refused_with (Ok x) p = tt
refused_with (Err e) p = p

-- what follows from what is so where it was answered, is so there
pub on_ok : {T E : Type 0} {P Q : Type 0} (r : Result T E) → (P → Q) → OnOk r P → OnOk r Q
on_ok (Ok x) f p = f p
on_ok (Err e) f p = tt

pub if_ok : {T E : Type 0} {P Q : T → Type 0} (r : Result T E) → ((x : T) → P x → Q x) → IfOk r P → IfOk r Q
if_ok (Ok x) f p = f x p
if_ok (Err e) f p = tt

-- a list with an entry is told in the outcome
pub listed_trap : (w : World) (ts : List TrappedRank) → 0 < length ts → 0 < listed_by (ending_by w ts)
listed_trap w [] some = absurd (omega (arith, some))
listed_trap w (t ∷ ts) some = some

pub listed_free : (cs : List IssuedCall) → 0 < length cs → 0 < listed_by (ended_with cs)
listed_free [] some = absurd (omega (arith, some))
listed_free (c ∷ cs) some = some

pub ruleset listing = (listed_trap, listed_free)
