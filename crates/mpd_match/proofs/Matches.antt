-- Where a send and a receive are eligible: what the calls of a rank have in common with its lists of free calls.
use Rattle.std.proofs.Common.{◌≡◌, ℕ, suc, ◌+◌, ◌-◌, ◌<◌, ◌≤◌, Bool, true, false, ◌&&◌, ◌||◌, Option, Some, List, [], ◌∷◌, inl, inr, refl, sym, ap, ◌∙◌, length, slice_get, is_none, arith}
use Rattle.std.specs.List.{list_any, filter, range_with_len}
use Rattle.std.proofs.lemmas.Bool.{cases_lt, and_parts, cases_Bool}
use Rattle.std.proofs.lemmas.Option.{slice_get_past}
use Rattle.std.proofs.lemmas.Map.Views.{any-filter_same}
use Rattle.mpd_model.specs.declared.step.CallId.{CallId}
use Rattle.mpd_model.specs.declared.call.Call.{Call}
use Rattle.mpd_model.specs.declared.call.CallKind.{CallKind}
use Rattle.mpd_model.specs.declared.call.CallKind.TheVariants.{Send, Recv}
use Rattle.mpd_model.specs.steps.World.{Board, call_id, listed_calls, calls_of, kind_of, kind_at, partner, is_message_kind, call_numbers, rank_numbers, is_free, sends_to, receives, fits, fitting, is_pending, is_posted, pending, posted, eligible}
use Rattle.mpd_queue.specs.InOrder.{places_in}
use Rattle.mpd_match.proofs.Passed.{places_passed, places_not_passed, places_within, places_past}

-- ---- a list of free calls

-- no number stands twice in what is left of the numbers of a rank's calls
once_passed : (b : Board) (t : ℕ → Bool) (p z : ℕ) → places_in (filter t (call_numbers b p)) z ≤ 1
once_passed b t p z =
    elim (cases_Bool (t z)) [
      | inl e ↦ elim (cases_lt z (length (calls_of b p))) [
        | inl lt ↦ omega (arith, places_passed t z (call_numbers b p) e, places_within 0 (length (calls_of b p)) z (omega arith) (omega arith))
        | inr ge ↦ omega (arith, places_passed t z (call_numbers b p) e, places_past 0 (length (calls_of b p)) z (omega arith))
      ]
      | inr e ↦ omega (arith, places_not_passed t z (call_numbers b p) e)
    ]

-- what stands there passes
stands_passed : (b : Board) (t : ℕ → Bool) (p z : ℕ) → 0 < places_in (filter t (call_numbers b p)) z → t z ≡ true
stands_passed b t p z has =
    elim (cases_Bool (t z)) [
      | inl e ↦ e
      | inr e ↦ absurd (omega (arith, places_not_passed t z (call_numbers b p) e))
    ]

pub pending_once : (b : Board) (p q z : ℕ) → places_in (pending b p q) z ≤ 1
pending_once b p q z = once_passed b (is_pending b p q) p z

pub pending_tells : (b : Board) (p q z : ℕ) → 0 < places_in (pending b p q) z → is_pending b p q z ≡ true
pending_tells b p q z has = stands_passed b (is_pending b p q) p z has

pub pending_free : (b : Board) (p q z : ℕ) → 0 < places_in (pending b p q) z → is_free b (call_id p z) ≡ true
pending_free b p q z has = (and_parts (sends_to (kind_at b (call_id p z)) q) (is_free b (call_id p z)) (pending_tells b p q z has)).1

-- ---- what is eligible

fitting_sends : (one other : Option CallKind) (p q : ℕ) → fitting one other p q ≡ true → sends_to one q ≡ true
fitting_sends (Some (Send s)) (Some (Recv r)) p q e = (and_parts _ _ e).0
fitting_sends one other p q e = absurd (cc)

pub eligible_pending : (b : Board) (p i : ℕ) (r : CallId) → eligible b (call_id p i) r ≡ true → is_pending b p r.rank i ≡ true
eligible_pending b p i r e =
    let s : CallId = call_id p i in
    let first = and_parts (is_free b s) _ e in
    let second = and_parts (is_free b r) _ first.1 in
    let third = and_parts (fits b s r) _ second.1 in
    ap (λ (t : Bool). t && is_free b s) (fitting_sends (kind_at b s) (kind_at b r) p r.rank third.0) ∙ first.0

-- a free call is of a rank that is there
pub free_exists : (b : Board) (r : CallId) → is_free b r ≡ true → r.rank < length b.calls
free_exists b r e =
    elim (cases_lt r.rank (length b.calls)) [
      | inl lt ↦ lt
      | inr ge ↦
          let f : is_free b r ≡ false = ap (λ (o : Option (List Call)). is_message_kind (kind_of (slice_get (listed_calls o) r.index)) && is_none (partner b.sets r)) (slice_get_past b.calls r.rank ge) in
          absurd (cc)
    ]

-- ---- one rank after another

abbrev pub any_from : (ℕ → Bool) → ℕ → ℕ → Bool
any_from t i n = list_any t (range_with_len i n)

any_next : (t : ℕ → Bool) (i n : ℕ) → i < n → any_from t i (n - i) ≡ (t i || any_from t (i + 1) (n - (i + 1)))
any_next t i n lt = let k : n - i ≡ suc (n - (i + 1)) = omega arith in ap (any_from t i) k

pub any_on : (t : ℕ → Bool) (i n : ℕ) (total : Bool) → i < n → any_from t i (n - i) ≡ total → t i ≡ false → any_from t (i + 1) (n - (i + 1)) ≡ total
any_on t i n total lt e misses = sym (any_next t i n lt ∙ ap (λ (b : Bool). b || any_from t (i + 1) (n - (i + 1))) misses) ∙ e

pub any_now : (t : ℕ → Bool) (i n : ℕ) (total : Bool) → i < n → any_from t i (n - i) ≡ total → t i ≡ true → total ≡ true
any_now t i n total lt e hits = sym e ∙ any_next t i n lt ∙ ap (λ (b : Bool). b || any_from t (i + 1) (n - (i + 1))) hits

pub ruleset any_number = (any_on, any_now)

-- ---- a walk along the receives of a rank

any_tells : (t : ℕ → Bool) (xs : List ℕ) → list_any t xs ≡ true → (x : ℕ) × (t x ≡ true)
any_tells t [] e = absurd (cc)
any_tells t (x ∷ xs) e =
    elim (cases_Bool (t x)) [
      | inl h ↦ (x, h)
      | inr h ↦ any_tells t xs (sym (ap (λ (b : Bool). b || list_any t xs) h) ∙ e)
    ]

pub posted_once : (b : Board) (q z : ℕ) → places_in (posted b q) z ≤ 1
posted_once b q z = once_passed b (is_posted b q) q z

pub posted_tells : (b : Board) (q z : ℕ) → 0 < places_in (posted b q) z → is_posted b q z ≡ true
posted_tells b q z has = stands_passed b (is_posted b q) q z has

pub posted_free : (b : Board) (q z : ℕ) → 0 < places_in (posted b q) z → is_free b (call_id q z) ≡ true
posted_free b q z has = (and_parts (receives (kind_at b (call_id q z))) (is_free b (call_id q z)) (posted_tells b q z has)).1

fitting_receives : (one other : Option CallKind) (p q : ℕ) → fitting one other p q ≡ true → receives other ≡ true
fitting_receives (Some (Send s)) (Some (Recv r)) p q e = refl
fitting_receives one other p q e = absurd (cc)

pub eligible_posted : (b : Board) (s : CallId) (q j : ℕ) → eligible b s (call_id q j) ≡ true → is_posted b q j ≡ true
eligible_posted b s q j e =
    let r : CallId = call_id q j in
    let first = and_parts (is_free b s) _ e in
    let second = and_parts (is_free b r) _ first.1 in
    let third = and_parts (fits b s r) _ second.1 in
    ap (λ (t : Bool). t && is_free b r) (fitting_receives (kind_at b s) (kind_at b r) s.rank q third.0) ∙ second.0

-- some send is eligible with the receive
abbrev pub any_send : Board → CallId → Bool
any_send b r = list_any (λ p. list_any (λ i. eligible b (call_id p i) r) (call_numbers b p)) (rank_numbers b)

any_send_posted : (b : Board) (q j : ℕ) → any_send b (call_id q j) ≡ true → is_posted b q j ≡ true
any_send_posted b q j e =
    let rank = any_tells (λ p. list_any (λ i. eligible b (call_id p i) (call_id q j)) (call_numbers b p)) (rank_numbers b) e in
    let send = any_tells (λ i. eligible b (call_id rank.0 i) (call_id q j)) (call_numbers b rank.0) rank.1 in
    eligible_posted b (call_id rank.0 send.0) q j send.1

-- so it is enough to ask the receives of the list
pub posted_enough : (b : Board) (q : ℕ) → list_any (λ j. any_send b (call_id q j)) (posted b q) ≡ list_any (λ j. any_send b (call_id q j)) (call_numbers b q)
posted_enough b q = any-filter_same (λ j. any_send b (call_id q j)) (is_posted b q) true (λ j e. any_send_posted b q j e) (call_numbers b q)
