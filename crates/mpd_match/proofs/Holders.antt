-- What holds back the match of a send and a receive: the first call of its line that fits, where that is an earlier one.
use Rattle.std.proofs.Common.{◌≡◌, ℕ, ◌<◌, ◌≤◌, Bool, true, false, cond, ◌&&◌, nat_lt, Option, Some, None, List, [], ◌∷◌, ◌++◌, inl, inr, sym, ap, ◌∙◌, map, length, arith, append-nil}
use Rattle.std.proofs.lemmas.Bool.{lt-ltb, le-ltb, and_parts, cases_Bool}
use Rattle.std.proofs.lemmas.Option.{slice_get_past}
use Rattle.std.specs.List.{filter, flat_map, range_with_len}
use Rattle.std.specs.Option.{option_map}
use Rattle.mpd_model.specs.declared.step.CallId.{CallId}
use Rattle.mpd_model.specs.declared.call.Call.{Call}
use Rattle.mpd_model.specs.steps.World.{Board, call_id, listed_calls, fits, is_posted, pending, posted}
use Rattle.mpd_model.specs.steps.Why.{first_in, earlier_send, earlier_recv, holder, why_send, why_from}
use Rattle.mpd_queue.specs.InOrder.{places_in}
use Rattle.mpd_match.specs.Firsts.{first_send, first_recv}
use Rattle.mpd_match.specs.Entries.{partner_entry}
use Rattle.mpd_match.proofs.Bools.{and_false}
use Rattle.mpd_match.proofs.Passed.{passed_here, passed_there}
use Rattle.mpd_match.proofs.Walks.{Rising}
use Rattle.mpd_match.proofs.Firsts.{first_least, first_none}
use Rattle.mpd_match.proofs.Candidates.{nothing_passes, pending_rising, posted_rising}
use Rattle.mpd_match.proofs.Gathered.{given_passed}

-- ---- the first that passes, of those that are less

abbrev lesser : (ℕ → Bool) → ℕ → ℕ → Bool
lesser t k i = nat_lt i k && t i

none_lesser : (t : ℕ → Bool) (k : ℕ) (xs : List ℕ) → ((i : ℕ) → 0 < places_in xs i → lesser t k i ≡ true → ⊥) → None ≡ first_in (filter (lesser t k) xs)
none_lesser t k xs none = sym (ap first_in (nothing_passes (lesser t k) xs none))

no_first : (t : ℕ → Bool) (k : ℕ) (xs : List ℕ) → first_in (filter t xs) ≡ None → None ≡ first_in (filter (lesser t k) xs)
no_first t k xs e = none_lesser t k xs (λ i has hits. first_none t xs i e has (and_parts (nat_lt i k) (t i) hits).1)

not_less : (i k : ℕ) → k ≤ i → nat_lt i k ≡ true → ⊥
not_less i k le e = let f : nat_lt i k ≡ false = le-ltb i k le in cc

first_behind : (t : ℕ → Bool) (k i : ℕ) (xs : List ℕ) → Rising xs → first_in (filter t xs) ≡ Some i → k ≤ i → None ≡ first_in (filter (lesser t k) xs)
first_behind t k i xs rising e le =
    none_lesser t k xs (λ j has hits.
    let both = and_parts (nat_lt j k) (t j) hits in
    not_less j k (let least : i ≤ j = first_least t xs i j rising e has both.1 in omega arith) both.0)

same_some : (x y : ℕ) (o : Option ℕ) → o ≡ Some x → o ≡ Some y → x ≡ y
same_some x y o e f = cc

first_lesser : (t : ℕ → Bool) (k i : ℕ) (xs : List ℕ) → first_in (filter t xs) ≡ Some i → i < k → first_in (filter (lesser t k) xs) ≡ Some i
first_lesser t k i [] e lt = e
first_lesser t k i (x ∷ xs) e lt =
    elim (cases_Bool (t x)) [
      | inl h ↦
          let same : x ≡ i = same_some x i _ (ap first_in (passed_here t x xs h)) e in
          ap first_in (passed_here (lesser t k) x xs (ap (λ (b : Bool). b && t x) (lt-ltb x k (omega (arith, same))) ∙ h)) ∙ ap Some same
      | inr h ↦
          ap first_in (passed_there (lesser t k) x xs (ap (λ (b : Bool). nat_lt x k && b) h ∙ and_false (nat_lt x k)))
          ∙ first_lesser t k i xs (sym (ap first_in (passed_there t x xs h)) ∙ e) lt
    ]

-- ---- earlier calls

pub no_earlier_send : (b : Board) (s r : CallId) → first_send b s.rank r ≡ None → None ≡ earlier_send b s r
no_earlier_send b s r e = ap (option_map (call_id s.rank)) (no_first (λ i. fits b (call_id s.rank i) r) s.index (pending b s.rank r.rank) e)

pub send_is_first : (b : Board) (s r : CallId) (i : ℕ) → first_send b s.rank r ≡ Some i → s.index ≤ i → None ≡ earlier_send b s r
send_is_first b s r i e le =
    ap (option_map (call_id s.rank)) (first_behind (λ k. fits b (call_id s.rank k) r) s.index i (pending b s.rank r.rank) (pending_rising b s.rank r.rank) e le)

pub earlier_send_is : (b : Board) (s r : CallId) (i : ℕ) → first_send b s.rank r ≡ Some i → i < s.index → Some (call_id s.rank i) ≡ earlier_send b s r
earlier_send_is b s r i e lt =
    sym (ap (option_map (call_id s.rank)) (first_lesser (λ k. fits b (call_id s.rank k) r) s.index i (pending b s.rank r.rank) e lt))

pub no_earlier_recv : (b : Board) (s r : CallId) → first_recv b s r.rank ≡ None → None ≡ earlier_recv b s r
no_earlier_recv b s r e = ap (option_map (call_id r.rank)) (no_first (λ j. fits b s (call_id r.rank j)) r.index (posted b r.rank) e)

pub recv_is_first : (b : Board) (s r : CallId) (i : ℕ) → first_recv b s r.rank ≡ Some i → r.index ≤ i → None ≡ earlier_recv b s r
recv_is_first b s r i e le =
    ap (option_map (call_id r.rank)) (first_behind (λ j. fits b s (call_id r.rank j)) r.index i (posted b r.rank) (posted_rising b r.rank) e le)

pub earlier_recv_is : (b : Board) (s r : CallId) (i : ℕ) → first_recv b s r.rank ≡ Some i → i < r.index → Some (call_id r.rank i) ≡ earlier_recv b s r
earlier_recv_is b s r i e lt = sym (ap (option_map (call_id r.rank)) (first_lesser (λ j. fits b s (call_id r.rank j)) r.index i (posted b r.rank) e lt))

-- ---- entries

pub no_entry : (b : Board) (partner s r : CallId) (out : List (CallId × Option CallId)) → fits b s r ≡ false → out ≡ out ++ partner_entry b partner s r
no_entry b partner s r out e = sym (ap (λ (x : Bool). out ++ cond x ((partner, holder b s r) ∷ []) []) e ∙ append-nil out)

pub one_entry : (b : Board) (partner s r : CallId) (o : Option CallId) (out now : List (CallId × Option CallId)) → fits b s r ≡ true → o ≡ holder b s r → now ≡ out ++ (partner, o) ∷ [] → now ≡ out ++ partner_entry b partner s r
one_entry b partner s r o out now e h more =
    more ∙ ap (λ (x : Option CallId). out ++ (partner, x) ∷ []) h ∙ sym (ap (λ (x : Bool). out ++ cond x ((partner, holder b s r) ∷ []) []) e)

pub entry_some : (b : Board) (partner s r : CallId) → fits b s r ≡ true → 0 < length (partner_entry b partner s r)
entry_some b partner s r e =
    let k : length (partner_entry b partner s r) ≡ 1 = ap (λ (x : Bool). length {A = CallId × Option CallId} (cond x ((partner, holder b s r) ∷ []) [])) e in omega (arith, k)

pub recvs_given : (b : Board) (s : CallId) (q : ℕ) → flat_map (λ j. partner_entry b (call_id q j) s (call_id q j)) (posted b q) ≡ why_send b s q
recvs_given b s q = given_passed (λ j. fits b s (call_id q j)) (λ j. (call_id q j, holder b s (call_id q j))) (posted b q)

pub sends_given : (b : Board) (r : CallId) (p : ℕ) → flat_map (λ i. partner_entry b (call_id p i) (call_id p i) r) (pending b p r.rank) ≡ why_from b r p
sends_given b r p = given_passed (λ i. fits b (call_id p i) r) (λ i. (call_id p i, holder b (call_id p i) r)) (pending b p r.rank)

-- a rank that is not there has no receives
pub no_rank : (b : Board) (s : CallId) (q : ℕ) (out : List (CallId × Option CallId)) → length b.calls ≤ q → out ≡ out ++ why_send b s q
no_rank b s q out le =
    sym (ap
    (λ (o : Option (List Call)). out ++ map (λ j. (call_id q j, holder b s (call_id q j))) (filter (λ j. fits b s (call_id q j)) (filter (is_posted b q) (range_with_len 0 (length (listed_calls o))))))
    (slice_get_past b.calls q le)
    ∙ append-nil out)

-- ---- the call that is asked about
