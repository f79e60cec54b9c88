-- A send and a receive are eligible where each is the first of its line that fits the other; so of the sends of a rank at most one
-- is eligible with a receive.
use Rattle.std.proofs.Common.{◌≡◌, ◌≢◌, ℕ, ◌+◌, ◌<◌, ◌≤◌, Bool, true, false, cond, ◌&&◌, ◌||◌, not, nat_lt, Option, Some, None, is_some, List, [], ◌∷◌, inl, inr, refl, sym, ap, ◌∙◌, length, slice_get, arith}
use Rattle.mpd_laws.proofs.ordered.Eligible.{clash}
use Rattle.std.proofs.lemmas.Bool.{cases_lt, lt-ltb, le-ltb, and_parts, cases_Bool, not-true}
use Rattle.std.proofs.lemmas.Bool.Decides.{eqb_tells}
use Rattle.std.proofs.lemmas.Option.{slice_get_past}
use Rattle.std.specs.List.{filter, list_any}
use Rattle.std.specs.Option.{option_to_list}
use Rattle.mpd_model.specs.declared.step.CallId.{CallId}
use Rattle.mpd_model.specs.declared.call.Call.{Call}
use Rattle.mpd_model.specs.declared.call.CallKind.{CallKind}
use Rattle.mpd_model.specs.declared.call.CallKind.TheVariants.{Send, Recv}
use Rattle.mpd_model.specs.steps.World.{Board, call_id, calls_of, kind_of, kind_at, call_numbers, is_free, fits, fitting, sends_to, receives, is_pending, is_posted, pending, posted, eligible}
use Rattle.mpd_model.specs.steps.Why.{first_in}
use Rattle.mpd_queue.specs.InOrder.{places_in}
use Rattle.mpd_queue.proofs.Places.{places_here, places_same, places_there, places_more}
use Rattle.mpd_match.specs.Lines.{takes_from, ahead}
use Rattle.mpd_match.specs.Firsts.{first_send, first_recv}
use Rattle.mpd_match.specs.Looks.{has_earlier_send, behind_looks, candidate_looks}
use Rattle.mpd_match.proofs.Bools.{and_false}
use Rattle.mpd_match.proofs.Passed.{passed_here, passed_there, places_passed, places_within}
use Rattle.mpd_match.proofs.Walks.{Rising, rising_passed}
use Rattle.mpd_match.proofs.Eligible.{eligible_is}
use Rattle.mpd_match.proofs.Matches.{eligible_pending, eligible_posted, pending_free}
use Rattle.mpd_match.proofs.Firsts.{any_stands, none_stands, first_passes, first_stands, first_least, first_none, few_ahead}

-- ---- lists of which one number passes, or none

pub nothing_passes : (t : ℕ → Bool) (xs : List ℕ) → ((i : ℕ) → 0 < places_in xs i → t i ≡ true → ⊥) → filter t xs ≡ []
nothing_passes t [] none = refl
nothing_passes t (x ∷ xs) none =
    elim (cases_Bool (t x)) [
      | inl h ↦ absurd (none x (omega (arith, places_here x xs)) h)
      | inr h ↦ passed_there t x xs h ∙ nothing_passes t xs (λ i has hits. none i (omega (arith, places_more i x xs)) hits)
    ]

one_passes : (t : ℕ → Bool) (k : ℕ) (xs : List ℕ) → t k ≡ true → ((i : ℕ) → t i ≡ true → i ≡ k) → places_in xs k ≡ 1 → filter t xs ≡ k ∷ []
one_passes t k [] hits alone once = absurd (omega arith)
one_passes t k (x ∷ xs) hits alone once =
    elim (eqb_tells k x) [
      | inl q ↦
          let gone : places_in xs k ≡ 0 = omega (arith, places_same k x xs q.1) in
          passed_here t x xs (ap t (sym q.1) ∙ hits)
          ∙ ap (λ (zs : List ℕ). x ∷ zs) (nothing_passes t xs (λ i has h. let same : places_in xs i ≡ places_in xs k = ap (places_in xs) (alone i h) in absurd (omega arith)))
          ∙ ap (λ (n : ℕ). n ∷ []) (sym q.1)
      | inr q ↦
          elim (cases_Bool (t x)) [
            | inl h ↦ absurd (q.1 (sym (alone x h)))
            | inr h ↦ passed_there t x xs h ∙ one_passes t k xs hits alone (omega (arith, places_there k x xs q.1))
          ]
    ]

-- ---- what stands in the lines

sends_known : (o : Option Call) (q : ℕ) → o ≡ None → sends_to (kind_of o) q ≡ false
sends_known o q e = ap (λ (c : Option Call). sends_to (kind_of c) q) e

receives_known : (o : Option Call) → o ≡ None → receives (kind_of o) ≡ false
receives_known o e = ap (λ (c : Option Call). receives (kind_of c)) e

pending_within : (b : Board) (p q i : ℕ) → is_pending b p q i ≡ true → i < length (calls_of b p)
pending_within b p q i e =
    elim (cases_lt i (length (calls_of b p))) [
      | inl lt ↦ lt
      | inr ge ↦ absurd (clash (and_parts _ _ e).0 (sends_known (slice_get (calls_of b p) i) q (slice_get_past (calls_of b p) i ge)))
    ]

posted_within : (b : Board) (q j : ℕ) → is_posted b q j ≡ true → j < length (calls_of b q)
posted_within b q j e =
    elim (cases_lt j (length (calls_of b q))) [
      | inl lt ↦ lt
      | inr ge ↦ absurd (clash (and_parts _ _ e).0 (receives_known (slice_get (calls_of b q) j) (slice_get_past (calls_of b q) j ge)))
    ]

pub pending_stands : (b : Board) (p q i : ℕ) → is_pending b p q i ≡ true → 0 < places_in (pending b p q) i
pending_stands b p q i e =
    omega (arith, places_passed (is_pending b p q) i (call_numbers b p) e, places_within 0 (length (calls_of b p)) i (omega arith) (omega (arith, pending_within b p q i e)))

pub posted_stands : (b : Board) (q j : ℕ) → is_posted b q j ≡ true → 0 < places_in (posted b q) j
posted_stands b q j e =
    omega (arith, places_passed (is_posted b q) j (call_numbers b q) e, places_within 0 (length (calls_of b q)) j (omega arith) (omega (arith, posted_within b q j e)))

pub pending_rising : (b : Board) (p q : ℕ) → Rising (pending b p q)
pending_rising b p q = rising_passed (is_pending b p q) 0 (length (calls_of b p))

pub posted_rising : (b : Board) (q : ℕ) → Rising (posted b q)
posted_rising b q = rising_passed (is_posted b q) 0 (length (calls_of b q))

-- ---- the first that passes, and the numbers ahead of it

first_is : (t : ℕ → Bool) (xs : List ℕ) (k : ℕ) → Rising xs → 0 < places_in xs k → t k ≡ true → list_any (λ i. nat_lt i k && t i) xs ≡ false → (o : Option ℕ) → first_in (filter t xs) ≡ o → o ≡ Some k
first_is t xs k rising has hits none None e = absurd (first_none t xs k e has hits)
first_is t xs k rising has hits none (Some m) e =
    let le : m ≤ k = first_least t xs m k rising e has hits in
    elim (cases_lt m k) [
      | inl lt ↦ absurd (clash (any_stands (λ i. nat_lt i k && t i) m xs (first_stands t xs m e) (ap (λ (b : Bool). b && t m) (lt-ltb m k lt) ∙ first_passes t xs m e)) none)
      | inr ge ↦ ap Some (let same : m ≡ k = omega arith in same)
    ]

none_below : (t : ℕ → Bool) (xs : List ℕ) (k : ℕ) → Rising xs → first_in (filter t xs) ≡ Some k → list_any (λ i. nat_lt i k && t i) xs ≡ false
none_below t xs k rising e =
    none_stands (λ i. nat_lt i k && t i) xs (λ i has.
    elim (cases_Bool (t i)) [
      | inl h ↦ ap (λ (b : Bool). b && t i) (le-ltb i k (first_least t xs k i rising e has h))
      | inr h ↦ ap (λ (b : Bool). nat_lt i k && b) h ∙ and_false (nat_lt i k)
    ])

-- ---- eligible, by what comes first

pub record Parts (b : Board) (s r : CallId) : Type 0 where
  pub send_free : is_free b s ≡ true
  pub recv_free : is_free b r ≡ true
  pub fit : fits b s r ≡ true
  pub no_send : has_earlier_send b s r ≡ false
  pub no_recv : list_any (λ i. nat_lt i r.index && fits b s (call_id r.rank i)) (posted b r.rank) ≡ false

pub parts_of : (b : Board) (s r : CallId) → eligible b s r ≡ true → Parts b s r
parts_of b s r e =
    let one = and_parts (is_free b s) _ e in
    let two = and_parts (is_free b r) _ one.1 in
    let three = and_parts (fits b s r) _ two.1 in
    let four = and_parts (not (has_earlier_send b s r)) _ three.1 in
    record { send_free = one.0; recv_free = two.0; fit = three.0; no_send = not-true _ four.0; no_recv = not-true _ four.1 }

pub is_first_send : (b : Board) (p i : ℕ) (r : CallId) → eligible b (call_id p i) r ≡ true → first_send b p r ≡ Some i
is_first_send b p i r e =
    let parts : Parts b (call_id p i) r = parts_of b (call_id p i) r e in
    first_is (λ k. fits b (call_id p k) r) (pending b p r.rank) i (pending_rising b p r.rank) (pending_stands b p r.rank i (eligible_pending b p i r e)) parts.fit parts.no_send (first_send b p r) refl

pub is_first_recv : (b : Board) (s : CallId) (q j : ℕ) → eligible b s (call_id q j) ≡ true → first_recv b s q ≡ Some j
is_first_recv b s q j e =
    let parts : Parts b s (call_id q j) = parts_of b s (call_id q j) e in
    first_is (λ k. fits b s (call_id q k)) (posted b q) j (posted_rising b q) (posted_stands b q j (eligible_posted b s q j e)) parts.fit parts.no_recv (first_recv b s q) refl

pub firsts_eligible : (b : Board) (p i : ℕ) (r : CallId) → is_free b r ≡ true → first_send b p r ≡ Some i → first_recv b (call_id p i) r.rank ≡ Some r.index → eligible b (call_id p i) r ≡ true
firsts_eligible b p i r free send recv =
    let s : CallId = call_id p i in
    let t : ℕ → Bool = λ k. fits b (call_id p k) r in
    eligible_is b s r (first_passes t (pending b p r.rank) i send) (pending_free b p r.rank i (first_stands t (pending b p r.rank) i send)) free
    ∙ ap (λ (x : Bool). not x && not (list_any (λ k. nat_lt k r.index && fits b s (call_id r.rank k)) (posted b r.rank))) (none_below t (pending b p r.rank) i (pending_rising b p r.rank) send)
    ∙ ap not (none_below (λ k. fits b s (call_id r.rank k)) (posted b r.rank) r.index (posted_rising b r.rank) recv)

same_number : (x y : ℕ) (o : Option ℕ) → o ≡ Some x → o ≡ Some y → x ≡ y
same_number x y o e f = cc

pub one_send : (b : Board) (p i j : ℕ) (r : CallId) → eligible b (call_id p i) r ≡ true → eligible b (call_id p j) r ≡ true → i ≡ j
one_send b p i j r e f = same_number i j (first_send b p r) (is_first_send b p i r e) (is_first_send b p j r f)

-- ---- the sends of a rank that are eligible with a receive

abbrev pub candidates : Board → ℕ → CallId → List ℕ
candidates b p r = filter (λ i. eligible b (call_id p i) r) (call_numbers b p)

pub candidates_none : (b : Board) (p : ℕ) (r : CallId) → ((i : ℕ) → eligible b (call_id p i) r ≡ true → ⊥) → candidates b p r ≡ []
candidates_none b p r none = nothing_passes (λ i. eligible b (call_id p i) r) (call_numbers b p) (λ i has e. none i e)

pub candidates_one : (b : Board) (p i : ℕ) (r : CallId) → eligible b (call_id p i) r ≡ true → candidates b p r ≡ i ∷ []
candidates_one b p i r e =
    one_passes (λ k. eligible b (call_id p k) r) i (call_numbers b p) e (λ k f. one_send b p k i r f e)
    (places_within 0 (length (calls_of b p)) i (omega arith) (omega (arith, pending_within b p r.rank i (eligible_pending b p i r e))))

-- ---- the sources that a receive takes from

fitting_takes : (one other : Option CallKind) (p q : ℕ) → fitting one other p q ≡ true → takes_from other p ≡ true
fitting_takes (Some (Send s)) (Some (Recv r)) p q e = (and_parts _ _ (and_parts _ _ e).1).0
fitting_takes one other p q e = absurd (cc)

takes_receives : (k : Option CallKind) (p : ℕ) → takes_from k p ≡ true → receives k ≡ true
takes_receives (Some (Recv r)) p e = refl
takes_receives k p e = absurd (cc)

pub eligible_takes : (b : Board) (s r : CallId) → eligible b s r ≡ true → takes_from (kind_at b r) s.rank ≡ true
eligible_takes b s r e = let parts : Parts b s r = parts_of b s r e in fitting_takes (kind_at b s) (kind_at b r) s.rank r.rank parts.fit

pub taken_posted : (b : Board) (p : ℕ) (r : CallId) → takes_from (kind_at b r) p ≡ true → is_free b r ≡ true → is_posted b r.rank r.index ≡ true
taken_posted b p r takes free = ap (λ (x : Bool). x && is_free b r) (takes_receives (kind_at b r) p takes) ∙ free

-- ---- the answers of `candidate`

pub not_taken : (b : Board) (p : ℕ) (r : CallId) → takes_from (kind_at b r) p ≡ false → candidates b p r ≡ []
not_taken b p r e = candidates_none b p r (λ i f. clash (eligible_takes b (call_id p i) r f) e)

pub not_free : (b : Board) (p : ℕ) (r : CallId) → is_free b r ≡ false → candidates b p r ≡ []
not_free b p r e = candidates_none b p r (λ i f. let parts : Parts b (call_id p i) r = parts_of b (call_id p i) r f in clash parts.recv_free e)

pub no_send : (b : Board) (p : ℕ) (r : CallId) → first_send b p r ≡ None → candidates b p r ≡ []
no_send b p r e = candidates_none b p r (λ i f. let is : None ≡ Some i = sym e ∙ is_first_send b p i r f in absurd (cc))

pub no_recv : (b : Board) (p i : ℕ) (r : CallId) → first_send b p r ≡ Some i → first_recv b (call_id p i) r.rank ≢ Some r.index → candidates b p r ≡ []
no_recv b p i r e other =
    candidates_none b p r (λ k f.
    let same : k ≡ i = same_number k i (first_send b p r) (is_first_send b p k r f) e in
    other (ap (λ (n : ℕ). first_recv b (call_id p n) r.rank) (sym same) ∙ is_first_recv b (call_id p k) r.rank r.index f))

pub none_other : (k : ℕ) (o : Option ℕ) → o ≡ None → o ≢ Some k
none_other k o e f = cc

pub less_other : (j k : ℕ) (o : Option ℕ) → o ≡ Some j → j < k → o ≢ Some k
less_other j k o e lt f = let same : j ≡ k = same_number j k o e f in omega (arith, same)

pub first_found : (b : Board) (p i j : ℕ) (r : CallId) → takes_from (kind_at b r) p ≡ true → is_free b r ≡ true → first_send b p r ≡ Some i → first_recv b (call_id p i) r.rank ≡ Some j → r.index ≤ j → candidates b p r ≡ i ∷ []
first_found b p i j r takes free send recv le =
    let t : ℕ → Bool = λ k. fits b (call_id p i) (call_id r.rank k) in
    let fit : t r.index ≡ true = first_passes (λ k. fits b (call_id p k) r) (pending b p r.rank) i send in
    let least : j ≤ r.index = first_least t (posted b r.rank) j r.index (posted_rising b r.rank) recv (posted_stands b r.rank r.index (taken_posted b p r takes free)) fit in
    let same : j ≡ r.index = omega arith in
    candidates_one b p i r (firsts_eligible b p i r free send (recv ∙ ap Some same))

any_passed : (t : ℕ → Bool) (xs : List ℕ) → list_any t xs ≡ list_any (λ i. true) (filter t xs)
any_passed t [] = refl
any_passed t (x ∷ xs) =
    elim (cases_Bool (t x)) [
      | inl h ↦ ap (λ (b : Bool). b || list_any t xs) h ∙ sym (ap (list_any (λ i. true)) (passed_here t x xs h))
      | inr h ↦ ap (λ (b : Bool). b || list_any t xs) h ∙ any_passed t xs ∙ sym (ap (list_any (λ i. true)) (passed_there t x xs h))
    ]

some_listed : (o : Option ℕ) → is_some o ≡ list_any (λ i. true) (option_to_list o)
some_listed None = refl
some_listed (Some x) = refl

pub found_any : (b : Board) (p : ℕ) (r : CallId) (o : Option ℕ) → candidates b p r ≡ option_to_list o → is_some o ≡ list_any (λ i. eligible b (call_id p i) r) (call_numbers b p)
found_any b p r o e =
    some_listed o ∙ ap (list_any (λ i. true)) (sym e) ∙ sym (any_passed (λ i. eligible b (call_id p i) r) (call_numbers b p))

-- ---- its looks

pub looks_walked : (b : Board) (p : ℕ) (r : CallId) (o : Option ℕ) → takes_from (kind_at b r) p ≡ true → is_free b r ≡ true → first_send b p r ≡ o
    → candidate_looks b p r ≡ 1 + ahead (λ i. fits b (call_id p i) r) (pending b p r.rank) + behind_looks b r p o
looks_walked b p r o takes free e =
    ap (λ (x : Bool). cond (x && is_free b r) (1 + ahead (λ i. fits b (call_id p i) r) (pending b p r.rank) + behind_looks b r p (first_send b p r)) 0) takes
    ∙ ap (λ (x : Bool). cond x (1 + ahead (λ i. fits b (call_id p i) r) (pending b p r.rank) + behind_looks b r p (first_send b p r)) 0) free
    ∙ ap (λ (x : Option ℕ). 1 + ahead (λ i. fits b (call_id p i) r) (pending b p r.rank) + behind_looks b r p x) e

few_behind : (b : Board) (p : ℕ) (r : CallId) (o : Option ℕ) → behind_looks b r p o ≤ 1 + length (posted b r.rank)
few_behind b p r None = omega arith
few_behind b p r (Some i) = omega (arith, few_ahead (λ j. fits b (call_id p i) (call_id r.rank j)) (posted b r.rank))

pub few_candidate_looks : (b : Board) (p : ℕ) (r : CallId) → candidate_looks b p r ≤ length (pending b p r.rank) + length (posted b r.rank) + 2
few_candidate_looks b p r =
    elim (takes_from (kind_at b r) p && is_free b r) as (λ x. cond x (1 + ahead (λ i. fits b (call_id p i) r) (pending b p r.rank) + behind_looks b r p (first_send b p r)) 0 ≤ length (pending b p r.rank) + length (posted b r.rank) + 2) [
      | true ↦ omega (arith, few_ahead (λ i. fits b (call_id p i) r) (pending b p r.rank), few_behind b p r (first_send b p r))
      | false ↦ omega arith
    ]
