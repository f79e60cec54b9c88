-- How many slots of a rank are held, as a board gets a call more or a match set more.
use Rattle.std.proofs.Common.{◌≡◌, ◌≢◌, ℕ, zero, suc, ◌+◌, ◌<◌, ◌≤◌, ◌==◌, Bool, true, false, cond, ◌&&◌, Option, Some, None, is_some, is_none, List, [], ◌∷◌, ◌++◌, length, length-append, slice_get, inl, inr, refl, sym, ap, ◌∙◌, arith, eq-eqb}
use Rattle.std.proofs.lemmas.Bool.{cases_Bool, eqb-true, ne_eqb, and_parts}
use Rattle.std.proofs.lemmas.Bool.Decides.{eqb_tells}
use Rattle.std.specs.List.{filter, range_with_len}
use Rattle.mpd_model.specs.declared.step.CallId.{CallId}
use Rattle.mpd_model.specs.declared.call.Call.{Call}
use Rattle.mpd_model.specs.declared.call.CallKind.{CallKind}
use Rattle.mpd_model.specs.declared.call.CallKind.TheVariants.{Recv}
use Rattle.mpd_model.specs.declared.call.MatchSet.{MatchSet}
use Rattle.mpd_model.specs.declared.call.MatchSet.TheVariants.{Pair, Woke}
use Rattle.mpd_model.specs.declared.call.MatchSet.TheVariants as set
use Rattle.mpd_model.specs.steps.World.{Board, call_id, id_eq, listed_calls, calls_of, kind_of, kind_at, partner, is_message_kind, fits, receives, eligible, is_buffered, holds_slot, slots_used}
use Rattle.mpd_model.specs.steps.Next.{with_call, with_set}
use Rattle.mpd_laws.proofs.ordered.Eligible.{agrees, fitting_recv, known_within}
use Rattle.mpd_laws.proofs.ordered.Releases.{one_if}
use Rattle.mpd_laws.proofs.ordered.Splits.{read_written, none_written, others_kept, end_read, same_or_end}

-- ---- how many a call holds, and of which rank

-- a call that was buffered as it was issued takes one
abbrev pub slots_of : Option CallKind → ℕ
slots_of kind = cond (is_buffered kind) 1 0

-- so many at rank p, and none at another
abbrev pub at_rank : ℕ → ℕ → ℕ → ℕ
at_rank p n q = cond (q == p) n 0

here : (p n q : ℕ) → q ≡ p → at_rank p n q ≡ n
here p n q e = ap (λ (b : Bool). cond b n 0) (eq-eqb q p e)

elsewhere : (p n q : ℕ) → q ≢ p → at_rank p n q ≡ 0
elsewhere p n q ne = ap (λ (b : Bool). cond b n 0) (ne_eqb q p ne)

-- ---- how many numbers pass

abbrev pub count_from : (ℕ → Bool) → ℕ → ℕ → ℕ
count_from t a n = length (filter t (range_with_len a n))

count_first : (t : ℕ → Bool) (a : ℕ) (xs : List ℕ) → length (filter t (a ∷ xs)) ≡ one_if (t a) + length (filter t xs)
count_first t a xs = by_test (t a)
  where
    by_test : (b : Bool) → length (cond b (a ∷ filter t xs) (filter t xs)) ≡ one_if b + length (filter t xs)
    by_test true = omega arith
    by_test false = omega arith

count_le : (t : ℕ → Bool) (a n : ℕ) → count_from t a n ≤ n
count_le t a zero = omega arith
count_le t a (suc n) =
    let first = count_first t a (range_with_len (a + 1) n) in
    let rest = count_le t (a + 1) n in
    let one = one_if_le (t a) in
    omega (arith, first, rest, one)
  where
    one_if_le : (b : Bool) → one_if b ≤ 1
    one_if_le true = omega arith
    one_if_le false = omega arith

count_more : (t : ℕ → Bool) (a n : ℕ) → count_from t a (suc n) ≡ count_from t a n + one_if (t (a + n))
count_more t a zero =
    let first = count_first t a [] in
    let at : one_if (t (a + 0)) ≡ one_if (t a) = ap (λ (k : ℕ). one_if (t k)) (omega arith) in
    omega (arith, first, at)
count_more t a (suc n) =
    let first = count_first t a (range_with_len (a + 1) (suc n)) in
    let second = count_first t a (range_with_len (a + 1) n) in
    let rest = count_more t (a + 1) n in
    let at : one_if (t (a + suc n)) ≡ one_if (t (a + 1 + n)) = ap (λ (k : ℕ). one_if (t k)) (omega arith) in
    omega (arith, first, second, rest, at)

pub count_same : (t u : ℕ → Bool) (a n : ℕ) → ((i : ℕ) → a ≤ i → i < a + n → t i ≡ u i) → count_from t a n ≡ count_from u a n
count_same t u a zero h = refl
count_same t u a (suc n) h =
    let first = count_first t a (range_with_len (a + 1) n) in
    let second = count_first u a (range_with_len (a + 1) n) in
    let rest = count_same t u (a + 1) n (λ i le lt. h i (omega (arith, le)) (omega (arith, lt))) in
    let at : one_if (t a) ≡ one_if (u a) = ap one_if (h a (omega arith) (omega arith)) in
    omega (arith, first, second, rest, at)

-- two tests that differ at one number at most, which the second doesn't pass
count_one_less : (t u : ℕ → Bool) (k a n : ℕ) → a ≤ k → k < a + n → ((i : ℕ) → i ≢ k → t i ≡ u i) → u k ≡ false → count_from t a n ≡ count_from u a n + one_if (t k)
count_one_less t u k a zero le lt h e = absurd (omega arith)
count_one_less t u k a (suc n) le lt h e =
    let first = count_first t a (range_with_len (a + 1) n) in
    let second = count_first u a (range_with_len (a + 1) n) in
    elim (eqb_tells k a) [
      | inl same ↦
          let at : one_if (t a) ≡ one_if (t k) = ap (λ (i : ℕ). one_if (t i)) (sym same.1) in
          let none : one_if (u a) ≡ 0 = ap (λ (i : ℕ). one_if (u i)) (sym same.1) ∙ ap one_if e in
          let rest = count_same t u (a + 1) n (λ i above lt. h i (later same.1 above)) in
          omega (arith, first, second, at, none, rest)
      | inr off ↦
          let ne = off.1 in
          let rest = count_one_less t u k (a + 1) n (omega (arith, ne, le)) (omega (arith, lt)) h e in
          let at : one_if (t a) ≡ one_if (u a) = ap one_if (h a (λ same. ne (sym same))) in
          omega (arith, first, second, at, rest)
    ]
  where
    later : {i : ℕ} → k ≡ a → a + 1 ≤ i → i ≢ k
    later is above same = omega (arith, is, above, same)

-- ---- a rank's slots are of its calls

pub slots_within : (b : Board) (q : ℕ) → slots_used b q ≤ length (calls_of b q)
slots_within b q = count_le (λ i. holds_slot b (call_id q i)) 0 (length (calls_of b q))

-- a rank that isn't there has none
pub slots_of_no_rank : (b : Board) (q : ℕ) → slice_get b.calls q ≡ None → slots_used b q ≡ 0
slots_of_no_rank b q e =
    let within = slots_within b q in
    let none : length (calls_of b q) ≡ 0 = ap (λ (o : Option (List Call)). length (listed_calls o)) e in
    omega (arith, within, none)

-- ---- a call more

none_within : {A : Type 0} (xs : List A) (i : ℕ) → i < length xs → slice_get xs i ≡ None → ⊥
none_within [] i lt e = absurd (omega (arith, lt))
none_within (x ∷ xs) zero lt e = absurd (cc)
none_within (x ∷ xs) (suc i) lt e = none_within xs i (omega (arith, lt)) e

abbrev holds_in : List MatchSet → ℕ → List Call → ℕ → Bool
holds_in sets p calls i = is_buffered (kind_of (slice_get calls i)) && is_none (partner sets (call_id p i))

abbrev used_in : List MatchSet → ℕ → List Call → ℕ
used_in sets p calls = count_from (holds_in sets p calls) 0 (length calls)

and_true : (b : Bool) → (b && true) ≡ b
and_true true = refl
and_true false = refl

used_more : (sets : List MatchSet) (p : ℕ) (calls : List Call) (c : Call) → partner sets (call_id p (length calls)) ≡ None → used_in sets p (calls ++ c ∷ []) ≡ used_in sets p calls + slots_of (Some c.kind)
used_more sets p calls c free =
    ap (count_from (holds_in sets p (calls ++ c ∷ [])) 0) long
    ∙ count_more (holds_in sets p (calls ++ c ∷ [])) 0 (length calls)
    ∙ (λ i. before i + ap one_if last i)
  where
    kept : (i : ℕ) → i < length calls → slice_get (calls ++ c ∷ []) i ≡ slice_get calls i
    kept i lt =
        elim (same_or_end calls c i) [
          | inl same ↦ same.here
          | inr at ↦ let place = at.place in absurd (omega (arith, place, lt))
        ]

    before : count_from (holds_in sets p (calls ++ c ∷ [])) 0 (length calls) ≡ used_in sets p calls
    before =
        count_same (holds_in sets p (calls ++ c ∷ [])) (holds_in sets p calls) 0 (length calls)
        (λ i le lt. ap (λ (o : Option Call). is_buffered (kind_of o) && is_none (partner sets (call_id p i))) (kept i (omega (arith, lt))))

    long : length (calls ++ c ∷ []) ≡ suc (length calls)
    long = let more = length-append calls (c ∷ []) in omega (arith, more)

    last : holds_in sets p (calls ++ c ∷ []) (0 + length calls) ≡ is_buffered (Some c.kind)
    last =
        let at : 0 + length calls ≡ length calls = omega arith in
        ap (holds_in sets p (calls ++ c ∷ [])) at ∙ (λ i. is_buffered (kind_of (end_read calls c i)) && is_none (free i)) ∙ and_true (is_buffered (Some c.kind))

-- a call of rank p joins, of which no pair names the number
pub slots_with_call : (b : Board) (p : ℕ) (c : Call) (q : ℕ) → p < length b.calls → partner b.sets (call_id p (length (calls_of b p))) ≡ None
    → slots_used (with_call b p c) q ≡ slots_used b q + at_rank p (slots_of (Some c.kind)) q
slots_with_call b p c q within free =
    elim (eqb_tells q p) [
      | inl same ↦
          ap (slots_used (with_call b p c)) same.1
          ∙ ap (used_in b.sets p) (ap listed_calls (written (slice_get b.calls p) refl))
          ∙ used_more b.sets p (calls_of b p) c free
          ∙ (λ i. slots_used b (sym same.1 i) + sym (here p (slots_of (Some c.kind)) q same.1) i)
      | inr off ↦
          let calls : slots_used (with_call b p c) q ≡ slots_used b q = ap (used_in b.sets q) (ap listed_calls (others_kept b.calls p q (calls_of b p ++ c ∷ []) off.1)) in
          let none = elsewhere p (slots_of (Some c.kind)) q off.1 in
          omega (arith, calls, none)
    ]
  where
    written : (o : Option (List Call)) → slice_get b.calls p ≡ o → slice_get (with_call b p c).calls p ≡ Some (calls_of b p ++ c ∷ [])
    written (Some calls) is = read_written b.calls p calls (calls_of b p ++ c ∷ []) is
    written None is = absurd (none_within b.calls p within is)

-- where there is no rank p, nothing joins
pub slots_without_rank : (b : Board) (p : ℕ) (c : Call) (q : ℕ) → slice_get b.calls p ≡ None → slots_used (with_call b p c) q ≡ slots_used b q
slots_without_rank b p c q e =
    elim (eqb_tells q p) [
      | inl same ↦ slots_of_no_rank (with_call b p c) q (ap (slice_get (with_call b p c).calls) same.1 ∙ none_written b.calls p (calls_of b p ++ c ∷ []) e) ∙ sym (slots_of_no_rank b q (ap (slice_get b.calls) same.1 ∙ e))
      | inr off ↦ ap (used_in b.sets q) (ap listed_calls (others_kept b.calls p q (calls_of b p ++ c ∷ []) off.1))
    ]

-- ---- a match set more

-- what no pair names behind a match set more is what none did, and the new one doesn't either
free_more : (sets : List MatchSet) (m : MatchSet) (c : CallId) → is_none (partner (sets ++ m ∷ []) c) ≡ (is_none (partner sets c) && is_none (partner (m ∷ []) c))
free_more [] m c = refl
free_more (Pair s r ∷ sets) m c = by_test (id_eq s c) (id_eq r c) (partner (sets ++ m ∷ []) c) (partner sets c) (free_more sets m c)
  where
    by_test : (x y : Bool) (all old : Option CallId) → is_none all ≡ (is_none old && is_none (partner (m ∷ []) c))
        → is_none (cond x (Some r) (cond y (Some s) all)) ≡ (is_none (cond x (Some r) (cond y (Some s) old)) && is_none (partner (m ∷ []) c))
    by_test true y all old e = refl
    by_test false true all old e = refl
    by_test false false all old e = e
free_more (Woke d ∷ sets) m c = free_more sets m c
free_more (set.Barrier ∷ sets) m c = free_more sets m c

holds_more : (b : Board) (m : MatchSet) (c : CallId) → holds_slot (with_set b m) c ≡ (holds_slot b c && is_none (partner (m ∷ []) c))
holds_more b m c = ap (λ (x : Bool). is_buffered (kind_at b c) && x) (free_more b.sets m c) ∙ regrouped (is_buffered (kind_at b c)) (is_none (partner b.sets c)) (is_none (partner (m ∷ []) c))
  where
    regrouped : (x y z : Bool) → (x && (y && z)) ≡ ((x && y) && z)
    regrouped true y z = refl
    regrouped false y z = refl

-- a match set that names none of a rank's calls as paired
slots_beside : (b : Board) (m : MatchSet) (q : ℕ) → ((i : ℕ) → holds_slot b (call_id q i) ≡ true → is_none (partner (m ∷ []) (call_id q i)) ≡ true) → slots_used (with_set b m) q ≡ slots_used b q
slots_beside b m q h =
    count_same (λ i. holds_slot (with_set b m) (call_id q i)) (λ i. holds_slot b (call_id q i)) 0 (length (calls_of b q))
    (λ i le lt. holds_more b m (call_id q i) ∙ stays (holds_slot b (call_id q i)) (is_none (partner (m ∷ []) (call_id q i))) (h i))
  where
    stays : (x y : Bool) → (x ≡ true → y ≡ true) → (x && y) ≡ x
    stays true y e = e refl
    stays false y e = refl

abbrev pub is_pair : MatchSet → Bool
is_pair (Pair s r) = true
is_pair m = false

-- a wake and a release change nothing
pub slots_with_lone : (b : Board) (m : MatchSet) (q : ℕ) → is_pair m ≡ false → slots_used (with_set b m) q ≡ slots_used b q
slots_with_lone b m q e = slots_beside b m q (λ i held. none_paired m (call_id q i) e)
  where
    none_paired : (n : MatchSet) (c : CallId) → is_pair n ≡ false → is_none (partner (n ∷ []) c) ≡ true
    none_paired (Pair s r) c e = absurd (cc)
    none_paired (Woke d) c e = refl
    none_paired set.Barrier c e = refl

pub slots_with_woke : (b : Board) (d : CallId) (q : ℕ) → slots_used (with_set b (Woke d)) q ≡ slots_used b q
slots_with_woke b d q = slots_with_lone b (Woke d) q refl

pub slots_with_release : (b : Board) (q : ℕ) → slots_used (with_set b set.Barrier) q ≡ slots_used b q
slots_with_release b q = slots_with_lone b set.Barrier q refl

-- ---- a pair more

not_same : (s c : CallId) → s ≢ c → id_eq s c ≡ false
not_same s c ne =
    elim (cases_Bool (id_eq s c)) [
      | inr h ↦ h
      | inl h ↦
          let parts = and_parts (s.rank == c.rank) _ h in
          absurd (ne (λ i. record { rank = eqb-true s.rank c.rank parts.0 i; index = eqb-true s.index c.index parts.1 i }))
    ]

-- of a call that isn't the send, where the receive was buffered by none
other_than_send : (b : Board) (s r c : CallId) → is_buffered (kind_at b r) ≡ false → s ≢ c → holds_slot b c ≡ holds_slot (with_set b (Pair s r)) c
other_than_send b s r c other ne =
    sym (holds_more b (Pair s r) c ∙ ap (λ (x : Bool). holds_slot b c && is_none (cond x (Some r) (cond (id_eq r c) (Some s) None))) (not_same s c ne) ∙ by_test (id_eq r c) refl)
  where
    no_slot : r ≡ c → holds_slot b c ≡ false
    no_slot e = ap (λ (d : CallId). is_buffered (kind_at b d) && is_none (partner b.sets c)) (sym e) ∙ ap (λ (x : Bool). x && is_none (partner b.sets c)) other

    by_test : (x : Bool) → id_eq r c ≡ x → (holds_slot b c && is_none (cond x (Some s) None)) ≡ holds_slot b c
    by_test false e = and_true (holds_slot b c)
    by_test true e =
        let parts = and_parts (r.rank == c.rank) _ e in
        let none = no_slot (λ i. record { rank = eqb-true r.rank c.rank parts.0 i; index = eqb-true r.index c.index parts.1 i }) in
        ap (λ (x : Bool). x && false) none ∙ sym none

send_before : (b : Board) (s : CallId) → partner b.sets s ≡ None → holds_slot b s ≡ is_buffered (kind_at b s)
send_before b s free = ap (λ (o : Option CallId). is_buffered (kind_at b s) && is_none o) free ∙ and_true (is_buffered (kind_at b s))

send_after : (b : Board) (s r : CallId) → holds_slot (with_set b (Pair s r)) s ≡ false
send_after b s r =
    holds_more b (Pair s r) s
    ∙ ap (λ (x : Bool). holds_slot b s && is_none (cond x (Some r) (cond (id_eq r s) (Some s) None))) ((λ i. eq-eqb s.rank s.rank refl i && eq-eqb s.index s.index refl i))
    ∙ and_false (holds_slot b s)
  where
    and_false : (x : Bool) → (x && false) ≡ false
    and_false true = refl
    and_false false = refl

buffered_known : (k : Option CallKind) → is_buffered k ≡ true → is_some k ≡ true
buffered_known (Some k) e = refl
buffered_known None e = absurd (cc)

-- A free send is paired with a call that holds no slot: where the send held one, its rank has it again.
pub slots_with_pair : (b : Board) (s r : CallId) (q : ℕ) → partner b.sets s ≡ None → is_buffered (kind_at b r) ≡ false
    → slots_used b q ≡ slots_used (with_set b (Pair s r)) q + at_rank s.rank (slots_of (kind_at b s)) q
slots_with_pair b s r q free other =
    elim (eqb_tells q s.rank) [
      | inl same ↦
          ap (slots_used b) same.1 ∙ of_sender
          ∙ (λ i. slots_used (with_set b (Pair s r)) (sym same.1 i) + sym (here s.rank (slots_of (kind_at b s)) q same.1) i)
      | inr off ↦
          let same =
          count_same (λ i. holds_slot b (call_id q i)) (λ i. holds_slot (with_set b (Pair s r)) (call_id q i)) 0 (length (calls_of b q))
          (λ i le lt. other_than_send b s r (call_id q i) other (λ is. off.1 (sym (ap (λ (c : CallId). c.rank) is)))) in
          let none = elsewhere s.rank (slots_of (kind_at b s)) q off.1 in
          omega (arith, same, none)
    ]
  where
    before : ℕ → Bool
    before i = holds_slot b (call_id s.rank i)

    after : ℕ → Bool
    after i = holds_slot (with_set b (Pair s r)) (call_id s.rank i)

    others : (i : ℕ) → i ≢ s.index → before i ≡ after i
    others i ne = other_than_send b s r (call_id s.rank i) other (λ is. ne (sym (ap (λ (c : CallId). c.index) is)))

    by_symbol : (x : Bool) → is_buffered (kind_at b s) ≡ x → slots_used b s.rank ≡ slots_used (with_set b (Pair s r)) s.rank + one_if x
    by_symbol true e =
        let within = known_within (calls_of b s.rank) s.index (buffered_known (kind_at b s) e) in
        count_one_less before after s.index 0 (length (calls_of b s.rank)) (omega arith) (omega (arith, within)) others (send_after b s r)
        ∙ ap (λ (x : Bool). slots_used (with_set b (Pair s r)) s.rank + one_if x) (send_before b s free ∙ e)
    by_symbol false e =
        let same = count_same before after 0 (length (calls_of b s.rank)) (λ i le lt. each i) in
        omega (arith, same)
      where
        each : (i : ℕ) → before i ≡ after i
        each i =
            elim (eqb_tells i s.index) [
              | inl at ↦ ap before at.1 ∙ send_before b s free ∙ e ∙ sym (ap after at.1 ∙ send_after b s r)
              | inr off ↦ others i off.1
            ]

    of_sender : slots_used b s.rank ≡ slots_used (with_set b (Pair s r)) s.rank + slots_of (kind_at b s)
    of_sender = by_symbol (is_buffered (kind_at b s)) refl

-- a receive is never buffered
unbuffered : (k : Option CallKind) → receives k ≡ true → is_buffered k ≡ false
unbuffered (Some (Recv r)) e = refl
unbuffered k e = absurd (cc)

pub slots_with_fitting : (b : Board) (s r : CallId) (q : ℕ) → partner b.sets s ≡ None → fits b s r ≡ true
    → slots_used b q ≡ slots_used (with_set b (Pair s r)) q + at_rank s.rank (slots_of (kind_at b s)) q
slots_with_fitting b s r q free fit = slots_with_pair b s r q free (unbuffered (kind_at b r) (fitting_recv (kind_at b s) (kind_at b r) s.rank r.rank fit).0)

pub slots_with_match : (b : Board) (s r : CallId) (q : ℕ) → eligible b s r ≡ true → slots_used b q ≡ slots_used (with_set b (Pair s r)) q + at_rank s.rank (slots_of (kind_at b s)) q
slots_with_match b s r q e =
    let parts = agrees b s r e in
    slots_with_fitting b s r q (none_there (partner b.sets s) (and_parts (is_message_kind (kind_at b s)) _ parts.send_free).1) parts.fit
  where
    none_there : (o : Option CallId) → is_none o ≡ true → o ≡ None
    none_there None e = refl
    none_there (Some c) e = absurd (cc)
