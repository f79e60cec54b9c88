-- A match beside another step: what was eligible stays so as long as its calls are free, and two matches share no call but an open receive.
use Rattle.std.proofs.Common.{◌≡◌, ℕ, zero, suc, ◌<◌, ◌==◌, Bool, true, false, ◌||◌, not, Option, Some, None, is_some, is_none, option_and_then, List, [], ◌∷◌, ◌++◌, length, slice_get, inl, inr, refl, sym, ap, ◌∙◌, arith, eq-eqb}
use Rattle.mpd_laws.proofs.ordered.Orderly.{same_id}
use Rattle.std.proofs.lemmas.Bool.{cases_order, eqb-true, and_parts, or_cases}
use Rattle.std.specs.Cmp.Derive.{both_true}
use Rattle.mpd_model.specs.declared.step.CallId.{CallId}
use Rattle.mpd_model.specs.declared.step.Step.TheVariants.{Match, Wake, WakeAny}
use Rattle.mpd_model.specs.declared.call.Call.{Call}
use Rattle.mpd_model.specs.declared.call.CallKind.{CallKind}
use Rattle.mpd_model.specs.declared.call.CallKind.TheVariants.{Send, Recv, Wait, Waitany}
use Rattle.mpd_model.specs.declared.call.Message.{Message}
use Rattle.mpd_model.specs.declared.call.MatchSet.TheVariants.{Pair, Woke}
use Rattle.mpd_model.specs.declared.call.MatchSet.TheVariants as set
use Rattle.mpd_model.specs.steps.World.{World, Board, RankWorld, call_id, id_eq, calls_of, kind_of, kind_at, partner, is_message_kind, is_any_or, fitting, sends_to, receives, eligible, message_of, is_buffered, is_done, awaited_by, awaited, complete_by, has_own_step, last_call}
use Rattle.mpd_model.specs.steps.Next.{waits, can_wake, writes_of, writes_by, own_writes, woken_rank, wake_writes, wake_clears, woken, any_handle, any_call, is_complete_some, can_wake_any, index_writes, any_writes, woken_any, released, next}
use Rattle.mpd_model.specs.runs.Decisions.{takes_any}
use Rattle.mpd_model.specs.steps.Why.{or_else}
use Rattle.mpd_meaning.specs.Same.{Same}
use Rattle.mpd_laws.proofs.ordered.Eligible.{free_is_unpaired, known_within, message_known, fitting_send, fitting_recv, agrees, earlier_send_paired, earlier_recv_paired, one_send, eligible_from, clash}
use Rattle.mpd_meaning.proofs.moving.Sets.{partner_more, else_none, partner_by, Disjoint, sets_swapped, barrier_disjoint}
use Rattle.mpd_meaning.proofs.moving.Moves.{moved, paired, awake, awake_any, kind_kept, partner_formed, woken_is}
use Rattle.mpd_meaning.proofs.moving.Worlds.{taken}

-- ---- a later board

-- a later board: what was issued is what it was, and what was paired is paired
pub record Later (b e : Board) : Type 0 where
  pub kinds : (c : CallId) → is_some (kind_at b c) ≡ true → kind_at e c ≡ kind_at b c
  pub partners : (c : CallId) → is_some (partner b.sets c) ≡ true → is_some (partner e.sets c) ≡ true

at_some : {A : Type 0} (xs : List A) (i j : ℕ) → i < j → j < length xs → is_some (slice_get xs i) ≡ true
at_some [] i j lt within = absurd (omega (arith, within))
at_some (x ∷ xs) zero j lt within = refl
at_some (x ∷ xs) (suc i) zero lt within = absurd (omega (arith, lt))
at_some (x ∷ xs) (suc i) (suc j) lt within = at_some xs i j (omega (arith, lt)) (omega (arith, within))

kind_some : (o : Option Call) → is_some o ≡ true → is_some (kind_of o) ≡ true
kind_some None e = cc
kind_some (Some c) e = refl

-- an earlier call of a rank was issued
earlier_known : (b : Board) (p i j : ℕ) → i < j → is_some (kind_at b (call_id p j)) ≡ true → is_some (kind_at b (call_id p i)) ≡ true
earlier_known b p i j lt known = kind_some (slice_get (calls_of b p) i) (at_some (calls_of b p) i j lt (known_within (calls_of b p) j known))

pub send_known : (b : Board) (s r : CallId) → eligible b s r ≡ true → is_some (kind_at b s) ≡ true
send_known b s r e = message_known (kind_at b s) (and_parts (is_message_kind (kind_at b s)) _ (agrees b s r e).send_free).0

pub recv_known : (b : Board) (s r : CallId) → eligible b s r ≡ true → is_some (kind_at b r) ≡ true
recv_known b s r e = message_known (kind_at b r) (and_parts (is_message_kind (kind_at b r)) _ (agrees b s r e).recv_free).0

-- What is eligible stays so as long as both calls are free.
pub match_stays : (b e : Board) → Later b e → (s r : CallId) → eligible b s r ≡ true → is_none (partner e.sets s) ≡ true → is_none (partner e.sets r) ≡ true → eligible e s r ≡ true
match_stays b e h s r was send_free recv_free =
    eligible_from e s r ((λ i. fitting (send_same i) (recv_same i) s.rank r.rank) ∙ (agrees b s r was).fit) send_free recv_free
    (λ i lt fit. h.partners (call_id s.rank i)
    (earlier_send_paired b s.rank i s.index r was lt ((λ j. fitting (sym (h.kinds (call_id s.rank i) (earlier_known b s.rank i s.index lt (send_known b s r was))) j) (sym recv_same j) s.rank r.rank) ∙ fit)))
    (λ i lt fit. h.partners (call_id r.rank i)
    (earlier_recv_paired b s r.rank i r.index was lt ((λ j. fitting (sym send_same j) (sym (h.kinds (call_id r.rank i) (earlier_known b r.rank i r.index lt (recv_known b s r was))) j) s.rank r.rank) ∙ fit)))
  where
    send_same : kind_at e s ≡ kind_at b s
    send_same = h.kinds s (send_known b s r was)

    recv_same : kind_at e r ≡ kind_at b r
    recv_same = h.kinds r (recv_known b s r was)

-- ---- after a local step or a wake

pub moved_later : (w : World) (p : ℕ) (r : RankWorld) (o : Option Call) (m : Option CallId) → Later w.board (moved w p r o m).board
moved_later w p r o m = record { kinds = kind_kept w p r o m; partners = λ c e. ap (λ (q : Option CallId). is_some q) (partner_formed w.board.sets m c) ∙ e }

made_match : (w : World) (s t : CallId) → eligible w.board s t ≡ true → next w (Match s t) ≡ Some (paired w s t)
made_match w s t e = taken (eligible w.board s t) (paired w s t) e

pub send_free : (b : Board) (s r : CallId) → eligible b s r ≡ true → is_none (partner b.sets s) ≡ true
send_free b s r e = (and_parts (is_message_kind (kind_at b s)) _ (agrees b s r e).send_free).1

pub recv_free : (b : Board) (s r : CallId) → eligible b s r ≡ true → is_none (partner b.sets r) ≡ true
recv_free b s r e = (and_parts (is_message_kind (kind_at b r)) _ (agrees b s r e).recv_free).1

pub match_again : (w : World) (p : ℕ) (r : RankWorld) (o : Option Call) (m : Option CallId) (s t : CallId) → eligible w.board s t ≡ true
    → next (moved w p r o m) (Match s t) ≡ Some (paired (moved w p r o m) s t)
match_again w p r o m s t e =
    made_match (moved w p r o m) s t (match_stays w.board (moved w p r o m).board (moved_later w p r o m) s t e
    (ap (λ (q : Option CallId). is_none q) (partner_formed w.board.sets m s) ∙ send_free w.board s t e)
    (ap (λ (q : Option CallId). is_none q) (partner_formed w.board.sets m t) ∙ recv_free w.board s t e))

-- ---- after a release

pub match_freed : (w : World) (s t : CallId) → eligible w.board s t ≡ true → next (released w) (Match s t) ≡ Some (paired (released w) s t)
match_freed w s t e =
    let same : (c : CallId) → partner (released w).board.sets c ≡ partner w.board.sets c = λ c. partner_more w.board.sets (set.Barrier ∷ []) c ∙ else_none (partner w.board.sets c) in
    made_match (released w) s t (match_stays w.board (released w).board (record { kinds = λ c known. refl; partners = λ c known. ap (λ (q : Option CallId). is_some q) (same c) ∙ known }) s t e
    (ap (λ (q : Option CallId). is_none q) (same s) ∙ send_free w.board s t e) (ap (λ (q : Option CallId). is_none q) (same t) ∙ recv_free w.board s t e))

pub freed_paired : (w : World) (s t : CallId) → Same (paired (released w) s t) (released (paired w s t))
freed_paired w s t = record { ranks = refl; mode = refl; calls = refl; sets = sets_swapped w.board.sets set.Barrier (Pair s t) (barrier_disjoint (Pair s t)) }

-- ---- two matches

pub id_same : (c d : CallId) → c ≡ d → id_eq c d ≡ true
id_same c d e = both_true (eq-eqb c.rank d.rank (ap (λ (x : CallId). x.rank) e)) (eq-eqb c.index d.index (ap (λ (x : CallId). x.index) e))

pub no_both : (k : Option CallKind) (q : ℕ) → sends_to k q ≡ true → receives k ≡ true → ⊥
no_both (Some (Send s)) q e f = cc
no_both k q e f = cc

pub is_send : (b : Board) (s r : CallId) → eligible b s r ≡ true → sends_to (kind_at b s) r.rank ≡ true
is_send b s r e = (fitting_send (kind_at b s) (kind_at b r) s.rank r.rank (agrees b s r e).fit).0

is_recv : (b : Board) (s r : CallId) → eligible b s r ≡ true → receives (kind_at b r) ≡ true
is_recv b s r e = (fitting_recv (kind_at b s) (kind_at b r) s.rank r.rank (agrees b s r e).fit).0

-- a send is no receive
pub send_is_no_recv : (b : Board) (s r t q : CallId) → eligible b s r ≡ true → eligible b t q ≡ true → id_eq s q ≡ false
send_is_no_recv b s r t q e f = by_test (id_eq s q) refl
  where
    by_test : (x : Bool) → id_eq s q ≡ x → x ≡ false
    by_test false is = refl
    by_test true is = absurd (no_both (kind_at b s) r.rank (is_send b s r e) (ap (λ (c : CallId). receives (kind_at b c)) (same_id s q is) ∙ is_recv b t q f))

pub turned : (c d : CallId) → id_eq c d ≡ false → id_eq d c ≡ false
turned c d e = by_test (id_eq d c) refl
  where
    by_test : (x : Bool) → id_eq d c ≡ x → x ≡ false
    by_test false is = refl
    by_test true is = absurd (clash (id_same c d (sym (same_id d c is))) e)

-- a call that neither of two is has no partner in their pair
pub unnamed : (s r c : CallId) → id_eq s c ≡ false → id_eq r c ≡ false → partner (Pair s r ∷ []) c ≡ None
unnamed s r c e f = (λ i. partner_by (e i) (f i) s r None)

still_free : (b : Board) (s r c : CallId) → id_eq s c ≡ false → id_eq r c ≡ false → is_none (partner b.sets c) ≡ true → is_none (partner (b.sets ++ Pair s r ∷ []) c) ≡ true
still_free b s r c e f free =
    ap (λ (o : Option CallId). is_none o) (partner_more b.sets (Pair s r ∷ []) c ∙ ap (or_else (partner b.sets c)) (unnamed s r c e f) ∙ else_none (partner b.sets c)) ∙ free

else_some : (o k : Option CallId) → is_some o ≡ true → is_some (or_else o k) ≡ true
else_some None k e = cc
else_some (Some c) k e = refl

pub paired_later : (w : World) (s r : CallId) → Later w.board (paired w s r).board
paired_later w s r = record {
  kinds = λ c known. refl;
  partners = λ c known. ap (λ (o : Option CallId). is_some o) (partner_more w.board.sets (Pair s r ∷ []) c) ∙ else_some (partner w.board.sets c) (partner (Pair s r ∷ []) c) known;
}

pub match_paired : (w : World) (s r t q : CallId) → eligible w.board s r ≡ true → eligible w.board t q ≡ true → id_eq s t ≡ false → id_eq r q ≡ false
    → next (paired w s r) (Match t q) ≡ Some (paired (paired w s r) t q)
match_paired w s r t q e f sends recvs =
    made_match (paired w s r) t q (match_stays w.board (paired w s r).board (paired_later w s r) t q f
    (still_free w.board s r t sends (turned t r (send_is_no_recv w.board t q s r f e)) (send_free w.board t q f))
    (still_free w.board s r q (send_is_no_recv w.board s r t q e f) recvs (recv_free w.board t q f)))

none_in_both : (x y z u : Bool) (s r t q : CallId) → ((x || y) ≡ true → (z || u) ≡ true → ⊥)
    → or_else (partner_by x y s r None) (partner_by z u t q None) ≡ or_else (partner_by z u t q None) (partner_by x y s r None)
none_in_both false false z u s r t q h = sym (else_none (partner_by z u t q None))
none_in_both true y false false s r t q h = refl
none_in_both true y true u s r t q h = absurd (h refl refl)
none_in_both true y false true s r t q h = absurd (h refl refl)
none_in_both false true false false s r t q h = refl
none_in_both false true true u s r t q h = absurd (h refl refl)
none_in_both false true false true s r t q h = absurd (h refl refl)

-- one call is no two that are not the same
never_both : (c d x : CallId) → id_eq c d ≡ false → id_eq c x ≡ true → id_eq d x ≡ true → ⊥
never_both c d x ne e f = clash (id_same c d (same_id c x e ∙ sym (same_id d x f))) ne

pairs_disjoint : (s r t q : CallId) → id_eq s t ≡ false → id_eq s q ≡ false → id_eq r t ≡ false → id_eq r q ≡ false → Disjoint (Pair s r) (Pair t q)
pairs_disjoint s r t q st sq rt rq c =
    none_in_both (id_eq s c) (id_eq r c) (id_eq t c) (id_eq q c) s r t q
    (λ e f. elim (or_cases (id_eq s c) (id_eq r c) e) [
      | inl a ↦ elim (or_cases (id_eq t c) (id_eq q c) f) [
        | inl b ↦ never_both s t c st a b
        | inr b ↦ never_both s q c sq a b
      ]
      | inr a ↦ elim (or_cases (id_eq t c) (id_eq q c) f) [
        | inl b ↦ never_both r t c rt a b
        | inr b ↦ never_both r q c rq a b
      ]
    ])

pub paired_swapped : (w : World) (s r t q : CallId) → eligible w.board s r ≡ true → eligible w.board t q ≡ true → id_eq s t ≡ false → id_eq r q ≡ false
    → Same (paired (paired w s r) t q) (paired (paired w t q) s r)
paired_swapped w s r t q e f sends recvs = record {
  ranks = refl;
  mode = refl;
  calls = refl;
  sets = sets_swapped w.board.sets (Pair s r) (Pair t q) (pairs_disjoint s r t q sends (send_is_no_recv w.board s r t q e f) (turned t r (send_is_no_recv w.board t q s r f e)) recvs);
}

-- ---- two matches that share a call

-- an eligible send has one receive
recv_not_earlier : (b : Board) (s : CallId) (p i j : ℕ) → eligible b s (call_id p i) ≡ true → eligible b s (call_id p j) ≡ true → i < j → ⊥
recv_not_earlier b s p i j e f lt =
    free_is_unpaired (partner b.sets (call_id p i)) (recv_free b s (call_id p i) e) (earlier_recv_paired b s p i j f lt (agrees b s (call_id p i) e).fit)

one_recv : (b : Board) (s : CallId) (p i j : ℕ) → eligible b s (call_id p i) ≡ true → eligible b s (call_id p j) ≡ true → i ≡ j
one_recv b s p i j e f =
    elim (cases_order i j) [
      | inl same ↦ same
      | inr other ↦ elim other [
        | inl lt ↦ absurd (recv_not_earlier b s p i j e f lt)
        | inr gt ↦ absurd (recv_not_earlier b s p j i f e gt)
      ]
    ]

sends_once : (k : Option CallKind) (p q : ℕ) → sends_to k p ≡ true → sends_to k q ≡ true → p ≡ q
sends_once (Some (Send s)) p q e f = sym (eqb-true s.to p e) ∙ eqb-true s.to q f
sends_once k p q e f = absurd (cc)

pub same_recv : (b : Board) (s r q : CallId) → eligible b s r ≡ true → eligible b s q ≡ true → r ≡ q
same_recv b s r q e f =
    let rank : r.rank ≡ q.rank = sends_once (kind_at b s) r.rank q.rank (is_send b s r e) (is_send b s q f) in
    let index : r.index ≡ q.index = one_recv b s q.rank r.index q.index (ap (λ (p : ℕ). eligible b s (call_id p r.index)) (sym rank) ∙ e) f in
    λ i. call_id (rank i) (index i)

-- the sender of what a receive takes that names its source
one_source : (k one other : Option CallKind) (p u q : ℕ) → takes_any k ≡ false → fitting one k p q ≡ true → fitting other k u q ≡ true → p ≡ u
one_source (Some (Recv r)) (Some (Send s)) (Some (Send t)) p u q named e f =
    let from_one = and_parts (is_any_or r.from p) _ (and_parts (s.to == q) _ e).1 in
    let from_other = and_parts (is_any_or r.from u) _ (and_parts (t.to == q) _ f).1 in
    by_source r.from named from_one.0 from_other.0
  where
    by_source : (o : Option ℕ) → is_none o ≡ false → is_any_or o p ≡ true → is_any_or o u ≡ true → p ≡ u
    by_source None n a b = absurd (cc)
    by_source (Some m) n a b = sym (eqb-true m p a) ∙ eqb-true m u b
one_source k one other p u q named e f =
    let got = (fitting_recv one k p q e).0 in
    let sent = (fitting_send one k p q e).0 in
    let also = (fitting_send other k u q f).0 in
    absurd (cc)

pub same_send : (b : Board) (s t r : CallId) → takes_any (kind_at b r) ≡ false → eligible b s r ≡ true → eligible b t r ≡ true → s ≡ t
same_send b s t r named e f =
    let rank : s.rank ≡ t.rank = one_source (kind_at b r) (kind_at b s) (kind_at b t) s.rank t.rank r.rank named (agrees b s r e).fit (agrees b t r f).fit in
    let index : s.index ≡ t.index = one_send b t.rank s.index t.index r (ap (λ (p : ℕ). eligible b (call_id p s.index) r) (sym rank) ∙ e) f in
    λ i. call_id (rank i) (index i)

-- ---- a wake after a match

-- what is done gets no message more
written_once : (k : Option CallKind) (o m : Option CallId) (f : CallId → Option Message) → (is_some o || is_buffered k) ≡ true
    → writes_of k (option_and_then f (or_else o m)) ≡ writes_of k (option_and_then f o)
written_once k (Some c) m f e = refl
written_once (Some (Send s)) None m f e = refl
written_once k None m f e = absurd (cc)

done_more : (b : Board) (s r c : CallId) → is_done b c ≡ true → is_done (record b { sets = b.sets ++ Pair s r ∷ [] }) c ≡ true
done_more b s r c e = ap (λ (o : Option CallId). is_some o || is_buffered (kind_at b c)) (partner_more b.sets (Pair s r ∷ []) c) ∙ by_cases (partner b.sets c) e
  where
    or_true : (x : Bool) → (x || true) ≡ true
    or_true true = refl
    or_true false = refl

    by_cases : (o : Option CallId) → (is_some o || is_buffered (kind_at b c)) ≡ true → (is_some (or_else o (partner (Pair s r ∷ []) c)) || is_buffered (kind_at b c)) ≡ true
    by_cases (Some d) h = refl
    by_cases None h = ap (λ (x : Bool). is_some (partner (Pair s r ∷ []) c) || x) h ∙ or_true (is_some (partner (Pair s r ∷ []) c))

complete_more : (b : Board) (s r : CallId) (o : Option CallId) → complete_by b o ≡ true → complete_by (record b { sets = b.sets ++ Pair s r ∷ [] }) o ≡ true
complete_more b s r None e = refl
complete_more b s r (Some c) e = done_more b s r c e

writes_more : (b : Board) (s r : CallId) (o : Option CallId) → complete_by b o ≡ true → writes_by (record b { sets = b.sets ++ Pair s r ∷ [] }) o ≡ writes_by b o
writes_more b s r None e = refl
writes_more b s r (Some c) e =
    ap (λ (o : Option CallId). writes_of (kind_at b c) (option_and_then (λ d. message_of d (kind_at b d)) o)) (partner_more b.sets (Pair s r ∷ []) c)
    ∙ written_once (kind_at b c) (partner b.sets c) (partner (Pair s r ∷ []) c) (λ d. message_of d (kind_at b d)) e

pub wake_paired : (w : World) (s r : CallId) (p : ℕ) (z : RankWorld) → slice_get w.ranks p ≡ Some z → can_wake w p ≡ true
    → next (paired w s r) (Wake p) ≡ Some (moved (paired w s r) p (awake w p z) None (Some (last_call w.board p)))
wake_paired w s r p z at can =
    let one = and_parts (waits (slice_get w.ranks p)) _ can in
    let two = and_parts (not (has_own_step (kind_at w.board (last_call w.board p)))) _ one.1 in
    let writes = writes_more w.board s r (awaited w.board (last_call w.board p)) two.1 in
    taken (can_wake (paired w s r) p) (woken (paired w s r) p) (both_true one.0 (both_true two.0 (complete_more w.board s r (awaited w.board (last_call w.board p)) two.1)))
    ∙ ap (λ (v : World). Some v) (woken_is (paired w s r) p (wake_writes (paired w s r).board p) (wake_clears w.board p) z at)
    ∙ (λ i. Some (moved (paired w s r) p (woken_rank (writes i ++ own_writes (kind_at w.board (last_call w.board p))) (wake_clears w.board p) z) None (Some (last_call w.board p))))

-- a request that is complete stays so, and brings what it brought
some_complete_more : (b : Board) (s r : CallId) (o : Option CallId) → is_complete_some b o ≡ true → is_complete_some (record b { sets = b.sets ++ Pair s r ∷ [] }) o ≡ true
some_complete_more b s r None e = absurd (cc)
some_complete_more b s r (Some c) e = let parts = and_parts (not (has_own_step (kind_at b c))) _ e in both_true parts.0 (complete_more b s r (awaited b c) parts.1)

held_writes_more : (b : Board) (s r : CallId) (o : Option CallId) → is_complete_some b o ≡ true → writes_by (record b { sets = b.sets ++ Pair s r ∷ [] }) o ≡ writes_by b o
held_writes_more b s r None e = refl
held_writes_more b s r (Some c) e = by_kind (kind_at b c) refl (and_parts (not (has_own_step (kind_at b c))) _ e).1
  where
    -- a call that waits for another writes nothing of its own
    nothing : (k : Option CallKind) → kind_at b c ≡ k → ((m : Option Message) → writes_of k m ≡ []) → writes_by (record b { sets = b.sets ++ Pair s r ∷ [] }) (Some c) ≡ writes_by b (Some c)
    nothing k is none =
        ap (λ (x : Option CallKind). writes_of x (option_and_then (λ d. message_of d (kind_at b d)) (partner (b.sets ++ Pair s r ∷ []) c))) is
        ∙ none (option_and_then (λ d. message_of d (kind_at b d)) (partner (b.sets ++ Pair s r ∷ []) c))
        ∙ sym (none (option_and_then (λ d. message_of d (kind_at b d)) (partner b.sets c)))
        ∙ sym (ap (λ (x : Option CallKind). writes_of x (option_and_then (λ d. message_of d (kind_at b d)) (partner b.sets c))) is)

    by_kind : (k : Option CallKind) → kind_at b c ≡ k → complete_by b (awaited_by c k) ≡ true → writes_by (record b { sets = b.sets ++ Pair s r ∷ [] }) (Some c) ≡ writes_by b (Some c)
    by_kind (Some (Wait t)) is done = nothing (Some (Wait t)) is (λ m. refl)
    by_kind (Some (Waitany a)) is done = nothing (Some (Waitany a)) is (λ m. refl)
    by_kind k is done = writes_more b s r (Some c) done

pub any_paired : (w : World) (s r : CallId) (p i : ℕ) (z : RankWorld) → slice_get w.ranks p ≡ Some z → can_wake_any w p i ≡ true
    → next (paired w s r) (WakeAny p i) ≡ Some (moved (paired w s r) p (awake_any w p i z) None (Some (last_call w.board p)))
any_paired w s r p i z at can =
    let parts = and_parts (waits (slice_get w.ranks p)) _ can in
    let writes = held_writes_more w.board s r (any_call w p i) parts.1 in
    taken (can_wake_any (paired w s r) p i) (woken_any (paired w s r) p i) (both_true parts.0 (some_complete_more w.board s r (any_call w p i) parts.1))
    ∙ ap (λ (v : World). Some v) (woken_is (paired w s r) p (any_writes (paired w s r) p i) (any_handle w p i) z at)
    ∙ (λ j. Some (moved (paired w s r) p (woken_rank (writes j ++ index_writes (kind_at w.board (last_call w.board p)) i) (any_handle w p i) z) None (Some (last_call w.board p))))
