-- What is asked of worlds that are alike is the same: which steps are enabled, what comes next, and how they end.
use Rattle.std.proofs.Common.{◌≡◌, ℕ, ◌-◌, Bool, true, false, cond, ◌&&◌, ◌||◌, not, nat_lt, Option, Some, None, is_some, is_none, option_and_then, List, [], ◌∷◌, ◌++◌, length, slice_get, inl, inr, refl, sym, ap, ◌∙◌}
use Rattle.std.proofs.lemmas.Bool.{and_parts}
use Rattle.std.specs.Option.{option_map}
use Rattle.mpd_laws.proofs.ordered.Splits.{mapped_from}
use Rattle.std.specs.List.{filter, list_any, range_with_len}
use Rattle.mpd_model.specs.declared.step.CallId.{CallId}
use Rattle.mpd_model.specs.declared.call.Call.{Call}
use Rattle.mpd_model.specs.declared.call.CallKind.{CallKind}
use Rattle.mpd_model.specs.declared.call.SendCall.{SendCall}
use Rattle.mpd_model.specs.declared.call.RecvCall.{RecvCall}
use Rattle.mpd_model.specs.declared.call.CallKind.TheVariants.{Send, Recv, Wait, Waitany}
use Rattle.mpd_model.specs.steps.World.{World, Board, RankWorld, call_id, call_at, calls_of, kind_of, kind_at, rank_numbers, call_numbers, partner, is_message_kind, is_free, fitting, fits, sends_to, receives, is_pending, is_posted, pending, posted, eligible, is_buffered, holds_slot, slots_used, is_done, awaited_by, awaited, has_own_step, complete_by, complete, last_call}
use Rattle.mpd_model.specs.steps.Next.{local, local_at, buffers_one, has_buffer, waits, can_wake, writes_by, own_writes, cleared_by, wake_writes, wake_clears}
use Rattle.mpd_outcomes.specs.Future.{quieted, open_call, Seen, still_asked, seen}
use Rattle.mpd_outcomes.proofs.Alike.{Alike}
use Rattle.mpd_outcomes.proofs.Quiet.{quiet, local_quiet}

-- ---- free calls

-- what a call asks for while it is free
abbrev pub open_kind : Board → CallId → Option CallKind
open_kind b c = cond (is_free b c) (kind_at b c) None

pub opened_kind : (b : Board) (c : CallId) → kind_of (open_call b c) ≡ open_kind b c
opened_kind b c = by_free (is_free b c) (call_at b c)
  where
    by_free : (x : Bool) (o : Option Call) → kind_of (cond x o None) ≡ cond x (kind_of o) None
    by_free true o = refl
    by_free false o = refl

pub opened_is : (b : Board) (c : CallId) → is_free b c ≡ true → open_call b c ≡ call_at b c
opened_is b c e = ap (λ (x : Bool). cond x (call_at b c) None) e

free_by : (k : Option CallKind) (x : Bool) → (is_message_kind k && x) ≡ is_some (cond (is_message_kind k && x) k None)
free_by (Some (Send s)) true = refl
free_by (Some (Send s)) false = refl
free_by (Some (Recv r)) true = refl
free_by (Some (Recv r)) false = refl
free_by k x = refl

pub free_is : (b : Board) (c : CallId) → is_free b c ≡ is_some (open_kind b c)
free_is b c = free_by (kind_at b c) (is_none (partner b.sets c))

tested_by : (f : Option CallKind → Bool) → f None ≡ false → (k : Option CallKind) (x : Bool) → (f k && x) ≡ f (cond x k None)
tested_by f e k true = and_true (f k)
  where
    and_true : (a : Bool) → (a && true) ≡ a
    and_true true = refl
    and_true false = refl
tested_by f e k false = and_false (f k) ∙ sym e
  where
    and_false : (a : Bool) → (a && false) ≡ false
    and_false true = refl
    and_false false = refl

-- a test of a call's kind that none passes, and whether it is free
pub tested : (f : Option CallKind → Bool) → f None ≡ false → (b : Board) (c : CallId) → (f (kind_at b c) && is_free b c) ≡ f (open_kind b c)
tested f e b c = tested_by f e (kind_at b c) (is_free b c)

pub open_is : (b : Board) (c : CallId) → is_free b c ≡ true → open_kind b c ≡ kind_at b c
open_is b c e = ap (λ (x : Bool). cond x (kind_at b c) None) e

slot_by : (k : Option CallKind) (x : Bool) → (is_buffered k && x) ≡ is_buffered (cond (is_message_kind k && x) k None)
slot_by (Some (Send s)) true = and_true s.buffered
  where
    and_true : (a : Bool) → (a && true) ≡ a
    and_true true = refl
    and_true false = refl
slot_by (Some (Send s)) false = and_false s.buffered
  where
    and_false : (a : Bool) → (a && false) ≡ false
    and_false true = refl
    and_false false = refl
slot_by (Some (Recv r)) true = refl
slot_by (Some (Recv r)) false = refl
slot_by k x = refl

slot_is : (b : Board) (c : CallId) → holds_slot b c ≡ is_buffered (open_kind b c)
slot_is b c = slot_by (kind_at b c) (is_none (partner b.sets c))

-- ---- lists

pub any_same : {A : Type 0} (t q u : A → Bool) (xs : List A) → ((x : A) → u x ≡ true → t x ≡ q x) → list_any t (filter u xs) ≡ list_any q (filter u xs)
any_same t q u [] h = refl
any_same t q u (x ∷ xs) h = one (u x) refl (any_same t q u xs h)
  where
    one : (b : Bool) → u x ≡ b → list_any t (filter u xs) ≡ list_any q (filter u xs) → list_any t (cond b (x ∷ filter u xs) (filter u xs)) ≡ list_any q (cond b (x ∷ filter u xs) (filter u xs))
    one true e more = λ i. h x e i || more i
    one false e more = more

pub filter_same : {A : Type 0} (t q u : A → Bool) (xs : List A) → ((x : A) → u x ≡ true → t x ≡ q x) → filter t (filter u xs) ≡ filter q (filter u xs)
filter_same t q u [] h = refl
filter_same t q u (x ∷ xs) h = one (u x) refl (filter_same t q u xs h)
  where
    one : (b : Bool) → u x ≡ b → filter t (filter u xs) ≡ filter q (filter u xs) → filter t (cond b (x ∷ filter u xs) (filter u xs)) ≡ filter q (cond b (x ∷ filter u xs) (filter u xs))
    one true e more = λ i. cond (h x e i) (x ∷ more i) (more i)
    one false e more = more

-- ---- matching

abbrev eligible_by : (CallId → Option CallKind) → (ℕ → List ℕ) → CallId → CallId → Bool
eligible_by asks numbers s r =
    is_some (asks s) && (is_some (asks r) && (fitting (asks s) (asks r) s.rank r.rank
    && (not (list_any (λ i. nat_lt i s.index && fitting (asks (call_id s.rank i)) (asks r) s.rank r.rank) (filter (λ i. sends_to (asks (call_id s.rank i)) r.rank) (numbers s.rank)))
    && not (list_any (λ i. nat_lt i r.index && fitting (asks s) (asks (call_id r.rank i)) s.rank r.rank) (filter (λ i. receives (asks (call_id r.rank i))) (numbers r.rank))))))

pending_is : (b : Board) (p q : ℕ) → pending b p q ≡ filter (λ i. sends_to (open_kind b (call_id p i)) q) (call_numbers b p)
pending_is b p q = ap (λ (t : ℕ → Bool). filter t (call_numbers b p)) (λ j i. tested (λ k. sends_to k q) refl b (call_id p i) j)

posted_is : (b : Board) (q : ℕ) → posted b q ≡ filter (λ i. receives (open_kind b (call_id q i))) (call_numbers b q)
posted_is b q = ap (λ (t : ℕ → Bool). filter t (call_numbers b q)) (λ j i. tested receives refl b (call_id q i) j)

-- the part behind both being free, where they are
abbrev behind_free : Board → CallId → CallId → Bool
behind_free b s r =
    fits b s r
    && (not (list_any (λ i. nat_lt i s.index && fits b (call_id s.rank i) r) (pending b s.rank r.rank))
    && not (list_any (λ i. nat_lt i r.index && fits b s (call_id r.rank i)) (posted b r.rank)))

abbrev behind_by : (CallId → Option CallKind) → (ℕ → List ℕ) → CallId → CallId → Bool
behind_by asks numbers s r =
    fitting (asks s) (asks r) s.rank r.rank
    && (not (list_any (λ i. nat_lt i s.index && fitting (asks (call_id s.rank i)) (asks r) s.rank r.rank) (filter (λ i. sends_to (asks (call_id s.rank i)) r.rank) (numbers s.rank)))
    && not (list_any (λ i. nat_lt i r.index && fitting (asks s) (asks (call_id r.rank i)) s.rank r.rank) (filter (λ i. receives (asks (call_id r.rank i))) (numbers r.rank))))

free_within : (b : Board) (f : Option CallKind → Bool) (c : CallId) → (f (kind_at b c) && is_free b c) ≡ true → is_free b c ≡ true
free_within b f c e = (and_parts (f (kind_at b c)) (is_free b c) e).1

behind_is : (b : Board) (s r : CallId) → is_free b s ≡ true → is_free b r ≡ true → behind_free b s r ≡ behind_by (open_kind b) (call_numbers b) s r
behind_is b s r fs fr = λ j. fitting (send j) (recv j) s.rank r.rank && (not (earlier_sends j) && not (earlier_recvs j))
  where
    send : kind_at b s ≡ open_kind b s
    send = sym (open_is b s fs)

    recv : kind_at b r ≡ open_kind b r
    recv = sym (open_is b r fr)

    earlier_sends : list_any (λ i. nat_lt i s.index && fits b (call_id s.rank i) r) (pending b s.rank r.rank)
        ≡ list_any (λ i. nat_lt i s.index && fitting (open_kind b (call_id s.rank i)) (open_kind b r) s.rank r.rank) (filter (λ i. sends_to (open_kind b (call_id s.rank i)) r.rank) (call_numbers b s.rank))
    earlier_sends =
        any_same (λ i. nat_lt i s.index && fits b (call_id s.rank i) r) (λ i. nat_lt i s.index && fitting (open_kind b (call_id s.rank i)) (open_kind b r) s.rank r.rank) (is_pending b s.rank r.rank) (call_numbers b s.rank)
        (λ i e. λ j. nat_lt i s.index && fitting (sym (open_is b (call_id s.rank i) (free_within b (λ k. sends_to k r.rank) (call_id s.rank i) e)) j) (recv j) s.rank r.rank)
        ∙ ap (list_any (λ i. nat_lt i s.index && fitting (open_kind b (call_id s.rank i)) (open_kind b r) s.rank r.rank)) (pending_is b s.rank r.rank)

    earlier_recvs : list_any (λ i. nat_lt i r.index && fits b s (call_id r.rank i)) (posted b r.rank)
        ≡ list_any (λ i. nat_lt i r.index && fitting (open_kind b s) (open_kind b (call_id r.rank i)) s.rank r.rank) (filter (λ i. receives (open_kind b (call_id r.rank i))) (call_numbers b r.rank))
    earlier_recvs =
        any_same (λ i. nat_lt i r.index && fits b s (call_id r.rank i)) (λ i. nat_lt i r.index && fitting (open_kind b s) (open_kind b (call_id r.rank i)) s.rank r.rank) (is_posted b r.rank) (call_numbers b r.rank)
        (λ i e. λ j. nat_lt i r.index && fitting (send j) (sym (open_is b (call_id r.rank i) (free_within b receives (call_id r.rank i) e)) j) s.rank r.rank)
        ∙ ap (list_any (λ i. nat_lt i r.index && fitting (open_kind b s) (open_kind b (call_id r.rank i)) s.rank r.rank)) (posted_is b r.rank)

pub eligible_is : (b : Board) (s r : CallId) → eligible b s r ≡ eligible_by (open_kind b) (call_numbers b) s r
eligible_is b s r = by_free (is_free b s) (is_free b r) refl refl ∙ (λ j. free_is b s j && (free_is b r j && behind_by (open_kind b) (call_numbers b) s r))
  where
    by_free : (x y : Bool) → is_free b s ≡ x → is_free b r ≡ y → (is_free b s && (is_free b r && behind_free b s r)) ≡ (is_free b s && (is_free b r && behind_by (open_kind b) (call_numbers b) s r))
    by_free false y fs fr = (λ j. fs j && (is_free b r && behind_free b s r)) ∙ (λ j. sym fs j && (is_free b r && behind_by (open_kind b) (call_numbers b) s r))
    by_free true false fs fr = (λ j. is_free b s && (fr j && behind_free b s r)) ∙ (λ j. is_free b s && (sym fr j && behind_by (open_kind b) (call_numbers b) s r))
    by_free true true fs fr = ap (λ (t : Bool). is_free b s && (is_free b r && t)) (behind_is b s r fs fr)

-- ---- what is seen of a call

unasked : {A : Type 0} (f : Option CallKind → A) → ((s : SendCall) → f (Some (Send s)) ≡ f None) → ((r : RecvCall) → f (Some (Recv r)) ≡ f None)
    → (x : Bool) (k : Option CallKind) → f (still_asked x k) ≡ f k
unasked f sends recvs true (Some (Send s)) = sym (sends s)
unasked f sends recvs true (Some (Recv r)) = sym (recvs r)
unasked f sends recvs x k = refl

-- what is asked of a call's kind, but of no send or receive
pub kind_told : {A : Type 0} (f : Option CallKind → A) → ((s : SendCall) → f (Some (Send s)) ≡ f None) → ((r : RecvCall) → f (Some (Recv r)) ≡ f None)
    → (b e : Board) (c d : CallId) → seen b c ≡ seen e d → f (kind_at b c) ≡ f (kind_at e d)
kind_told f sends recvs b e c d is =
    sym (unasked f sends recvs (is_some (partner b.sets c)) (kind_at b c)) ∙ ap (λ (s : Seen). f s.kind) is ∙ unasked f sends recvs (is_some (partner e.sets d)) (kind_at e d)

done_by : (x : Bool) (k : Option CallKind) → (x || is_buffered (still_asked x k)) ≡ (x || is_buffered k)
done_by true k = refl
done_by false k = refl

pub done_told : (b e : Board) (c : CallId) → seen b c ≡ seen e c → is_done b c ≡ is_done e c
done_told b e c is =
    sym (done_by (is_some (partner b.sets c)) (kind_at b c)) ∙ ap (λ (s : Seen). s.paired || is_buffered s.kind) is ∙ done_by (is_some (partner e.sets c)) (kind_at e c)

pub waits_quiet : (b : Board) (p : ℕ) (o : Option RankWorld) → waits (option_map (quieted b p) o) ≡ waits o
waits_quiet b p None = refl
waits_quiet b p (Some r) = refl

-- a rank waits for calls of its own
awaited_rank : (c : CallId) (k : Option CallKind) (d : CallId) → awaited_by c k ≡ Some d → d.rank ≡ c.rank
awaited_rank c (Some (Wait t)) d e = let m = mapped_from (call_id c.rank) t.target d e in sym (ap (λ (x : CallId). x.rank) m.2)
awaited_rank c (Some (Waitany a)) d e = absurd (cc)
awaited_rank c k d e = let is : c ≡ d = cc in sym (ap (λ (x : CallId). x.rank) is)

-- ---- what alike worlds agree on

module _ (w v : World) (h : Alike w v) where
  pub asks_alike : (c : CallId) → open_kind w.board c ≡ open_kind v.board c
  asks_alike c = sym (opened_kind w.board c) ∙ ap kind_of (h.opens c) ∙ opened_kind v.board c

  pub asks : open_kind w.board ≡ open_kind v.board
  asks = λ j c. asks_alike c j

  pub numbers : call_numbers w.board ≡ call_numbers v.board
  numbers = λ j p. range_with_len 0 (h.counts p j)

  pub ranks_numbered : rank_numbers w.board ≡ rank_numbers v.board
  ranks_numbered = ap (range_with_len 0) h.many

  pub eligible_alike : (s r : CallId) → eligible w.board s r ≡ eligible v.board s r
  eligible_alike s r = eligible_is w.board s r ∙ (λ j. eligible_by (asks j) (numbers j) s r) ∙ sym (eligible_is v.board s r)

  pub slots_alike : (p : ℕ) → slots_used w.board p ≡ slots_used v.board p
  slots_alike p =
      (λ j. length (filter (λ i. slot_is w.board (call_id p i) j) (call_numbers w.board p)))
      ∙ (λ j. length (filter (λ i. is_buffered (asks j (call_id p i))) (numbers j p)))
      ∙ (λ j. length (filter (λ i. sym (slot_is v.board (call_id p i)) j) (call_numbers v.board p)))

  pub buffer_alike : (p : ℕ) → has_buffer w.board p ≡ has_buffer v.board p
  buffer_alike p = λ j. buffers_one (h.mode j) (slots_alike p j)

  pub last_alike : (p : ℕ) → last_call w.board p ≡ last_call v.board p
  last_alike p = ap (λ (n : ℕ). call_id p (n - 1)) (h.counts p)

  pub waits_alike : (p : ℕ) → waits (slice_get w.ranks p) ≡ waits (slice_get v.ranks p)
  waits_alike p = sym (waits_quiet w.board p (slice_get w.ranks p)) ∙ ap waits (h.ranks p) ∙ waits_quiet v.board p (slice_get v.ranks p)

  pub local_alike : (p : ℕ) → option_map quiet (local_at w p) ≡ option_map quiet (local_at v p)
  local_alike p =
      sym (local_quiet p (length w.ranks) (length (calls_of w.board p)) w.board p (slice_get w.ranks p))
      ∙ (λ j. option_map quiet (option_and_then (local p (h.size j) (h.counts p j)) (h.ranks p j)))
      ∙ local_quiet p (length v.ranks) (length (calls_of v.board p)) v.board p (slice_get v.ranks p)

  -- ---- calls that are due

  pub last_seen : (p : ℕ) → waits (slice_get w.ranks p) ≡ true → seen w.board (last_call w.board p) ≡ seen v.board (last_call v.board p)
  last_seen p e = h.due (last_call w.board p) (inr (e, inl refl)) ∙ ap (seen v.board) (last_alike p)

  complete_by_alike : (o : Option CallId) → ((d : CallId) → o ≡ Some d → seen w.board d ≡ seen v.board d) → complete_by w.board o ≡ complete_by v.board o
  complete_by_alike None k = refl
  complete_by_alike (Some d) k = done_told w.board v.board d (k d refl)

  pub writes_by_alike : (o : Option CallId) → ((d : CallId) → o ≡ Some d → seen w.board d ≡ seen v.board d) → writes_by w.board o ≡ writes_by v.board o
  writes_by_alike None k = refl
  writes_by_alike (Some d) k = ap (λ (s : Seen). s.writes) (k d refl)

  pub awaited_alike : (p : ℕ) → waits (slice_get w.ranks p) ≡ true → awaited w.board (last_call w.board p) ≡ awaited v.board (last_call v.board p)
  awaited_alike p e =
      kind_told (awaited_by (last_call w.board p)) (λ s. refl) (λ r. refl) w.board v.board (last_call w.board p) (last_call v.board p) (last_seen p e)
      ∙ ap (λ (c : CallId). awaited_by c (kind_at v.board (last_call v.board p))) (last_alike p)

  pub awaited_seen : (p : ℕ) → waits (slice_get w.ranks p) ≡ true → (d : CallId) → awaited w.board (last_call w.board p) ≡ Some d → seen w.board d ≡ seen v.board d
  awaited_seen p e d is =
      let at : d.rank ≡ p = awaited_rank (last_call w.board p) (kind_at w.board (last_call w.board p)) d is in
      h.due d (inr (ap (λ (q : ℕ). waits (slice_get w.ranks q)) at ∙ e, inr (ap (λ (q : ℕ). awaited w.board (last_call w.board q)) at ∙ is)))

  own_step_alike : (p : ℕ) → waits (slice_get w.ranks p) ≡ true → has_own_step (kind_at w.board (last_call w.board p)) ≡ has_own_step (kind_at v.board (last_call v.board p))
  own_step_alike p e = kind_told has_own_step (λ s. refl) (λ r. refl) w.board v.board (last_call w.board p) (last_call v.board p) (last_seen p e)

  complete_last : (p : ℕ) → waits (slice_get w.ranks p) ≡ true → complete w.board (last_call w.board p) ≡ complete v.board (last_call v.board p)
  complete_last p e =
      (λ j. not (own_step_alike p e j) && complete_by_alike (awaited w.board (last_call w.board p)) (awaited_seen p e) j)
      ∙ (λ j. not (has_own_step (kind_at v.board (last_call v.board p))) && complete_by v.board (awaited_alike p e j))

  pub can_wake_alike : (p : ℕ) → can_wake w p ≡ can_wake v p
  can_wake_alike p = both (waits (slice_get w.ranks p)) refl
    where
      both : (b : Bool) → waits (slice_get w.ranks p) ≡ b → can_wake w p ≡ can_wake v p
      both true e = λ j. waits_alike p j && complete_last p e j
      both false e = (λ j. e j && complete w.board (last_call w.board p)) ∙ (λ j. sym (sym (waits_alike p) ∙ e) j && complete v.board (last_call v.board p))

  pub wake_writes_alike : (p : ℕ) → waits (slice_get w.ranks p) ≡ true → wake_writes w.board p ≡ wake_writes v.board p
  wake_writes_alike p e =
      (λ j. writes_by_alike (awaited w.board (last_call w.board p)) (awaited_seen p e) j ++ kind_told own_writes (λ s. refl) (λ r. refl) w.board v.board (last_call w.board p) (last_call v.board p) (last_seen p e) j)
      ∙ (λ j. writes_by v.board (awaited_alike p e j) ++ own_writes (kind_at v.board (last_call v.board p)))

  pub wake_clears_alike : (p : ℕ) → waits (slice_get w.ranks p) ≡ true → wake_clears w.board p ≡ wake_clears v.board p
  wake_clears_alike p e = kind_told cleared_by (λ s. refl) (λ r. refl) w.board v.board (last_call w.board p) (last_call v.board p) (last_seen p e)
