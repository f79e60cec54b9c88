-- Each step keeps calls in order, and so each run.
use Rattle.std.proofs.Common.{◌≡◌, ◌≢◌, ◌⊎◌, ℕ, ℤ, suc, ◌+◌, ◌-◌, ◌<◌, Bool, true, false, cond, not, ◌&&◌, ◌||◌, Option, Some, None, is_some, List, [], ◌∷◌, ◌++◌, length, slice_get, inl, inr, refl, sym, ap, subst, ◌∙◌, arith, eq-eqb}
use Rattle.std.proofs.lemmas.Bool.{cases_Bool, eqb-true, and_parts, not-true, or_cases}
use Rattle.std.proofs.lemmas.List.{append_assoc}
use Rattle.std.proofs.lemmas.Bool.Decides.{eqb_tells}
use Rattle.std.specs.Cmp.Derive.{both_true}
use Rattle.std.specs.Option.{option_map}
use Rattle.mpd_model.specs.declared.step.CallId.{CallId}
use Rattle.mpd_model.specs.declared.call.CallKind.{CallKind}
use Rattle.mpd_model.specs.declared.call.CallKind.TheVariants.{Wait, Waitany, Barrier}
use Rattle.mpd_model.specs.declared.call.MatchSet.{MatchSet}
use Rattle.mpd_model.specs.declared.call.MatchSet.TheVariants.{Pair, Woke}
use Rattle.mpd_model.specs.declared.call.MatchSet.TheVariants as set
use Rattle.mpd_model.specs.steps.World.{World, Board, RankWorld, call_id, id_eq, calls_of, kind_at, partner, is_barrier, is_buffered, is_done, eligible, complete, complete_by, awaited_by, has_own_step, last_call}
use Rattle.mpd_model.specs.steps.Next.{waits, can_wake, put_at, woken_rank, wake_writes, wake_clears, woken_by, woken, request_handle, held_in, any_handle, any_writes, is_complete_some, can_wake_any, woken_any, with_set}
use Rattle.mpd_model.specs.steps.Order.{waits_for, is_number, barriers, releases, WentOn, Ordered}
use Rattle.mpd_laws.proofs.ordered.Eligible.{known_within}
use Rattle.mpd_laws.proofs.ordered.Orderly.{Orderly, IsAwaited, MayJoin, mentions, is_named, held, waiting, passed, same_id, order_more, pair_may_join}
use Rattle.mpd_laws.proofs.ordered.Releases.{one_if, releases_same}
use Rattle.mpd_laws.proofs.ordered.Splits.{any_or_end, others_kept}

-- ---- a match set joins

pub named_more : (b : Board) (n : MatchSet) → MayJoin b n → ((c : CallId) → is_named b.sets c ≡ true → is_some (kind_at b c) ≡ true)
    → (c : CallId) → is_named (b.sets ++ n ∷ []) c ≡ true → is_some (kind_at b c) ≡ true
named_more b n may old c e =
    elim (any_or_end (λ m. mentions m c) b.sets n e) [
      | inl h ↦ old c h
      | inr h ↦ may.named c h
    ]

pub ordered_more : (w : World) (n : MatchSet) → MayJoin w.board n → Orderly w → (p i j : ℕ) → i < j → is_some (kind_at w.board (call_id p j)) ≡ true
    → Ordered (with_set w.board n) (call_id p i) (call_id p j)
ordered_more w n may h p i j lt known =
    order_more w.board n may p i j lt (λ blocking. passed w h p i j lt (known_within (calls_of w.board p) j known) blocking) (h.ordered p i j lt known)

-- what a rank went on from stays so
pub went_kept : (b : Board) (n : MatchSet) (x : CallId) → WentOn b b.sets x → WentOn (with_set b n) (b.sets ++ n ∷ []) x
went_kept b n x h = record {
  front = h.front;
  by = h.by;
  behind = h.behind ++ n ∷ [];
  cut = ap (λ (sets : List MatchSet). sets ++ n ∷ []) h.cut ∙ append_assoc h.front (h.by ∷ h.behind) (n ∷ []);
  exit = h.exit;
}

-- ---- a match

pub match_keeps : (w : World) (s r : CallId) → eligible w.board s r ≡ true → Orderly w → Orderly (record w { board = with_set w.board (Pair s r) })
match_keeps w s r e h = record {
  named = named_more w.board (Pair s r) (pair_may_join w.board s r e) h.named;
  went_on = λ x blocking. elim (h.went_on x blocking) [
    | inl done ↦ inl (went_kept w.board (Pair s r) x done)
    | inr here ↦ inr (record { last = here.last; blocked = here.blocked })
  ];
  released = λ p q at. h.released p q at ∙ ap (λ (n : ℕ). n + held w p) (sym (releases_same w.board.sets (Pair s r) refl));
  ordered = ordered_more w (Pair s r) (pair_may_join w.board s r e) h;
  allowed_buffer = h.allowed_buffer;
}

-- ---- a wake

-- a call that is complete was issued, where pairs name issued calls alone
pub paired_named : (sets : List MatchSet) (c : CallId) → is_some (partner sets c) ≡ true → is_named sets c ≡ true
paired_named [] c e = cc
paired_named (Pair s r ∷ sets) c e =
    elim (cases_Bool (id_eq s c)) [
      | inl h ↦ ap (λ (b : Bool). (b || id_eq r c) || is_named sets c) h
      | inr h ↦ elim (cases_Bool (id_eq r c)) [
        | inl k ↦ ap (λ (b : Bool). (b || id_eq r c) || is_named sets c) h ∙ ap (λ (b : Bool). b || is_named sets c) k
        | inr k ↦
            let rest : is_some (partner sets c) ≡ true =
            sym (ap (λ (b : Bool). is_some (cond b (Some r) (cond (id_eq r c) (Some s) (partner sets c)))) h ∙ ap (λ (b : Bool). is_some (cond b (Some s) (partner sets c))) k) ∙ e in
            ap (λ (b : Bool). (b || id_eq r c) || is_named sets c) h ∙ ap (λ (b : Bool). b || is_named sets c) k ∙ paired_named sets c rest
      ]
    ]
paired_named (Woke d ∷ sets) c e =
    elim (cases_Bool (id_eq d c)) [
      | inl h ↦ ap (λ (b : Bool). b || is_named sets c) h
      | inr h ↦ ap (λ (b : Bool). b || is_named sets c) h ∙ paired_named sets c e
    ]
paired_named (set.Barrier ∷ sets) c e = paired_named sets c e

complete_known : (w : World) → Orderly w → (c : CallId) (k : Option CallKind) → kind_at w.board c ≡ k → complete_by w.board (awaited_by c k) ≡ true → is_some k ≡ true
complete_known w h c (Some k) is e = refl
complete_known w h c None is e =
    elim (or_cases (is_some (partner w.board.sets c)) (is_buffered (kind_at w.board c)) e) [
      | inl paired ↦ ap (λ (o : Option CallKind). is_some o) (sym is) ∙ h.named c (paired_named w.board.sets c paired)
      | inr buffered ↦ absurd (let never : false ≡ true = sym (ap is_buffered is) ∙ buffered in cc)
    ]

-- what is awaited by a wait for that call
awaits_done : (b : Board) (c : CallId) (i : ℕ) (k : Option CallKind) → complete_by b (awaited_by c k) ≡ true → waits_for k i ≡ true → is_done b (call_id c.rank i) ≡ true
awaits_done b c i (Some (Wait t)) e f = target t.target e f
  where
    target : (o : Option ℕ) → complete_by b (option_map (call_id c.rank) o) ≡ true → is_number o i ≡ true → is_done b (call_id c.rank i) ≡ true
    target None e f = absurd (cc)
    target (Some j) e f = ap (λ (n : ℕ). is_done b (call_id c.rank n)) (sym (eqb-true j i f)) ∙ e
awaits_done b c i k e f = absurd (cc)

awaited_done : (b : Board) (c : CallId) → complete b c ≡ true → complete_by b (awaited_by c (kind_at b c)) ≡ true
awaited_done b c e = (and_parts (not (has_own_step (kind_at b c))) _ e).1

-- a barrier has a step of its own
pub no_barrier : (k : Option CallKind) → has_own_step k ≡ false → is_barrier k ≡ false
no_barrier (Some Barrier) e = absurd (cc)
no_barrier k e = refl

wake_may_join : (w : World) → Orderly w → (c : CallId) → complete w.board c ≡ true → MayJoin w.board (Woke c)
wake_may_join w h c e = record {
  named = λ d is. ap (λ (x : CallId). is_some (kind_at w.board x)) (sym (same_id c d is)) ∙ complete_known w h c (kind_at w.board c) refl (awaited_done w.board c e);
  paired = λ p i j s r lt is named first. absurd (cc);
  done = λ p i j is awaits.
      let here : c ≡ call_id p j = cc in
      awaits_done w.board (call_id p j) i (kind_at w.board (call_id p j)) (awaited_done w.board (call_id p j) (ap (complete w.board) (sym here) ∙ e)) awaits;
}

put_elsewhere : (ranks : List RankWorld) (p q : ℕ) (o : Option RankWorld) (f : RankWorld → RankWorld) → q ≢ p → slice_get (put_at ranks p o f) q ≡ slice_get ranks q
put_elsewhere ranks p q None f ne = refl
put_elsewhere ranks p q (Some r) f ne = others_kept ranks p q (f r) ne

wake_goes_on : (w : World) (p : ℕ) (writes : List (ℕ × ℤ)) (handle : Option ℕ) (x : CallId) → IsAwaited w x → WentOn (woken_by w p writes handle).board (woken_by w p writes handle).board.sets x ⊎ IsAwaited (woken_by w p writes handle) x
wake_goes_on w p writes handle x here =
    elim (eqb_tells x.rank p) [
      | inl at ↦
          let count : length (calls_of w.board p) ≡ suc x.index = ap (λ (q : ℕ). length (calls_of w.board q)) (sym at.1) ∙ here.last in
          let index : length (calls_of w.board p) - 1 ≡ x.index = omega (arith, count) in
          inl (record {
            front = w.board.sets;
            by = Woke (last_call w.board p);
            behind = [];
            cut = refl;
            exit = both_true (eq-eqb p x.rank (sym at.1)) (eq-eqb (length (calls_of w.board p) - 1) x.index index);
          })
      | inr off ↦ inr (record {
        last = here.last;
        blocked = ap waits (put_elsewhere w.ranks p x.rank (slice_get w.ranks p) (woken_rank writes handle) off.1) ∙ here.blocked;
      })
    ]

-- a rank whose last call is no barrier is blocked on none
holds_none : (w : World) (p : ℕ) → is_barrier (kind_at w.board (last_call w.board p)) ≡ false → held w p ≡ 0
holds_none w p e = ap (λ (b : Bool). one_if (waits (slice_get w.ranks p) && b)) e ∙ none (waits (slice_get w.ranks p))
  where
    none : (b : Bool) → one_if (b && false) ≡ 0
    none true = refl
    none false = refl

-- a rank that wakes was blocked on no barrier, and is on none
wake_counts : (w : World) (p : ℕ) (writes : List (ℕ × ℤ)) (handle : Option ℕ) → waits (slice_get w.ranks p) ≡ true → is_barrier (kind_at w.board (last_call w.board p)) ≡ false → Orderly w
    → (q : ℕ) (r : RankWorld) → slice_get (woken_by w p writes handle).ranks q ≡ Some r
    → barriers (calls_of w.board q) ≡ releases (woken_by w p writes handle).board.sets + held (woken_by w p writes handle) q
wake_counts w p writes handle blocked other h q r at =
    elim (eqb_tells q p) [
      | inl same ↦ subst (λ (k : ℕ). barriers (calls_of w.board k) ≡ releases new.board.sets + held new k) (sym same.1) here
      | inr off ↦ h.released q r (sym (elsewhere off.1) ∙ at) ∙ (λ i. sym more i + cond (waits (sym (elsewhere off.1) i) && is_barrier (kind_at w.board (last_call w.board q))) 1 0)
    ]
  where
    new : World
    new = woken_by w p writes handle

    more : releases new.board.sets ≡ releases w.board.sets
    more = releases_same w.board.sets (Woke (last_call w.board p)) refl

    elsewhere : q ≢ p → slice_get new.ranks q ≡ slice_get w.ranks q
    elsewhere ne = put_elsewhere w.ranks p q (slice_get w.ranks p) (woken_rank writes handle) ne

    here : barriers (calls_of w.board p) ≡ releases new.board.sets + held new p
    here =
        let rank = waiting (slice_get w.ranks p) blocked in
        h.released p rank.0 rank.1 ∙ (λ i. sym more i + (holds_none w p other ∙ sym (holds_none new p other)) i)

-- a rank that goes on from a call that may join as its wake, whatever it writes
on_keeps : (w : World) (p : ℕ) (writes : List (ℕ × ℤ)) (handle : Option ℕ) → waits (slice_get w.ranks p) ≡ true → is_barrier (kind_at w.board (last_call w.board p)) ≡ false
    → MayJoin w.board (Woke (last_call w.board p)) → Orderly w → Orderly (woken_by w p writes handle)
on_keeps w p writes handle blocked other may h = record {
  named = named_more w.board (Woke (last_call w.board p)) may h.named;
  went_on = λ x blocking. elim (h.went_on x blocking) [
    | inl done ↦ inl (went_kept w.board (Woke (last_call w.board p)) x done)
    | inr here ↦ wake_goes_on w p writes handle x here
  ];
  released = wake_counts w p writes handle blocked other h;
  ordered = ordered_more w (Woke (last_call w.board p)) may h;
  allowed_buffer = h.allowed_buffer;
}

pub wake_keeps : (w : World) (p : ℕ) → can_wake w p ≡ true → Orderly w → Orderly (woken w p)
wake_keeps w p e h =
    let parts = and_parts (waits (slice_get w.ranks p)) _ e in
    let other = no_barrier (kind_at w.board (last_call w.board p)) (not-true _ (and_parts (not (has_own_step (kind_at w.board (last_call w.board p)))) _ parts.1).0) in
    on_keeps w p (wake_writes w.board p) (wake_clears w.board p) parts.0 other (wake_may_join w h (last_call w.board p) parts.1) h

-- ---- a wake by one of several requests

-- what has such requests is a waitany: no barrier, and a wait for no call
record HasRequests (k : Option CallKind) : Type 0 where
  known : is_some k ≡ true
  other : is_barrier k ≡ false
  waits_for_none : (i : ℕ) → waits_for k i ≡ false

has_requests : (k : Option CallKind) (i h : ℕ) → request_handle k i ≡ Some h → HasRequests k
has_requests (Some (Waitany a)) i h e = record { known = refl; other = refl; waits_for_none = λ j. refl }
has_requests k i h e = absurd (cc)

-- a call that is there and complete has a handle
some_handle : (b : Board) (p : ℕ) (r : Option RankWorld) (o : Option ℕ) → is_complete_some b (held_in p r o) ≡ true → (h : ℕ) × (o ≡ Some h)
some_handle b p r (Some h) e = (h, refl)
some_handle b p (Some r) None e = absurd (cc)
some_handle b p None None e = absurd (cc)

any_may_join : (w : World) (c : CallId) → HasRequests (kind_at w.board c) → MayJoin w.board (Woke c)
any_may_join w c has = record {
  named = λ d is. ap (λ (x : CallId). is_some (kind_at w.board x)) (sym (same_id c d is)) ∙ has.known;
  paired = λ p i j s r lt is named first. absurd (cc);
  done = λ p i j is awaits.
      let here : c ≡ call_id p j = cc in
      absurd (neither (waits_for (kind_at w.board c) i) (ap (λ (x : CallId). waits_for (kind_at w.board x) i) here ∙ awaits) (has.waits_for_none i));
}
  where
    neither : (b : Bool) → b ≡ true → b ≡ false → ⊥
    neither b e f = cc

pub wake_any_keeps : (w : World) (p i : ℕ) → can_wake_any w p i ≡ true → Orderly w → Orderly (woken_any w p i)
wake_any_keeps w p i e h =
    let parts = and_parts (waits (slice_get w.ranks p)) _ e in
    let found = some_handle w.board p (slice_get w.ranks p) (any_handle w p i) parts.1 in
    let has : HasRequests (kind_at w.board (last_call w.board p)) = has_requests (kind_at w.board (last_call w.board p)) i found.0 found.1 in
    on_keeps w p (any_writes w p i) (any_handle w p i) parts.0 has.other (any_may_join w (last_call w.board p) has) h
