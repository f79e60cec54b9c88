-- A local step keeps calls in order: what it issues is named by no match set, and comes when its rank isn't blocked.
use Rattle.std.proofs.Common.{◌≡◌, ◌≢◌, ◌⊎◌, ℕ, suc, ◌+◌, ◌-◌, ◌<◌, Bool, true, false, not, ◌&&◌, ◌||◌, ◌==◌, nat_lt, Option, Some, None, is_some, List, [], ◌∷◌, ◌++◌, take, length, length-append, slice_get, slice_set, inl, inr, refl, sym, ap, subst, ◌∙◌, arith}
use Rattle.std.proofs.lemmas.Bool.{eqb-true, and_parts}
use Rattle.std.proofs.lemmas.Bool.Decides.{eqb_tells}
use Rattle.mpd_model.specs.declared.step.CallId.{CallId}
use Rattle.mpd_model.specs.declared.call.Call.{Call}
use Rattle.mpd_model.specs.declared.call.CallKind.{CallKind}
use Rattle.mpd_model.specs.declared.call.CallKind.TheVariants.{Send, Barrier}
use Rattle.mpd_model.specs.declared.call.MatchSet.{MatchSet}
use Rattle.mpd_model.specs.declared.call.Mode.{Mode}
use Rattle.mpd_model.specs.declared.call.Mode.TheVariants.{Rendezvous, Buffered, Slots}
use Rattle.mpd_model.specs.declared.call.MatchSet.TheVariants.{Pair, Woke}
use Rattle.mpd_model.specs.declared.call.MatchSet.TheVariants as set
use Rattle.mpd_model.specs.steps.World.{World, Board, RankWorld, call_id, listed_calls, calls_of, kind_of, kind_at, partner, is_buffered, is_barrier, slots_used}
use Rattle.mpd_model.specs.steps.Next.{Ran, local, blocks, stepped, with_call, with_issued, buffers_one, has_buffer, buffered_by, entered, waits, is_blocked}
use Rattle.mpd_model.specs.steps.Order.{matches_first, waits_for, blocks_rank, barriers, releases, barriers_before, is_released_by, names, is_exit, WentOn, Ordered}
use Rattle.mpd_laws.proofs.ordered.Eligible.{clash, known_within}
use Rattle.mpd_laws.proofs.ordered.LocalActivity.{BlocksOn, local_blocks}
use Rattle.mpd_laws.proofs.ordered.Orderly.{Orderly, IsAwaited, HasAllowedBuffer, may_be, mentions, id_same}
use Rattle.mpd_laws.proofs.ordered.Releases.{one_if, releases_cut, barriers_more}
use Rattle.mpd_laws.proofs.ordered.Splits.{IsSame, any_at_cut, read_written, none_written, others_kept, same_or_end, end_read}

-- ---- the board with a call more

-- the place of the new call
record IsNew (b : Board) (p : ℕ) (c : Call) (y : CallId) : Type 0 where
  rank : y.rank ≡ p
  unknown : kind_at b y ≡ None
  last : length (calls_of (with_call b p c) y.rank) ≡ suc y.index
  kind : kind_at (with_call b p c) y ≡ Some c.kind
  ahead : barriers_before (with_call b p c) y ≡ barriers (calls_of b p)

-- what is looked up of a call that stood there before
record Stays (b : Board) (p : ℕ) (c : Call) (y : CallId) : Type 0 where
  kind : kind_at (with_call b p c) y ≡ kind_at b y
  released : (n : ℕ) → is_released_by (with_call b p c) n y ≡ is_released_by b n y

abbrev IsOldOrNew : Board → ℕ → Call → CallId → Type 0
IsOldOrNew b p c y = Stays b p c y ⊎ IsNew b p c y

-- where there is no such rank, nothing joins
abbrev NoRank : Board → ℕ → Call → Type 0
NoRank b p c = (calls_of b p ≡ []) × (calls_of (with_call b p c) p ≡ [])

calls_joined : (b : Board) (p : ℕ) (c : Call) (o : Option (List Call)) → slice_get b.calls p ≡ o → NoRank b p c ⊎ (calls_of (with_call b p c) p ≡ calls_of b p ++ c ∷ [])
calls_joined b p c None e = inl (ap listed_calls e, ap listed_calls (none_written b.calls p (calls_of b p ++ c ∷ []) e))
calls_joined b p c (Some calls) e = inr (ap listed_calls (read_written b.calls p calls (calls_of b p ++ c ∷ []) e))

same_calls : (b : Board) (p : ℕ) (c : Call) (y : CallId) → calls_of (with_call b p c) y.rank ≡ calls_of b y.rank → Stays b p c y
same_calls b p c y e = record {
  kind = ap (λ (calls : List Call). kind_of (slice_get calls y.index)) e;
  released = λ n. ap (λ (calls : List Call). is_barrier (kind_of (slice_get calls y.index)) && (barriers (take y.index calls) == n)) e;
}

same_release : (calls : List Call) (c : Call) (i n : ℕ) → IsSame calls c i
    → (is_barrier (kind_of (slice_get (calls ++ c ∷ []) i)) && (barriers (take i (calls ++ c ∷ [])) == n)) ≡ (is_barrier (kind_of (slice_get calls i)) && (barriers (take i calls) == n))
same_release calls c i n same =
    ap (λ (o : Option Call). is_barrier (kind_of o) && (barriers (take i (calls ++ c ∷ [])) == n)) same.here ∙ known (slice_get calls i) same.ahead
  where
    known : (o : Option Call) → (is_some o ≡ true → take i (calls ++ c ∷ []) ≡ take i calls)
        → (is_barrier (kind_of o) && (barriers (take i (calls ++ c ∷ [])) == n)) ≡ (is_barrier (kind_of o) && (barriers (take i calls) == n))
    known None ahead = refl
    known (Some d) ahead = ap (λ (ds : List Call). is_barrier (Some d.kind) && (barriers ds == n)) (ahead refl)

kind_here : (b : Board) (p : ℕ) (c : Call) (i : ℕ) → IsOldOrNew b p c (call_id p i)
kind_here b p c i =
    elim (calls_joined b p c (slice_get b.calls p) refl) [
      | inl none ↦ inl (same_calls b p c (call_id p i) (none.1 ∙ sym none.0))
      | inr more ↦ elim (same_or_end (calls_of b p) c i) [
        | inl same ↦ inl (record {
          kind = ap (λ (calls : List Call). kind_of (slice_get calls i)) more ∙ ap kind_of same.here;
          released = λ n. ap (λ (calls : List Call). is_barrier (kind_of (slice_get calls i)) && (barriers (take i calls) == n)) more ∙ same_release (calls_of b p) c i n same;
        })
        | inr at ↦
            let place = at.place in
            inr (record {
              rank = refl;
              unknown = ap kind_of at.before;
              last = ap (λ (calls : List Call). length calls) more ∙ omega (arith, length-append (calls_of b p) (c ∷ []), place);
              kind = ap (λ (calls : List Call). kind_of (slice_get calls i)) more ∙ ap kind_of at.after;
              ahead = ap (λ (calls : List Call). barriers (take i calls)) more ∙ ap barriers at.ahead;
            })
      ]
    ]

kind_elsewhere : (b : Board) (p : ℕ) (c : Call) (y : CallId) → y.rank ≢ p → calls_of (with_call b p c) y.rank ≡ calls_of b y.rank
kind_elsewhere b p c y ne = ap listed_calls (others_kept b.calls p y.rank (calls_of b p ++ c ∷ []) ne)

old_or_new : (b : Board) (p : ℕ) (c : Call) (y : CallId) → IsOldOrNew b p c y
old_or_new b p c y =
    elim (eqb_tells y.rank p) [
      | inl at ↦ subst (λ (q : ℕ). IsOldOrNew b p c (call_id q y.index)) (sym at.1) (kind_here b p c y.index)
      | inr off ↦ inl (same_calls b p c y (kind_elsewhere b p c y off.1))
    ]

nothing_known : (o : Option CallKind) → o ≡ None → is_some o ≡ true → ⊥
nothing_known None e f = cc
nothing_known (Some k) e f = cc

-- what was issued stays
old_stays : (b : Board) (p : ℕ) (c : Call) (y : CallId) → is_some (kind_at b y) ≡ true → kind_at (with_call b p c) y ≡ kind_at b y
old_stays b p c y known =
    elim (old_or_new b p c y) [
      | inl same ↦ same.kind
      | inr new ↦ absurd (nothing_known (kind_at b y) new.unknown known)
    ]

names_stay : (b : Board) (p : ℕ) (c : Call) (y : CallId) → Stays b p c y → (front : List MatchSet) (m : MatchSet) → names (with_call b p c) front m y ≡ names b front m y
names_stay b p c y same front (Pair s r) = refl
names_stay b p c y same front (Woke d) = refl
names_stay b p c y same front set.Barrier = same.released (releases front)

exit_stays : (b : Board) (p : ℕ) (c : Call) (y : CallId) → Stays b p c y → (front : List MatchSet) (m : MatchSet) → is_exit (with_call b p c) front m y ≡ is_exit b front m y
exit_stays b p c y same front (Pair s r) = refl
exit_stays b p c y same front (Woke d) = refl
exit_stays b p c y same front set.Barrier = same.released (releases front)

went_stays : (b : Board) (p : ℕ) (c : Call) (sets : List MatchSet) (x : CallId) → Stays b p c x → WentOn b sets x → WentOn (with_call b p c) sets x
went_stays b p c sets x same h = record { front = h.front; by = h.by; behind = h.behind; cut = h.cut; exit = exit_stays b p c x same h.front h.by ∙ h.exit }

-- ---- order

-- nothing is said of a call that no match set names
unnamed_ordered : (b : Board) (x y : CallId) → ((m : MatchSet) (front behind : List MatchSet) → b.sets ≡ front ++ (m ∷ behind) → names b front m y ≡ true → ⊥) → Ordered b x y
unnamed_ordered b x y never = record {
  matched = λ first front behind s r e named. absurd (never (Pair s r) front behind e named);
  waited = λ awaits front behind e. absurd (never (Woke y) front behind e (id_same y));
  went_on = λ blocking front behind m e named. absurd (never m front behind e named);
}

-- calls of the same kinds are in the same order
same_ordered : (b : Board) (p : ℕ) (c : Call) (x y : CallId) → Stays b p c x → Stays b p c y → Ordered b x y → Ordered (with_call b p c) x y
same_ordered b p c x y same_x same_y old = record {
  matched = λ first. old.matched (sym (λ i. matches_first (same_x.kind i) (same_y.kind i)) ∙ first);
  waited = λ awaits front behind e.
      ap (λ (k : Option CallKind). is_some (partner front x) || is_buffered k) same_x.kind ∙ old.waited (sym (ap (λ (k : Option CallKind). waits_for k x.index) same_y.kind) ∙ awaits) front behind e;
  went_on = λ blocking front behind m e named.
      went_stays b p c front x same_x (old.went_on (sym (ap blocks_rank same_x.kind) ∙ blocking) front behind m e (sym (names_stay b p c y same_y front m) ∙ named));
}

-- A call that is new is named by no match set: a barrier of its rank has as many before it as were released, or one more.
new_unnamed : (w : World) (p : ℕ) (r : RankWorld) (c : Call) (y : CallId) → slice_get w.ranks p ≡ Some r → Orderly w → IsNew w.board p c y
    → (m : MatchSet) (front behind : List MatchSet) → w.board.sets ≡ front ++ (m ∷ behind) → names (with_call w.board p c) front m y ≡ true → ⊥
new_unnamed w p r c y at h new (Pair s t) front behind e named =
    nothing_known (kind_at w.board y) new.unknown (h.named y (any_at_cut (λ n. mentions n y) w.board.sets front (Pair s t) behind e named))
new_unnamed w p r c y at h new (Woke d) front behind e named =
    nothing_known (kind_at w.board y) new.unknown (h.named y (any_at_cut (λ n. mentions n y) w.board.sets front (Woke d) behind e named))
new_unnamed w p r c y at h new set.Barrier front behind e named =
    let count = eqb-true (barriers_before (with_call w.board p c) y) (releases front) (and_parts (is_barrier (kind_at (with_call w.board p c) y)) _ named).1 in
    let ahead = new.ahead in
    let all = h.released p r at in
    let cut = releases_cut w.board.sets front set.Barrier behind e in
    absurd (omega (arith, count, ahead, all, cut))

ordered_issued : (w : World) (p : ℕ) (r : RankWorld) (c : Call) → slice_get w.ranks p ≡ Some r → Orderly w → (q i j : ℕ) → i < j → is_some (kind_at (with_call w.board p c) (call_id q j)) ≡ true
    → Ordered (with_call w.board p c) (call_id q i) (call_id q j)
ordered_issued w p r c at h q i j lt known =
    elim (old_or_new w.board p c (call_id q j)) [
      | inl same ↦ same_ordered w.board p c (call_id q i) (call_id q j) earlier same (h.ordered q i j lt (ap (λ (k : Option CallKind). is_some k) (sym same.kind) ∙ known))
      | inr new ↦ unnamed_ordered (with_call w.board p c) (call_id q i) (call_id q j) (new_unnamed w p r c (call_id q j) at h new)
    ]
  where
    -- a call before another is old
    earlier : Stays w.board p c (call_id q i)
    earlier =
        elim (old_or_new w.board p c (call_id q i)) [
          | inl same ↦ same
          | inr new ↦
              let last = new.last in
              absurd (omega (arith, last, known_within (calls_of (with_call w.board p c) q) j known))
        ]

-- ---- the step

calls_elsewhere : (b : Board) (p q : ℕ) (o : Option Call) → q ≢ p → calls_of (with_issued b p o) q ≡ calls_of b q
calls_elsewhere b p q None ne = refl
calls_elsewhere b p q (Some c) ne = kind_elsewhere b p (entered b p c) (call_id q 0) ne

-- a rank that stays blocked isn't the one that steps
still_awaited : (w : World) (p : ℕ) (r after : RankWorld) (b : Board) (x : CallId) → ((q : ℕ) → q ≢ p → calls_of b q ≡ calls_of w.board q) → slice_get w.ranks p ≡ Some r → is_blocked r.activity ≡ false → IsAwaited w x
    → IsAwaited (record { ranks = slice_set w.ranks p after; board = b }) x
still_awaited w p r after b x others at runs here =
    elim (eqb_tells x.rank p) [
      | inl same ↦ absurd (clash here.blocked (ap (λ (q : ℕ). waits (slice_get w.ranks q)) same.1 ∙ ap waits at ∙ runs))
      | inr off ↦ record {
        last = ap (λ (calls : List Call). length calls) (others x.rank off.1) ∙ here.last;
        blocked = ap waits (others_kept w.ranks p x.rank after off.1) ∙ here.blocked;
      }
    ]

-- the world behind a step, with the call as it joined
abbrev joined : World → ℕ → RankWorld → Call → World
joined w p after c = record { ranks = slice_set w.ranks p after; board = with_call w.board p c }

went_issued : (w : World) (p : ℕ) (r after : RankWorld) (c : Call) (x : CallId) → slice_get w.ranks p ≡ Some r → is_blocked r.activity ≡ false → is_blocked after.activity ≡ blocks c.kind → Orderly w
    → blocks_rank (kind_at (with_call w.board p c) x) ≡ true → WentOn (with_call w.board p c) w.board.sets x ⊎ IsAwaited (joined w p after c) x
went_issued w p r after c x at runs blocked h blocking =
    elim (old_or_new w.board p c x) [
      | inl same ↦ elim (h.went_on x (ap blocks_rank (sym same.kind) ∙ blocking)) [
        | inl done ↦ inl (went_stays w.board p c w.board.sets x same done)
        | inr here ↦ inr (still_awaited w p r after (with_call w.board p c) x (λ q ne. kind_elsewhere w.board p c (call_id q 0) ne) at runs here)
      ]
      | inr new ↦ inr (record {
        last = new.last;
        blocked = ap (λ (q : ℕ). waits (slice_get (slice_set w.ranks p after) q)) new.rank ∙ ap waits (read_written w.ranks p r after at) ∙ blocked ∙ sym (ap blocks_rank new.kind) ∙ blocking;
      })
    ]

-- ---- barriers and releases

abbrev held_by : Option RankWorld → List Call → ℕ
held_by o calls = one_if (waits o && is_barrier (kind_of (slice_get calls (length calls - 1))))

and_false : (b : Bool) → (b && false) ≡ false
and_false true = refl
and_false false = refl

-- a rank that isn't blocked is blocked on no barrier
runs_free : (o : Option RankWorld) (calls : List Call) → waits o ≡ false → held_by o calls ≡ 0
runs_free o calls e = ap (λ (b : Bool). one_if (b && is_barrier (kind_of (slice_get calls (length calls - 1))))) e

no_calls_free : (o : Option RankWorld) → held_by o [] ≡ 0
no_calls_free o = ap one_if (and_false (waits o))

-- a buffer doesn't change whether a rank waits for a call
blocks_entered : (room : Bool) (k : CallKind) → blocks (buffered_by room k) ≡ blocks k
blocks_entered room (Send s) = refl
blocks_entered room k = refl

barrier_blocks : (k : CallKind) → (blocks k && is_barrier (Some k)) ≡ is_barrier (Some k)
barrier_blocks Barrier = refl
barrier_blocks k = and_false (blocks k)

-- a rank that has just issued a call is blocked on it where that is a barrier
held_last : (after : RankWorld) (calls : List Call) (c : Call) → is_blocked after.activity ≡ blocks c.kind → held_by (Some after) (calls ++ c ∷ []) ≡ one_if (is_barrier (Some c.kind))
held_last after calls c e =
    let place : length (calls ++ c ∷ []) - 1 ≡ length calls = omega (arith, length-append calls (c ∷ [])) in
    (λ i. one_if (e i && is_barrier (kind_of (slice_get (calls ++ c ∷ []) (place i)))))
    ∙ ap (λ (o : Option Call). one_if (blocks c.kind && is_barrier (kind_of o))) (end_read calls c)
    ∙ ap one_if (barrier_blocks c.kind)

-- of the rank that steps, and of another
stepped_counts : (w : World) (p : ℕ) (r after : RankWorld) (call : Option Call) → slice_get w.ranks p ≡ Some r → is_blocked r.activity ≡ false → BlocksOn (record { rank = after; call = call }) → Orderly w
    → barriers (calls_of (with_issued w.board p call) p) ≡ releases w.board.sets + held_by (Some after) (calls_of (with_issued w.board p call) p)
stepped_counts w p r after None at runs blocked h =
    h.released p r at ∙ ap (λ (n : ℕ). releases w.board.sets + n) (runs_free (slice_get w.ranks p) (calls_of w.board p) (ap waits at ∙ runs) ∙ sym (runs_free (Some after) (calls_of w.board p) blocked))
stepped_counts w p r after (Some issued) at runs as_issued h =
    elim (calls_joined w.board p c (slice_get w.board.calls p) refl) [
      | inl none ↦
          ap barriers none.1 ∙ sym (ap barriers none.0) ∙ all
          ∙ ap (λ (n : ℕ). releases w.board.sets + n) (held_none ∙ sym (ap (held_by (Some after)) none.1 ∙ no_calls_free (Some after)))
      | inr more ↦
          let count = barriers_more (calls_of w.board p) c in
          let none = held_none in
          let same = all in
          let sum : barriers (calls_of w.board p ++ c ∷ []) ≡ releases w.board.sets + one_if (is_barrier (Some c.kind)) = omega (arith, count, none, same) in
          ap barriers more ∙ sum ∙ ap (λ (n : ℕ). releases w.board.sets + n) (sym (ap (held_by (Some after)) more ∙ held_last after (calls_of w.board p) c blocked))
    ]
  where
    all : barriers (calls_of w.board p) ≡ releases w.board.sets + held_by (slice_get w.ranks p) (calls_of w.board p)
    all = h.released p r at

    c : Call
    c = entered w.board p issued

    blocked : is_blocked after.activity ≡ blocks c.kind
    blocked = as_issued ∙ sym (blocks_entered (has_buffer w.board p) issued.kind)

    held_none : held_by (slice_get w.ranks p) (calls_of w.board p) ≡ 0
    held_none = runs_free (slice_get w.ranks p) (calls_of w.board p) (ap waits at ∙ runs)

local_counts : (w : World) (p : ℕ) (r after : RankWorld) (call : Option Call) → slice_get w.ranks p ≡ Some r → is_blocked r.activity ≡ false → BlocksOn (record { rank = after; call = call }) → Orderly w
    → (q : ℕ) (s : RankWorld) → slice_get (slice_set w.ranks p after) q ≡ Some s
    → barriers (calls_of (with_issued w.board p call) q) ≡ releases w.board.sets + held_by (slice_get (slice_set w.ranks p after) q) (calls_of (with_issued w.board p call) q)
local_counts w p r after call at runs blocked h q s is =
    elim (eqb_tells q p) [
      | inl same ↦
          subst (λ (k : ℕ). barriers (calls_of (with_issued w.board p call) k) ≡ releases w.board.sets + held_by (slice_get (slice_set w.ranks p after) k) (calls_of (with_issued w.board p call) k)) (sym same.1)
          (stepped_counts w p r after call at runs blocked h
          ∙ ap (λ (o : Option RankWorld). releases w.board.sets + held_by o (calls_of (with_issued w.board p call) p)) (sym (read_written w.ranks p r after at)))
      | inr off ↦
          let calls = calls_elsewhere w.board p q call off.1 in
          let rank = others_kept w.ranks p q after off.1 in
          ap barriers calls ∙ h.released q s (sym rank ∙ is) ∙ (λ i. releases w.board.sets + held_by (sym rank i) (sym calls i))
    ]

-- ---- whether a send is buffered

symbol_allowed : (mode : Mode) (count : ℕ) (standard : Bool) → (buffers_one mode count && standard) ≡ (may_be mode (buffers_one mode count && standard) && standard)
symbol_allowed Rendezvous count standard = refl
symbol_allowed Buffered count standard = refl
symbol_allowed (Slots room) count standard = twice (nat_lt count room) standard
  where
    twice : (x y : Bool) → (x && y) ≡ ((x && y) && y)
    twice true y = sym (same y)
      where
        same : (z : Bool) → (z && z) ≡ z
        same true = refl
        same false = refl
    twice false y = refl

entered_allowed : (b : Board) (p : ℕ) (k : CallKind) → HasAllowedBuffer b.mode (Some (buffered_by (has_buffer b p) k))
entered_allowed b p (Send s) = symbol_allowed b.mode (slots_used b p) (not s.synchronous)
entered_allowed b p k = tt

issued_allowed : (w : World) (p : ℕ) (issued : Call) (x : CallId) → Orderly w → HasAllowedBuffer w.board.mode (kind_at (with_call w.board p (entered w.board p issued)) x)
issued_allowed w p issued x h =
    elim (old_or_new w.board p (entered w.board p issued) x) [
      | inl same ↦ subst (HasAllowedBuffer w.board.mode) (sym same.kind) (h.allowed_buffer x)
      | inr new ↦ subst (HasAllowedBuffer w.board.mode) (sym new.kind) (entered_allowed w.board p issued.kind)
    ]

-- ---- the whole step

local_keeps_by : (w : World) (p : ℕ) (r after : RankWorld) (call : Option Call) → slice_get w.ranks p ≡ Some r → is_blocked r.activity ≡ false → BlocksOn (record { rank = after; call = call }) → Orderly w
    → Orderly (stepped w p (record { rank = after; call = call }))
local_keeps_by w p r after None at runs blocked h = record {
  named = h.named;
  went_on = λ x blocking. elim (h.went_on x blocking) [
    | inl done ↦ inl done
    | inr here ↦ inr (still_awaited w p r after w.board x (λ q ne. refl) at runs here)
  ];
  released = local_counts w p r after None at runs blocked h;
  ordered = h.ordered;
  allowed_buffer = h.allowed_buffer;
}
local_keeps_by w p r after (Some issued) at runs blocked h =
    let c : Call = entered w.board p issued in
    let joined_blocked : is_blocked after.activity ≡ blocks c.kind = blocked ∙ sym (blocks_entered (has_buffer w.board p) issued.kind) in
    record {
      named = λ d is. let known = h.named d is in ap (λ (k : Option CallKind). is_some k) (old_stays w.board p c d known) ∙ known;
      went_on = λ x blocking. went_issued w p r after c x at runs joined_blocked h blocking;
      released = local_counts w p r after (Some issued) at runs blocked h;
      ordered = ordered_issued w p r c at h;
      allowed_buffer = λ x. issued_allowed w p issued x h;
    }

pub local_keeps : (w : World) (p : ℕ) (r : RankWorld) (done : Ran) → slice_get w.ranks p ≡ Some r → local p (length w.ranks) (length (calls_of w.board p)) r ≡ Some done → Orderly w → Orderly (stepped w p done)
local_keeps w p r done at e h =
    let after = local_blocks p (length w.ranks) (length (calls_of w.board p)) r done e in
    local_keeps_by w p r done.rank done.call at after.1 after.0 h
