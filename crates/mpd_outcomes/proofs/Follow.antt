-- The same step leads from worlds that are alike to worlds that are alike; so their walks are the same.
use Rattle.mpd_laws.proofs.ordered.Eligible.{clash}
use Rattle.std.proofs.Common.{◌≡◌, ◌⊎◌, ℕ, ℤ, zero, suc, ◌<◌, Bool, true, Option, Some, None, is_some, List, [], ◌∷◌, ◌++◌, length, slice_get, slice_set, inl, inr, refl, sym, ap, subst, ◌∙◌, arith, ◌≢◌, pos, ◌&&◌, ◌||◌, not, map, false, option_and_then}
use Rattle.std.specs.Prelude.{slice_index_or}
use Rattle.std.proofs.lemmas.Option.{slice_get_within}
use Rattle.std.proofs.lemmas.Bool.{and_parts}
use Rattle.std.specs.Option.{option_map}
use Rattle.mpd_laws.proofs.ordered.Splits.{mapped_from}
use Rattle.mpd_laws.proofs.ordered.CallsInOrder.{chosen, joined_from}
use Rattle.mpd_laws.proofs.ordered.Orderly.{waiting}
use Rattle.mpd_laws.proofs.ordered.LocalActivity.{local_blocks, call_blocks}
use Rattle.mpd_model.specs.declared.step.CallId.{CallId}
use Rattle.mpd_model.specs.declared.step.Step.{Step}
use Rattle.mpd_model.specs.declared.step.Step.TheVariants.{Local, Match, Wake, WakeAny, Release}
use Rattle.mpd_meaning.proofs.listed.Members.{In}
use Rattle.std.proofs.lemmas.Bool.Decides.{eqb_tells}
use Rattle.std.proofs.lemmas.List.{set-set, set_comm}
use Rattle.mpd_model.specs.declared.call.Activity.{Activity}
use Rattle.mpd_model.specs.declared.call.Activity.TheVariants.{Running, Blocked, Trapped}
use Rattle.mpd_model.specs.script.Tree.{Tree}
use Rattle.mpd_model.specs.declared.call.RecvCall.{RecvCall}
use Rattle.mpd_model.specs.declared.call.Message.{Message}
use Rattle.mpd_model.specs.declared.call.StatusCells.{StatusCells}
use Rattle.mpd_model.specs.declared.call.Call.{Call}
use Rattle.mpd_model.specs.declared.call.CallKind.{CallKind}
use Rattle.mpd_model.specs.declared.call.CallKind.TheVariants.{Send, Recv, Wait, Waitany, Barrier}
use Rattle.mpd_model.specs.steps.World.{World, RankWorld, call_id, calls_of, kind_of, kind_at, is_message_kind, awaited_by, last_call, eligible, partner, receives, message_of, buffer, is_buffered, has_own_step, complete_by, complete}
use Rattle.mpd_model.specs.steps.Next.{Ran, local, local_at, stepped, buffered_by, has_buffer, requested, waits, can_wake, writes_by, index_writes, held_in, woken_rank, wake_writes, wake_clears, woken, woken_by, any_handle, any_call, any_writes, can_wake_any, woken_any, can_release, released, next, write_cells, status_writes, writes_of, own_writes, is_complete_some, request_handle, is_blocked}
use Rattle.mpd_outcomes.specs.Future.{quieted, live_vars, overwritten, blanked, status_list}
use Rattle.mpd_meaning.proofs.moving.Moves.{joining, moved, paired, stepped_is, woken_is}
use Rattle.mpd_outcomes.proofs.Alike.{IsHeld, Alike, Tidy, is_send}
use Rattle.mpd_outcomes.proofs.Quiet.{quiet}
use Rattle.mpd_outcomes.proofs.Issued.{WaitsForHeld, local_left}
use Rattle.mpd_outcomes.proofs.Asked.{buffer_alike, local_alike, wake_writes_alike, wake_clears_alike, writes_by_alike, kind_told, last_seen, waits_alike}
use Rattle.mpd_outcomes.proofs.Comes.{is_held, any_call_alike, handle_alike}
use Rattle.mpd_outcomes.proofs.Stepping.{IsNew, Fits, moved_tidy, moved_alike, quieted_new}
use Rattle.mpd_outcomes.proofs.Paired.{paired_tidy, paired_alike, released_tidy, released_alike}

present : {A : Type 0} (xs : List A) (p : ℕ) → p < length xs → (x : A) × (slice_get xs p ≡ Some x)
present [] p lt = absurd (omega (arith, lt))
present (x ∷ xs) zero lt = (x, refl)
present (x ∷ xs) (suc p) lt = present xs p (omega (arith, lt))

calls_there : (w : World) → Tidy w → (p : ℕ) (r : RankWorld) → slice_get w.ranks p ≡ Some r → (calls : List Call) × (slice_get w.board.calls p ≡ Some calls)
calls_there w tidy p r here = let lt = slice_get_within w.ranks p r here in let e = tidy.sized in present w.board.calls p (omega (arith, lt, e))

-- ---- a local step fits

message_entered : (room : Bool) (k : CallKind) → is_message_kind (Some k) ≡ true → is_message_kind (Some (buffered_by room k)) ≡ true
message_entered room (Send s) e = refl
message_entered room k e = e

entered_target : (hs : List (Option ℕ)) (p count i : ℕ) (room : Bool) (k : CallKind) → WaitsForHeld hs k → awaited_by (call_id p count) (Some (buffered_by room k)) ≡ Some (call_id p i)
    → ((h : ℕ) × (slice_index_or hs h None ≡ Some i)) ⊎ (i ≡ count)
entered_target hs p count i room (Wait t) holds e =
    let m = mapped_from (call_id p) t.target (call_id p i) e in
    inl (t.handle, holds i (m.1 ∙ ap (λ (c : CallId). Some c.index) m.2))
entered_target hs p count i room (Waitany a) holds e = absurd (cc)
entered_target hs p count i room (Send s) holds e = let is : call_id p count ≡ call_id p i = cc in inr (ap (λ (c : CallId). c.index) (sym is))
entered_target hs p count i room (Recv r) holds e = let is : call_id p count ≡ call_id p i = cc in inr (ap (λ (c : CallId). c.index) (sym is))
entered_target hs p count i room Barrier holds e = let is : call_id p count ≡ call_id p i = cc in inr (ap (λ (c : CallId). c.index) (sym is))

module _ (w : World) (tidy : Tidy w) (p : ℕ) (r : RankWorld) (here : slice_get w.ranks p ≡ Some r) where
  holds : (h i : ℕ) → slice_index_or r.handles h None ≡ Some i → IsHeld w (call_id p i)
  holds h i e = (h, ap (λ (x : Option RankWorld). held_in p x (Some h)) here ∙ ap (option_map (call_id p)) e)

  some_joins : (o : Option Call) (c : Call) → o ≡ Some c → is_some (joining w.board p o) ≡ true
  some_joins None c e = absurd (cc)
  some_joins (Some d) c e = refl

  message_joins : (o : Option Call) (c : Call) → o ≡ Some c → is_message_kind (Some c.kind) ≡ true → is_message_kind (kind_of (joining w.board p o)) ≡ true
  message_joins None c e message = absurd (cc)
  message_joins (Some d) c e message =
      let is : d ≡ c = cc in message_entered (has_buffer w.board p) d.kind (ap (λ (z : Call). is_message_kind (Some z.kind)) is ∙ message)

  blocks_joins : (o : Option Call) → call_blocks o ≡ true → is_some (joining w.board p o) ≡ true
  blocks_joins None e = absurd (cc)
  blocks_joins (Some c) e = refl

  target_held : (o : Option Call) → ((c : Call) → o ≡ Some c → WaitsForHeld r.handles c.kind) → is_some (joining w.board p o) ≡ true → (i : ℕ)
      → awaited_by (call_id p (length (calls_of w.board p))) (kind_of (joining w.board p o)) ≡ Some (call_id p i) → IsHeld w (call_id p i) ⊎ IsNew w p (joining w.board p o) (call_id p i)
  target_held None all some i e = absurd (cc)
  target_held (Some c) all some i e =
      elim (entered_target r.handles p (length (calls_of w.board p)) i (has_buffer w.board p) c.kind (all c refl) e) [
        | inl k ↦ inl (holds k.0 i k.1)
        | inr k ↦ inr (refl, refl, k)
      ]

  local_fits : (done : Ran) → local p (length w.ranks) (length (calls_of w.board p)) r ≡ Some done → Fits w p done.rank (joining w.board p done.call)
  local_fits done e =
      let left = local_left p (length w.ranks) (length (calls_of w.board p)) r done e in
      let calls = calls_there w tidy p r here in
      record {
        old = r;
        here = here;
        calls = calls.0;
        listed = calls.1;
        handles = λ h i is.
            elim (left.handles h i is) [
              | inl was ↦ inl (holds h i was)
              | inr new ↦ inr ((some_joins done.call new.1.0 new.1.1, refl, new.0), message_joins done.call new.1.0 new.1.1 new.1.2)
            ];
        issued = λ b. blocks_joins done.call (sym (local_blocks p (length w.ranks) (length (calls_of w.board p)) r done e).0 ∙ b);
        target = target_held done.call left.waits;
      }

  -- ---- and so does a wake

  unset_index : (hs : List (Option ℕ)) (a h i : ℕ) → slice_index_or (slice_set hs a None) h None ≡ Some i → slice_index_or hs h None ≡ Some i
  unset_index [] a h i e = e
  unset_index (y ∷ hs) zero zero i e = absurd (cc)
  unset_index (y ∷ hs) zero (suc h) i e = e
  unset_index (y ∷ hs) (suc a) zero i e = e
  unset_index (y ∷ hs) (suc a) (suc h) i e = unset_index hs a h i e

  cleared_index : (handle : Option ℕ) (hs : List (Option ℕ)) (h i : ℕ) → slice_index_or (requested handle None hs) h None ≡ Some i → slice_index_or hs h None ≡ Some i
  cleared_index None hs h i e = e
  cleared_index (Some a) hs h i e = unset_index hs a h i e

  wake_fits : (writes : List (ℕ × ℤ)) (handle : Option ℕ) → Fits w p (woken_rank writes handle r) None
  wake_fits writes handle =
      let calls = calls_there w tidy p r here in
      record {
        old = r;
        here = here;
        calls = calls.0;
        listed = calls.1;
        handles = λ h i is. inl (holds h i (cleared_index handle r.handles h i is));
        issued = λ b. absurd (cc);
        target = λ some i e. absurd (cc);
      }

-- ---- what is written over needn't be known

abbrev written : List (ℕ × ℤ) → List ℕ
written writes = map (λ (x : ℕ × ℤ). x.0) writes

written_over : (ws : List (ℕ × ℤ)) (vars : List ℤ) (c : ℕ) (z : ℤ) → In (written ws) c → write_cells ws (slice_set vars c z) ≡ write_cells ws vars
written_over [] vars c z h = absurd h
written_over (x ∷ ws) vars c z h =
    elim (eqb_tells c x.0) [
      | inl at ↦ ap (write_cells ws) (ap (λ (k : ℕ). slice_set (slice_set vars k z) x.0 x.1) at.1 ∙ set-set vars x.0 z x.1)
      | inr off ↦ ap (write_cells ws) (set_comm vars c x.0 z x.1 off.1) ∙ written_over ws (slice_set vars x.0 x.1) c z (later h off.1)
    ]
  where
    later : In (written (x ∷ ws)) c → c ≢ x.0 → In (written ws) c
    later (inl e) ne = absurd (ne (sym e))
    later (inr k) ne = k

all_over : (ws : List (ℕ × ℤ)) (cells : List ℕ) (vars : List ℤ) → ((c : ℕ) → In cells c → In (written ws) c) → write_cells ws (blanked cells vars) ≡ write_cells ws vars
all_over ws [] vars h = refl
all_over ws (c ∷ cells) vars h = all_over ws cells (slice_set vars c (pos 0)) (λ d k. h d (inr k)) ∙ written_over ws vars c (pos 0) (h c (inl refl))

-- A rank that goes on needn't know what it writes over.
abbrev Absorbs : List (ℕ × ℤ) → List ℕ → Type 0
Absorbs ws cells = (vars : List ℤ) → write_cells ws (blanked cells vars) ≡ write_cells ws vars

absorbs_none : (ws : List (ℕ × ℤ)) (cells : List ℕ) → cells ≡ [] → Absorbs ws cells
absorbs_none ws cells e vars = ap (λ (l : List ℕ). write_cells ws (blanked l vars)) e

absorbs_written : (ws : List (ℕ × ℤ)) (cells : List ℕ) → written ws ≡ cells → Absorbs ws cells
absorbs_written ws cells e vars = all_over ws cells vars (λ c h. subst (λ (l : List ℕ). In l c) (sym e) h)

received : (r : RecvCall) (m : Message) (status : Option StatusCells) → written (((r.cell, m.value) ∷ status_writes status m) ++ []) ≡ r.cell ∷ status_list status
received r m None = refl
received r m (Some c) = refl

message_there : (d : CallId) (k : Option CallKind) → is_send k ≡ true → (m : Message) × (message_of d k ≡ Some m)
message_there d (Some (Send s)) e = (record { value = s.value; source = d.rank; tag = s.tag }, refl)
message_there d k e = absurd (cc)

wake_absorbs : (w : World) → Tidy w → (p : ℕ) → can_wake w p ≡ true → Absorbs (wake_writes w.board p) (overwritten (kind_at w.board (last_call w.board p)))
wake_absorbs w tidy p can = by_kind (kind_at w.board (last_call w.board p)) refl
  where
    complete_is : complete w.board (last_call w.board p) ≡ true
    complete_is = (and_parts (waits (slice_get w.ranks p)) _ can).1

    paired_by : (r : RecvCall) → kind_at w.board (last_call w.board p) ≡ Some (Recv r) → is_some (partner w.board.sets (last_call w.board p)) ≡ true
    paired_by r e =
        let done : complete_by w.board (awaited_by (last_call w.board p) (Some (Recv r))) ≡ true =
        (and_parts (not (has_own_step (Some (Recv r)))) _ (sym (ap (λ (k : Option CallKind). not (has_own_step k) && complete_by w.board (awaited_by (last_call w.board p) k)) e) ∙ complete_is)).1
        in or_left (is_some (partner w.board.sets (last_call w.board p))) (sym (ap (λ (k : Option CallKind). is_some (partner w.board.sets (last_call w.board p)) || is_buffered k) e) ∙ done)
      where
        or_left : (a : Bool) → (a || false) ≡ true → a ≡ true
        or_left true f = refl
        or_left false f = f

    by_partner : (r : RecvCall) → kind_at w.board (last_call w.board p) ≡ Some (Recv r) → (o : Option CallId) → partner w.board.sets (last_call w.board p) ≡ o → is_some o ≡ true
        → Absorbs (wake_writes w.board p) (overwritten (kind_at w.board (last_call w.board p)))
    by_partner r e None at f = absurd (cc)
    by_partner r e (Some d) at f =
        let m = message_there d (kind_at w.board d) (tidy.typed (last_call w.board p) d at (ap receives e)) in
        let writes : wake_writes w.board p ≡ ((r.cell, m.0.value) ∷ status_writes r.status m.0) ++ [] =
        ap (λ (k : Option CallKind). writes_by w.board (awaited_by (last_call w.board p) k) ++ own_writes k) e
        ∙ ap (λ (k : Option CallKind). writes_of k (buffer w.board (last_call w.board p)) ++ []) e
        ∙ ap (λ (o : Option CallId). writes_of (Some (Recv r)) (option_and_then (λ (c : CallId). message_of c (kind_at w.board c)) o) ++ []) at
        ∙ ap (λ (o : Option Message). writes_of (Some (Recv r)) o ++ []) m.1
        in
        absorbs_written (wake_writes w.board p) (overwritten (kind_at w.board (last_call w.board p))) (ap written writes ∙ received r m.0 r.status ∙ ap overwritten (sym e))

    by_kind : (k : Option CallKind) → kind_at w.board (last_call w.board p) ≡ k → Absorbs (wake_writes w.board p) (overwritten (kind_at w.board (last_call w.board p)))
    by_kind (Some (Recv r)) e = by_partner r e (partner w.board.sets (last_call w.board p)) refl (paired_by r e)
    by_kind (Some (Send s)) e = absorbs_none (wake_writes w.board p) _ (ap overwritten e)
    by_kind (Some (Wait t)) e = absorbs_none (wake_writes w.board p) _ (ap overwritten e)
    by_kind (Some (Waitany a)) e = absorbs_none (wake_writes w.board p) _ (ap overwritten e)
    by_kind (Some Barrier) e = absorbs_none (wake_writes w.board p) _ (ap overwritten e)
    by_kind None e = absorbs_none (wake_writes w.board p) _ (ap overwritten e)

any_absorbs : (w : World) (p i : ℕ) → can_wake_any w p i ≡ true → Absorbs (any_writes w p i) (overwritten (kind_at w.board (last_call w.board p)))
any_absorbs w p i can = absorbs_none (any_writes w p i) _ (by_kind (kind_at w.board (last_call w.board p)) refl)
  where
    asked : is_complete_some w.board (any_call w p i) ≡ true
    asked = (and_parts (waits (slice_get w.ranks p)) _ can).1

    nothing_held : (r : Option RankWorld) → held_in p r None ≡ None
    nothing_held None = refl
    nothing_held (Some r) = refl

    no_request : (k : Option CallKind) → kind_at w.board (last_call w.board p) ≡ k → request_handle k i ≡ None → ⊥
    no_request k e none =
        let held : any_call w p i ≡ None = ap (λ (z : Option CallKind). held_in p (slice_get w.ranks p) (request_handle z i)) e ∙ ap (held_in p (slice_get w.ranks p)) none ∙ nothing_held (slice_get w.ranks p) in
        clash asked (ap (is_complete_some w.board) held)

    by_kind : (k : Option CallKind) → kind_at w.board (last_call w.board p) ≡ k → overwritten (kind_at w.board (last_call w.board p)) ≡ []
    by_kind (Some (Recv r)) e = absurd (no_request (Some (Recv r)) e refl)
    by_kind (Some (Send s)) e = ap overwritten e
    by_kind (Some (Wait t)) e = ap overwritten e
    by_kind (Some (Waitany a)) e = ap overwritten e
    by_kind (Some Barrier) e = ap overwritten e
    by_kind None e = ap overwritten e

-- what a rank goes on with, told by what it may still read
abbrev goes_on : List (ℕ × ℤ) → Option ℕ → RankWorld → RankWorld
goes_on writes handle z = record { rest = z.rest; vars = live_vars [] Running z.rest (write_cells writes z.vars); handles = requested handle None z.handles; out = []; activity = Running }

live_on : (writes : List (ℕ × ℤ)) (cells : List ℕ) (a : Activity) (rest : List (ℕ × Tree)) (vars : List ℤ) → is_blocked a ≡ true → Absorbs writes cells
    → live_vars [] Running rest (write_cells writes vars) ≡ live_vars [] Running rest (write_cells writes (live_vars cells a rest vars))
live_on writes cells Blocked [] vars e absorbs = refl
live_on writes cells Blocked (t ∷ ts) vars e absorbs = sym (absorbs vars)
live_on writes cells Running rest vars e absorbs = absurd (cc)
live_on writes cells (Trapped t) rest vars e absorbs = absurd (cc)

-- ---- each step

pub record Follows (w v w2 v2 : World) : Type 0 where
  pub alike : Alike w2 v2
  pub tidy : Tidy w2

record IsLocal (w : World) (p : ℕ) (w2 : World) : Type 0 where
  rank : RankWorld
  here : slice_get w.ranks p ≡ Some rank
  done : Ran
  at : local_at w p ≡ Some done
  from : local p (length w.ranks) (length (calls_of w.board p)) rank ≡ Some done
  is : moved w p done.rank (joining w.board p done.call) None ≡ w2

local_is : (w : World) (p : ℕ) (w2 : World) → next w (Local p) ≡ Some w2 → IsLocal w p w2
local_is w p w2 e =
    let ran = mapped_from (stepped w p) (local_at w p) w2 e in
    let rank = joined_from (local p (length w.ranks) (length (calls_of w.board p))) (slice_get w.ranks p) ran.0 ran.1 in
    record { rank = rank.0; here = rank.1; done = ran.0; at = ran.1; from = rank.2; is = sym (stepped_is w p ran.0) ∙ ran.2 }

-- a rank that goes on: it writes these cells, and loses what that handle holds
record IsWake (w : World) (p : ℕ) (writes : List (ℕ × ℤ)) (handle : Option ℕ) (w2 : World) : Type 0 where
  rank : RankWorld
  here : slice_get w.ranks p ≡ Some rank
  is : moved w p (woken_rank writes handle rank) None (Some (last_call w.board p)) ≡ w2

wake_is : (w : World) (p : ℕ) (writes : List (ℕ × ℤ)) (handle : Option ℕ) (w2 : World) → waits (slice_get w.ranks p) ≡ true → woken_by w p writes handle ≡ w2 → IsWake w p writes handle w2
wake_is w p writes handle w2 blocked e =
    let rank = waiting (slice_get w.ranks p) blocked in
    record { rank = rank.0; here = rank.1; is = sym (woken_is w p writes handle rank.0 rank.1) ∙ e }

pub stays_tidy : (w : World) (a : Step) (w2 : World) → Tidy w → next w a ≡ Some w2 → Tidy w2
stays_tidy w (Local p) w2 tidy e =
    let a = local_is w p w2 e in
    subst Tidy a.is (moved_tidy w p a.done.rank (joining w.board p a.done.call) None (local_fits w tidy p a.rank a.here a.done a.from) tidy)
stays_tidy w (Match s r) w2 tidy e = let m = chosen (eligible w.board s r) (paired w s r) w2 e in subst Tidy m.1 (paired_tidy w s r tidy m.0)
stays_tidy w (Wake p) w2 tidy e =
    let m = chosen (can_wake w p) (woken w p) w2 e in
    let a = wake_is w p (wake_writes w.board p) (wake_clears w.board p) w2 (and_parts (waits (slice_get w.ranks p)) _ m.0).0 m.1 in
    subst Tidy a.is (moved_tidy w p (woken_rank (wake_writes w.board p) (wake_clears w.board p) a.rank) None (Some (last_call w.board p)) (wake_fits w tidy p a.rank a.here (wake_writes w.board p) (wake_clears w.board p)) tidy)
stays_tidy w (WakeAny p i) w2 tidy e =
    let m = chosen (can_wake_any w p i) (woken_any w p i) w2 e in
    let a = wake_is w p (any_writes w p i) (any_handle w p i) w2 (and_parts (waits (slice_get w.ranks p)) _ m.0).0 m.1 in
    subst Tidy a.is (moved_tidy w p (woken_rank (any_writes w p i) (any_handle w p i) a.rank) None (Some (last_call w.board p)) (wake_fits w tidy p a.rank a.here (any_writes w p i) (any_handle w p i)) tidy)
stays_tidy w Release w2 tidy e = let m = chosen (can_release w) (released w) w2 e in subst Tidy m.1 (released_tidy w tidy)

module _ (w v : World) (h : Alike w v) (tidy_w : Tidy w) (tidy_v : Tidy v) where
  -- both moved worlds, of which one is told by another call that is the same
  both_moved : (p : ℕ) (r s : RankWorld) (o k : Option Call) (m n : Option CallId) (w2 v2 : World) → Fits w p r o → Fits v p s k → quieted (moved w p r o m).board p r ≡ quieted (moved v p s o n).board p s → k ≡ o
      → moved w p r o m ≡ w2 → moved v p s k n ≡ v2 → Alike w2 v2
  both_moved p r s o k m n w2 v2 f g quiet_same call_same is_w is_v =
      let g2 : Fits v p s o = subst (Fits v p s) call_same g in
      let at : moved v p s o n ≡ v2 = ap (λ (x : Option Call). moved v p s x n) (sym call_same) ∙ is_v in
      subst (λ (x : World). Alike x v2) is_w (subst (Alike (moved w p r o m)) at (moved_alike w v h p r s o m n f g2 tidy_w tidy_v quiet_same))

  joining_alike : (p : ℕ) (o k : Option Call) → o ≡ k → joining v.board p k ≡ joining w.board p o
  joining_alike p o k e = λ j. option_map (λ (c : Call). record c { kind = buffered_by (sym (buffer_alike w v h p) j) c.kind }) (sym e j)

  done_same : (p : ℕ) (x y : Ran) → local_at w p ≡ Some x → local_at v p ≡ Some y → quiet x ≡ quiet y
  done_same p x y ex ey =
      let both : Some (quiet x) ≡ Some (quiet y) = sym (ap (option_map quiet) ex) ∙ local_alike w v h p ∙ ap (option_map quiet) ey in
      cc

  rank_same : (p : ℕ) (r s : RankWorld) → slice_get w.ranks p ≡ Some r → slice_get v.ranks p ≡ Some s → quieted w.board p r ≡ quieted v.board p s
  rank_same p r s er es =
      let both : Some (quieted w.board p r) ≡ Some (quieted v.board p s) = sym (ap (option_map (quieted w.board p)) er) ∙ h.ranks p ∙ ap (option_map (quieted v.board p)) es in
      ap rank_or both
    where
      rank_or : Option RankWorld → RankWorld
      rank_or None = r
      rank_or (Some z) = z

  both_local : (p : ℕ) (w2 v2 : World) → next w (Local p) ≡ Some w2 → next v (Local p) ≡ Some v2 → Alike w2 v2
  both_local p w2 v2 e g =
      let a = local_is w p w2 e in
      let b = local_is v p v2 g in
      let same : quiet a.done ≡ quiet b.done = done_same p a.done b.done a.at b.at in
      let o : Option Call = joining w.board p a.done.call in
      let calls : joining v.board p b.done.call ≡ o = joining_alike p a.done.call b.done.call (ap (λ (x : Ran). x.call) same) in
      let f = local_fits w tidy_w p a.rank a.here a.done a.from in
      let k = local_fits v tidy_v p b.rank b.here b.done b.from in
      both_moved p a.done.rank b.done.rank o (joining v.board p b.done.call) None None w2 v2 f k
      (quieted_new w p a.done.rank o None f tidy_w
      ∙ ap (λ (x : Ran). record { rest = x.rank.rest; vars = live_vars (overwritten (kind_of o)) x.rank.activity x.rank.rest x.rank.vars; handles = x.rank.handles; out = []; activity = x.rank.activity }) same
      ∙ sym (quieted_new v p b.done.rank o None (subst (Fits v p b.done.rank) calls k) tidy_v))
      calls a.is b.is

  both_wake : (p : ℕ) (writes also : List (ℕ × ℤ)) (handle other : Option ℕ) (w2 v2 : World) → waits (slice_get w.ranks p) ≡ true → IsWake w p writes handle w2 → IsWake v p also other v2 → writes ≡ also → handle ≡ other
      → Absorbs writes (overwritten (kind_at w.board (last_call w.board p))) → Absorbs also (overwritten (kind_at v.board (last_call v.board p))) → Alike w2 v2
  both_wake p writes also handle other w2 v2 blocked a b writes_same handle_same absorbs_w absorbs_v =
      let on_w : is_blocked a.rank.activity ≡ true = sym (ap waits a.here) ∙ blocked in
      let on_v : is_blocked b.rank.activity ≡ true = sym (ap waits b.here) ∙ sym (waits_alike w v h p) ∙ blocked in
      let f = wake_fits w tidy_w p a.rank a.here writes handle in
      let g = wake_fits v tidy_v p b.rank b.here also other in
      both_moved p (woken_rank writes handle a.rank) (woken_rank also other b.rank) None None (Some (last_call w.board p)) (Some (last_call v.board p)) w2 v2 f g
      (quieted_new w p (woken_rank writes handle a.rank) None (Some (last_call w.board p)) f tidy_w
      ∙ (λ j. record { rest = a.rank.rest; vars = live_on writes (overwritten (kind_at w.board (last_call w.board p))) a.rank.activity a.rank.rest a.rank.vars on_w absorbs_w j; handles = requested handle None a.rank.handles; out = []; activity = Running })
      ∙ (λ j. goes_on (writes_same j) (handle_same j) (rank_same p a.rank b.rank a.here b.here j))
      ∙ sym (λ j. record { rest = b.rank.rest; vars = live_on also (overwritten (kind_at v.board (last_call v.board p))) b.rank.activity b.rank.rest b.rank.vars on_v absorbs_v j; handles = requested other None b.rank.handles; out = []; activity = Running })
      ∙ sym (quieted_new v p (woken_rank also other b.rank) None (Some (last_call v.board p)) g tidy_v))
      refl a.is b.is

  any_writes_alike : (p i : ℕ) → waits (slice_get w.ranks p) ≡ true → any_writes w p i ≡ any_writes v p i
  any_writes_alike p i e =
      (λ j. writes_by_alike w v h (any_call w p i) (λ d is. h.due d (inl (is_held w v h tidy_w tidy_v w p (any_handle w p i) d is))) j
      ++ kind_told (λ k. index_writes k i) (λ s. refl) (λ r. refl) w.board v.board (last_call w.board p) (last_call v.board p) (last_seen w v h p e) j)
      ∙ (λ j. writes_by v.board (any_call_alike w v h tidy_w tidy_v p i e j) ++ index_writes (kind_at v.board (last_call v.board p)) i)

  pub follow : (a : Step) (w2 v2 : World) → next w a ≡ Some w2 → next v a ≡ Some v2 → Alike w2 v2
  follow (Local p) w2 v2 e g = both_local p w2 v2 e g
  follow (Match s r) w2 v2 e g =
      let m = chosen (eligible w.board s r) (paired w s r) w2 e in
      let n = chosen (eligible v.board s r) (paired v s r) v2 g in
      subst (λ (x : World). Alike x v2) m.1 (subst (Alike (paired w s r)) n.1 (paired_alike w v h s r m.0))
  follow (Wake p) w2 v2 e g =
      let m = chosen (can_wake w p) (woken w p) w2 e in
      let n = chosen (can_wake v p) (woken v p) v2 g in
      let blocked = (and_parts (waits (slice_get w.ranks p)) _ m.0).0 in
      both_wake p (wake_writes w.board p) (wake_writes v.board p) (wake_clears w.board p) (wake_clears v.board p) w2 v2 blocked
      (wake_is w p (wake_writes w.board p) (wake_clears w.board p) w2 blocked m.1)
      (wake_is v p (wake_writes v.board p) (wake_clears v.board p) v2 (and_parts (waits (slice_get v.ranks p)) _ n.0).0 n.1)
      (wake_writes_alike w v h p blocked) (wake_clears_alike w v h p blocked) (wake_absorbs w tidy_w p m.0) (wake_absorbs v tidy_v p n.0)
  follow (WakeAny p i) w2 v2 e g =
      let m = chosen (can_wake_any w p i) (woken_any w p i) w2 e in
      let n = chosen (can_wake_any v p i) (woken_any v p i) v2 g in
      let blocked = (and_parts (waits (slice_get w.ranks p)) _ m.0).0 in
      both_wake p (any_writes w p i) (any_writes v p i) (any_handle w p i) (any_handle v p i) w2 v2 blocked
      (wake_is w p (any_writes w p i) (any_handle w p i) w2 blocked m.1)
      (wake_is v p (any_writes v p i) (any_handle v p i) v2 (and_parts (waits (slice_get v.ranks p)) _ n.0).0 n.1)
      (any_writes_alike p i blocked) (handle_alike w v h tidy_w tidy_v i p blocked) (any_absorbs w p i m.0) (any_absorbs v p i n.0)
  follow Release w2 v2 e g =
      let m = chosen (can_release w) (released w) w2 e in
      let n = chosen (can_release v) (released v) v2 g in
      subst (λ (x : World). Alike x v2) m.1 (subst (Alike (released w)) n.1 (released_alike w v h m.0 n.0))
