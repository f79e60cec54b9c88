-- In every world that steps lead to, each rank holds as many slots as the mode allows.
use Rattle.std.proofs.Common.{◌≡◌, ℕ, ◌+◌, ◌≤◌, Bool, true, false, cond, ◌&&◌, not, nat_lt, Option, Some, None, is_some, is_none, List, [], ◌∷◌, length, slice_get, inl, inr, refl, sym, ap, subst, ◌∙◌, arith}
use Rattle.std.proofs.lemmas.Bool.{ltb-true}
use Rattle.std.proofs.lemmas.Bool.Decides.{eqb_tells}
use Rattle.std.proofs.lemmas.Option.{slice_get_within, slice_get_past}
use Rattle.std.specs.List.{filter}
use Rattle.mpd_model.specs.declared.step.CallId.{CallId}
use Rattle.mpd_model.specs.declared.step.Step.{Step}
use Rattle.mpd_model.specs.declared.step.Step.TheVariants.{Local, Match, Wake, WakeAny, Release}
use Rattle.mpd_model.specs.declared.call.Call.{Call}
use Rattle.mpd_model.specs.declared.call.CallKind.{CallKind}
use Rattle.mpd_model.specs.declared.call.CallKind.TheVariants.{Send}
use Rattle.mpd_model.specs.declared.call.MatchSet.TheVariants.{Pair}
use Rattle.mpd_model.specs.declared.call.Mode.{Mode}
use Rattle.mpd_model.specs.declared.call.Mode.TheVariants.{Rendezvous, Buffered, Slots}
use Rattle.mpd_model.specs.script.Program.{Program}
use Rattle.mpd_model.specs.steps.World.{World, Board, start, call_id, calls_of, call_numbers, kind_of, kind_at, partner, is_buffered, eligible, holds_slot, slots_used, last_call}
use Rattle.mpd_model.specs.steps.Next.{Ran, local_at, stepped, can_wake, woken, can_wake_any, woken_any, can_release, released, with_call, with_set, buffers_one, has_buffer, buffered_by, entered, next, fold}
use Rattle.mpd_laws.proofs.ordered.CallsInOrder.{no_calls, start_orderly, chosen, joined_from, next_orderly, orderly}
use Rattle.mpd_laws.proofs.ordered.Orderly.{Orderly, HasAllowedBuffer}
use Rattle.mpd_laws.proofs.ordered.OrderSteps.{paired_named}
use Rattle.mpd_laws.proofs.ordered.Releases.{one_if}
use Rattle.mpd_laws.proofs.buffered.Slots.{slots_of, at_rank, count_same, slots_within, slots_with_call, slots_without_rank, slots_with_match, slots_with_woke, slots_with_release}
use Rattle.mpd_laws.proofs.ordered.Splits.{mapped_from}

-- ---- what a mode allows to be held

abbrev Allows : Mode → ℕ → Type 0
Allows Rendezvous n = n ≡ 0
Allows Buffered n = Unit {0}
Allows (Slots count) n = n ≤ count

fewer : (mode : Mode) (m n : ℕ) → m ≤ n → Allows mode n → Allows mode m
fewer Rendezvous m n le h = omega (arith, le, h)
fewer Buffered m n le h = tt
fewer (Slots count) m n le h = omega (arith, le, h)

-- a call more, as it joins the board
one_more : (mode : Mode) (n : ℕ) (k : CallKind) → Allows mode n → Allows mode (n + slots_of (Some (buffered_by (buffers_one mode n) k)))
one_more Rendezvous n (Send s) h = let none : slots_of (Some (buffered_by false (Send s))) ≡ 0 = refl in omega (arith, none, h)
one_more Buffered n (Send s) h = tt
one_more (Slots count) n (Send s) h = by_test (nat_lt n count) refl (not s.synchronous)
  where
    by_test : (x : Bool) → nat_lt n count ≡ x → (standard : Bool) → n + one_if (x && standard) ≤ count
    by_test true e true = let lt = ltb-true n count e in omega (arith, lt)
    by_test true e false = omega (arith, h)
    by_test false e standard = omega (arith, h)
one_more mode n k h = fewer mode (n + 0) n (omega arith) h

-- ---- a world of that mode, in which each rank holds what it allows

record HoldsWithin (mode : Mode) (w : World) : Type 0 where
  mode_kept : w.board.mode ≡ mode
  within : (p : ℕ) → Allows mode (slots_used w.board p)

-- the place of the next call is named by no pair
next_is_free : (w : World) → Orderly w → (p : ℕ) → partner w.board.sets (call_id p (length (calls_of w.board p))) ≡ None
next_is_free w h p = by_partner (partner w.board.sets new) refl
  where
    new : CallId
    new = call_id p (length (calls_of w.board p))

    unknown : kind_at w.board new ≡ None
    unknown = ap kind_of (slice_get_past (calls_of w.board p) (length (calls_of w.board p)) (omega arith))

    by_partner : (o : Option CallId) → partner w.board.sets new ≡ o → o ≡ None
    by_partner None e = refl
    by_partner (Some c) e =
        let known = h.named new (paired_named w.board.sets new (ap (λ (o : Option CallId). is_some o) e)) in
        let none : is_some (kind_at w.board new) ≡ false = ap (λ (k : Option CallKind). is_some k) unknown in
        absurd (let clash : true ≡ false = sym known ∙ none in cc)

-- what a rank holds that issues a call, and what another does
joined_within : (mode : Mode) (b : Board) (p q n : ℕ) (k : CallKind) → b.mode ≡ mode → ((r : ℕ) → Allows mode (slots_used b r))
    → n ≡ slots_used b q + at_rank p (slots_of (Some (buffered_by (has_buffer b p) k))) q → Allows mode n
joined_within mode b p q n k is within e =
    elim (eqb_tells q p) [
      | inl same ↦
          subst (Allows mode)
          (sym
          (e ∙ ap (λ (x : Bool). slots_used b q + cond x (slots_of (Some (buffered_by (has_buffer b p) k))) 0) same.0
          ∙ (λ i. slots_used b (same.1 i) + slots_of (Some (buffered_by (buffers_one (is i) (slots_used b p)) k)))))
          (one_more mode (slots_used b p) k (within p))
      | inr off ↦
          let none = ap (λ (x : Bool). slots_used b q + cond x (slots_of (Some (buffered_by (has_buffer b p) k))) 0) off.0 in
          fewer mode n (slots_used b q) (omega (arith, e, none)) (within q)
    ]

issued_within : (mode : Mode) (w : World) (p : ℕ) (c : Call) → Orderly w → HoldsWithin mode w → (q : ℕ) → Allows mode (slots_used (with_call w.board p (entered w.board p c)) q)
issued_within mode w p c h held q = by_rank (slice_get w.board.calls p) refl
  where
    new : Call
    new = entered w.board p c

    by_rank : (o : Option (List Call)) → slice_get w.board.calls p ≡ o → Allows mode (slots_used (with_call w.board p new) q)
    by_rank None e = subst (Allows mode) (sym (slots_without_rank w.board p new q e)) (held.within q)
    by_rank (Some calls) e =
        joined_within mode w.board p q (slots_used (with_call w.board p new) q) c.kind held.mode_kept held.within
        (slots_with_call w.board p new q (slice_get_within w.board.calls p calls e) (next_is_free w h p))

-- ---- a step

local_within : (mode : Mode) (w : World) (p : ℕ) (done : Ran) → Orderly w → HoldsWithin mode w → HoldsWithin mode (stepped w p done)
local_within mode w p done h held = by_call done.call
  where
    by_call : (call : Option Call) → HoldsWithin mode (stepped w p (record { rank = done.rank; call = call }))
    by_call None = record { mode_kept = held.mode_kept; within = held.within }
    by_call (Some c) = record { mode_kept = held.mode_kept; within = issued_within mode w p c h held }

-- a match set joins, and no rank holds more than before
formed_within : (mode : Mode) (w v : World) → v.board.mode ≡ w.board.mode → ((q : ℕ) → slots_used v.board q ≤ slots_used w.board q) → HoldsWithin mode w → HoldsWithin mode v
formed_within mode w v same le held = record {
  mode_kept = same ∙ held.mode_kept;
  within = λ q. fewer mode (slots_used v.board q) (slots_used w.board q) (le q) (held.within q);
}

next_within : (mode : Mode) (w : World) (a : Step) (v : World) → next w a ≡ Some v → Orderly w → HoldsWithin mode w → HoldsWithin mode v
next_within mode w (Local p) v e h held =
    let ran = mapped_from (stepped w p) (local_at w p) v e in
    subst (HoldsWithin mode) ran.2 (local_within mode w p ran.0 h held)
next_within mode w (Match s r) v e h held =
    let made = chosen (eligible w.board s r) (record w { board = with_set w.board (Pair s r) }) v e in
    subst (HoldsWithin mode) made.1
    (formed_within mode w (record w { board = with_set w.board (Pair s r) }) refl (λ q. let less = slots_with_match w.board s r q made.0 in omega (arith, less)) held)
next_within mode w (Wake p) v e h held =
    let made = chosen (can_wake w p) (woken w p) v e in
    subst (HoldsWithin mode) made.1 (formed_within mode w (woken w p) refl (λ q. let same = slots_with_woke w.board (last_call w.board p) q in omega (arith, same)) held)
next_within mode w (WakeAny p i) v e h held =
    let made = chosen (can_wake_any w p i) (woken_any w p i) v e in
    subst (HoldsWithin mode) made.1 (formed_within mode w (woken_any w p i) refl (λ q. let same = slots_with_woke w.board (last_call w.board p) q in omega (arith, same)) held)
next_within mode w Release v e h held =
    let made = chosen (can_release w) (released w) v e in
    subst (HoldsWithin mode) made.1 (formed_within mode w (released w) refl (λ q. let same = slots_with_release w.board q in omega (arith, same)) held)

fold_within : (mode : Mode) (steps : List Step) (u w : World) → fold u steps ≡ Some w → Orderly u → HoldsWithin mode u → HoldsWithin mode w
fold_within mode [] u w e h held = let same : u ≡ w = cc in subst (HoldsWithin mode) same held
fold_within mode (a ∷ steps) u w e h held =
    let after = joined_from (λ v. fold v steps) (next u a) w e in
    fold_within mode steps after.0 w after.2 (next_orderly u a after.0 after.1 h) (next_within mode u a after.0 after.1 h held)

start_within : (s : Program) (mode : Mode) → HoldsWithin mode (start s mode)
start_within s mode = record { mode_kept = refl; within = λ p. none_held mode (slots_used (start s mode).board p) (none p) }
  where
    none : (p : ℕ) → slots_used (start s mode).board p ≡ 0
    none p =
        let within = slots_within (start s mode).board p in
        let no_call : length (calls_of (start s mode).board p) ≡ 0 = ap (λ (calls : List Call). length calls) (no_calls s.ranks p) in
        omega (arith, within, no_call)

    none_held : (mode : Mode) (n : ℕ) → n ≡ 0 → Allows mode n
    none_held Rendezvous n e = e
    none_held Buffered n e = tt
    none_held (Slots count) n e = omega (arith, e)

within : (s : Program) (mode : Mode) (steps : List Step) (w : World) → fold (start s mode) steps ≡ Some w → HoldsWithin mode w
within s mode steps w e = fold_within mode steps (start s mode) w e (start_orderly s mode) (start_within s mode)

-- ---- the laws

-- the mode stays
pub mode_stays : (s : Program) (mode : Mode) (steps : List Step) (w : World) → fold (start s mode) steps ≡ Some w → w.board.mode ≡ mode
mode_stays s mode steps w e = (within s mode steps w e).mode_kept

pub never_exceeded : (s : Program) (count : ℕ) (steps : List Step) (w : World) → fold (start s (Slots count)) steps ≡ Some w → (p : ℕ) → slots_used w.board p ≤ count
never_exceeded s count steps w e p = (within s (Slots count) steps w e).within p

pub none_in_rendezvous : (s : Program) (steps : List Step) (w : World) → fold (start s Rendezvous) steps ≡ Some w → (p : ℕ) → slots_used w.board p ≡ 0
none_in_rendezvous s steps w e p = (within s Rendezvous steps w e).within p

abbrev is_plain : Option CallKind → Bool
is_plain (Some (Send s)) = not s.synchronous
is_plain kind = false

-- where the mode buffers all, a call is buffered exactly where it is a standard send
allowed_standard : (k : Option CallKind) → HasAllowedBuffer Buffered k → is_buffered k ≡ is_plain k
allowed_standard (Some (Send s)) h = h
allowed_standard k h = refl

pub each_free_holds_one : (s : Program) (steps : List Step) (w : World) → fold (start s Buffered) steps ≡ Some w → (p : ℕ)
    → slots_used w.board p ≡ length (filter (λ i. is_plain (kind_at w.board (call_id p i)) && is_none (partner w.board.sets (call_id p i))) (call_numbers w.board p))
each_free_holds_one s steps w e p =
    count_same (λ i. holds_slot w.board (call_id p i)) (λ i. is_plain (kind_at w.board (call_id p i)) && is_none (partner w.board.sets (call_id p i))) 0 (length (calls_of w.board p))
    (λ i le lt. ap (λ (x : Bool). x && is_none (partner w.board.sets (call_id p i))) (allowed_buffer (call_id p i)))
  where
    allowed_buffer : (c : CallId) → is_buffered (kind_at w.board c) ≡ is_plain (kind_at w.board c)
    allowed_buffer c = allowed_standard (kind_at w.board c) (subst (λ (mode : Mode). HasAllowedBuffer mode (kind_at w.board c)) (mode_stays s Buffered steps w e) ((orderly s Buffered steps w e).allowed_buffer c))
