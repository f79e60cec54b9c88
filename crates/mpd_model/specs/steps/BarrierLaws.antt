-- What the definitions of barriers, releases and synchronous sends come to, whatever the world.
use Rattle.std.proofs.Common.{◌≡◌, ℕ, zero, suc, ◌+◌, ◌<◌, ◌≤◌, Bool, true, false, cond, ◌&&◌, not, nat_lt, Option, Some, None, length, slice_get, inl, inr, refl, sym, ap, subst, ◌∙◌, arith}
use Rattle.std.proofs.lemmas.Bool.Decides.{eqb_tells}
use Rattle.std.proofs.lemmas.Option.{slice_get_within, slice_get-map}
use Rattle.std.specs.List.{list_all, range_with_len}
use Rattle.std.specs.Option.{option_map}
use Rattle.mpd_model.specs.declared.call.Activity.TheVariants.{Running}
use Rattle.mpd_model.specs.declared.call.CallKind.TheVariants.{Send, Waitany}
use Rattle.mpd_model.specs.declared.call.CallKind.{CallKind}
use Rattle.mpd_model.specs.declared.call.MatchSet.TheVariants as set
use Rattle.mpd_model.specs.declared.call.Mode.{Mode}
use Rattle.mpd_model.specs.declared.call.Mode.TheVariants.{Rendezvous, Buffered, Slots}
use Rattle.mpd_model.specs.declared.call.SendCall.{SendCall}
use Rattle.mpd_model.specs.declared.step.Step.TheVariants.{Wake, Release}
use Rattle.mpd_model.specs.steps.World.{World, Board, RankWorld, kind_at, is_barrier, is_buffered, awaited, complete_by, has_own_step, complete, slots_used, last_call}
use Rattle.mpd_model.specs.steps.Next.{is_blocked, waits, is_at_barrier, can_release, woken, going_on, released, with_set, next, buffers_one, has_buffer, entered}

-- ---- who isn't at a barrier keeps all ranks at theirs

and_false : (a b : Bool) → b ≡ false → (a && b) ≡ false
and_false true b e = e
and_false false b e = refl

false_and : (a b : Bool) → a ≡ false → (a && b) ≡ false
false_and a b e = ap (λ (c : Bool). c && b) e

fails_for : (t : ℕ → Bool) (a n p : ℕ) → t p ≡ false → a ≤ p → p < a + n → list_all t (range_with_len a n) ≡ false
fails_for t a zero p e le lt = absurd (omega arith)
fails_for t a (suc n) p e le lt =
    elim (eqb_tells p a) [
      | inl k ↦ false_and (t a) (list_all t (range_with_len (a + 1) n)) (sym (ap t k.1) ∙ e)
      | inr k ↦
          let ne = k.1 in
          and_false (t a) (list_all t (range_with_len (a + 1) n)) (fails_for t (a + 1) n p e (omega (arith, ne)) (omega arith))
    ]

nothing_released : (w : World) → can_release w ≡ false → next w Release ≡ None
nothing_released w e = ap (λ (b : Bool). cond b (Some (released w)) None) e

kept : (w : World) (p : ℕ) (r : RankWorld) → slice_get w.ranks p ≡ Some r → is_at_barrier w p ≡ false → next w Release ≡ None
kept w p r at e =
    let within = slice_get_within w.ranks p r at in
    nothing_released w (and_false (nat_lt 0 (length w.ranks)) _ (fails_for (is_at_barrier w) 0 (length w.ranks) p e (omega arith) (omega (arith, within))))

-- a rank that runs, has ended or is trapped
pub not_without_a_rank : (w : World) (p : ℕ) (r : RankWorld) → slice_get w.ranks p ≡ Some r → is_blocked r.activity ≡ false → next w Release ≡ None
not_without_a_rank w p r at e = kept w p r at (false_and (waits (slice_get w.ranks p)) _ (ap waits at ∙ e))

-- a rank that is blocked on another call
pub not_past_another_call : (w : World) (p : ℕ) (r : RankWorld) → slice_get w.ranks p ≡ Some r → is_barrier (kind_at w.board (last_call w.board p)) ≡ false → next w Release ≡ None
not_past_another_call w p r at e = kept w p r at (and_false (waits (slice_get w.ranks p)) _ e)

-- ---- a release lets each rank run, and changes nothing else of it; it is one match set

chosen : {A : Type 0} (b : Bool) (x y : A) → cond b (Some x) None ≡ Some y → x ≡ y
chosen true x y e = cc
chosen false x y e = absurd (cc)

pub all_go_on : (w v : World) (p : ℕ) (r : RankWorld) → next w Release ≡ Some v → slice_get w.ranks p ≡ Some r → slice_get v.ranks p ≡ Some (record r { activity = Running })
all_go_on w v p r e at =
    subst (λ (u : World). slice_get u.ranks p ≡ Some (record r { activity = Running })) (chosen (can_release w) (released w) v e)
    (slice_get-map going_on w.ranks p ∙ ap (option_map going_on) at)

pub one_set_more : (w v : World) → next w Release ≡ Some v → v.board ≡ with_set w.board set.Barrier
one_set_more w v e = ap (λ (u : World). u.board) (sym (chosen (can_release w) (released w) v e))

-- ---- nobody wakes from a barrier, since one is never complete

pub not_woken : (w : World) (p : ℕ) → is_barrier (kind_at w.board (last_call w.board p)) ≡ true → next w (Wake p) ≡ None
not_woken w p e = ap (λ (b : Bool). cond b (Some (woken w p)) None) (and_false (waits (slice_get w.ranks p)) (complete w.board (last_call w.board p)) never)
  where
    own_step : (k : Option CallKind) → is_barrier k ≡ true → has_own_step k ≡ true
    own_step (Some (Waitany a)) f = cc
    own_step k f = f

    never : complete w.board (last_call w.board p) ≡ false
    never = ap (λ (b : Bool). not b && complete_by w.board (awaited w.board (last_call w.board p))) (own_step (kind_at w.board (last_call w.board p)) e)

-- ---- as it is issued, a standard send is buffered in the mode that says so, and a synchronous one never is

pub standard_is_buffered : (b : Board) (p number : ℕ) (s : SendCall) → b.mode ≡ Buffered → s.synchronous ≡ false → is_buffered (Some (entered b p (record { statement = number; kind = Send s })).kind) ≡ true
standard_is_buffered b p number s e f = (λ i. buffers_one (e i) (slots_used b p) && not (f i))

pub synchronous_never_is : (b : Board) (p number : ℕ) (s : SendCall) → s.synchronous ≡ true → is_buffered (Some (entered b p (record { statement = number; kind = Send s })).kind) ≡ false
synchronous_never_is b p number s e = and_false (has_buffer b p) (not s.synchronous) (ap not e)

pub in_rendezvous_none_is : (b : Board) (p number : ℕ) (s : SendCall) → b.mode ≡ Rendezvous → is_buffered (Some (entered b p (record { statement = number; kind = Send s })).kind) ≡ false
in_rendezvous_none_is b p number s e = ap (λ (m : Mode). buffers_one m (slots_used b p) && not s.synchronous) e

pub a_slot_is_taken_while_there_is_one : (b : Board) (p number count : ℕ) (s : SendCall) → b.mode ≡ Slots count → s.synchronous ≡ false
    → is_buffered (Some (entered b p (record { statement = number; kind = Send s })).kind) ≡ nat_lt (slots_used b p) count
a_slot_is_taken_while_there_is_one b p number count s e f = (λ i. buffers_one (e i) (slots_used b p) && not (f i)) ∙ and_true (nat_lt (slots_used b p) count)
  where
    and_true : (x : Bool) → (x && true) ≡ x
    and_true true = refl
    and_true false = refl
