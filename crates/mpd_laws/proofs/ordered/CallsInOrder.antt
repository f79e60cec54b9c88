-- In every world that steps lead to, calls are in order.
use Rattle.std.proofs.Common.{◌≡◌, ℕ, zero, suc, ◌+◌, ◌<◌, Bool, true, false, cond, ◌&&◌, ◌==◌, nat_lt, Option, Some, None, is_some, option_and_then, List, [], ◌∷◌, length, replicate, slice_get, refl, sym, ap, subst, ◌∙◌}
use Rattle.std.proofs.lemmas.Bool.{eqb-true, ltb-true, and_parts}
use Rattle.mpd_model.specs.declared.step.CallId.{CallId}
use Rattle.mpd_model.specs.declared.step.Step.{Step}
use Rattle.mpd_model.specs.declared.step.Step.TheVariants.{Local, Match, Wake, WakeAny, Release}
use Rattle.mpd_model.specs.declared.call.Call.{Call}
use Rattle.mpd_model.specs.declared.call.CallKind.{CallKind}
use Rattle.mpd_model.specs.declared.call.MatchSet.TheVariants.{Pair}
use Rattle.mpd_model.specs.declared.call.Mode.{Mode}
use Rattle.mpd_model.specs.script.Program.{Program}
use Rattle.mpd_model.specs.steps.World.{World, Board, start, start_rank, start_board, call_id, listed_calls, calls_of, kind_of, kind_at, is_barrier, last_call, eligible}
use Rattle.mpd_model.specs.steps.Next.{local, local_at, stepped, waits, can_wake, woken, can_wake_any, woken_any, can_release, released, with_set, next, fold}
use Rattle.mpd_model.specs.steps.Order.{blocks_rank, barriers, before, Ordered}
use Rattle.mpd_laws.proofs.ordered.Orderly.{Orderly, HasAllowedBuffer, held}
use Rattle.mpd_laws.proofs.ordered.OrderIssues.{local_keeps}
use Rattle.mpd_laws.proofs.ordered.OrderReleases.{release_keeps}
use Rattle.mpd_laws.proofs.ordered.OrderSteps.{match_keeps, wake_keeps, wake_any_keeps}
use Rattle.mpd_laws.proofs.ordered.Releases.{one_if}
use Rattle.mpd_laws.proofs.ordered.Splits.{mapped_from}

-- ---- the first world

pub no_calls : (n p : ℕ) → listed_calls (slice_get (replicate n []) p) ≡ []
no_calls zero p = refl
no_calls (suc n) zero = refl
no_calls (suc n) (suc p) = no_calls n p

no_kind : (n : ℕ) (mode : Mode) (c : CallId) → kind_at (start_board n mode) c ≡ None
no_kind n mode c = ap (λ (calls : List Call). kind_of (slice_get calls c.index)) (no_calls n c.rank)

pub start_orderly : (s : Program) (mode : Mode) → Orderly (start s mode)
start_orderly s mode = record {
  named = λ c e. absurd (cc);
  went_on = λ x blocking. absurd (none_blocks _ (no_kind s.ranks mode x) blocking);
  released = λ p r at. ap barriers (no_calls s.ranks p) ∙ sym (ap (λ (n : ℕ). 0 + n) (none_held p));
  ordered = λ p i j lt known. absurd (none_known _ (no_kind s.ranks mode (call_id p j)) known);
  allowed_buffer = λ c. subst (HasAllowedBuffer mode) (sym (no_kind s.ranks mode c)) tt;
}
  where
    none_blocks : (k : Option CallKind) → k ≡ None → blocks_rank k ≡ true → ⊥
    none_blocks None e f = cc
    none_blocks (Some k) e f = cc

    runs : (n p : ℕ) → waits (slice_get (replicate n (start_rank s)) p) ≡ false
    runs zero p = refl
    runs (suc n) zero = refl
    runs (suc n) (suc p) = runs n p

    none_held : (p : ℕ) → held (start s mode) p ≡ 0
    none_held p = ap (λ (b : Bool). one_if (b && is_barrier (kind_at (start_board s.ranks mode) (last_call (start_board s.ranks mode) p)))) (runs s.ranks p)

    none_known : (k : Option CallKind) → k ≡ None → is_some k ≡ true → ⊥
    none_known None e f = cc
    none_known (Some k) e f = cc

-- ---- a step

-- what a value that is there came from
pub chosen : {A : Type 0} (b : Bool) (x y : A) → cond b (Some x) None ≡ Some y → (b ≡ true) × (x ≡ y)
chosen true x y e = (refl, cc)
chosen false x y e = absurd (cc)

pub joined_from : {A B : Type 0} (f : A → Option B) (o : Option A) (y : B) → option_and_then f o ≡ Some y → (x : A) × (o ≡ Some x) × (f x ≡ Some y)
joined_from f None y e = absurd (cc)
joined_from f (Some x) y e = (x, refl, e)

pub next_orderly : (w : World) (a : Step) (v : World) → next w a ≡ Some v → Orderly w → Orderly v
next_orderly w (Local p) v e h =
    let ran = mapped_from (stepped w p) (local_at w p) v e in
    let rank = joined_from (local p (length w.ranks) (length (calls_of w.board p))) (slice_get w.ranks p) ran.0 ran.1 in
    subst Orderly ran.2 (local_keeps w p rank.0 ran.0 rank.1 rank.2 h)
next_orderly w (Match s r) v e h =
    let made = chosen (eligible w.board s r) (record w { board = with_set w.board (Pair s r) }) v e in
    subst Orderly made.1 (match_keeps w s r made.0 h)
next_orderly w (Wake p) v e h =
    let made = chosen (can_wake w p) (woken w p) v e in
    subst Orderly made.1 (wake_keeps w p made.0 h)
next_orderly w (WakeAny p i) v e h =
    let made = chosen (can_wake_any w p i) (woken_any w p i) v e in
    subst Orderly made.1 (wake_any_keeps w p i made.0 h)
next_orderly w Release v e h =
    let made = chosen (can_release w) (released w) v e in
    subst Orderly made.1 (release_keeps w made.0 h)

fold_orderly : (steps : List Step) (u w : World) → fold u steps ≡ Some w → Orderly u → Orderly w
fold_orderly [] u w e h = let same : u ≡ w = cc in subst Orderly same h
fold_orderly (a ∷ steps) u w e h =
    let after = joined_from (λ v. fold v steps) (next u a) w e in
    fold_orderly steps after.0 w after.2 (next_orderly u a after.0 after.1 h)

-- ---- the laws

order_by : (b : Board) → ((p i j : ℕ) → i < j → is_some (kind_at b (call_id p j)) ≡ true → Ordered b (call_id p i) (call_id p j)) → (x y : CallId) → before b x y ≡ true → Ordered b x y
order_by b all x y e =
    let one = and_parts (x.rank == y.rank) _ e in
    let two = and_parts (nat_lt x.index y.index) _ one.1 in
    let three = and_parts (is_some (kind_at b y)) _ two.1 in
    let rank : x.rank ≡ y.rank = eqb-true x.rank y.rank one.0 in
    subst (λ (q : ℕ). Ordered b (call_id q x.index) y) (sym rank) (all y.rank x.index y.index (ltb-true x.index y.index two.0) three.0)

pub orderly : (s : Program) (mode : Mode) (steps : List Step) (w : World) → fold (start s mode) steps ≡ Some w → Orderly w
orderly s mode steps w e = fold_orderly steps (start s mode) w e (start_orderly s mode)

pub calls_in_order : (s : Program) (mode : Mode) (steps : List Step) (w : World) → fold (start s mode) steps ≡ Some w → (x y : CallId) → before w.board x y ≡ true → Ordered w.board x y
calls_in_order s mode steps w e x y is = order_by w.board (orderly s mode steps w e).ordered x y is
