-- What is known where a step is enabled.
use Rattle.std.proofs.Common.{◌≡◌, ◌≢◌, ℕ, ◌<◌, true, false, not, Option, Some, None, length, slice_get, refl, sym, ap, ◌∙◌}
use Rattle.mpd_laws.proofs.ordered.OrderSteps.{no_barrier}
use Rattle.mpd_laws.proofs.ordered.Orderly.{waiting}
use Rattle.std.proofs.lemmas.Bool.{and_parts, not-true}
use Rattle.std.proofs.lemmas.Option.{slice_get_within}
use Rattle.mpd_model.specs.declared.step.CallId.{CallId}
use Rattle.mpd_model.specs.declared.step.Step.{Step}
use Rattle.mpd_model.specs.declared.step.Step.TheVariants.{Local, Match, Wake, WakeAny, Release}
use Rattle.mpd_model.specs.declared.call.Call.{Call}
use Rattle.mpd_model.specs.declared.call.CallKind.{CallKind}
use Rattle.mpd_model.specs.declared.call.CallKind.TheVariants.{Waitany}
use Rattle.mpd_model.specs.steps.World.{World, Board, RankWorld, calls_of, kind_at, eligible, is_barrier, has_own_step, last_call}
use Rattle.mpd_model.specs.steps.Next.{Ran, local, local_at, stepped, is_blocked, waits, can_wake, wake_writes, wake_clears, woken, request_handle, held_in, any_handle, is_complete_some, can_wake_any, any_writes, woken_any, can_release, released, next}
use Rattle.mpd_laws.proofs.ordered.LocalActivity.{BlocksOn, local_blocks}
use Rattle.mpd_laws.proofs.ordered.CallsInOrder.{chosen, joined_from}
use Rattle.mpd_laws.proofs.ordered.Splits.{mapped_from}
use Rattle.mpd_meaning.proofs.moving.Moves.{Known, joining, moved, paired, awake, awake_any, stepped_is, woken_is, wake_again, any_again}
use Rattle.mpd_complete.proofs.Pairs.{wake_paired, any_paired}

pub record IsLocalStep (w : World) (p : ℕ) (u : World) : Type 0 where
  pub rank : RankWorld
  pub here : slice_get w.ranks p ≡ Some rank
  pub ran : Ran
  pub from : local p (length w.ranks) (length (calls_of w.board p)) rank ≡ Some ran
  pub at : local_at w p ≡ Some ran
  pub blocks : BlocksOn ran
  pub runs : waits (slice_get w.ranks p) ≡ false
  pub within : p < length w.ranks
  pub is : moved w p ran.rank (joining w.board p ran.call) None ≡ u

-- a step by which a rank goes on from its last call, which is no barrier: it does so beside a step of another rank, and beside a match
pub record IsWakeStep (w : World) (a : Step) (p : ℕ) (u : World) : Type 0 where
  pub rank : RankWorld
  pub at : slice_get w.ranks p ≡ Some rank
  pub blocked : waits (slice_get w.ranks p) ≡ true
  pub no_barrier : is_barrier (kind_at w.board (last_call w.board p)) ≡ false
  pub after : RankWorld
  pub running : is_blocked after.activity ≡ false
  pub rest : after.rest ≡ rank.rest
  pub is : moved w p after None (Some (last_call w.board p)) ≡ u
  pub again : Known w.board → (q : ℕ) (r : RankWorld) (o : Option Call) (m : Option CallId) → p ≢ q → next (moved w q r o m) a ≡ Some (moved (moved w q r o m) p after None (Some (last_call w.board p)))
  pub beside : (s r : CallId) → next (paired w s r) a ≡ Some (moved (paired w s r) p after None (Some (last_call w.board p)))

pub local_step : (w : World) (p : ℕ) (u : World) → next w (Local p) ≡ Some u → IsLocalStep w p u
local_step w p u e =
    let ran = mapped_from (stepped w p) (local_at w p) u e in
    let rank = joined_from (local p (length w.ranks) (length (calls_of w.board p))) (slice_get w.ranks p) ran.0 ran.1 in
    let active = local_blocks p (length w.ranks) (length (calls_of w.board p)) rank.0 ran.0 rank.2 in
    record {
      rank = rank.0;
      here = rank.1;
      ran = ran.0;
      from = rank.2;
      at = ran.1;
      blocks = active.0;
      runs = ap waits rank.1 ∙ active.1;
      within = slice_get_within w.ranks p rank.0 rank.1;
      is = sym (stepped_is w p ran.0) ∙ ran.2;
    }

-- ---- wakes

pub wake_step : (w : World) (p : ℕ) (u : World) → next w (Wake p) ≡ Some u → IsWakeStep w (Wake p) p u
wake_step w p u e =
    let made = chosen (can_wake w p) (woken w p) u e in
    let parts = and_parts (waits (slice_get w.ranks p)) _ made.0 in
    let rank = waiting (slice_get w.ranks p) parts.0 in
    let kind : Option CallKind = kind_at w.board (last_call w.board p) in
    record {
      rank = rank.0;
      at = rank.1;
      blocked = parts.0;
      no_barrier = no_barrier kind (not-true (has_own_step kind) (and_parts (not (has_own_step kind)) _ parts.1).0);
      after = awake w p rank.0;
      running = refl;
      rest = refl;
      is = sym (woken_is w p (wake_writes w.board p) (wake_clears w.board p) rank.0 rank.1) ∙ made.1;
      again = λ all q r o m ne. wake_again w q r o m p rank.0 ne all rank.1 made.0;
      beside = λ s r. wake_paired w s r p rank.0 rank.1 made.0;
    }

-- what a rank waits for which goes on by a request is no barrier
asked_is_no_barrier : (b : Board) (p i : ℕ) (r : Option RankWorld) (k : Option CallKind) → is_complete_some b (held_in p r (request_handle k i)) ≡ true → is_barrier k ≡ false
asked_is_no_barrier b p i r (Some (Waitany a)) e = refl
asked_is_no_barrier b p i None k e = absurd (cc)
asked_is_no_barrier b p i (Some r) k e = absurd (cc)

pub any_step : (w : World) (p i : ℕ) (u : World) → next w (WakeAny p i) ≡ Some u → IsWakeStep w (WakeAny p i) p u
any_step w p i u e =
    let made = chosen (can_wake_any w p i) (woken_any w p i) u e in
    let parts = and_parts (waits (slice_get w.ranks p)) _ made.0 in
    let rank = waiting (slice_get w.ranks p) parts.0 in
    record {
      rank = rank.0;
      at = rank.1;
      blocked = parts.0;
      no_barrier = asked_is_no_barrier w.board p i (slice_get w.ranks p) (kind_at w.board (last_call w.board p)) parts.1;
      after = awake_any w p i rank.0;
      running = refl;
      rest = refl;
      is = sym (woken_is w p (any_writes w p i) (any_handle w p i) rank.0 rank.1) ∙ made.1;
      again = λ all q r o m ne. any_again w q r o m p i rank.0 ne all rank.1 made.0;
      beside = λ s r. any_paired w s r p i rank.0 rank.1 made.0;
    }

-- ---- matches and releases

pub match_step : (w : World) (s r : CallId) (u : World) → next w (Match s r) ≡ Some u → (eligible w.board s r ≡ true) × (paired w s r ≡ u)
match_step w s r u e = chosen (eligible w.board s r) (paired w s r) u e

pub release_step : (w : World) (u : World) → next w Release ≡ Some u → (can_release w ≡ true) × (released w ≡ u)
release_step w u e = chosen (can_release w) (released w) u e
