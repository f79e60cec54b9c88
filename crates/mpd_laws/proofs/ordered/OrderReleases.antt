-- A release keeps calls in order: it is of the barrier that each rank is blocked on.
use Rattle.std.proofs.Common.{◌≡◌, ℕ, ◌+◌, ◌-◌, true, ◌&&◌, nat_lt, Option, Some, [], length, slice_get, inl, inr, refl, sym, ap, ◌∙◌, arith, eq-eqb}
use Rattle.std.proofs.lemmas.Bool.{and_parts}
use Rattle.std.proofs.lemmas.Option.{slice_get_within, slice_get-map}
use Rattle.std.specs.Cmp.Derive.{both_true}
use Rattle.std.specs.Option.{option_map}
use Rattle.mpd_model.specs.declared.step.CallId.{CallId}
use Rattle.mpd_model.specs.declared.call.MatchSet.TheVariants as set
use Rattle.mpd_model.specs.steps.World.{World, Board, RankWorld, call_id, calls_of, kind_at, is_barrier, last_call}
use Rattle.mpd_model.specs.steps.Next.{waits, is_at_barrier, can_release, going_on, released}
use Rattle.mpd_model.specs.steps.Order.{barriers, releases, barriers_before, WentOn}
use Rattle.mpd_laws.proofs.ordered.Orderly.{Orderly, IsAwaited, MayJoin, held, waiting}
use Rattle.mpd_laws.proofs.ordered.OrderSteps.{named_more, ordered_more, went_kept}
use Rattle.mpd_laws.proofs.ordered.Releases.{one_if, releases_more, barriers_last, one_of_all}
use Rattle.mpd_laws.proofs.ordered.Splits.{mapped_from}

at_barrier : (w : World) → can_release w ≡ true → (p : ℕ) (r : RankWorld) → slice_get w.ranks p ≡ Some r → is_at_barrier w p ≡ true
at_barrier w e p r at =
    let within = slice_get_within w.ranks p r at in
    one_of_all (is_at_barrier w) 0 (length w.ranks) p (and_parts (nat_lt 0 (length w.ranks)) _ e).1 (omega arith) (omega (arith, within))

barrier_may_join : (b : Board) → MayJoin b set.Barrier
barrier_may_join b = record {
  named = λ c is. absurd (cc);
  paired = λ p i j s r lt is named first. absurd (cc);
  done = λ p i j is awaits. absurd (cc);
}

-- a rank that is blocked on a barrier goes on from it
goes_on : (w : World) → can_release w ≡ true → Orderly w → (x : CallId) → IsAwaited w x → WentOn (released w).board (released w).board.sets x
goes_on w e h x here = record {
  front = w.board.sets;
  by = set.Barrier;
  behind = [];
  cut = refl;
  exit = both_true barrier (eq-eqb (barriers_before w.board x) (releases w.board.sets) count);
}
  where
    rank : (r : RankWorld) × (slice_get w.ranks x.rank ≡ Some r)
    rank = waiting (slice_get w.ranks x.rank) here.blocked

    at : is_at_barrier w x.rank ≡ true
    at = at_barrier w e x.rank rank.0 rank.1

    index : x.index ≡ length (calls_of w.board x.rank) - 1
    index = let last = here.last in omega (arith, last)

    barrier : is_barrier (kind_at w.board x) ≡ true
    barrier = ap (λ (i : ℕ). is_barrier (kind_at w.board (call_id x.rank i))) index ∙ (and_parts (waits (slice_get w.ranks x.rank)) _ at).1

    count : barriers_before w.board x ≡ releases w.board.sets
    count =
        let all = h.released x.rank rank.0 rank.1 in
        let one : held w x.rank ≡ 1 = ap one_if at in
        let cut = barriers_last (calls_of w.board x.rank) x.index here.last in
        let this : one_if (is_barrier (kind_at w.board x)) ≡ 1 = ap one_if barrier in
        omega (arith, all, one, cut, this)

counts : (w : World) → can_release w ≡ true → Orderly w → (p : ℕ) (r : RankWorld) → slice_get (released w).ranks p ≡ Some r
    → barriers (calls_of w.board p) ≡ releases (released w).board.sets + held (released w) p
counts w e h p r at =
    let from = mapped_from going_on (slice_get w.ranks p) r (sym (slice_get-map going_on w.ranks p) ∙ at) in
    let all = h.released p from.0 from.1 in
    let one : held w p ≡ 1 = ap one_if (at_barrier w e p from.0 from.1) in
    let more : releases (released w).board.sets ≡ releases w.board.sets + 1 = releases_more w.board.sets set.Barrier in
    let none : held (released w) p ≡ 0 = ap (λ (o : Option RankWorld). one_if (waits o && is_barrier (kind_at w.board (last_call w.board p)))) (slice_get-map going_on w.ranks p ∙ ap (option_map going_on) from.1) in
    omega (arith, all, one, more, none)

pub release_keeps : (w : World) → can_release w ≡ true → Orderly w → Orderly (released w)
release_keeps w e h = record {
  named = named_more w.board set.Barrier (barrier_may_join w.board) h.named;
  went_on = λ x blocking. elim (h.went_on x blocking) [
    | inl done ↦ inl (went_kept w.board set.Barrier x done)
    | inr here ↦ inl (goes_on w e h x here)
  ];
  released = counts w e h;
  ordered = ordered_more w set.Barrier (barrier_may_join w.board) h;
  allowed_buffer = h.allowed_buffer;
}
