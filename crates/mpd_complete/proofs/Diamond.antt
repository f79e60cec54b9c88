-- Two steps that are enabled in one world and do not conflict can be taken in either order.
use Rattle.std.proofs.Common.{◌≡◌, ◌≢◌, ◌⊎◌, ℕ, ◌<◌, ◌==◌, Bool, true, false, ◌&&◌, ◌||◌, not, nat_lt, Option, Some, None, is_some, is_none, length, slice_get, inl, inr, refl, sym, ap, subst, ◌∙◌, arith, eq-eqb}
use Rattle.mpd_laws.proofs.ordered.Releases.{one_of_all}
use Rattle.std.proofs.lemmas.Bool.{and_parts, or_parts, ne_eqb, not-true}
use Rattle.std.proofs.lemmas.Bool.Decides.{eqb_tells}
use Rattle.std.proofs.lemmas.Option.{slice_get_within}
use Rattle.std.specs.Option.{option_map}
use Rattle.mpd_model.specs.declared.step.CallId.{CallId}
use Rattle.mpd_model.specs.declared.step.Step.{Step}
use Rattle.mpd_model.specs.declared.step.Step.TheVariants.{Local, Match, Wake, WakeAny, Release}
use Rattle.mpd_model.specs.declared.call.Call.{Call}
use Rattle.mpd_model.specs.declared.call.CallKind.{CallKind}
use Rattle.mpd_model.specs.declared.call.CallKind.TheVariants.{Recv}
use Rattle.mpd_model.specs.runs.Decisions.{names_source, takes_any}
use Rattle.mpd_model.specs.steps.World.{World, id_eq, kind_at, is_buffered, is_limited, eligible, last_call}
use Rattle.mpd_model.specs.steps.Next.{stepped, waits, can_wake, woken, can_wake_any, woken_any, is_at_barrier, can_release, released, next}
use Rattle.mpd_policy.specs.Wide.{lacks_slot, frees_slot, gives_slot, conflict, is_quiet}
use Rattle.mpd_complete.specs.CompleteLaws.{Joins}
use Rattle.mpd_laws.proofs.ordered.CallsInOrder.{chosen}
use Rattle.mpd_meaning.proofs.moving.Worlds.{same_sym, taken}
use Rattle.mpd_meaning.proofs.moving.Moves.{Known, joining, moved, paired, stepped_is, local_again, moved_swapped, moved_paired}
use Rattle.mpd_laws.proofs.ordered.Eligible.{clash}
use Rattle.mpd_laws.proofs.ordered.Orderly.{same_id}
use Rattle.mpd_complete.proofs.Pairs.{turned, match_again, match_freed, freed_paired, match_paired, paired_swapped, same_recv, same_send, send_known, recv_known}
use Rattle.mpd_complete.proofs.Steps.{IsLocalStep, IsWakeStep, local_step, wake_step, any_step, match_step, release_step}
use Rattle.mpd_complete.proofs.Idle.{never_both}
use Rattle.mpd_complete.proofs.Invariants.{Sound, keeps}
use Rattle.mpd_complete.proofs.Slots.{joining_paired, lacks_elsewhere, lacks_paired, gives_none, false_and}

-- ---- steps that exclude one another

at_barrier : (w : World) (p : ℕ) → can_release w ≡ true → p < length w.ranks → is_at_barrier w p ≡ true
at_barrier w p e within = one_of_all (is_at_barrier w) 0 (length w.ranks) p (and_parts (nat_lt 0 (length w.ranks)) _ e).1 (omega arith) (omega (arith, within))

no_local_wake : (w : World) (p : ℕ) (u v : World) (b : Step) → IsLocalStep w p u → IsWakeStep w b p v → ⊥
no_local_wake w p u v b here there = clash there.blocked here.runs

no_local_release : (w : World) (p : ℕ) (u : World) → IsLocalStep w p u → can_release w ≡ true → ⊥
no_local_release w p u a e = clash (and_parts (waits (slice_get w.ranks p)) _ (at_barrier w p e a.within)).0 a.runs

no_wake_release : (w : World) (a : Step) (p : ℕ) (u : World) → IsWakeStep w a p u → can_release w ≡ true → ⊥
no_wake_release w a p u b e = clash (and_parts (waits (slice_get w.ranks p)) _ (at_barrier w p e (slice_get_within w.ranks p b.rank b.at))).1 b.no_barrier

-- ---- two steps

flip : (u v : World) (a b : Step) → Joins u v a b → Joins v u b a
flip u v a b h = record { behind_a = h.behind_b; behind_b = h.behind_a; by_b = h.by_a; by_a = h.by_b; same = same_sym h.behind_a h.behind_b h.same }

at_worlds : (u u' v v' : World) (a b : Step) → u ≡ u' → v ≡ v' → Joins u v a b → Joins u' v' a b
at_worlds u u' v v' a b e f h = subst (λ (z : World). Joins z v' a b) e (subst (λ (z : World). Joins u z a b) f h)

two_locals : (w : World) (p q : ℕ) (u v : World) → IsLocalStep w p u → IsLocalStep w q v → p ≢ q → Joins u v (Local p) (Local q)
two_locals w p q u v a b ne =
    let here : Option Call = joining w.board p a.ran.call in
    let there : Option Call = joining w.board q b.ran.call in
    at_worlds (moved w p a.ran.rank here None) u (moved w q b.ran.rank there None) v (Local p) (Local q) a.is b.is (record {
      behind_a = moved (moved w p a.ran.rank here None) q b.ran.rank there None;
      behind_b = moved (moved w q b.ran.rank there None) p a.ran.rank here None;
      by_b = local_again w p a.ran.rank here None q b.ran (λ e. ne (sym e)) b.at;
      by_a = local_again w q b.ran.rank there None p a.ran ne a.at;
      same = moved_swapped w p a.ran.rank here None q b.ran.rank there None ne;
    })

local_and_wake : (w : World) → Known w.board → (p q : ℕ) (c : Step) (u v : World) → IsLocalStep w p u → IsWakeStep w c q v → p ≢ q → Joins u v (Local p) c
local_and_wake w all p q c u v a b ne =
    let call : Option Call = joining w.board p a.ran.call in
    let wake : Option CallId = Some (last_call w.board q) in
    at_worlds (moved w p a.ran.rank call None) u (moved w q b.after None wake) v (Local p) c a.is b.is (record {
      behind_a = moved (moved w p a.ran.rank call None) q b.after None wake;
      behind_b = moved (moved w q b.after None wake) p a.ran.rank call None;
      by_b = b.again all p a.ran.rank call None (λ e. ne (sym e));
      by_a = local_again w q b.after None wake p a.ran ne a.at;
      same = moved_swapped w p a.ran.rank call None q b.after None wake ne;
    })

-- two ranks go on
two_wakes : (w : World) → Known w.board → (a b : Step) (p q : ℕ) (u v : World) → IsWakeStep w a p u → IsWakeStep w b q v → p ≢ q → Joins u v a b
two_wakes w all a b p q u v one other ne =
    let here : Option CallId = Some (last_call w.board p) in
    let there : Option CallId = Some (last_call w.board q) in
    at_worlds (moved w p one.after None here) u (moved w q other.after None there) v a b one.is other.is (record {
      behind_a = moved (moved w p one.after None here) q other.after None there;
      behind_b = moved (moved w q other.after None there) p one.after None here;
      by_b = other.again all p one.after None here (λ e. ne (sym e));
      by_a = one.again all q other.after None there ne;
      same = moved_swapped w p one.after None here q other.after None there ne;
    })

local_and_match : (w : World) (p : ℕ) (s r : CallId) (u v : World) → IsLocalStep w p u → eligible w.board s r ≡ true → paired w s r ≡ v → gives_slot w p s ≡ false → Joins u v (Local p) (Match s r)
local_and_match w p s r u v a e is none =
    let call : Option Call = joining w.board p a.ran.call in
    at_worlds (moved w p a.ran.rank call None) u (paired w s r) v (Local p) (Match s r) a.is is (record {
      behind_a = paired (moved w p a.ran.rank call None) s r;
      behind_b = moved (paired w s r) p a.ran.rank call None;
      by_b = match_again w p a.ran.rank call None s r e;
      by_a =
          ap (option_map (stepped (paired w s r) p)) a.at
          ∙ ap (λ (z : World). Some z) (stepped_is (paired w s r) p a.ran)
          ∙ ap (λ (k : Option Call). Some (moved (paired w s r) p a.ran.rank k None)) (joining_paired w s r p a.ran a.at e none);
      same = moved_paired w p a.ran.rank call None s r;
    })

wake_and_match : (w : World) (a : Step) (p : ℕ) (s r : CallId) (u v : World) → IsWakeStep w a p u → eligible w.board s r ≡ true → paired w s r ≡ v → Joins u v a (Match s r)
wake_and_match w a p s r u v b e is =
    let wake : Option CallId = Some (last_call w.board p) in
    at_worlds (moved w p b.after None wake) u (paired w s r) v a (Match s r) b.is is (record {
      behind_a = paired (moved w p b.after None wake) s r;
      behind_b = moved (paired w s r) p b.after None wake;
      by_b = match_again w p b.after None wake s r e;
      by_a = b.beside s r;
      same = moved_paired w p b.after None wake s r;
    })

release_and_match : (w : World) (s r : CallId) (u v : World) → can_release w ≡ true → released w ≡ u → eligible w.board s r ≡ true → paired w s r ≡ v → Joins u v Release (Match s r)
release_and_match w s r u v can is e also =
    at_worlds (released w) u (paired w s r) v Release (Match s r) is also (record {
      behind_a = paired (released w) s r;
      behind_b = released (paired w s r);
      by_b = match_freed w s r e;
      by_a = taken (can_release w) (released (paired w s r)) can;
      same = freed_paired w s r;
    })

two_matches : (w : World) (s r t q : CallId) (u v : World) → eligible w.board s r ≡ true → paired w s r ≡ u → eligible w.board t q ≡ true → paired w t q ≡ v
    → id_eq s t ≡ false → id_eq r q ≡ false → Joins u v (Match s r) (Match t q)
two_matches w s r t q u v e is f also sends recvs =
    at_worlds (paired w s r) u (paired w t q) v (Match s r) (Match t q) is also (record {
      behind_a = paired (paired w s r) t q;
      behind_b = paired (paired w t q) s r;
      by_b = match_paired w s r t q e f sends recvs;
      by_a = match_paired w t q s r f e (turned s t sends) (turned r q recvs);
      same = paired_swapped w s r t q e f sends recvs;
    })

-- ---- any two

apart_ranks : (p q : ℕ) → (p == q) ≡ false → p ≢ q
apart_ranks p q off e = clash (eq-eqb p q e) off

-- Two steps that are enabled and do not conflict can be taken in either order.
pub diamond : (w : World) → Sound w → (a b : Step) (u v : World) → next w a ≡ Some u → next w b ≡ Some v → conflict w a b ≡ false → Joins u v a b
diamond w h (Local p) (Local q) u v e f off = two_locals w p q u v (local_step w p u e) (local_step w q v f) (apart_ranks p q off)
diamond w h (Local p) (Match s r) u v e f off = let m = match_step w s r v f in local_and_match w p s r u v (local_step w p u e) m.0 m.1 off
diamond w h (Local p) (Wake q) u v e f off = local_and_wake w h.known p q (Wake q) u v (local_step w p u e) (wake_step w q v f) (apart_ranks p q off)
diamond w h (Local p) (WakeAny q j) u v e f off = local_and_wake w h.known p q (WakeAny q j) u v (local_step w p u e) (any_step w q j v f) (apart_ranks p q off)
diamond w h (Local p) Release u v e f off = absurd (cc)
diamond w h (Match s r) (Local q) u v e f off = let m = match_step w s r u e in flip v u (Local q) (Match s r) (local_and_match w q s r v u (local_step w q v f) m.0 m.1 off)
diamond w h (Match s r) (Match t q) u v e f off =
    let m = match_step w s r u e in
    let n = match_step w t q v f in
    let parts = or_parts (id_eq s t) (id_eq r q) off in
    two_matches w s r t q u v m.0 m.1 n.0 n.1 parts.0 parts.1
diamond w h (Match s r) (Wake q) u v e f off = let m = match_step w s r u e in flip v u (Wake q) (Match s r) (wake_and_match w (Wake q) q s r v u (wake_step w q v f) m.0 m.1)
diamond w h (Match s r) (WakeAny q j) u v e f off = let m = match_step w s r u e in flip v u (WakeAny q j) (Match s r) (wake_and_match w (WakeAny q j) q s r v u (any_step w q j v f) m.0 m.1)
diamond w h (Match s r) Release u v e f off =
    let m = match_step w s r u e in
    let n = release_step w v f in
    flip v u Release (Match s r) (release_and_match w s r v u n.0 n.1 m.0 m.1)
diamond w h (Wake p) (Local q) u v e f off = flip v u (Local q) (Wake p) (local_and_wake w h.known q p (Wake p) v u (local_step w q v f) (wake_step w p u e) (λ is. apart_ranks p q off (sym is)))
diamond w h (Wake p) (Match s r) u v e f off = let m = match_step w s r v f in wake_and_match w (Wake p) p s r u v (wake_step w p u e) m.0 m.1
diamond w h (Wake p) (Wake q) u v e f off = two_wakes w h.known (Wake p) (Wake q) p q u v (wake_step w p u e) (wake_step w q v f) (apart_ranks p q off)
diamond w h (Wake p) (WakeAny q j) u v e f off = two_wakes w h.known (Wake p) (WakeAny q j) p q u v (wake_step w p u e) (any_step w q j v f) (apart_ranks p q off)
diamond w h (Wake p) Release u v e f off = absurd (cc)
diamond w h (WakeAny p i) (Local q) u v e f off = flip v u (Local q) (WakeAny p i) (local_and_wake w h.known q p (WakeAny p i) v u (local_step w q v f) (any_step w p i u e) (λ is. apart_ranks p q off (sym is)))
diamond w h (WakeAny p i) (Match s r) u v e f off = let m = match_step w s r v f in wake_and_match w (WakeAny p i) p s r u v (any_step w p i u e) m.0 m.1
diamond w h (WakeAny p i) (Wake q) u v e f off = two_wakes w h.known (WakeAny p i) (Wake q) p q u v (any_step w p i u e) (wake_step w q v f) (apart_ranks p q off)
diamond w h (WakeAny p i) (WakeAny q j) u v e f off = two_wakes w h.known (WakeAny p i) (WakeAny q j) p q u v (any_step w p i u e) (any_step w q j v f) (apart_ranks p q off)
diamond w h (WakeAny p i) Release u v e f off = absurd (cc)
diamond w h Release (Match s r) u v e f off =
    let m = match_step w s r v f in
    let n = release_step w u e in
    release_and_match w s r u v n.0 n.1 m.0 m.1
diamond w h Release (Local q) u v e f off = absurd (cc)
diamond w h Release (Wake q) u v e f off = absurd (cc)
diamond w h Release (WakeAny q j) u v e f off = absurd (cc)
diamond w h Release Release u v e f off = absurd (cc)

-- ---- a quiet step

abbrev pub SameOrApart : World → Step → Step → Type 0
SameOrApart w a b = (a ≡ b) ⊎ (conflict w a b ≡ false)

is_none_or : (o : Option ℕ) → is_some o ≡ true → is_none o ≡ false
is_none_or (Some p) e = refl
is_none_or None e = absurd (cc)

pub source_named : (k : Option CallKind) → names_source k ≡ true → takes_any k ≡ false
source_named (Some (Recv r)) e = is_none_or r.from e
source_named k e = refl

by_calls : (x y : Bool) (s r t q : CallId) → id_eq s t ≡ x → id_eq r q ≡ y → (id_eq s t ≡ true → r ≡ q) → (id_eq r q ≡ true → s ≡ t) → (Match s r ≡ Match t q) ⊎ ((id_eq s t || id_eq r q) ≡ false)
by_calls true y s r t q e f recvs sends = let a = same_id s t e in let b = recvs e in inl (λ i. Match (a i) (b i))
by_calls false true s r t q e f recvs sends = let a = sends f in let b = same_id r q f in inl (λ i. Match (a i) (b i))
by_calls false false s r t q e f recvs sends = inr (λ i. e i || f i)

-- It is in conflict with no other step that is enabled.
pub apart : (w : World) → Sound w → (a b : Step) (u v : World) → is_quiet w a ≡ true → next w a ≡ Some u → next w b ≡ Some v → SameOrApart w a b
apart w h (Local p) (Local q) u v quiet e f =
    elim (eqb_tells p q) [
      | inl same ↦ inl (ap Local same.1)
      | inr off ↦ inr (ne_eqb p q off.1)
    ]
apart w h (Local p) (Match s r) u v quiet e f = inr (false_and (lacks_slot w p) (p == s.rank && is_buffered (kind_at w.board s)) (inl (not-true (lacks_slot w p) quiet)))
apart w h (Local p) (Wake q) u v quiet e f = inr (ne_eqb p q (λ is. no_local_wake w q u v (Wake q) (subst (λ (k : ℕ). IsLocalStep w k u) is (local_step w p u e)) (wake_step w q v f)))
apart w h (Local p) (WakeAny q j) u v quiet e f = inr (ne_eqb p q (λ is. no_local_wake w q u v (WakeAny q j) (subst (λ (k : ℕ). IsLocalStep w k u) is (local_step w p u e)) (any_step w q j v f)))
apart w h (Local p) Release u v quiet e f = absurd (no_local_release w p u (local_step w p u e) (release_step w v f).0)
apart w h (Match s r) (Local p) u v quiet e f = inr (gives_none w p s (not-true (frees_slot w.board s) (and_parts (names_source (kind_at w.board r)) _ quiet).1))
apart w h (Match s r) (Match t q) u v quiet e f =
    let m = match_step w s r u e in
    let n = match_step w t q v f in
    let named = source_named (kind_at w.board r) (and_parts (names_source (kind_at w.board r)) _ quiet).0 in
    by_calls (id_eq s t) (id_eq r q) s r t q refl refl
    (λ is. same_recv w.board s r q m.0 (ap (λ (c : CallId). eligible w.board c q) (same_id s t is) ∙ n.0))
    (λ is. same_send w.board s t r named m.0 (ap (λ (c : CallId). eligible w.board t c) (same_id r q is) ∙ n.0))
apart w h (Match s r) (Wake q) u v quiet e f = inr refl
apart w h (Match s r) (WakeAny q j) u v quiet e f = inr refl
apart w h (Match s r) Release u v quiet e f = inr refl
apart w h (Wake p) (Local q) u v quiet e f = inr (ne_eqb p q (λ is. no_local_wake w q v u (Wake p) (local_step w q v f) (subst (λ (k : ℕ). IsWakeStep w (Wake p) k u) is (wake_step w p u e))))
apart w h (Wake p) (Match s r) u v quiet e f = inr refl
apart w h (Wake p) (Wake q) u v quiet e f =
    elim (eqb_tells p q) [
      | inl same ↦ inl (ap Wake same.1)
      | inr off ↦ inr (ne_eqb p q off.1)
    ]
apart w h (Wake p) (WakeAny q j) u v quiet e f =
    inr (ne_eqb p q (λ is. never_both w h.idle q j (subst (λ (k : ℕ). can_wake w k ≡ true) is (chosen (can_wake w p) (woken w p) u e).0) (chosen (can_wake_any w q j) (woken_any w q j) v f).0))
apart w h (Wake p) Release u v quiet e f = absurd (no_wake_release w (Wake p) p u (wake_step w p u e) (release_step w v f).0)
apart w h (WakeAny p i) b u v quiet e f = absurd (cc)
apart w h Release (Local q) u v quiet e f = absurd (no_local_release w q v (local_step w q v f) (release_step w u e).0)
apart w h Release (Match s r) u v quiet e f = inr refl
apart w h Release (Wake q) u v quiet e f = absurd (no_wake_release w (Wake q) q v (wake_step w q v f) (release_step w u e).0)
apart w h Release (WakeAny q j) u v quiet e f = absurd (no_wake_release w (WakeAny q j) q v (any_step w q j v f) (release_step w u e).0)
apart w h Release Release u v quiet e f = inl refl

-- After a step that does not conflict with it, it is quiet as before.
pub stays_quiet : (w : World) (a b : Step) (u v : World) → is_quiet w a ≡ true → next w a ≡ Some u → next w b ≡ Some v → conflict w a b ≡ false → is_quiet v a ≡ true
stays_quiet w (Local p) (Local q) u v quiet e f off =
    let b = local_step w q v f in
    subst (λ (z : World). is_quiet z (Local p) ≡ true) b.is (ap not (lacks_elsewhere w q b.ran.rank (joining w.board q b.ran.call) None p (apart_ranks p q off)) ∙ quiet)
stays_quiet w (Local p) (Match s r) u v quiet e f off =
    let m = match_step w s r v f in
    subst (λ (z : World). is_quiet z (Local p) ≡ true) m.1 (ap not (lacks_paired w s r p m.0 (not-true (lacks_slot w p) quiet)))
stays_quiet w (Local p) (Wake q) u v quiet e f off =
    let b = wake_step w q v f in
    subst (λ (z : World). is_quiet z (Local p) ≡ true) b.is (ap not (lacks_elsewhere w q b.after None (Some (last_call w.board q)) p (apart_ranks p q off)) ∙ quiet)
stays_quiet w (Local p) (WakeAny q j) u v quiet e f off =
    let b = any_step w q j v f in
    subst (λ (z : World). is_quiet z (Local p) ≡ true) b.is (ap not (lacks_elsewhere w q b.after None (Some (last_call w.board q)) p (apart_ranks p q off)) ∙ quiet)
stays_quiet w (Local p) Release u v quiet e f off = absurd (cc)
stays_quiet w (Match s r) b u v quiet e f off =
    let m = match_step w s r u e in
    let k = keeps w b v f in
    (λ i. names_source (k.later.kinds r (recv_known w.board s r m.0) i) && not (is_limited (k.mode i) && is_buffered (k.later.kinds s (send_known w.board s r m.0) i))) ∙ quiet
stays_quiet w (Wake p) b u v quiet e f off = refl
stays_quiet w (WakeAny p i) b u v quiet e f off = absurd (cc)
stays_quiet w Release b u v quiet e f off = refl
