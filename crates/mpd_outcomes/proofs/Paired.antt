-- A match or a release leads from worlds that are alike to worlds that are alike.
use Rattle.std.proofs.Common.{◌≡◌, ◌⊎◌, Bool, true, false, cond, ◌&&◌, Option, Some, None, is_some, is_none, option_and_then, List, [], ◌∷◌, ◌++◌, slice_get, inl, inr, refl, sym, ap, subst, ◌∙◌, ℕ, ℤ, nat_lt, arith, length}
use Rattle.std.proofs.lemmas.Bool.{and_parts}
use Rattle.std.proofs.lemmas.List.{length-map}
use Rattle.std.specs.Option.{option_map}
use Rattle.mpd_laws.proofs.ordered.Orderly.{same_id}
use Rattle.mpd_laws.proofs.ordered.Eligible.{agrees, fitting_send}
use Rattle.mpd_model.specs.declared.step.CallId.{CallId}
use Rattle.mpd_laws.proofs.ordered.Releases.{one_of_all}
use Rattle.std.proofs.lemmas.Option.{slice_get_within}
use Rattle.mpd_model.specs.declared.call.Activity.{Activity}
use Rattle.mpd_model.specs.declared.call.Activity.TheVariants.{Running, Blocked, Trapped}
use Rattle.mpd_model.specs.script.Tree.{Tree}
use Rattle.mpd_model.specs.declared.call.CallKind.TheVariants.{Send, Recv}
use Rattle.mpd_model.specs.declared.call.CallKind.{CallKind}
use Rattle.mpd_model.specs.declared.call.Call.{Call}
use Rattle.mpd_model.specs.declared.call.MatchSet.TheVariants.{Pair}
use Rattle.mpd_model.specs.declared.call.MatchSet.TheVariants as set
use Rattle.mpd_model.specs.steps.World.{World, Board, RankWorld, id_eq, call_at, kind_of, kind_at, partner, is_message_kind, is_free, message_of, eligible, receives, sends_to, is_barrier, last_call}
use Rattle.mpd_model.specs.steps.Next.{waits, writes_of, held_in, going_on, released, is_blocked, is_at_barrier, can_release}
use Rattle.mpd_model.specs.steps.Why.{or_else}
use Rattle.mpd_outcomes.specs.Future.{quieted, live_vars, overwritten, blanked, open_call, still_asked, Seen, seen}
use Rattle.mpd_meaning.proofs.moving.Sets.{partner_more, else_none, partner_by}
use Rattle.mpd_meaning.proofs.moving.Moves.{paired}
use Rattle.mpd_outcomes.proofs.Alike.{IsHeld, Due, Alike, Tidy, is_send}
use Rattle.mpd_outcomes.proofs.Asked.{open_is, asks_alike, eligible_alike}
use Rattle.mpd_outcomes.proofs.Comes.{read_map}

-- ---- what is seen of a call with a partner

abbrev seen_by : (CallId → Option CallKind) → Option CallId → CallId → Seen
seen_by kinds partner_is c = record { kind = still_asked (is_some partner_is) (kinds c); paired = is_some partner_is; writes = writes_of (kinds c) (option_and_then (λ d. message_of d (kinds d)) partner_is) }

and_false : (a : Bool) → (a && false) ≡ false
and_false true = refl
and_false false = refl

open_by : (o : Option Call) (p q : Option CallId)
    → cond (is_message_kind (kind_of o) && is_none (or_else p q)) o None ≡ cond (is_none q) (cond (is_message_kind (kind_of o) && is_none p) o None) None
open_by o None None = refl
open_by o (Some d) None = refl
open_by o None (Some e) = ap (λ (b : Bool). cond b o None) (and_false (is_message_kind (kind_of o)))
open_by o (Some d) (Some e) = ap (λ (b : Bool). cond b o None) (and_false (is_message_kind (kind_of o)))

open_paired : (w : World) (s r c : CallId) → open_call (paired w s r).board c ≡ cond (is_none (partner (Pair s r ∷ []) c)) (open_call w.board c) None
open_paired w s r c =
    (λ j. cond (is_message_kind (kind_at w.board c) && is_none (partner_more w.board.sets (Pair s r ∷ []) c j)) (call_at w.board c) None)
    ∙ open_by (call_at w.board c) (partner w.board.sets c) (partner (Pair s r ∷ []) c)

none_is : {A : Type 0} (o : Option A) → is_none o ≡ true → o ≡ None
none_is None e = refl
none_is (Some x) e = absurd (cc)

free_unpaired : (b : Board) (c : CallId) → is_free b c ≡ true → partner b.sets c ≡ None
free_unpaired b c e = none_is (partner b.sets c) (and_parts (is_message_kind (kind_at b c)) _ e).1

free_known : (b : Board) (c : CallId) → is_free b c ≡ true → is_some (kind_at b c) ≡ true
free_known b c e = by_kind (kind_at b c) (and_parts (is_message_kind (kind_at b c)) _ e).0
  where
    by_kind : (k : Option CallKind) → is_message_kind k ≡ true → is_some k ≡ true
    by_kind None f = cc
    by_kind (Some k) f = refl

-- whom a pair names
named : (s r c d : CallId) → partner (Pair s r ∷ []) c ≡ Some d → ((s ≡ c) × (r ≡ d)) ⊎ ((r ≡ c) × (s ≡ d))
named s r c d e = by_test (id_eq s c) (id_eq r c) refl refl e
  where
    by_test : (x y : Bool) → id_eq s c ≡ x → id_eq r c ≡ y → partner_by x y s r None ≡ Some d → ((s ≡ c) × (r ≡ d)) ⊎ ((r ≡ c) × (s ≡ d))
    by_test true y ex ey f = inl (same_id s c ex, cc)
    by_test false true ex ey f = inr (same_id r c ey, cc)
    by_test false false ex ey f = absurd (cc)

sends : (k : Option CallKind) (q : ℕ) → sends_to k q ≡ true → is_send k ≡ true
sends (Some (Send s)) q e = refl
sends k q e = absurd (cc)

no_both : (k : Option CallKind) → is_send k ≡ true → receives k ≡ true → ⊥
no_both (Some (Send s)) e f = cc
no_both k e f = cc

pub paired_tidy : (w : World) (s r : CallId) → Tidy w → eligible w.board s r ≡ true → Tidy (paired w s r)
paired_tidy w s r tidy e = record {
  typed = λ c d is k. by_type (partner w.board.sets c) c d refl (sym (partner_more w.board.sets (Pair s r ∷ []) c) ∙ is) k;
  known = λ c d is. by_partner (partner w.board.sets c) c d refl (sym (partner_more w.board.sets (Pair s r ∷ []) c) ∙ is);
  held = tidy.held;
  sized = tidy.sized;
}
  where
    sender : is_send (kind_at w.board s) ≡ true
    sender = sends (kind_at w.board s) r.rank (fitting_send (kind_at w.board s) (kind_at w.board r) s.rank r.rank (agrees w.board s r e).fit).0

    by_type : (o : Option CallId) (c d : CallId) → partner w.board.sets c ≡ o → or_else (partner w.board.sets c) (partner (Pair s r ∷ []) c) ≡ Some d
        → receives (kind_at w.board c) ≡ true → is_send (kind_at w.board d) ≡ true
    by_type (Some z) c d at f k = tidy.typed c d (at ∙ sym (ap (λ (o : Option CallId). or_else o (partner (Pair s r ∷ []) c)) at) ∙ f) k
    by_type None c d at f k =
        elim (named s r c d (sym (ap (λ (o : Option CallId). or_else o (partner (Pair s r ∷ []) c)) at) ∙ f)) [
          | inl n ↦ absurd (no_both (kind_at w.board c) (ap (λ (x : CallId). is_send (kind_at w.board x)) (sym n.0) ∙ sender) k)
          | inr n ↦ ap (λ (x : CallId). is_send (kind_at w.board x)) (sym n.1) ∙ sender
        ]

    by_partner : (o : Option CallId) (c d : CallId) → partner w.board.sets c ≡ o → or_else (partner w.board.sets c) (partner (Pair s r ∷ []) c) ≡ Some d
        → (is_some (kind_at w.board c) ≡ true) × (is_some (kind_at w.board d) ≡ true)
    by_partner (Some z) c d at f = tidy.known c d (at ∙ sym (ap (λ (o : Option CallId). or_else o (partner (Pair s r ∷ []) c)) at) ∙ f)
    by_partner None c d at f =
        let send : is_some (kind_at w.board s) ≡ true = free_known w.board s (agrees w.board s r e).send_free in
        let recv : is_some (kind_at w.board r) ≡ true = free_known w.board r (agrees w.board s r e).recv_free in
        elim (named s r c d (sym (ap (λ (o : Option CallId). or_else o (partner (Pair s r ∷ []) c)) at) ∙ f)) [
          | inl n ↦ (ap (λ (x : CallId). is_some (kind_at w.board x)) (sym n.0) ∙ send, ap (λ (x : CallId). is_some (kind_at w.board x)) (sym n.1) ∙ recv)
          | inr n ↦ (ap (λ (x : CallId). is_some (kind_at w.board x)) (sym n.0) ∙ recv, ap (λ (x : CallId). is_some (kind_at w.board x)) (sym n.1) ∙ send)
        ]

module _ (w v : World) (h : Alike w v) (s r : CallId) (e : eligible w.board s r ≡ true) where
  there : eligible v.board s r ≡ true
  there = sym (eligible_alike w v h s r) ∙ e

  send_same : kind_at w.board s ≡ kind_at v.board s
  send_same = sym (open_is w.board s (agrees w.board s r e).send_free) ∙ asks_alike w v h s ∙ open_is v.board s (agrees v.board s r there).send_free

  recv_same : kind_at w.board r ≡ kind_at v.board r
  recv_same = sym (open_is w.board r (agrees w.board s r e).recv_free) ∙ asks_alike w v h r ∙ open_is v.board r (agrees v.board s r there).recv_free

  -- of a call of the pair
  seen_named : (b : Board) (c d : CallId) → partner b.sets c ≡ None → partner (Pair s r ∷ []) c ≡ Some d
      → seen (record { mode = b.mode; calls = b.calls; sets = b.sets ++ Pair s r ∷ [] }) c ≡ seen_by (kind_at b) (Some d) c
  seen_named b c d free is = λ j. seen_by (kind_at b) ((partner_more b.sets (Pair s r ∷ []) c ∙ ap (λ (o : Option CallId). or_else o (partner (Pair s r ∷ []) c)) free ∙ is) j) c

  pair_seen : (c d : CallId) → kind_at w.board c ≡ kind_at v.board c → kind_at w.board d ≡ kind_at v.board d → seen_by (kind_at w.board) (Some d) c ≡ seen_by (kind_at v.board) (Some d) c
  pair_seen c d at_c at_d = λ j. record { kind = still_asked true (at_c j); paired = true; writes = writes_of (at_c j) (message_of d (at_d j)) }

  both_named : (c d : CallId) → partner (Pair s r ∷ []) c ≡ Some d → seen (paired w s r).board c ≡ seen (paired v s r).board c
  both_named c d is =
      elim (named s r c d is) [
        | inl n ↦
            seen_named w.board c d (ap (partner w.board.sets) (sym n.0) ∙ free_unpaired w.board s (agrees w.board s r e).send_free) is
            ∙ pair_seen c d (subst (λ (x : CallId). kind_at w.board x ≡ kind_at v.board x) n.0 send_same) (subst (λ (x : CallId). kind_at w.board x ≡ kind_at v.board x) n.1 recv_same)
            ∙ sym (seen_named v.board c d (ap (partner v.board.sets) (sym n.0) ∙ free_unpaired v.board s (agrees v.board s r there).send_free) is)
        | inr n ↦
            seen_named w.board c d (ap (partner w.board.sets) (sym n.0) ∙ free_unpaired w.board r (agrees w.board s r e).recv_free) is
            ∙ pair_seen c d (subst (λ (x : CallId). kind_at w.board x ≡ kind_at v.board x) n.0 recv_same) (subst (λ (x : CallId). kind_at w.board x ≡ kind_at v.board x) n.1 send_same)
            ∙ sym (seen_named v.board c d (ap (partner v.board.sets) (sym n.0) ∙ free_unpaired v.board r (agrees v.board s r there).recv_free) is)
      ]

  seen_unnamed : (b : Board) (c : CallId) → partner (Pair s r ∷ []) c ≡ None → seen (record { mode = b.mode; calls = b.calls; sets = b.sets ++ Pair s r ∷ [] }) c ≡ seen b c
  seen_unnamed b c is = λ j. seen_by (kind_at b) ((partner_more b.sets (Pair s r ∷ []) c ∙ ap (or_else (partner b.sets c)) is ∙ else_none (partner b.sets c)) j) c

  due_paired : (c : CallId) (q : Option CallId) → partner (Pair s r ∷ []) c ≡ q → Due w c → seen (paired w s r).board c ≡ seen (paired v s r).board c
  due_paired c None is d = seen_unnamed w.board c is ∙ h.due c d ∙ sym (seen_unnamed v.board c is)
  due_paired c (Some z) is d = both_named c z is

  pub paired_alike : Alike (paired w s r) (paired v s r)
  paired_alike = record {
    ranks = h.ranks;
    size = h.size;
    mode = h.mode;
    many = h.many;
    counts = h.counts;
    opens = λ c. open_paired w s r c ∙ ap (λ (o : Option Call). cond (is_none (partner (Pair s r ∷ []) c)) o None) (h.opens c) ∙ sym (open_paired v s r c);
    due = λ c d. due_paired c (partner (Pair s r ∷ []) c) refl d;
    stands = h.stands;
  }

-- ---- a release

released_partner : (w : World) (c : CallId) → partner (released w).board.sets c ≡ partner w.board.sets c
released_partner w c = partner_more w.board.sets (set.Barrier ∷ []) c ∙ else_none (partner w.board.sets c)

released_held : (w : World) (c : CallId) → IsHeld (released w) c → IsHeld w c
released_held w c k = (k.0, by_rank (slice_get w.ranks c.rank) (sym (ap (λ (x : Option RankWorld). held_in c.rank x (Some k.0)) (read_map going_on w.ranks c.rank)) ∙ k.1))
  where
    by_rank : (x : Option RankWorld) → held_in c.rank (option_map going_on x) (Some k.0) ≡ Some c → held_in c.rank x (Some k.0) ≡ Some c
    by_rank None e = e
    by_rank (Some r) e = e

none_waits : (x : Option RankWorld) → waits (option_map going_on x) ≡ true → ⊥
none_waits None e = cc
none_waits (Some r) e = cc

released_due : (w : World) (c : CallId) → Due (released w) c → Due w c
released_due w c (inl k) = inl (released_held w c k)
released_due w c (inr k) = absurd (none_waits (slice_get w.ranks c.rank) (sym (ap waits (read_map going_on w.ranks c.rank)) ∙ k.0))

released_seen : (w : World) (c : CallId) → seen (released w).board c ≡ seen w.board c
released_seen w c = λ j. seen_by (kind_at w.board) (released_partner w c j) c

released_open : (w : World) (c : CallId) → open_call (released w).board c ≡ open_call w.board c
released_open w c = λ j. cond (is_message_kind (kind_at w.board c) && is_none (released_partner w c j)) (call_at w.board c) None

no_receive : (k : Option CallKind) → is_barrier k ≡ true → overwritten k ≡ []
no_receive (Some (Recv r)) e = absurd (cc)
no_receive k e = refl

-- a rank that is blocked on what writes nothing reads what it read
freed : (c d : List ℕ) (a : Activity) (rest : List (ℕ × Tree)) (vars : List ℤ) → is_blocked a ≡ true → c ≡ [] → live_vars c a rest vars ≡ live_vars d Running rest vars
freed c d Blocked [] vars e f = refl
freed c d Blocked (t ∷ ts) vars e f = ap (λ (l : List ℕ). blanked l vars) f
freed c d Running rest vars e f = absurd (cc)
freed c d (Trapped t) rest vars e f = absurd (cc)

module _ (w : World) (can : can_release w ≡ true) where
  at_barrier : (q : ℕ) (r : RankWorld) → slice_get w.ranks q ≡ Some r → (is_blocked r.activity ≡ true) × (is_barrier (kind_at w.board (last_call w.board q)) ≡ true)
  at_barrier q r e =
      let lt = slice_get_within w.ranks q r e in
      let all = (and_parts (nat_lt 0 (length w.ranks)) _ can).1 in
      let one = and_parts (waits (slice_get w.ranks q)) _ (one_of_all (is_at_barrier w) 0 (length w.ranks) q all (omega arith) (omega (arith, lt))) in
      (sym (ap waits e) ∙ one.0, one.1)

  freed_rank : (q : ℕ) (x : Option RankWorld) → slice_get w.ranks q ≡ x → option_map going_on (option_map (quieted w.board q) x) ≡ option_map (quieted (released w).board q) (option_map going_on x)
  freed_rank q None e = refl
  freed_rank q (Some r) e =
      let at = at_barrier q r e in
      λ j. Some (record {
        rest = r.rest;
        vars = freed (overwritten (kind_at w.board (last_call w.board q))) (overwritten (kind_at w.board (last_call w.board q))) r.activity r.rest r.vars at.0 (no_receive (kind_at w.board (last_call w.board q)) at.1) j;
        handles = r.handles;
        out = [];
        activity = Running;
      })

pub released_tidy : (w : World) → Tidy w → Tidy (released w)
released_tidy w tidy = record {
  typed = λ c d e k. tidy.typed c d (sym (released_partner w c) ∙ e) k;
  known = λ c d e. tidy.known c d (sym (released_partner w c) ∙ e);
  held = λ c k. tidy.held c (released_held w c k);
  sized = length-map w.ranks going_on ∙ tidy.sized;
}

pub released_alike : (w v : World) → Alike w v → can_release w ≡ true → can_release v ≡ true → Alike (released w) (released v)
released_alike w v h can_w can_v = record {
  ranks = λ q.
      ap (option_map (quieted (released w).board q)) (read_map going_on w.ranks q)
      ∙ sym (freed_rank w can_w q (slice_get w.ranks q) refl)
      ∙ ap (option_map going_on) (h.ranks q)
      ∙ freed_rank v can_v q (slice_get v.ranks q) refl
      ∙ sym (ap (option_map (quieted (released v).board q)) (read_map going_on v.ranks q));
  size = length-map w.ranks going_on ∙ h.size ∙ sym (length-map v.ranks going_on);
  mode = h.mode;
  many = h.many;
  counts = h.counts;
  opens = λ c. released_open w c ∙ h.opens c ∙ sym (released_open v c);
  due = λ c d. released_seen w c ∙ h.due c (released_due w c d) ∙ sym (released_seen v c);
  stands = λ q e. absurd (none_waits (slice_get w.ranks q) (sym (ap waits (read_map going_on w.ranks q)) ∙ e));
}
