-- What every world of a run keeps, so that calls complete in order.
use Rattle.std.proofs.Common.{◌≡◌, ◌⊎◌, ℕ, suc, ◌<◌, Bool, true, false, cond, not, ◌&&◌, ◌||◌, ◌==◌, ◌+◌, Option, Some, None, is_some, List, length, slice_get, inl, inr, refl, sym, ap, subst, ◌∙◌, arith, eq-eqb}
use Rattle.std.proofs.lemmas.Bool.{eqb-true, and_parts, or_cases}
use Rattle.std.specs.Cmp.Derive.{both_true}
use Rattle.std.specs.List.{list_any}
use Rattle.mpd_model.specs.declared.step.CallId.{CallId}
use Rattle.mpd_model.specs.declared.call.CallKind.{CallKind}
use Rattle.mpd_model.specs.declared.call.CallKind.TheVariants.{Send, Recv}
use Rattle.mpd_model.specs.declared.call.MatchSet.{MatchSet}
use Rattle.mpd_model.specs.declared.call.MatchSet.TheVariants.{Pair, Woke}
use Rattle.mpd_model.specs.declared.call.MatchSet.TheVariants as set
use Rattle.mpd_model.specs.declared.call.Mode.{Mode}
use Rattle.mpd_model.specs.declared.call.Mode.TheVariants.{Rendezvous, Buffered, Slots}
use Rattle.mpd_model.specs.steps.World.{World, Board, RankWorld, call_id, id_eq, calls_of, kind_at, partner, is_done, is_any_or, fitting, eligible, is_message_kind}
use Rattle.mpd_model.specs.steps.Next.{waits, is_at_barrier, with_set}
use Rattle.mpd_model.specs.steps.Order.{covers_number, matches_first, waits_for, blocks_rank, barriers, releases, WentOn, Ordered}
use Rattle.mpd_laws.proofs.ordered.Eligible.{agrees, earlier_send_paired, earlier_recv_paired, message_known}
use Rattle.mpd_laws.proofs.ordered.Splits.{end_or_before}

-- ---- the invariant

-- a match set that names a call by its number
abbrev pub mentions : MatchSet → CallId → Bool
mentions (Pair s r) c = id_eq s c || id_eq r c
mentions (Woke d) c = id_eq d c
mentions set.Barrier c = false

abbrev pub is_named : List MatchSet → CallId → Bool
is_named sets c = list_any (λ m. mentions m c) sets

-- how many barriers a rank is blocked on: one or none
abbrev pub held : World → ℕ → ℕ
held w p = cond (is_at_barrier w p) 1 0

-- a call that its rank is blocked on: no later call was issued
pub record IsAwaited (w : World) (x : CallId) : Type 0 where
  pub last : length (calls_of w.board x.rank) ≡ suc x.index
  pub blocked : waits (slice_get w.ranks x.rank) ≡ true

-- what the mode makes of whether a standard send is buffered: a mode with slots leaves it as it is
abbrev pub may_be : Mode → Bool → Bool
may_be Rendezvous buffered = false
may_be Buffered buffered = true
may_be (Slots count) buffered = buffered

-- a standard send is allowed_buffer as the mode allows, and a synchronous one never is buffered
abbrev pub HasAllowedBuffer : Mode → Option CallKind → Type 0
HasAllowedBuffer mode (Some (Send s)) = s.buffered ≡ (may_be mode s.buffered && not s.synchronous)
HasAllowedBuffer mode kind = Unit {0}

-- Match sets name calls that were issued; a rank went on from each blocking call, or is blocked on it; each rank has issued a
-- barrier for each release, and one more where it is blocked on that; calls are in order; each send is buffered as the mode allows.
pub record Orderly (w : World) : Type 0 where
  pub named : (c : CallId) → is_named w.board.sets c ≡ true → is_some (kind_at w.board c) ≡ true
  pub went_on : (x : CallId) → blocks_rank (kind_at w.board x) ≡ true → WentOn w.board w.board.sets x ⊎ IsAwaited w x
  pub released : (p : ℕ) (r : RankWorld) → slice_get w.ranks p ≡ Some r → barriers (calls_of w.board p) ≡ releases w.board.sets + held w p
  pub ordered : (p i j : ℕ) → i < j → is_some (kind_at w.board (call_id p j)) ≡ true → Ordered w.board (call_id p i) (call_id p j)
  pub allowed_buffer : (c : CallId) → HasAllowedBuffer w.board.mode (kind_at w.board c)

pub waiting : (o : Option RankWorld) → waits o ≡ true → (r : RankWorld) × (o ≡ Some r)
waiting None e = absurd (cc)
waiting (Some r) e = (r, refl)

-- a rank that issued a later call went on
pub passed : (w : World) → Orderly w → (p i j : ℕ) → i < j → j < length (calls_of w.board p) → blocks_rank (kind_at w.board (call_id p i)) ≡ true → WentOn w.board w.board.sets (call_id p i)
passed w h p i j lt within blocking =
    elim (h.went_on (call_id p i) blocking) [
      | inl done ↦ done
      | inr here ↦ let last = here.last in absurd (omega (arith, last))
    ]

-- ---- calls that are the same

pub id_same : (c : CallId) → id_eq c c ≡ true
id_same c = both_true (eq-eqb c.rank c.rank refl) (eq-eqb c.index c.index refl)

pub same_id : (c d : CallId) → id_eq c d ≡ true → c ≡ d
same_id c d e =
    let parts = and_parts (c.rank == d.rank) _ e in
    λ i. record { rank = eqb-true c.rank d.rank parts.0 i; index = eqb-true c.index d.index parts.1 i }

-- ---- kinds that match first

covers_any : (m n : Option ℕ) (k : ℕ) → covers_number m n ≡ true → is_any_or n k ≡ true → is_any_or m k ≡ true
covers_any None n k e f = refl
covers_any (Some m) None k e f = absurd (cc)
covers_any (Some m) (Some n) k e f = ap (λ (z : ℕ). z == k) (eqb-true m n e) ∙ f

first_send_fits : (x y r : Option CallKind) (p q : ℕ) → matches_first x y ≡ true → fitting y r p q ≡ true → fitting x r p q ≡ true
first_send_fits (Some (Send a)) (Some (Send b)) (Some (Recv r)) p q e f =
    let parts = and_parts (a.to == b.to) _ e in
    let to : a.to ≡ b.to = eqb-true a.to b.to parts.0 in
    let tag : a.tag ≡ b.tag = eqb-true a.tag b.tag parts.1 in
    (λ i. (to i == q) && (is_any_or r.from p && is_any_or r.tag (tag i))) ∙ f
first_send_fits (Some (Recv a)) (Some (Recv b)) r p q e f = cc
first_send_fits x y r p q e f = cc

first_recv_fits : (s x y : Option CallKind) (p q : ℕ) → matches_first x y ≡ true → fitting s y p q ≡ true → fitting s x p q ≡ true
first_recv_fits (Some (Send s)) (Some (Recv a)) (Some (Recv b)) p q e f =
    let covered = and_parts (covers_number a.from b.from) _ e in
    let first = and_parts (s.to == q) _ f in
    let second = and_parts (is_any_or b.from p) _ first.1 in
    (λ i. first.0 i && (covers_any a.from b.from p covered.0 second.0 i && covers_any a.tag b.tag s.tag covered.1 second.1 i))
first_recv_fits (Some (Send s)) (Some (Send a)) (Some (Send b)) p q e f = cc
first_recv_fits s x y p q e f = cc

-- ---- what a match set has to show, so that it may join

-- its calls were issued; what matches first before a call that it pairs is paired; what it shows a wait's rank to go on from is done
pub record MayJoin (b : Board) (n : MatchSet) : Type 0 where
  pub named : (c : CallId) → mentions n c ≡ true → is_some (kind_at b c) ≡ true
  pub paired : (p i j : ℕ) (s r : CallId) → i < j → n ≡ Pair s r → mentions (Pair s r) (call_id p j) ≡ true → matches_first (kind_at b (call_id p i)) (kind_at b (call_id p j)) ≡ true
      → is_some (partner b.sets (call_id p i)) ≡ true
  pub done : (p i j : ℕ) → n ≡ Woke (call_id p j) → waits_for (kind_at b (call_id p j)) i ≡ true → is_done b (call_id p i) ≡ true

-- what was formed behind doesn't matter
pub went_more : (b : Board) (n : MatchSet) (sets : List MatchSet) (x : CallId) → WentOn b sets x → WentOn (with_set b n) sets x
went_more b n sets x h = record { front = h.front; by = h.by; behind = h.behind; cut = h.cut; exit = h.exit }

pub order_more : (b : Board) (n : MatchSet) → MayJoin b n → (p i j : ℕ) → i < j
    → (blocks_rank (kind_at b (call_id p i)) ≡ true → WentOn b b.sets (call_id p i))
    → Ordered b (call_id p i) (call_id p j) → Ordered (with_set b n) (call_id p i) (call_id p j)
order_more b n may p i j lt went old = record {
  matched = λ first front behind s r e named. elim (end_or_before b.sets n front (Pair s r) behind e) [
    | inl at ↦ ap (λ (sets : List MatchSet). is_some (partner sets (call_id p i))) at.0 ∙ may.paired p i j s r lt at.1 named first
    | inr cut ↦ old.matched first front cut.0 s r cut.1 named
  ];
  waited = λ awaits front behind e. elim (end_or_before b.sets n front (Woke (call_id p j)) behind e) [
    | inl at ↦ ap (λ (sets : List MatchSet). is_done (record b { sets = sets }) (call_id p i)) at.0 ∙ may.done p i j at.1 awaits
    | inr cut ↦ old.waited awaits front cut.0 cut.1
  ];
  went_on = λ blocking front behind m e named. elim (end_or_before b.sets n front m behind e) [
    | inl at ↦ went_more b n front (call_id p i) (subst (λ (sets : List MatchSet). WentOn b sets (call_id p i)) (sym at.0) (went blocking))
    | inr cut ↦ went_more b n front (call_id p i) (old.went_on blocking front cut.0 m cut.1 named)
  ];
}

-- ---- a pair

pair_paired : (b : Board) (s r : CallId) → eligible b s r ≡ true → (p i j : ℕ) → i < j → mentions (Pair s r) (call_id p j) ≡ true → matches_first (kind_at b (call_id p i)) (kind_at b (call_id p j)) ≡ true
    → is_some (partner b.sets (call_id p i)) ≡ true
pair_paired b s r e p i j lt named first =
    elim (or_cases (id_eq s (call_id p j)) (id_eq r (call_id p j)) named) [
      | inl h ↦
          let as_send : eligible b (call_id p j) r ≡ true = ap (λ (c : CallId). eligible b c r) (sym (same_id s (call_id p j) h)) ∙ e in
          earlier_send_paired b p i j r as_send lt (first_send_fits (kind_at b (call_id p i)) (kind_at b (call_id p j)) (kind_at b r) p r.rank first (agrees b (call_id p j) r as_send).fit)
      | inr h ↦
          let as_recv : eligible b s (call_id p j) ≡ true = ap (λ (c : CallId). eligible b s c) (sym (same_id r (call_id p j) h)) ∙ e in
          earlier_recv_paired b s p i j as_recv lt (first_recv_fits (kind_at b s) (kind_at b (call_id p i)) (kind_at b (call_id p j)) s.rank p first (agrees b s (call_id p j) as_recv).fit)
    ]

pair_named : (b : Board) (s r : CallId) → eligible b s r ≡ true → (c : CallId) → mentions (Pair s r) c ≡ true → is_some (kind_at b c) ≡ true
pair_named b s r e c named =
    let parts = agrees b s r e in
    elim (or_cases (id_eq s c) (id_eq r c) named) [
      | inl h ↦ ap (λ (d : CallId). is_some (kind_at b d)) (sym (same_id s c h)) ∙ message_known _ (and_parts (is_message_kind (kind_at b s)) _ parts.send_free).0
      | inr h ↦ ap (λ (d : CallId). is_some (kind_at b d)) (sym (same_id r c h)) ∙ message_known _ (and_parts (is_message_kind (kind_at b r)) _ parts.recv_free).0
    ]

pub pair_may_join : (b : Board) (s r : CallId) → eligible b s r ≡ true → MayJoin b (Pair s r)
pair_may_join b s r e = record {
  named = pair_named b s r e;
  paired = λ p i j u v lt is named first. pair_paired b s r e p i j lt (ap (λ m. mentions m (call_id p j)) is ∙ named) first;
  done = λ p i j is awaits. absurd (cc);
}
