-- A local step and a wake, by a waitany or not, in one form: one rank is written, it may issue a call, and a wake may be formed. What that leaves as it was.
use Rattle.std.proofs.Common.{◌≡◌, ◌≢◌, ℕ, ℤ, ◌-◌, Bool, true, ◌&&◌, ◌||◌, not, Option, Some, None, is_some, option_and_then, List, [], ◌∷◌, ◌++◌, length, slice_get, slice_set, inl, inr, refl, sym, ap, subst, ◌∙◌}
use Rattle.std.specs.Prelude.{slice_index_or}
use Rattle.std.proofs.lemmas.Bool.Decides.{eqb_tells}
use Rattle.std.proofs.lemmas.List.{length-set, set_comm}
use Rattle.std.specs.Option.{option_map}
use Rattle.mpd_model.specs.declared.step.CallId.{CallId}
use Rattle.mpd_model.specs.declared.step.Step.TheVariants.{Local, Wake, WakeAny}
use Rattle.mpd_model.specs.declared.call.Call.{Call}
use Rattle.mpd_model.specs.declared.call.CallKind.{CallKind}
use Rattle.mpd_model.specs.declared.call.CallKind.TheVariants.{Wait, Waitany}
use Rattle.mpd_model.specs.declared.call.MatchSet.{MatchSet}
use Rattle.mpd_model.specs.declared.call.MatchSet.TheVariants.{Pair, Woke}
use Rattle.mpd_model.specs.steps.World.{World, Board, RankWorld, call_id, listed_calls, calls_of, kind_of, kind_at, partner, is_buffered, is_done, slots_used, message_of, awaited_by, awaited, complete_by, has_own_step, complete, last_call}
use Rattle.mpd_model.specs.steps.Next.{Ran, local, local_at, stepped, buffers_one, has_buffer, buffered_by, entered, with_issued, with_set, waits, can_wake, writes_of, writes_by, cleared_by, own_writes, put_at, woken_rank, wake_writes, wake_clears, woken_by, woken, request_handle, index_writes, held_in, any_handle, any_call, is_complete_some, can_wake_any, any_writes, woken_any, next}
use Rattle.mpd_meaning.specs.Same.{SameSets, Same}
use Rattle.mpd_meaning.proofs.moving.Sets.{partner_more, else_none, sets_refl, sets_swapped, woke_disjoint}
use Rattle.mpd_laws.proofs.ordered.Splits.{others_kept, read_written, same_or_end}
use Rattle.mpd_meaning.proofs.moving.Worlds.{taken, with_sets, used_by}

abbrev pub issued_calls : List (List Call) → ℕ → Option Call → List (List Call)
issued_calls calls p None = calls
issued_calls calls p (Some c) = slice_set calls p (listed_calls (slice_get calls p) ++ c ∷ [])

abbrev pub formed : List MatchSet → Option CallId → List MatchSet
formed sets None = sets
formed sets (Some d) = sets ++ Woke d ∷ []

abbrev pub moved : World → ℕ → RankWorld → Option Call → Option CallId → World
moved w p r o m = record { ranks = slice_set w.ranks p r; board = record { mode = w.board.mode; calls = issued_calls w.board.calls p o; sets = formed w.board.sets m } }

-- a pair joins
abbrev pub paired : World → CallId → CallId → World
paired w s t = with_sets w (w.board.sets ++ Pair s t ∷ [])

-- what a rank issues, as it joins the board
abbrev pub joining : Board → ℕ → Option Call → Option Call
joining b p o = option_map (λ c. entered b p c) o

issued_is : (b : Board) (p : ℕ) (o : Option Call) → with_issued b p o ≡ record { mode = b.mode; calls = issued_calls b.calls p (joining b p o); sets = b.sets }
issued_is b p None = refl
issued_is b p (Some c) = refl

pub stepped_is : (w : World) (p : ℕ) (x : Ran) → stepped w p x ≡ moved w p x.rank (joining w.board p x.call) None
stepped_is w p x = λ i. record { ranks = slice_set w.ranks p x.rank; board = issued_is w.board p x.call i }

pub woken_is : (w : World) (p : ℕ) (writes : List (ℕ × ℤ)) (handle : Option ℕ) (r : RankWorld) → slice_get w.ranks p ≡ Some r
    → woken_by w p writes handle ≡ moved w p (woken_rank writes handle r) None (Some (last_call w.board p))
woken_is w p writes handle r e = λ i. record { ranks = put_at w.ranks p (e i) (woken_rank writes handle); board = with_set w.board (Woke (last_call w.board p)) }

-- the rank that a wake leaves, and the one that a waitany's request leaves
abbrev pub awake : World → ℕ → RankWorld → RankWorld
awake w p r = woken_rank (wake_writes w.board p) (wake_clears w.board p) r

abbrev pub awake_any : World → ℕ → ℕ → RankWorld → RankWorld
awake_any w p i r = woken_rank (any_writes w p i) (any_handle w p i) r

-- ---- what stays

pub calls_elsewhere : (calls : List (List Call)) (p q : ℕ) (o : Option Call) → q ≢ p → slice_get (issued_calls calls p o) q ≡ slice_get calls q
calls_elsewhere calls p q None ne = refl
calls_elsewhere calls p q (Some c) ne = others_kept calls p q (listed_calls (slice_get calls p) ++ c ∷ []) ne

kind_elsewhere : (w : World) (p : ℕ) (r : RankWorld) (o : Option Call) (m : Option CallId) (c : CallId) → c.rank ≢ p → kind_at (moved w p r o m).board c ≡ kind_at w.board c
kind_elsewhere w p r o m c ne = ap (λ (l : Option (List Call)). kind_of (slice_get (listed_calls l) c.index)) (calls_elsewhere w.board.calls p c.rank o ne)

unknown : (o : Option Call) → o ≡ None → is_some (kind_of o) ≡ true → ⊥
unknown None e f = cc
unknown (Some c) e f = cc

kept_more : (ls : List Call) (d : Call) (i : ℕ) → is_some (kind_of (slice_get ls i)) ≡ true → kind_of (slice_get (ls ++ d ∷ []) i) ≡ kind_of (slice_get ls i)
kept_more ls d i known =
    elim (same_or_end ls d i) [
      | inl h ↦ ap kind_of h.here
      | inr h ↦ absurd (unknown (slice_get ls i) h.before known)
    ]

kept_here : (calls : List (List Call)) (p i : ℕ) (o : Option Call) (l : Option (List Call)) → slice_get calls p ≡ l → is_some (kind_of (slice_get (listed_calls l) i)) ≡ true
    → kind_of (slice_get (listed_calls (slice_get (issued_calls calls p o) p)) i) ≡ kind_of (slice_get (listed_calls l) i)
kept_here calls p i None l e known = ap (λ (z : Option (List Call)). kind_of (slice_get (listed_calls z) i)) e
kept_here calls p i (Some d) None e known = absurd (cc)
kept_here calls p i (Some d) (Some ls) e known =
    ap (λ (z : Option (List Call)). kind_of (slice_get (listed_calls z) i)) (read_written calls p ls (listed_calls (slice_get calls p) ++ d ∷ []) e)
    ∙ ap (λ (z : Option (List Call)). kind_of (slice_get (listed_calls z ++ d ∷ []) i)) e
    ∙ kept_more ls d i known

-- a call that was issued is what it was
pub kind_kept : (w : World) (p : ℕ) (r : RankWorld) (o : Option Call) (m : Option CallId) (c : CallId) → is_some (kind_at w.board c) ≡ true → kind_at (moved w p r o m).board c ≡ kind_at w.board c
kind_kept w p r o m c known =
    elim (eqb_tells c.rank p) [
      | inl at ↦
          subst (λ (q : ℕ). is_some (kind_at w.board (call_id q c.index)) ≡ true → kind_at (moved w p r o m).board (call_id q c.index) ≡ kind_at w.board (call_id q c.index)) (sym at.1)
          (λ here. kept_here w.board.calls p c.index o (slice_get w.board.calls p) refl here) known
      | inr off ↦ kind_elsewhere w p r o m c off.1
    ]

pub partner_formed : (sets : List MatchSet) (m : Option CallId) (c : CallId) → partner (formed sets m) c ≡ partner sets c
partner_formed sets None c = refl
partner_formed sets (Some d) c = partner_more sets (Woke d ∷ []) c ∙ else_none (partner sets c)

-- ---- what a rank issues beside a step of another one, which changes none of its slots

pub slots_elsewhere : (w : World) (p : ℕ) (r : RankWorld) (o : Option Call) (m : Option CallId) (q : ℕ) → q ≢ p → slots_used (moved w p r o m).board q ≡ slots_used w.board q
slots_elsewhere w p r o m q ne = λ i. used_by (listed_calls (calls_elsewhere w.board.calls p q o ne i)) (λ c. partner_formed w.board.sets m c i) q

buffer_elsewhere : (w : World) (p : ℕ) (r : RankWorld) (o : Option Call) (m : Option CallId) (q : ℕ) → q ≢ p → has_buffer (moved w p r o m).board q ≡ has_buffer w.board q
buffer_elsewhere w p r o m q ne = ap (buffers_one w.board.mode) (slots_elsewhere w p r o m q ne)

abbrev entering : Bool → Call → Call
entering room c = record c { kind = buffered_by room c.kind }

abbrev pub joining_by : Bool → Option Call → Option Call
joining_by room o = option_map (entering room) o

joining_elsewhere : (w : World) (p : ℕ) (r : RankWorld) (o : Option Call) (m : Option CallId) (q : ℕ) (k : Option Call) → q ≢ p → joining (moved w p r o m).board q k ≡ joining w.board q k
joining_elsewhere w p r o m q k ne = ap (λ (room : Bool). joining_by room k) (buffer_elsewhere w p r o m q ne)

-- ---- a local step of another rank

pub local_elsewhere : (w : World) (p : ℕ) (r : RankWorld) (o : Option Call) (m : Option CallId) (q : ℕ) → q ≢ p → local_at (moved w p r o m) q ≡ local_at w q
local_elsewhere w p r o m q ne =
    λ i. option_and_then (local q (length-set w.ranks p r i) (length (listed_calls (calls_elsewhere w.board.calls p q o ne i)))) (others_kept w.ranks p q r ne i)

pub local_again : (w : World) (p : ℕ) (r : RankWorld) (o : Option Call) (m : Option CallId) (q : ℕ) (y : Ran) → q ≢ p → local_at w q ≡ Some y
    → next (moved w p r o m) (Local q) ≡ Some (moved (moved w p r o m) q y.rank (joining w.board q y.call) None)
local_again w p r o m q y ne e =
    ap (option_map (stepped (moved w p r o m) q)) (local_elsewhere w p r o m q ne ∙ e)
    ∙ ap (λ (v : World). Some v) (stepped_is (moved w p r o m) q y)
    ∙ ap (λ (k : Option Call). Some (moved (moved w p r o m) q y.rank k None)) (joining_elsewhere w p r o m q y.call ne)

-- ---- a wake of another rank

-- the calls that pairs name were issued
abbrev pub Known : Board → Type 0
Known b = (c d : CallId) → partner b.sets c ≡ Some d → is_some (kind_at b d) ≡ true

-- two boards with the same calls of a rank, and the same partners
pub record Beside (b e : Board) (q : ℕ) : Type 0 where
  partners : (c : CallId) → partner e.sets c ≡ partner b.sets c
  kinds : (i : ℕ) → kind_at e (call_id q i) ≡ kind_at b (call_id q i)
  known : (c : CallId) → is_some (kind_at b c) ≡ true → kind_at e c ≡ kind_at b c
  last : length (calls_of e q) ≡ length (calls_of b q)

pub moved_beside : (w : World) (p : ℕ) (r : RankWorld) (o : Option Call) (m : Option CallId) (q : ℕ) → q ≢ p → Beside w.board (moved w p r o m).board q
moved_beside w p r o m q ne = record {
  partners = partner_formed w.board.sets m;
  kinds = λ i. kind_elsewhere w p r o m (call_id q i) ne;
  known = kind_kept w p r o m;
  last = ap (λ (l : Option (List Call)). length (listed_calls l)) (calls_elsewhere w.board.calls p q o ne);
}

done_beside : (b e : Board) (q : ℕ) → Beside b e q → (i : ℕ) → is_done e (call_id q i) ≡ is_done b (call_id q i)
done_beside b e q h i = λ j. is_some (h.partners (call_id q i) j) || is_buffered (h.kinds i j)

complete_beside : (b e : Board) (q : ℕ) → Beside b e q → (i : ℕ) (k : Option CallKind) → complete_by e (awaited_by (call_id q i) k) ≡ complete_by b (awaited_by (call_id q i) k)
complete_beside b e q h i (Some (Wait t)) = target t.target
  where
    target : (o : Option ℕ) → complete_by e (option_map (call_id q) o) ≡ complete_by b (option_map (call_id q) o)
    target None = refl
    target (Some j) = done_beside b e q h j
complete_beside b e q h i (Some (Waitany a)) = refl
complete_beside b e q h i k = done_beside b e q h i

complete_at : (b e : Board) (q : ℕ) → Beside b e q → (i : ℕ) → complete e (call_id q i) ≡ complete b (call_id q i)
complete_at b e q h i =
    ap (λ (k : Option CallKind). not (has_own_step k) && complete_by e (awaited_by (call_id q i) k)) (h.kinds i)
    ∙ ap (λ (t : Bool). not (has_own_step (kind_at b (call_id q i))) && t) (complete_beside b e q h i (kind_at b (call_id q i)))

-- the same of what a handle of the rank holds
held_complete : (b e : Board) (q : ℕ) → Beside b e q → (r : Option RankWorld) (handle : Option ℕ) → is_complete_some e (held_in q r handle) ≡ is_complete_some b (held_in q r handle)
held_complete b e q h (Some r) (Some n) = call (slice_index_or r.handles n None)
  where
    call : (o : Option ℕ) → is_complete_some e (option_map (call_id q) o) ≡ is_complete_some b (option_map (call_id q) o)
    call None = refl
    call (Some j) = complete_at b e q h j
held_complete b e q h r handle = refl

writes_at : (b e : Board) (q : ℕ) → Beside b e q → Known b → (i : ℕ) → writes_by e (Some (call_id q i)) ≡ writes_by b (Some (call_id q i))
writes_at b e q h all i =
    (λ j. writes_of (h.kinds i j) (option_and_then (λ s. message_of s (kind_at e s)) (h.partners (call_id q i) j)))
    ∙ ap (writes_of (kind_at b (call_id q i))) (message (partner b.sets (call_id q i)) refl)
  where
    message : (o : Option CallId) → partner b.sets (call_id q i) ≡ o → option_and_then (λ s. message_of s (kind_at e s)) o ≡ option_and_then (λ s. message_of s (kind_at b s)) o
    message None is = refl
    message (Some s) is = ap (message_of s) (h.known s (all (call_id q i) s is))

writes_beside : (b e : Board) (q : ℕ) → Beside b e q → Known b → (i : ℕ) (k : Option CallKind) → writes_by e (awaited_by (call_id q i) k) ≡ writes_by b (awaited_by (call_id q i) k)
writes_beside b e q h all i (Some (Wait t)) = target t.target
  where
    target : (o : Option ℕ) → writes_by e (option_map (call_id q) o) ≡ writes_by b (option_map (call_id q) o)
    target None = refl
    target (Some j) = writes_at b e q h all j
writes_beside b e q h all i (Some (Waitany a)) = refl
writes_beside b e q h all i k = writes_at b e q h all i

held_writes : (b e : Board) (q : ℕ) → Beside b e q → Known b → (r : Option RankWorld) (handle : Option ℕ) → writes_by e (held_in q r handle) ≡ writes_by b (held_in q r handle)
held_writes b e q h all (Some r) (Some n) = call (slice_index_or r.handles n None)
  where
    call : (o : Option ℕ) → writes_by e (option_map (call_id q) o) ≡ writes_by b (option_map (call_id q) o)
    call None = refl
    call (Some j) = writes_at b e q h all j
held_writes b e q h all r handle = refl

-- the last call of the rank, and its kind
last_beside : (b e : Board) (q : ℕ) → Beside b e q → last_call e q ≡ last_call b q
last_beside b e q h = ap (λ (n : ℕ). call_id q (n - 1)) h.last

pub kind_beside : (b e : Board) (q : ℕ) → Beside b e q → kind_at e (last_call e q) ≡ kind_at b (last_call b q)
kind_beside b e q h = ap (kind_at e) (last_beside b e q h) ∙ h.kinds (length (calls_of b q) - 1)

-- a rank that goes on writes the same there, and clears the same handle
goes_on : (w v : World) (q : ℕ) (writes also : List (ℕ × ℤ)) (handle other : Option ℕ) (s : RankWorld) → slice_get v.ranks q ≡ Some s → writes ≡ also → handle ≡ other → last_call v.board q ≡ last_call w.board q
    → Some (woken_by v q writes handle) ≡ Some (moved v q (woken_rank also other s) None (Some (last_call w.board q)))
goes_on w v q writes also handle other s at e f last =
    ap (λ (z : World). Some z) (woken_is v q writes handle s at) ∙ (λ i. Some (moved v q (woken_rank (e i) (f i) s) None (Some (last i))))

pub wake_again : (w : World) (p : ℕ) (r : RankWorld) (o : Option Call) (m : Option CallId) (q : ℕ) (s : RankWorld) → q ≢ p → Known w.board → slice_get w.ranks q ≡ Some s → can_wake w q ≡ true
    → next (moved w p r o m) (Wake q) ≡ Some (moved (moved w p r o m) q (awake w q s) None (Some (last_call w.board q)))
wake_again w p r o m q s ne all at can =
    let v : World = moved w p r o m in
    let rank = others_kept w.ranks p q r ne in
    let beside = moved_beside w p r o m q ne in
    let last = last_beside w.board v.board q beside in
    let kind = kind_beside w.board v.board q beside in
    let n : ℕ = length (calls_of w.board q) - 1 in
    let same : can_wake v q ≡ can_wake w q =
    (λ i. waits (rank i) && complete v.board (last i)) ∙ ap (λ (t : Bool). waits (slice_get w.ranks q) && t) (complete_at w.board v.board q beside n)
    in
    let writes : writes_by v.board (awaited v.board (last_call v.board q)) ≡ writes_by w.board (awaited w.board (last_call w.board q)) =
    ap (λ (c : CallId). writes_by v.board (awaited v.board c)) last
    ∙ ap (λ (k : Option CallKind). writes_by v.board (awaited_by (call_id q n) k)) (beside.kinds n)
    ∙ writes_beside w.board v.board q beside all n (kind_at w.board (call_id q n))
    in
    taken (can_wake v q) (woken v q) (same ∙ can)
    ∙ goes_on w v q (wake_writes v.board q) (wake_writes w.board q) (wake_clears v.board q) (wake_clears w.board q) s (rank ∙ at) (λ i. writes i ++ own_writes (kind i)) (ap cleared_by kind) last

pub any_again : (w : World) (p : ℕ) (r : RankWorld) (o : Option Call) (m : Option CallId) (q i : ℕ) (s : RankWorld) → q ≢ p → Known w.board → slice_get w.ranks q ≡ Some s → can_wake_any w q i ≡ true
    → next (moved w p r o m) (WakeAny q i) ≡ Some (moved (moved w p r o m) q (awake_any w q i s) None (Some (last_call w.board q)))
any_again w p r o m q i s ne all at can =
    let v : World = moved w p r o m in
    let rank = others_kept w.ranks p q r ne in
    let beside = moved_beside w p r o m q ne in
    let kind = kind_beside w.board v.board q beside in
    let handle : any_handle v q i ≡ any_handle w q i = ap (λ (k : Option CallKind). request_handle k i) kind in
    let call : any_call v q i ≡ any_call w q i = λ j. held_in q (rank j) (handle j) in
    let same : can_wake_any v q i ≡ can_wake_any w q i =
    (λ j. waits (rank j) && is_complete_some v.board (call j))
    ∙ ap (λ (t : Bool). waits (slice_get w.ranks q) && t) (held_complete w.board v.board q beside (slice_get w.ranks q) (any_handle w q i))
    in
    let writes : writes_by v.board (any_call v q i) ≡ writes_by w.board (any_call w q i) =
    ap (writes_by v.board) call ∙ held_writes w.board v.board q beside all (slice_get w.ranks q) (any_handle w q i)
    in
    taken (can_wake_any v q i) (woken_any v q i) (same ∙ can)
    ∙ goes_on w v q (any_writes v q i) (any_writes w q i) (any_handle v q i) (any_handle w q i) s (rank ∙ at) (λ j. writes j ++ index_writes (kind j) i) handle (last_beside w.board v.board q beside)

-- ---- two ranks, in either order

issued_swapped : (calls : List (List Call)) (p q : ℕ) (o k : Option Call) → p ≢ q → issued_calls (issued_calls calls p o) q k ≡ issued_calls (issued_calls calls q k) p o
issued_swapped calls p q None k ne = refl
issued_swapped calls p q (Some c) None ne = refl
issued_swapped calls p q (Some c) (Some d) ne =
    let here : List Call = listed_calls (slice_get calls p) ++ c ∷ [] in
    let there : List Call = listed_calls (slice_get calls q) ++ d ∷ [] in
    ap (λ (l : Option (List Call)). slice_set (slice_set calls p here) q (listed_calls l ++ d ∷ [])) (others_kept calls p q here (λ e. ne (sym e)))
    ∙ set_comm calls p q here there ne
    ∙ sym (ap (λ (l : Option (List Call)). slice_set (slice_set calls q there) p (listed_calls l ++ c ∷ [])) (others_kept calls q p there ne))

formed_swapped : (sets : List MatchSet) (m n : Option CallId) → SameSets (formed (formed sets m) n) (formed (formed sets n) m)
formed_swapped sets None n = sets_refl (formed sets n)
formed_swapped sets (Some d) None = sets_refl (sets ++ Woke d ∷ [])
formed_swapped sets (Some d) (Some e) = sets_swapped sets (Woke d) (Woke e) (woke_disjoint d (Woke e))

pub moved_swapped : (w : World) (p : ℕ) (r : RankWorld) (o : Option Call) (m : Option CallId) (q : ℕ) (s : RankWorld) (k : Option Call) (n : Option CallId) → p ≢ q
    → Same (moved (moved w p r o m) q s k n) (moved (moved w q s k n) p r o m)
moved_swapped w p r o m q s k n ne = record {
  ranks = set_comm w.ranks p q r s ne;
  mode = refl;
  calls = issued_swapped w.board.calls p q o k ne;
  sets = formed_swapped w.board.sets m n;
}

-- ---- a pair joins

formed_paired : (sets : List MatchSet) (m : Option CallId) (s t : CallId) → SameSets (formed sets m ++ Pair s t ∷ []) (formed (sets ++ Pair s t ∷ []) m)
formed_paired sets None s t = sets_refl (sets ++ Pair s t ∷ [])
formed_paired sets (Some d) s t = sets_swapped sets (Woke d) (Pair s t) (woke_disjoint d (Pair s t))

pub moved_paired : (w : World) (p : ℕ) (r : RankWorld) (o : Option Call) (m : Option CallId) (s t : CallId) → Same (paired (moved w p r o m) s t) (moved (paired w s t) p r o m)
moved_paired w p r o m s t = record { ranks = refl; mode = refl; calls = refl; sets = formed_paired w.board.sets m s t }
