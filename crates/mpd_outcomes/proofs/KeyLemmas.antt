-- Worlds of one script whose keys are the same words have the same future.
use Rattle.std.proofs.Common.{◌≡◌, ℕ, zero, suc, ◌+◌, ◌<◌, Bool, true, false, List, [], ◌∷◌, ◌++◌, length, map, refl, sym, ap, subst, ◌∙◌, arith, append_assoc, Option, Some, None, is_some, ◌⊎◌, inl, inr}
use Rattle.std.specs.Prelude.{ℤ, pos, negsuc, slice_get, slice_index_or, IfSome}
use Rattle.std.specs.Option.{option_map}
use Rattle.std.specs.List.{flat_map, range_with_len}
use Rattle.mpd_model.specs.declared.step.CallId.{CallId}
use Rattle.mpd_model.specs.declared.call.Call.{Call}
use Rattle.mpd_model.specs.declared.call.CallKind.{CallKind}
use Rattle.mpd_model.specs.declared.call.CallKind.TheVariants.{Send, Recv, Wait, Waitany, Barrier}
use Rattle.mpd_model.specs.declared.call.SendCall.{SendCall}
use Rattle.mpd_model.specs.declared.call.RecvCall.{RecvCall}
use Rattle.mpd_model.specs.declared.call.WaitCall.{WaitCall}
use Rattle.mpd_model.specs.declared.call.WaitanyCall.{WaitanyCall}
use Rattle.mpd_model.specs.declared.call.StatusCells.{StatusCells}
use Rattle.mpd_model.specs.declared.call.Message.{Message}
use Rattle.mpd_model.specs.declared.call.Trap.TheVariants.{Overflow, ZeroDivisor, BadRank, BadTag, BadIndex, Assertion}
use Rattle.mpd_model.specs.declared.call.Activity.{Activity}
use Rattle.mpd_model.specs.declared.call.Activity.TheVariants.{Running, Blocked, Trapped}
use Rattle.mpd_model.specs.script.Program.{Program}
use Rattle.mpd_model.specs.steps.World.{RankWorld, World, Board, call_id, kind_at, partner, buffer, rank_numbers, call_numbers, calls_of, awaited, last_call}
use Rattle.mpd_model.specs.steps.Next.{is_blocked, writes_of, status_writes}
use Rattle.mpd_model.specs.steps.Outcomes.{first_number}
use Rattle.mpd_outcomes.specs.Future.{overwritten, live_vars, open_call, still_asked, seen, seen_held, last_statement, seen_last, RankKey, key_by, rank_key, SameFuture}
use Rattle.mpd_outcomes.specs.Words.{number_word, flag_word, sized, source_word, tag_word, kind_words, asked_words, received_words, writes_words, seen_words, activity_word}
use Rattle.mpd_outcomes.specs.Keys.{place_words, held_words, handle_words, open_words, numbered_words, call_words, target_words, blocked_words, rank_words, part_of, part_at, left_from, IsKey}
use Rattle.mpd_outcomes.proofs.SplitLemmas.{Splits, both, mapped, behind, apart, number_told, flag_told, option_told, sized_told}

-- ---- activities

activities : List Activity
activities = Running ∷ Blocked ∷ Trapped Overflow ∷ Trapped ZeroDivisor ∷ Trapped BadRank ∷ Trapped BadTag ∷ Trapped BadIndex ∷ Trapped Assertion ∷ []

at_word : ℤ → Activity
at_word (pos n) = slice_index_or activities n Running
at_word (negsuc n) = Running

activity_back : (a : Activity) → at_word (activity_word a) ≡ a
unfolding at_word activities
activity_back Running = refl
activity_back Blocked = refl
activity_back (Trapped Overflow) = refl
activity_back (Trapped ZeroDivisor) = refl
activity_back (Trapped BadRank) = refl
activity_back (Trapped BadTag) = refl
activity_back (Trapped BadIndex) = refl
activity_back (Trapped Assertion) = refl

activity_told : (a b : Activity) → activity_word a ≡ activity_word b → a ≡ b
activity_told a b e = sym (activity_back a) ∙ ap at_word e ∙ activity_back b

-- ---- kinds

cells_told : (c d : Option StatusCells) → flag_word (is_some c) ≡ flag_word (is_some d) → source_word c ≡ source_word d → tag_word c ≡ tag_word d → c ≡ d
cells_told None None f s t = refl
cells_told None (Some d) f s t = absurd (cc)
cells_told (Some c) None f s t = absurd (cc)
cells_told (Some c) (Some d) f s t =
    let source = number_told c.source d.source s in
    let tag = number_told c.tag d.tag t in
    λ i. Some (record { source = source i; tag = tag i })

send_split : (s t : SendCall) → Splits (kind_words (Send s)) (kind_words (Send t)) (Send s ≡ Send t)
send_split s t = record {
  split = λ u v e.
      let to = number_told s.to t.to (cc) in
      let tag = number_told s.tag t.tag (cc) in
      let value : s.value ≡ t.value = cc in
      let synchronous = flag_told s.synchronous t.synchronous (cc) in
      let blocks = flag_told s.blocks t.blocks (cc) in
      let buffered = flag_told s.buffered t.buffered (cc) in
      ((λ i. Send (record { to = to i; tag = tag i; value = value i; synchronous = synchronous i; blocks = blocks i; buffered = buffered i })), (cc));
}

recv_split : (r q : RecvCall) → Splits (kind_words (Recv r)) (kind_words (Recv q)) (Recv r ≡ Recv q)
recv_split r q = record {
  split = λ u v e.
      let from = option_told r.from q.from (cc) (cc) in
      let tag = option_told r.tag q.tag (cc) (cc) in
      let cell = number_told r.cell q.cell (cc) in
      let status = cells_told r.status q.status (cc) (cc) (cc) in
      let blocks = flag_told r.blocks q.blocks (cc) in
      ((λ i. Recv (record { from = from i; tag = tag i; cell = cell i; status = status i; blocks = blocks i })), (cc));
}

wait_split : (s t : WaitCall) → Splits (kind_words (Wait s)) (kind_words (Wait t)) (Wait s ≡ Wait t)
wait_split s t = record {
  split = λ u v e.
      let handle = number_told s.handle t.handle (cc) in
      let target = option_told s.target t.target (cc) (cc) in
      ((λ i. Wait (record { handle = handle i; target = target i })), (cc));
}

waitany_split : (a b : WaitanyCall) → Splits (kind_words (Waitany a)) (kind_words (Waitany b)) (Waitany a ≡ Waitany b)
waitany_split a b = record {
  split = λ u v e.
      let first = number_told a.first b.first (cc) in
      let count = number_told a.count b.count (cc) in
      let cell = number_told a.cell b.cell (cc) in
      let active = flag_told a.active b.active (cc) in
      ((λ i. Waitany (record { first = first i; count = count i; cell = cell i; active = active i })), (cc));
}

-- a kind, or none
asked_split : (k l : Option CallKind) → Splits (asked_words k) (asked_words l) (k ≡ l)
asked_split None None = record { split = λ u v e. (refl, (cc)) }
asked_split None (Some (Send t)) = record { split = λ u v e. absurd (cc) }
asked_split (Some (Send s)) None = record { split = λ u v e. absurd (cc) }
asked_split (Some (Recv r)) None = record { split = λ u v e. absurd (cc) }
asked_split (Some (Wait s)) None = record { split = λ u v e. absurd (cc) }
asked_split (Some (Waitany a)) None = record { split = λ u v e. absurd (cc) }
asked_split (Some (Send s)) (Some (Send t)) = mapped (ap (λ k. Some k)) (send_split s t)
asked_split (Some (Recv r)) (Some (Recv q)) = mapped (ap (λ k. Some k)) (recv_split r q)
asked_split (Some (Wait s)) (Some (Wait t)) = mapped (ap (λ k. Some k)) (wait_split s t)
asked_split (Some (Waitany a)) (Some (Waitany b)) = mapped (ap (λ k. Some k)) (waitany_split a b)
asked_split (Some Barrier) (Some Barrier) = record { split = λ u v e. (refl, (cc)) }
asked_split k l = record { split = λ u v e. absurd (cc) }

-- ---- what a receive writes

-- a receive that got a message: its cells, and the message
record Received : Type 0 where
  cell : ℕ
  status : Option StatusCells
  message : Message

told_of : Option Received → List ℤ
told_of None = pos 0 ∷ []
told_of (Some d) = received_words d.cell d.status d.message

written_by : Option Received → List (ℕ × ℤ)
written_by None = []
written_by (Some d) = (d.cell, d.message.value) ∷ status_writes d.status d.message

received : Option CallKind → Option Message → Option Received
received (Some (Recv r)) (Some m) = Some (record { cell = r.cell; status = r.status; message = m })
received k m = None

told_is : (k : Option CallKind) (m : Option Message) → writes_words k m ≡ told_of (received k m)
unfolding told_of received
told_is (Some (Recv r)) (Some m) = refl
told_is k m = refl

written_is : (k : Option CallKind) (m : Option Message) → writes_of k m ≡ written_by (received k m)
unfolding written_by received
written_is (Some (Recv r)) (Some m) = refl
written_is k m = refl

both_split : (c d : ℕ) (s t : Option StatusCells) (m n : Message)
    → Splits (received_words c s m) (received_words d t n) ((c, m.value) ∷ status_writes s m ≡ (d, n.value) ∷ status_writes t n)
both_split c d None None m n = record {
  split = λ u v e.
      let cell = number_told c d (cc) in
      let value : m.value ≡ n.value = cc in
      ((λ i. (cell i, value i) ∷ []), (cc));
}
both_split c d (Some s) (Some t) m n = record {
  split = λ u v e.
      let cell = number_told c d (cc) in
      let value : m.value ≡ n.value = cc in
      let source_cell = number_told s.source t.source (cc) in
      let source = number_told m.source n.source (cc) in
      let tag_cell = number_told s.tag t.tag (cc) in
      let tag = number_told m.tag n.tag (cc) in
      ((λ i. (cell i, value i) ∷ (source_cell i, pos (source i)) ∷ (tag_cell i, pos (tag i)) ∷ []), (cc));
}
both_split c d s t m n = record { split = λ u v e. absurd (cc) }

one_split : (c : ℕ) (s : Option StatusCells) (m : Message) {P : Type 0} → Splits (received_words c s m) (pos 0 ∷ []) P
one_split c None m = record { split = λ u v e. absurd (cc) }
one_split c (Some s) m = record { split = λ u v e. absurd (cc) }

turned : {a b : List ℤ} {P : Type 0} → Splits a b P → Splits b a P
turned s = record { split = λ u v e. let t = s.split v u (sym e) in (t.0, sym t.1) }

received_split : (d e : Option Received) → Splits (told_of d) (told_of e) (written_by d ≡ written_by e)
unfolding told_of written_by
received_split None None = record { split = λ u v e. (refl, (cc)) }
received_split None (Some e) = turned (one_split e.cell e.status e.message)
received_split (Some d) None = one_split d.cell d.status d.message
received_split (Some d) (Some e) = both_split d.cell e.cell d.status e.status d.message e.message

writes_split : (k l : Option CallKind) (m n : Option Message) → Splits (writes_words k m) (writes_words l n) (writes_of k m ≡ writes_of l n)
writes_split k l m n =
    subst (λ (ws : List ℤ). Splits ws (writes_words l n) (writes_of k m ≡ writes_of l n)) (sym (told_is k m))
    (subst (λ (ws : List ℤ). Splits (told_of (received k m)) ws (writes_of k m ≡ writes_of l n)) (sym (told_is l n))
    (mapped (λ e. written_is k m ∙ e ∙ sym (written_is l n)) (received_split (received k m) (received l n))))

-- ---- what is seen of a call

flag_split : (a b : Bool) {xs ys : List ℤ} {P : Type 0} → Splits xs ys P → Splits (flag_word a ∷ xs) (flag_word b ∷ ys) ((a ≡ b) × P)
flag_split a b s = behind (flag_word a) (flag_word b) (flag_told a b) (λ _. s)

seen_split : (b d : Board) (c e : CallId) → Splits (seen_words b c) (seen_words d e) (seen b c ≡ seen d e)
seen_split b d c e =
    mapped (λ t. λ i. record { kind = t.0 i; paired = t.1.0 i; writes = t.1.1 i })
    (both (asked_split (still_asked (is_some (partner b.sets c)) (kind_at b c)) (still_asked (is_some (partner d.sets e)) (kind_at d e)))
    (λ _. flag_split (is_some (partner b.sets c)) (is_some (partner d.sets e)) (writes_split (kind_at b c) (kind_at d e) (buffer b c) (buffer d e))))

-- ---- handles

held_split : (b d : Board) (p : ℕ) (o q : Option ℕ)
    → Splits (held_words b p o) (held_words d p q) ((o ≡ q) × (option_map (λ i. seen b (call_id p i)) o ≡ option_map (λ i. seen d (call_id p i)) q))
held_split b d p None None = record { split = λ u v e. ((refl, refl), (cc)) }
held_split b d p None (Some j) = apart (pos 0) (pos 1) (λ e. cc)
held_split b d p (Some i) None = apart (pos 1) (pos 0) (λ e. cc)
held_split b d p (Some i) (Some j) =
    mapped (λ t. ((λ k. Some (t.1.0 k)), (λ k. Some (t.1.1 k))))
    (behind (pos 1) (pos 1) (λ e. e) (λ _. behind (number_word i) (number_word j) (number_told i j) (λ _. seen_split b d (call_id p i) (call_id p j))))

all_held_split : (b d : Board) (p : ℕ) (hs js : List (Option ℕ)) → length hs ≡ length js
    → Splits (flat_map (held_words b p) hs) (flat_map (held_words d p) js) ((hs ≡ js) × (seen_held b p hs ≡ seen_held d p js))
all_held_split b d p [] [] e = record { split = λ u v h. ((refl, refl), h) }
all_held_split b d p [] (j ∷ js) e = absurd (omega (arith, e))
all_held_split b d p (h ∷ hs) [] e = absurd (omega (arith, e))
all_held_split b d p (h ∷ hs) (j ∷ js) e =
    mapped (λ t. ((λ k. t.0.0 k ∷ t.1.0 k), (λ k. t.0.1 k ∷ t.1.1 k)))
    (both (held_split b d p h j) (λ _. all_held_split b d p hs js (omega (arith, e))))

handles_split : (b d : Board) (p : ℕ) (hs js : List (Option ℕ)) → Splits (handle_words b p hs) (handle_words d p js) ((hs ≡ js) × (seen_held b p hs ≡ seen_held d p js))
handles_split b d p hs js =
    mapped (λ t. t.1) (behind (number_word (length hs)) (number_word (length js)) (number_told (length hs) (length js)) (all_held_split b d p hs js))

-- ---- free calls

-- what stands behind the call of a number: the end, or a later number
Later : ℕ → List ℤ → Type 0
Later i xs = ((rest : List ℤ) × (xs ≡ pos 0 ∷ rest)) ⊎ ((j : ℕ) × ((i < j) × ((rest : List ℤ) × (xs ≡ pos 1 ∷ number_word j ∷ rest))))

later_by : (o : Option Call) (i k : ℕ) (xs : List ℤ) → k < i → Later k xs → Later k (numbered_words i o ++ xs)
unfolding Later
later_by None i k xs lt h = h
later_by (Some c) i k xs lt h = inr (i, (lt, (open_words c ++ xs, refl)))

-- the free calls of a range of numbers, and the end
numbered_from : (ℕ → Option Call) → ℕ → ℕ → List ℤ
numbered_from f i n = flat_map (λ j. numbered_words j (f j)) (range_with_len i n) ++ pos 0 ∷ []

numbered_next : (f : ℕ → Option Call) (i n : ℕ) → numbered_from f i (suc n) ≡ numbered_words i (f i) ++ numbered_from f (i + 1) n
unfolding numbered_from
numbered_next f i n = append_assoc (numbered_words i (f i)) (flat_map (λ j. numbered_words j (f j)) (range_with_len (i + 1) n)) (pos 0 ∷ [])

later_all : (f : ℕ → Option Call) (i n k : ℕ) → k < i → Later k (numbered_from f i n)
unfolding Later numbered_from
later_all f i zero k lt = inl ([], refl)
later_all f i (suc n) k lt = subst (Later k) (sym (numbered_next f i n)) (later_by (f i) i k (numbered_from f (i + 1) n) lt (later_all f (i + 1) n k (omega (arith, lt))))

not_later : (i : ℕ) (xs rest u v : List ℤ) → Later i xs → xs ++ u ≡ pos 1 ∷ number_word i ∷ rest → ⊥
unfolding Later
not_later i xs rest u v h e =
    elim h [
      | inl t ↦ (let is = t.1 in cc)
      | inr t ↦ (let is = t.1.1.1 in let same = number_told t.0 i (cc) in let lt = t.1.0 in omega (arith, same, lt))
    ]

call_same : (c d : Call) → c.statement ≡ d.statement → Some c.kind ≡ Some d.kind → Some c ≡ Some d
call_same c d e f = λ k. Some (record { statement = e k; kind = kind_in (f k) })
  where
    kind_in : Option CallKind → CallKind
    kind_in None = c.kind
    kind_in (Some kind) = kind

one_free_split : (i : ℕ) (o q : Option Call) {xs ys : List ℤ} {P : Type 0} → Later i xs → Later i ys → Splits xs ys P
    → Splits (numbered_words i o ++ xs) (numbered_words i q ++ ys) ((o ≡ q) × P)
one_free_split i None None left right s = mapped (λ t. (refl, t)) s
one_free_split i None (Some c) {xs = xs} {ys = ys} left right s = record { split = λ u v e. absurd (not_later i xs (open_words c ++ ys ++ v) u v left e) }
one_free_split i (Some c) None {xs = xs} {ys = ys} left right s = record { split = λ u v e. absurd (not_later i ys (open_words c ++ xs ++ u) v u right (sym e)) }
one_free_split i (Some c) (Some d) left right s =
    mapped (λ t. (call_same c d t.1.1.0 t.1.1.1.0, t.1.1.1.1))
    (behind (pos 1) (pos 1) (λ e. e) (λ _. behind (number_word i) (number_word i) (λ e. e)
    (λ _. behind (number_word c.statement) (number_word d.statement) (number_told c.statement d.statement) (λ _. both (asked_split (Some c.kind) (Some d.kind)) (λ _. s)))))

free_split : (f g : ℕ → Option Call) (i n : ℕ) → Splits (numbered_from f i n) (numbered_from g i n) (map f (range_with_len i n) ≡ map g (range_with_len i n))
unfolding numbered_from
free_split f g i zero = record { split = λ u v e. (refl, (cc)) }
free_split f g i (suc n) =
    let all : Type 0 = map f (range_with_len i (suc n)) ≡ map g (range_with_len i (suc n)) in
    subst (λ (xs : List ℤ). Splits xs (numbered_from g i (suc n)) all) (sym (numbered_next f i n))
    (subst (λ (ys : List ℤ). Splits (numbered_words i (f i) ++ numbered_from f (i + 1) n) ys all) (sym (numbered_next g i n))
    (mapped (λ t. λ k. t.0 k ∷ t.1 k)
    (one_free_split i (f i) (g i) (later_all f (i + 1) n i (omega arith)) (later_all g (i + 1) n i (omega arith)) (free_split f g (i + 1) n))))

calls_split : (b d : Board) (p : ℕ) → Splits (call_words b p) (call_words d p) (map (λ i. open_call b (call_id p i)) (call_numbers b p) ≡ map (λ i. open_call d (call_id p i)) (call_numbers d p))
unfolding numbered_from
calls_split b d p =
    let f = λ (i : ℕ). open_call b (call_id p i) in
    let g = λ (i : ℕ). open_call d (call_id p i) in
    let n = length (calls_of b p) in
    mapped (λ t. t.1) (behind (number_word n) (number_word (length (calls_of d p))) (number_told n (length (calls_of d p)))
    (λ same. subst (λ (m : ℕ). Splits (numbered_from f 0 n) (numbered_from g 0 m) (map f (range_with_len 0 n) ≡ map g (range_with_len 0 m))) same (free_split f g 0 n)))

-- ---- what a rank is blocked on

target_split : (b d : Board) (c e : Option CallId) → Splits (target_words b c) (target_words d e) (option_map (seen b) c ≡ option_map (seen d) e)
target_split b d None None = record { split = λ u v e. (refl, (cc)) }
target_split b d None (Some e) = apart (pos 0) (pos 1) (λ e. cc)
target_split b d (Some c) None = apart (pos 1) (pos 0) (λ e. cc)
target_split b d (Some c) (Some e) = mapped (λ t. λ k. Some (t.1 k)) (behind (pos 1) (pos 1) (λ e. e) (λ _. seen_split b d c e))

blocked_split : (b d : Board) (p : ℕ) (x y : Bool) → x ≡ y → Splits (blocked_words b p x) (blocked_words d p y) (seen_last b p x ≡ seen_last d p y)
blocked_split b d p false false e = record { split = λ u v h. (refl, h) }
blocked_split b d p false true e = absurd (cc)
blocked_split b d p true false e = absurd (cc)
blocked_split b d p true true e =
    mapped (λ t. λ k. Some (record { last = t.1.0 k; statement = t.0 k; target = t.1.1 k }))
    (behind (number_word (last_statement b p)) (number_word (last_statement d p)) (number_told (last_statement b p) (last_statement d p))
    (λ _. both (seen_split b d (last_call b p) (last_call d p)) (λ _. target_split b d (awaited b (last_call b p)) (awaited d (last_call d p)))))

-- ---- ranks

place_split : (m n : Option ℕ) (a c : Activity) → Splits (place_words m a) (place_words n c) ((m ≡ n) × (a ≡ c))
place_split m n a c = record {
  split = λ u v e.
      let number = option_told m n (cc) (cc) in
      let activity = activity_told a c (cc) in
      ((number, activity), (cc));
}

live_of : Board → ℕ → RankWorld → List ℤ
live_of b p r = live_vars (overwritten (kind_at b (last_call b p))) r.activity r.rest r.vars

rank_split : (b d : Board) (p : ℕ) (r t : RankWorld) → ((first_number r.rest ≡ first_number t.rest) → r.rest ≡ t.rest) → Splits (rank_words b p r) (rank_words d p t) (key_by b p r ≡ key_by d p t)
unfolding live_of
rank_split b d p r t same =
    mapped
    (λ h.
    let rest = same h.0.0.0.0.0 in
    let activity = h.0.0.0.0.1 in
    let vars = h.0.0.0.1 in
    let handles = h.0.0.1.0 in
    let held = h.0.0.1.1 in
    let calls = h.0.1 in
    let blocked = h.1 in
    (λ k. record { rank = record { rest = rest k; vars = vars k; handles = handles k; out = []; activity = activity k }; calls = calls k; held = held k; blocked = blocked k }))
    (both (both (both (both (place_split (first_number r.rest) (first_number t.rest) r.activity t.activity) (λ _. sized_told (live_of b p r) (live_of d p t)))
    (λ _. handles_split b d p r.handles t.handles)) (λ _. calls_split b d p))
    (λ h. blocked_split b d p (is_blocked r.activity) (is_blocked t.activity) (ap is_blocked h.0.0.0.1)))

-- what a rank has left is told by the number of its next statement
rest_told : (s : Program) (r t : RankWorld) → r.rest ≡ left_from s (first_number r.rest) → t.rest ≡ left_from s (first_number t.rest) → (first_number r.rest ≡ first_number t.rest) → r.rest ≡ t.rest
rest_told s r t h k e = h ∙ ap (left_from s) e ∙ sym k

IsLeft : Program → Option RankWorld → Type 0
IsLeft s o = IfSome o (λ r. r.rest ≡ left_from s (first_number r.rest))

part_told : (s : Program) (b d : Board) (p : ℕ) (o q : Option RankWorld) → IsLeft s o → IsLeft s q → part_of b p o ≡ part_of d p q → option_map (key_by b p) o ≡ option_map (key_by d p) q
unfolding IsLeft
part_told s b d p None None h k e = refl
part_told s b d p None (Some t) h k e = absurd (cc)
part_told s b d p (Some r) None h k e = absurd (cc)
part_told s b d p (Some r) (Some t) h k e = λ i. Some (((rank_split b d p r t (rest_told s r t h k)).split [] [] (ap (λ ws. ws ++ []) e)).0 i)

-- ---- keys

parts_told : (f g : ℕ → List ℤ) (x y : ℕ → Option RankKey) (i n : ℕ) → ((p : ℕ) → p < i + n → f p ≡ g p → x p ≡ y p)
    → Splits (flat_map (λ p. sized (f p)) (range_with_len i n)) (flat_map (λ p. sized (g p)) (range_with_len i n)) (map x (range_with_len i n) ≡ map y (range_with_len i n))
parts_told f g x y i zero h = record { split = λ u v e. (refl, e) }
parts_told f g x y i (suc n) h =
    mapped (λ t. let first = h i (omega arith) t.0 in (λ k. first k ∷ t.1 k))
    (both (sized_told (f i) (g i)) (λ _. parts_told f g x y (i + 1) n (λ p lt e. h p (omega (arith, lt)) e)))

-- Words that are the key of two worlds of a script tell that they have the same future.
pub one_key_one_future : (s : Program) (w v : World) → w.board.mode ≡ v.board.mode → (k : List ℤ) → IsKey s w k → IsKey s v k → SameFuture w v
unfolding IsLeft
one_key_one_future s w v mode k one other =
    let told : (p : ℕ) → p < 0 + s.ranks → part_at w p ≡ part_at v p → rank_key w p ≡ rank_key v p =
    λ p lt e. part_told s w.board v.board p (slice_get w.ranks p) (slice_get v.ranks p) (one.placed p (omega (arith, lt))) (other.placed p (omega (arith, lt))) e in
    let words : flat_map (λ p. sized (part_at w p)) (range_with_len 0 s.ranks) ≡ flat_map (λ p. sized (part_at v p)) (range_with_len 0 s.ranks) =
    ap (λ n. flat_map (λ p. sized (part_at w p)) (range_with_len 0 n)) (sym one.ranks) ∙ sym one.words ∙ other.words ∙ ap (λ n. flat_map (λ p. sized (part_at v p)) (range_with_len 0 n)) other.ranks in
    let all = (parts_told (part_at w) (part_at v) (rank_key w) (rank_key v) 0 s.ranks told).split [] [] (ap (λ ws. ws ++ []) words) in
    let ranks : map (rank_key w) (rank_numbers w.board) ≡ map (rank_key v) (rank_numbers v.board) =
    ap (λ n. map (rank_key w) (range_with_len 0 n)) one.ranks ∙ all.0 ∙ ap (λ n. map (rank_key v) (range_with_len 0 n)) (sym other.ranks) in
    (λ i. record { mode = mode i; ranks = ranks i })
