-- Worlds with the same future have the same key: what a key tells is nothing else.
use Rattle.std.proofs.Common.{◌≡◌, ℕ, zero, suc, ◌+◌, ◌<◌, ◌≤◌, inl, inr, Bool, true, false, List, [], ◌∷◌, ◌++◌, length, map, refl, sym, ap, subst, ◌∙◌, arith, Option, Some, None, is_some}
use Rattle.std.specs.Prelude.{ℤ, pos, negsuc, slice_get, IfSome}
use Rattle.std.specs.Option.{option_map}
use Rattle.std.specs.List.{flat_map, range_with_len}
use Rattle.std.proofs.lemmas.Bool.Decides.{eqb_tells}
use Rattle.std.proofs.lemmas.List.Folds.{flat_map-map}
use Rattle.std.proofs.lemmas.List.FromFn.{length-map-range_with_len}
use Rattle.mpd_model.specs.declared.step.CallId.{CallId}
use Rattle.mpd_model.specs.declared.call.Call.{Call}
use Rattle.mpd_model.specs.declared.call.CallKind.{CallKind}
use Rattle.mpd_model.specs.declared.call.CallKind.TheVariants.{Recv}
use Rattle.mpd_model.specs.declared.call.StatusCells.{StatusCells}
use Rattle.mpd_model.specs.declared.call.Message.{Message}
use Rattle.mpd_model.specs.script.Program.{Program}
use Rattle.mpd_model.specs.script.Tree.{Tree}
use Rattle.mpd_model.specs.steps.World.{RankWorld, World, Board, call_id, kind_at, partner, buffer, rank_numbers, call_numbers, calls_of, awaited, last_call}
use Rattle.mpd_model.specs.steps.Next.{is_blocked, writes_of, status_writes}
use Rattle.mpd_model.specs.steps.Outcomes.{first_number}
use Rattle.mpd_outcomes.specs.Future.{open_call, still_asked, Seen, seen, seen_held, BlockedOn, last_statement, seen_last, RankKey, key_by, quieted, rank_key, Key, key_of, SameFuture}
use Rattle.mpd_outcomes.specs.Words.{number_word, flag_word, sized, asked_words, received_words, writes_words, seen_words}
use Rattle.mpd_outcomes.specs.Keys.{place_words, held_words, numbered_words, call_words, target_words, blocked_words, part_of, part_at, key_words, left_from, IsKey}

-- ---- the words of what is seen of a call

natural : ℤ → ℕ
natural (pos n) = n
natural (negsuc n) = 0

written_part : List (ℕ × ℤ) → List ℤ
written_part [] = pos 0 ∷ []
written_part (w ∷ []) = pos 1 ∷ number_word w.0 ∷ w.1 ∷ []
written_part (w ∷ x ∷ []) = []
written_part (w ∷ x ∷ y ∷ ws) = pos 2 ∷ number_word w.0 ∷ w.1 ∷ number_word x.0 ∷ number_word (natural x.1) ∷ number_word y.0 ∷ number_word (natural y.1) ∷ []

received_is : (c : ℕ) (s : Option StatusCells) (m : Message) → received_words c s m ≡ written_part ((c, m.value) ∷ status_writes s m)
unfolding written_part natural
received_is c None m = refl
received_is c (Some s) m = refl

writes_is : (k : Option CallKind) (m : Option Message) → writes_words k m ≡ written_part (writes_of k m)
unfolding written_part
writes_is (Some (Recv r)) (Some m) = received_is r.cell r.status m
writes_is k m = refl

seen_part : Seen → List ℤ
seen_part s = asked_words s.kind ++ flag_word s.paired ∷ written_part s.writes

seen_is : (b : Board) (c : CallId) → seen_words b c ≡ seen_part (seen b c)
unfolding seen_part
seen_is b c = ap (λ ws. asked_words (still_asked (is_some (partner b.sets c)) (kind_at b c)) ++ flag_word (is_some (partner b.sets c)) ∷ ws) (writes_is (kind_at b c) (buffer b c))

-- ---- the words of a rank

held_parts : List (Option ℕ) → List (Option Seen) → List ℤ
held_parts (Some i ∷ hs) (Some s ∷ ss) = (pos 1 ∷ number_word i ∷ seen_part s) ++ held_parts hs ss
held_parts (h ∷ hs) (s ∷ ss) = (pos 0 ∷ []) ++ held_parts hs ss
held_parts hs ss = []

held_is : (b : Board) (p : ℕ) (hs : List (Option ℕ)) → flat_map (held_words b p) hs ≡ held_parts hs (seen_held b p hs)
unfolding held_parts
held_is b p [] = refl
held_is b p (None ∷ hs) = ap (λ ws. (pos 0 ∷ []) ++ ws) (held_is b p hs)
held_is b p (Some i ∷ hs) = λ k. (pos 1 ∷ number_word i ∷ seen_is b (call_id p i) k) ++ held_is b p hs k

numbered_parts : ℕ → List (Option Call) → List ℤ
numbered_parts i [] = []
numbered_parts i (k ∷ ks) = numbered_words i k ++ numbered_parts (i + 1) ks

numbered_is : (f : ℕ → Option Call) (i n : ℕ) → flat_map (λ j. numbered_words j (f j)) (range_with_len i n) ≡ numbered_parts i (map f (range_with_len i n))
unfolding numbered_parts
numbered_is f i zero = refl
numbered_is f i (suc n) = ap (λ ws. numbered_words i (f i) ++ ws) (numbered_is f (i + 1) n)

call_parts : List (Option Call) → List ℤ
call_parts ks = number_word (length ks) ∷ (numbered_parts 0 ks ++ pos 0 ∷ [])

calls_is : (b : Board) (p : ℕ) → call_words b p ≡ call_parts (map (λ i. open_call b (call_id p i)) (call_numbers b p))
unfolding call_parts
calls_is b p =
    let f = λ (i : ℕ). open_call b (call_id p i) in
    let n = length (calls_of b p) in
    λ k. number_word (sym (length-map-range_with_len f 0 n) k) ∷ (numbered_is f 0 n k ++ pos 0 ∷ [])

target_part : Option Seen → List ℤ
target_part None = pos 0 ∷ []
target_part (Some s) = pos 1 ∷ seen_part s

target_is : (b : Board) (c : Option CallId) → target_words b c ≡ target_part (option_map (seen b) c)
unfolding target_part
target_is b None = refl
target_is b (Some c) = ap (λ ws. pos 1 ∷ ws) (seen_is b c)

blocked_part : Option BlockedOn → List ℤ
blocked_part None = []
blocked_part (Some o) = number_word o.statement ∷ (seen_part o.last ++ target_part o.target)

blocked_is : (b : Board) (p : ℕ) (x : Bool) → blocked_words b p x ≡ blocked_part (seen_last b p x)
unfolding blocked_part
blocked_is b p false = refl
blocked_is b p true = λ k. number_word (last_statement b p) ∷ (seen_is b (last_call b p) k ++ target_is b (awaited b (last_call b p)) k)

rank_part : Option RankKey → List ℤ
rank_part None = []
rank_part (Some k) =
    place_words (first_number k.rank.rest) k.rank.activity
    ++ sized k.rank.vars
    ++ number_word (length k.rank.handles) ∷ held_parts k.rank.handles k.held
    ++ call_parts k.calls
    ++ blocked_part k.blocked

rank_is : (b : Board) (p : ℕ) (o : Option RankWorld) → part_of b p o ≡ rank_part (option_map (key_by b p) o)
unfolding rank_part
rank_is b p None = refl
rank_is b p (Some r) =
    λ k.
    place_words (first_number r.rest) r.activity
    ++ sized (quieted b p r).vars
    ++ number_word (length r.handles) ∷ held_is b p r.handles k
    ++ calls_is b p k
    ++ blocked_is b p (is_blocked r.activity) k

-- ---- the key

key_is : (w : World) → key_words w ≡ flat_map (λ k. sized (rank_part k)) (key_of w).ranks
key_is w = all (rank_numbers w.board) ∙ sym (flat_map-map (λ k. sized (rank_part k)) (rank_key w) (rank_numbers w.board))
  where
    all : (ps : List ℕ) → flat_map (λ p. sized (part_at w p)) ps ≡ flat_map (λ p. sized (rank_part (rank_key w p))) ps
    all [] = refl
    all (p ∷ ps) = λ k. sized (rank_is w.board p (slice_get w.ranks p) k) ++ all ps k

same_words : (w v : World) → SameFuture w v → key_words w ≡ key_words v
same_words w v e = key_is w ∙ ap (λ (k : Key). flat_map (λ (r : Option RankKey). sized (rank_part r)) k.ranks) e ∙ sym (key_is v)

-- ---- where ranks go on

same_at : (f g : ℕ → Option RankKey) (i n p : ℕ) → map f (range_with_len i n) ≡ map g (range_with_len i n) → i ≤ p → p < i + n → f p ≡ g p
same_at f g i zero p e low high = absurd (omega (arith, low, high))
same_at f g i (suc n) p e low high =
    elim (eqb_tells i p) [
      | inl t ↦ (let first : f i ≡ g i = cc in subst (λ (q : ℕ). f q ≡ g q) t.1 first)
      | inr t ↦ (let differ = t.1 in same_at f g (i + 1) n p (cc) (omega (arith, low, differ)) (omega (arith, high)))
    ]

rest_in : Option RankKey → List (ℕ × Tree)
rest_in None = []
rest_in (Some k) = k.rank.rest

placed_by : (s : Program) (b d : Board) (p : ℕ) (o q : Option RankWorld) → option_map (key_by b p) o ≡ option_map (key_by d p) q
    → IfSome o (λ r. r.rest ≡ left_from s (first_number r.rest)) → IfSome q (λ r. r.rest ≡ left_from s (first_number r.rest))
unfolding rest_in
placed_by s b d p None None e h = h
placed_by s b d p None (Some t) e h = absurd (cc)
placed_by s b d p (Some r) None e h = absurd (cc)
placed_by s b d p (Some r) (Some t) e h = subst (λ (rest : List (ℕ × Tree)). rest ≡ left_from s (first_number rest)) (ap rest_in e) h

-- Worlds with the same future have the same key.
pub one_future_one_key : (s : Program) (w v : World) → SameFuture w v → (k : List ℤ) → IsKey s w k → IsKey s v k
one_future_one_key s w v e k is =
    let n = length w.board.calls in
    let m = length v.board.calls in
    let ranks : map (rank_key w) (range_with_len 0 n) ≡ map (rank_key v) (range_with_len 0 m) = ap (λ (k : Key). k.ranks) e in
    let many : n ≡ m = sym (length-map-range_with_len (rank_key w) 0 n) ∙ ap (λ (ks : List (Option RankKey)). length ks) ranks ∙ length-map-range_with_len (rank_key v) 0 m in
    let all : map (rank_key w) (range_with_len 0 n) ≡ map (rank_key v) (range_with_len 0 n) = ranks ∙ ap (λ (i : ℕ). map (rank_key v) (range_with_len 0 i)) (sym many) in
    record {
      words = is.words ∙ same_words w v e;
      ranks = sym many ∙ is.ranks;
      placed = λ p lt. placed_by s w.board v.board p (slice_get w.ranks p) (slice_get v.ranks p)
          (let there = is.ranks in same_at (rank_key w) (rank_key v) 0 n p all (omega arith) (omega (arith, lt, there))) (is.placed p lt);
    }
