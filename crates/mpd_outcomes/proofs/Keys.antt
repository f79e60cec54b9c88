-- Worlds of one key are alike.
use Rattle.std.proofs.Common.{◌≡◌, ◌⊎◌, ℕ, zero, suc, ◌+◌, ◌-◌, ◌<◌, ◌≤◌, Bool, true, cond, ◌&&◌, Option, Some, None, List, [], ◌∷◌, map, length, replicate, slice_get, inl, inr, refl, sym, ap, subst, ◌∙◌, arith}
use Rattle.std.specs.Prelude.{slice_index_or}
use Rattle.std.proofs.lemmas.List.{length-map, length-replicate}
use Rattle.std.specs.Option.{option_map}
use Rattle.std.specs.List.{range_with_len}
use Rattle.mpd_laws.proofs.ordered.Splits.{mapped_from}
use Rattle.mpd_laws.proofs.ordered.CallsInOrder.{joined_from}
use Rattle.mpd_model.specs.declared.step.CallId.{CallId}
use Rattle.mpd_model.specs.declared.step.Step.{Step}
use Rattle.mpd_model.specs.declared.call.Call.{Call}
use Rattle.mpd_model.specs.declared.call.CallKind.{CallKind}
use Rattle.mpd_model.specs.declared.call.Mode.{Mode}
use Rattle.mpd_model.specs.script.Program.{Program}
use Rattle.mpd_model.specs.steps.World.{World, Board, RankWorld, start, start_rank, call_id, listed_calls, calls_of, call_at, kind_of, kind_at, rank_numbers, call_numbers, is_message_kind, awaited_by, awaited, last_call}
use Rattle.mpd_model.specs.steps.Next.{is_blocked, waits, held_in, next, fold}
use Rattle.mpd_outcomes.specs.Future.{quieted, open_call, Seen, seen, seen_held, BlockedOn, last_statement, seen_last, RankKey, key_by, rank_key, Key, SameFuture}
use Rattle.mpd_outcomes.proofs.Alike.{Due, Alike, Tidy}
use Rattle.mpd_outcomes.proofs.Asked.{kind_told}
use Rattle.mpd_outcomes.proofs.Comes.{read_map}
use Rattle.mpd_outcomes.proofs.Follow.{stays_tidy}

-- ---- lists

range_length : (a n : ℕ) → length (range_with_len a n) ≡ n
range_length a zero = refl
range_length a (suc n) = let e = range_length (a + 1) n in omega (arith, e)

range_read : (a n i : ℕ) → i < n → slice_get (range_with_len a n) i ≡ Some (a + i)
range_read a zero i lt = absurd (omega (arith, lt))
range_read a (suc n) zero lt = ap (λ (k : ℕ). Some k) (omega arith)
range_read a (suc n) (suc i) lt = range_read (a + 1) n i (omega (arith, lt)) ∙ ap (λ (k : ℕ). Some k) (omega arith)

beyond : {A : Type 0} (xs : List A) (i : ℕ) → length xs ≤ i → slice_get xs i ≡ None
beyond [] i le = refl
beyond (x ∷ xs) zero le = absurd (omega (arith, le))
beyond (x ∷ xs) (suc i) le = beyond xs i (omega (arith, le))

numbered_read : {A : Type 0} (f : ℕ → A) (n i : ℕ) → i < n → slice_get (map f (range_with_len 0 n)) i ≡ Some (f i)
numbered_read f n i lt = read_map f (range_with_len 0 n) i ∙ ap (option_map f) (range_read 0 n i lt) ∙ ap (λ (k : ℕ). Some (f k)) (omega arith)

numbered_beyond : {A : Type 0} (f : ℕ → A) (n i : ℕ) → n ≤ i → slice_get (map f (range_with_len 0 n)) i ≡ None
numbered_beyond f n i le = read_map f (range_with_len 0 n) i ∙ ap (option_map f) (beyond (range_with_len 0 n) i (let e = range_length 0 n in omega (arith, e, le)))

index_map : {A B : Type 0} (f : A → B) (xs : List (Option A)) (h : ℕ) → slice_index_or (map (option_map f) xs) h None ≡ option_map f (slice_index_or xs h None)
index_map f [] h = refl
index_map f (x ∷ xs) zero = refl
index_map f (x ∷ xs) (suc h) = index_map f xs h

less_or_not : (a b : ℕ) → (a < b) ⊎ (b ≤ a)
less_or_not a zero = inr (omega arith)
less_or_not zero (suc b) = inl (omega arith)
less_or_not (suc a) (suc b) =
    elim (less_or_not a b) [
      | inl lt ↦ inl (omega (arith, lt))
      | inr le ↦ inr (omega (arith, le))
    ]

-- ---- one rank of a key

none_key : (w : World) → Tidy w → (p : ℕ) → length w.board.calls ≤ p → rank_key w p ≡ None
none_key w tidy p le = ap (option_map (key_by w.board p)) (beyond w.ranks p (let e = tidy.sized in omega (arith, e, le)))

abbrev calls_told : Option RankKey → List (Option Call)
calls_told None = []
calls_told (Some k) = k.calls

calls_are : (w : World) → Tidy w → (p : ℕ) → calls_told (rank_key w p) ≡ map (λ i. open_call w.board (call_id p i)) (call_numbers w.board p)
calls_are w tidy p = by_rank (slice_get w.ranks p) refl
  where
    by_rank : (o : Option RankWorld) → slice_get w.ranks p ≡ o → calls_told (option_map (key_by w.board p) o) ≡ map (λ i. open_call w.board (call_id p i)) (call_numbers w.board p)
    by_rank (Some r) e = refl
    by_rank None e =
        elim (less_or_not p (length w.board.calls)) [
          | inl lt ↦ absurd (is_there w.ranks p e (let s = tidy.sized in omega (arith, s, lt)))
          | inr le ↦ ap (λ (l : Option (List Call)). map (λ i. open_call w.board (call_id p i)) (range_with_len 0 (length (listed_calls l)))) (sym (beyond w.board.calls p le))
        ]
      where
        is_there : {A : Type 0} (xs : List A) (i : ℕ) → slice_get xs i ≡ None → i < length xs → ⊥
        is_there [] i f lt = absurd (omega (arith, lt))
        is_there (x ∷ xs) zero f lt = cc
        is_there (x ∷ xs) (suc i) f lt = is_there xs i f (omega (arith, lt))

-- what a list of open calls tells of one call
abbrev asked_at : List (Option Call) → ℕ → Option Call
asked_at calls i = slice_index_or calls i None

index_get : {A : Type 0} (xs : List (Option A)) (i : ℕ) (x : Option A) → slice_get xs i ≡ Some x → slice_index_or xs i None ≡ x
index_get [] i x e = absurd (cc)
index_get (y ∷ ys) zero x e = cc
index_get (y ∷ ys) (suc i) x e = index_get ys i x e

index_beyond : {A : Type 0} (xs : List (Option A)) (i : ℕ) → slice_get xs i ≡ None → slice_index_or xs i None ≡ None
index_beyond [] i e = refl
index_beyond (y ∷ ys) zero e = absurd (cc)
index_beyond (y ∷ ys) (suc i) e = index_beyond ys i e

unknown_is_not_open : (o : Option Call) (x : Bool) → o ≡ None → cond (is_message_kind (kind_of o) && x) o None ≡ None
unknown_is_not_open o x e = ap (λ (z : Option Call). cond (is_message_kind (kind_of z) && x) z None) e

asked_is : (b : Board) (p i : ℕ) → asked_at (map (λ i. open_call b (call_id p i)) (call_numbers b p)) i ≡ open_call b (call_id p i)
asked_is b p i =
    elim (less_or_not i (length (calls_of b p))) [
      | inl lt ↦ index_get (map (λ i. open_call b (call_id p i)) (call_numbers b p)) i (open_call b (call_id p i)) (numbered_read (λ i. open_call b (call_id p i)) (length (calls_of b p)) i lt)
      | inr le ↦
          index_beyond (map (λ i. open_call b (call_id p i)) (call_numbers b p)) i (numbered_beyond (λ i. open_call b (call_id p i)) (length (calls_of b p)) i le)
          ∙ sym (unknown_is_not_open (call_at b (call_id p i)) _ (beyond (calls_of b p) i le))
    ]

module _ (w v : World) (same : SameFuture w v) (tidy_w : Tidy w) (tidy_v : Tidy v) where
  many : length w.board.calls ≡ length v.board.calls
  many =
      sym (length-map (rank_numbers w.board) (rank_key w) ∙ range_length 0 (length w.board.calls))
      ∙ ap (λ (k : Key). length k.ranks) same
      ∙ (length-map (rank_numbers v.board) (rank_key v) ∙ range_length 0 (length v.board.calls))

  rank_same : (p : ℕ) → rank_key w p ≡ rank_key v p
  rank_same p =
      elim (less_or_not p (length w.board.calls)) [
        | inl lt ↦
            let both : Some (rank_key w p) ≡ Some (rank_key v p) =
            sym (numbered_read (rank_key w) (length w.board.calls) p lt) ∙ ap (λ (k : Key). slice_get k.ranks p) same ∙ numbered_read (rank_key v) (length v.board.calls) p (let e = many in omega (arith, e, lt))
            in cc
        | inr le ↦ none_key w tidy_w p le ∙ sym (none_key v tidy_v p (let e = many in omega (arith, e, le)))
      ]

  calls_same : (p : ℕ) → map (λ i. open_call w.board (call_id p i)) (call_numbers w.board p) ≡ map (λ i. open_call v.board (call_id p i)) (call_numbers v.board p)
  calls_same p = sym (calls_are w tidy_w p) ∙ ap calls_told (rank_same p) ∙ calls_are v tidy_v p

  counts_same : (p : ℕ) → length (calls_of w.board p) ≡ length (calls_of v.board p)
  counts_same p =
      sym (length-map (call_numbers w.board p) (λ i. open_call w.board (call_id p i)) ∙ range_length 0 (length (calls_of w.board p)))
      ∙ ap (λ (l : List (Option Call)). length l) (calls_same p)
      ∙ (length-map (call_numbers v.board p) (λ i. open_call v.board (call_id p i)) ∙ range_length 0 (length (calls_of v.board p)))

  opens_same : (c : CallId) → open_call w.board c ≡ open_call v.board c
  opens_same c = sym (asked_is w.board c.rank c.index) ∙ ap (λ (l : List (Option Call)). asked_at l c.index) (calls_same c.rank) ∙ asked_is v.board c.rank c.index

  rank_told : (b : Board) (p : ℕ) (o : Option RankWorld) → option_map (λ (k : RankKey). k.rank) (option_map (key_by b p) o) ≡ option_map (quieted b p) o
  rank_told b p None = refl
  rank_told b p (Some r) = refl

  ranks_same : (p : ℕ) → option_map (quieted w.board p) (slice_get w.ranks p) ≡ option_map (quieted v.board p) (slice_get v.ranks p)
  ranks_same p = sym (rank_told w.board p (slice_get w.ranks p)) ∙ ap (option_map (λ (k : RankKey). k.rank)) (rank_same p) ∙ rank_told v.board p (slice_get v.ranks p)

  -- ---- what is due

  -- of ranks of which the key is the same
  due_by : (c : CallId) (x y : Option RankWorld) → slice_get w.ranks c.rank ≡ x → slice_get v.ranks c.rank ≡ y → option_map (key_by w.board c.rank) x ≡ option_map (key_by v.board c.rank) y
      → Due w c → seen w.board c ≡ seen v.board c
  due_by c None y ex ey e (inl d) = let f : held_in c.rank None (Some d.0) ≡ Some c = sym (ap (λ (o : Option RankWorld). held_in c.rank o (Some d.0)) ex) ∙ d.1 in absurd (cc)
  due_by c None y ex ey e (inr d) = let f : waits None ≡ true = sym (ap waits ex) ∙ d.0 in absurd (cc)
  due_by c (Some r) None ex ey e d = absurd (cc)
  due_by c (Some r) (Some s) ex ey e (inl d) =
      let keys : key_by w.board c.rank r ≡ key_by v.board c.rank s = cc in
      let holds : option_map (call_id c.rank) (slice_index_or r.handles d.0 None) ≡ Some c = sym (ap (λ (o : Option RankWorld). held_in c.rank o (Some d.0)) ex) ∙ d.1 in
      let m = mapped_from (call_id c.rank) (slice_index_or r.handles d.0 None) c holds in
      let handles : r.handles ≡ s.handles = ap (λ (k : RankKey). k.rank.handles) keys in
      let told_w : slice_index_or (seen_held w.board c.rank r.handles) d.0 None ≡ Some (seen w.board c) =
      index_map (λ i. seen w.board (call_id c.rank i)) r.handles d.0 ∙ ap (option_map (λ i. seen w.board (call_id c.rank i))) m.1 ∙ ap (λ (z : CallId). Some (seen w.board z)) m.2
      in
      let told_v : slice_index_or (seen_held v.board c.rank s.handles) d.0 None ≡ Some (seen v.board c) =
      index_map (λ i. seen v.board (call_id c.rank i)) s.handles d.0
      ∙ ap (option_map (λ i. seen v.board (call_id c.rank i))) (sym (ap (λ (hs : List (Option ℕ)). slice_index_or hs d.0 None) handles) ∙ m.1)
      ∙ ap (λ (z : CallId). Some (seen v.board z)) m.2
      in
      let both : Some (seen w.board c) ≡ Some (seen v.board c) = sym told_w ∙ ap (λ (k : RankKey). slice_index_or k.held d.0 None) keys ∙ told_v in
      cc
  due_by c (Some r) (Some s) ex ey e (inr d) =
      let keys : key_by w.board c.rank r ≡ key_by v.board c.rank s = cc in
      let on_w : is_blocked r.activity ≡ true = sym (ap waits ex) ∙ d.0 in
      let on_v : is_blocked s.activity ≡ true = sym (ap (λ (k : RankKey). is_blocked k.rank.activity) keys) ∙ on_w in
      let both : seen_last w.board c.rank true ≡ seen_last v.board c.rank true = ap (seen_last w.board c.rank) (sym on_w) ∙ ap (λ (k : RankKey). k.blocked) keys ∙ ap (seen_last v.board c.rank) on_v in
      by_which both d.1
    where
      last_same : last_call w.board c.rank ≡ last_call v.board c.rank
      last_same = ap (λ (n : ℕ). call_id c.rank (n - 1)) (counts_same c.rank)

      last_of : Option BlockedOn → Seen
      last_of None = seen w.board c
      last_of (Some b) = b.last

      target_of : Option BlockedOn → Option Seen
      target_of None = None
      target_of (Some b) = b.target

      seen_of : Option Seen → Seen
      seen_of None = seen w.board c
      seen_of (Some x) = x

      by_which : seen_last w.board c.rank true ≡ seen_last v.board c.rank true → (last_call w.board c.rank ≡ c) ⊎ (awaited w.board (last_call w.board c.rank) ≡ Some c) → seen w.board c ≡ seen v.board c
      by_which both (inl at) =
          let lasts : seen w.board (last_call w.board c.rank) ≡ seen v.board (last_call v.board c.rank) = ap last_of both in
          ap (seen w.board) (sym at) ∙ lasts ∙ ap (seen v.board) (sym last_same ∙ at)
      by_which both (inr at) =
          let lasts : seen w.board (last_call w.board c.rank) ≡ seen v.board (last_call v.board c.rank) = ap last_of both in
          let targets : option_map (seen w.board) (awaited w.board (last_call w.board c.rank)) ≡ option_map (seen v.board) (awaited v.board (last_call v.board c.rank)) = ap target_of both in
          let there : awaited v.board (last_call v.board c.rank) ≡ Some c =
          sym (kind_told (awaited_by (last_call w.board c.rank)) (λ s. refl) (λ r. refl) w.board v.board (last_call w.board c.rank) (last_call v.board c.rank) lasts
          ∙ ap (λ (z : CallId). awaited_by z (kind_at v.board (last_call v.board c.rank))) last_same)
          ∙ at
          in
          let one : Some (seen w.board c) ≡ Some (seen v.board c) = sym (ap (option_map (seen w.board)) at) ∙ targets ∙ ap (option_map (seen v.board)) there in
          ap seen_of one

  -- and where it is blocked, which statement issued its last call
  stands_by : (p : ℕ) (x y : Option RankWorld) → slice_get w.ranks p ≡ x → slice_get v.ranks p ≡ y → option_map (key_by w.board p) x ≡ option_map (key_by v.board p) y
      → waits (slice_get w.ranks p) ≡ true → last_statement w.board p ≡ last_statement v.board p
  stands_by p None y ex ey e d = let f : waits None ≡ true = sym (ap waits ex) ∙ d in absurd (cc)
  stands_by p (Some r) None ex ey e d = absurd (cc)
  stands_by p (Some r) (Some s) ex ey e d =
      let keys : key_by w.board p r ≡ key_by v.board p s = cc in
      let on_w : is_blocked r.activity ≡ true = sym (ap waits ex) ∙ d in
      let on_v : is_blocked s.activity ≡ true = sym (ap (λ (k : RankKey). is_blocked k.rank.activity) keys) ∙ on_w in
      let both : seen_last w.board p true ≡ seen_last v.board p true = ap (seen_last w.board p) (sym on_w) ∙ ap (λ (k : RankKey). k.blocked) keys ∙ ap (seen_last v.board p) on_v in
      ap statement_in both
    where
      statement_in : Option BlockedOn → ℕ
      statement_in None = 0
      statement_in (Some b) = b.statement

  pub alike : Alike w v
  alike = record {
    ranks = ranks_same;
    size = tidy_w.sized ∙ many ∙ sym tidy_v.sized;
    mode = ap (λ (k : Key). k.mode) same;
    many = many;
    counts = counts_same;
    opens = opens_same;
    due = λ c d. due_by c (slice_get w.ranks c.rank) (slice_get v.ranks c.rank) refl refl (rank_same c.rank) d;
    stands = λ p d. stands_by p (slice_get w.ranks p) (slice_get v.ranks p) refl refl (rank_same p) d;
  }

-- ---- every world of a run is tidy

start_handles : (n h : ℕ) (i : ℕ) → slice_index_or (replicate {A = Option ℕ} n None) h None ≡ Some i → ⊥
start_handles zero h i e = cc
start_handles (suc n) zero i e = cc
start_handles (suc n) (suc h) i e = start_handles n h i e

start_held : (s : Program) (n : ℕ) (p q h : ℕ) (c : CallId) → held_in q (slice_get (replicate n (start_rank s)) p) (Some h) ≡ Some c → ⊥
start_held s zero p q h c e = cc
start_held s (suc n) zero q h c e = let m = mapped_from (call_id q) (slice_index_or (start_rank s).handles h None) c e in start_handles _ h m.0 m.1
start_held s (suc n) (suc p) q h c e = start_held s n p q h c e

pub start_tidy : (s : Program) (mode : Mode) → Tidy (start s mode)
start_tidy s mode = record {
  typed = λ c d e k. absurd (cc);
  known = λ c d e. absurd (cc);
  held = λ c h. absurd (start_held s s.ranks c.rank c.rank h.0 c h.1);
  sized = length-replicate s.ranks (start_rank s) ∙ sym (length-replicate {A = List Call} s.ranks []);
}

pub fold_tidy : (steps : List Step) (u w : World) → fold u steps ≡ Some w → Tidy u → Tidy w
fold_tidy [] u w e h = let same : u ≡ w = cc in subst Tidy same h
fold_tidy (a ∷ steps) u w e h =
    let after = joined_from (λ v. fold v steps) (next u a) w e in
    fold_tidy steps after.0 w after.2 (stays_tidy u a after.0 h after.1)
