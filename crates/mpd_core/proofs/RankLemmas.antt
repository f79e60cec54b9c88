-- One of the ranks is changed, and changed back.
use Rattle.std.proofs.Common.{◌≡◌, ◌&&◌, ℕ, zero, suc, ◌<◌, ◌≤◌, ◌+◌, List, [], ◌∷◌, ◌++◌, length, map, get_or, set, take, drop, add-one, ℤ, Option, Some, None, Result, Ok, Err, IfOk, refl, sym, ap, ◌∙◌, arith, slice_get, slice_set, option_and_then, IfSome, replicate, Bool, true, false}
use Rattle.std.proofs.lemmas.Option.{slice_get_read}
use Rattle.std.proofs.lemmas.List.{map-set, map-append, length-map, length-set, replicate-append-replicate, take_more, take_all}
use Rattle.std.specs.Option.{option_map}
use Rattle.std.proofs.lemmas.List.FromFn.{length-range_with_len}
use Rattle.std.specs.List.{list_all, range_with_len}
use Rattle.mpd_model.specs.steps.Outcomes.{has_ended}
use Rattle.mpd_model.specs.declared.step.Step.TheVariants.{Local}
use Rattle.mpd_model.specs.steps.World.{RankWorld, World, Board, calls_of}
use Rattle.mpd_model.specs.steps.Next.{Ran, next, local, local_at, stepped, put_at, update_at, is_blocked, waits}
use Rattle.mpd_model.specs.declared.call.Activity.{Activity}
use Rattle.mpd_model.specs.declared.call.Activity.TheVariants.{Running, Blocked, Trapped}
use Rattle.mpd_model.specs.script.Program.{Program}
use Rattle.mpd_rank.specs.Views.{RankView, rank_of}
use Rattle.mpd_rank.specs.declared.change.WakeRecord.{WakeRecord}
use Rattle.mpd_rank.specs.Undone.{LocalDone}
use Rattle.mpd_rank.specs.Records.{local_record, wake_record}
use Rattle.mpd_core.specs.Views.{ranks_in, world_in, numbers_in, writes_in, Holds, HasTags}
use Rattle.mpd_core.specs.OneRank.{ran_on, local_on}
use Rattle.mpd_core.specs.Records.{local_record_at, wake_record_at}
use Rattle.mpd_core.proofs.RoomLemmas.{room_kept, room_taken, room_spared}

pub length-ranks_in : (s : Program) (vs : List RankView) → length (ranks_in s vs) ≡ length vs
length-ranks_in s vs = length-map vs (rank_of s)

pub slice_get-ranks_in : (s : Program) (vs : List RankView) (p : ℕ) → slice_get (ranks_in s vs) p ≡ option_map (rank_of s) (slice_get vs p)
slice_get-ranks_in s [] p = refl
slice_get-ranks_in s (v ∷ vs) zero = refl
slice_get-ranks_in s (v ∷ vs) (suc p) = slice_get-ranks_in s vs p

rank_read : (s : Program) (vs : List RankView) (n p : ℕ) (v : RankView) → n ≡ length vs → p < n → v ≡ get_or vs p v → slice_get (ranks_in s vs) p ≡ Some (rank_of s v)
rank_read s vs n p v e h read = slice_get-ranks_in s vs p ∙ ap (option_map (rank_of s)) (slice_get_read vs n p v e h read)

-- ---- the ranks know their numbers

numbered_from : (vs : List RankView) (k m p : ℕ) (v : RankView) → numbers_in vs ≡ range_with_len k m → p < length vs → v ≡ get_or vs p v → v.rank ≡ k + p
numbered_from [] k m p v e h read = absurd (omega arith)
numbered_from (u ∷ vs) k zero p v e h read = cc
numbered_from (u ∷ vs) k (suc m) zero v e h read = ap (λ (x : RankView). x.rank) read ∙ ap (λ xs. get_or xs 0 0) e ∙ omega arith
numbered_from (u ∷ vs) k (suc m) (suc p) v e h read = numbered_from vs (k + 1) m p v (ap (drop 1) e) (omega arith) read ∙ omega arith

-- so a rank that was read steps as the rank there
as_numbered : (s : Program) (vs : List RankView) (n p : ℕ) (v : RankView) → n ≡ length vs → p < n → v ≡ get_or vs p v → numbers_in vs ≡ range_with_len 0 s.ranks → (v.rank ≡ p) × (s.ranks ≡ n)
as_numbered s vs n p v e h read numbers = (
  numbered_from vs 0 s.ranks p v numbers (omega (arith, e)) read ∙ omega arith,
  sym (length-range_with_len 0 s.ranks) ∙ ap length (sym numbers) ∙ length-map vs (λ (x : RankView). x.rank) ∙ sym e,
)

pub numbers_set : (vs : List RankView) (p : ℕ) (v w : RankView) → v ≡ get_or vs p v → w.rank ≡ v.rank → numbers_in (set vs p w) ≡ numbers_in vs
numbers_set [] p v w read same = refl
numbers_set (u ∷ vs) zero v w read same = ap (λ k. k ∷ numbers_in vs) (same ∙ ap (λ (x : RankView). x.rank) read)
numbers_set (u ∷ vs) (suc p) v w read same = ap (λ ks. u.rank ∷ ks) (numbers_set vs p v w read same)

range_more : (a n : ℕ) → range_with_len a (suc n) ≡ range_with_len a n ++ (a + n) ∷ []
range_more a zero = let e : a ≡ a + 0 = omega arith in ap (λ k. k ∷ []) e
range_more a (suc n) =
    let e : a + 1 + n ≡ a + suc n = omega arith in
    ap (λ xs. a ∷ xs) (range_more (a + 1) n ∙ ap (λ k. range_with_len (a + 1) n ++ k ∷ []) e)

pub numbers_more : (vs : List RankView) (v : RankView) (n : ℕ) → numbers_in vs ≡ range_with_len 0 n → v.rank ≡ n → numbers_in (vs ++ v ∷ []) ≡ range_with_len 0 (n + 1)
numbers_more vs v n e is =
    let from_0 : v.rank ≡ 0 + n = omega (arith, is) in
    let one : suc n ≡ n + 1 = omega arith in
    map-append (λ (x : RankView). x.rank) vs (v ∷ []) ∙ ap (λ xs. xs ++ v.rank ∷ []) e ∙ ap (λ k. range_with_len 0 n ++ k ∷ []) from_0 ∙ sym (range_more 0 n) ∙ ap (range_with_len 0) one

-- ---- how many ranks there are

pub count_is : (s : Program) (vs : List RankView) → numbers_in vs ≡ range_with_len 0 s.ranks → length vs ≡ s.ranks
count_is s vs numbers = sym (length-map vs (λ (x : RankView). x.rank)) ∙ ap length numbers ∙ length-range_with_len 0 s.ranks

pub board_count : (s : Program) (vs : List RankView) (b : Board) (n : ℕ) → Holds s vs b → n ≡ length vs → n ≡ length b.calls
board_count s vs b n h e = e ∙ count_is s vs h.numbers ∙ sym h.calls

-- as many as the program has
pub all_there : (s : Program) (vs : List RankView) (b : Board) → Holds s vs b → s.ranks ≡ length (ranks_in s vs)
all_there s vs b h = sym (length-map vs (rank_of s) ∙ count_is s vs h.numbers)

-- a rank that was read has the number of its place, and the board has its calls
pub rank_is : (s : Program) (vs : List RankView) (b : Board) (n p : ℕ) (v : RankView) → n ≡ length vs → p < n → v ≡ get_or vs p v → Holds s vs b → v.rank ≡ p
rank_is s vs b n p v e h read held = (as_numbered s vs n p v e h read held.numbers).0

-- where the world has a rank, the one that was read has its number
pub number_is : (s : Program) (vs : List RankView) (b : Board) (n p : ℕ) (v : RankView) → n ≡ length (ranks_in s vs) → p < n → v ≡ get_or vs p v → Holds s vs b → v.rank ≡ p
number_is s vs b n p v e h read held = rank_is s vs b n p v (e ∙ length-map vs (rank_of s)) h read held

pub on_board : (s : Program) (vs : List RankView) (b : Board) (n p : ℕ) (v : RankView) → n ≡ length vs → p < n → v ≡ get_or vs p v → Holds s vs b → v.rank < length b.calls
on_board s vs b n p v e h read held = omega (arith, rank_is s vs b n p v e h read held, h, board_count s vs b n held e)

-- and so it is where that rank has changed
pub held_set : (s : Program) (vs : List RankView) (b c : Board) (p : ℕ) (v w : RankView) → v ≡ get_or vs p v → w.rank ≡ v.rank → length c.calls ≡ length b.calls → HasTags c → Holds s vs b → Holds s (set vs p w) c
held_set s vs b c p v w read same calls tags held = record {
  few = omega (arith, length-set vs p w, held.few);
  numbers = numbers_set vs p v w read same ∙ held.numbers;
  calls = calls ∙ held.calls;
  tags = tags;
}

-- a step of the rank that was read is the step there
local_read : (s : Program) (vs : List RankView) (n p : ℕ) (v : RankView) (b : Board) → n ≡ length vs → p < n → v ≡ get_or vs p v → numbers_in vs ≡ range_with_len 0 s.ranks
    → local_at (world_in s vs b) p ≡ local v.rank s.ranks (length (calls_of b v.rank)) (rank_of s v)
local_read s vs n p v b e h read numbers =
    let same : (v.rank ≡ p) × (s.ranks ≡ n) = as_numbered s vs n p v e h read numbers in
    let here : local_at (world_in s vs b) p ≡ local p (length (ranks_in s vs)) (length (calls_of b p)) (rank_of s v) = ap (option_and_then (local p (length (ranks_in s vs)) (length (calls_of b p)))) (rank_read s vs n p v e h read) in
    here ∙ ap (λ m. local p m (length (calls_of b p)) (rank_of s v)) (length-ranks_in s vs ∙ sym e ∙ sym same.1) ∙ ap (λ q. local q s.ranks (length (calls_of b q)) (rank_of s v)) (sym same.0)

abbrev put_on : Program → List RankView → ℕ → RankWorld × Board → World
put_on s vs p d = record { ranks = slice_set (ranks_in s vs) p d.0; board = d.1 }

stepped_on : (s : Program) (vs : List RankView) (b : Board) (p q : ℕ) (o : Option Ran) → q ≡ p → option_map (stepped (world_in s vs b) p) o ≡ option_map (put_on s vs p) (option_map (ran_on b q) o)
stepped_on s vs b p q None e = refl
stepped_on s vs b p q (Some d) e = ap (λ k. Some (put_on s vs p (ran_on b k d))) (sym e)

next_read : (s : Program) (vs : List RankView) (n p : ℕ) (v : RankView) (b : Board) → n ≡ length vs → p < n → v ≡ get_or vs p v → numbers_in vs ≡ range_with_len 0 s.ranks
    → next (world_in s vs b) (Local p) ≡ option_map (put_on s vs p) (local_on s b v)
next_read s vs n p v b e h read numbers =
    let same : (v.rank ≡ p) × (s.ranks ≡ n) = as_numbered s vs n p v e h read numbers in
    ap (option_map (stepped (world_in s vs b) p)) (local_read s vs n p v b e h read numbers)
    ∙ stepped_on s vs b p v.rank (local v.rank s.ranks (length (calls_of b v.rank)) (rank_of s v)) same.0

-- a rank that steps, and the world with it
pub next_some : (s : Program) (vs : List RankView) (n p : ℕ) (v w : RankView) (b c : Board) → n ≡ length vs → p < n → v ≡ get_or vs p v → numbers_in vs ≡ range_with_len 0 s.ranks
    → local_on s b v ≡ Some (rank_of s w, c) → next (world_in s vs b) (Local p) ≡ Some (world_in s (set vs p w) c)
next_some s vs n p v w b c e h read numbers step =
    next_read s vs n p v b e h read numbers ∙ ap (option_map (put_on s vs p)) step ∙ ap (λ ranks. Some (record { ranks = ranks; board = c })) (sym (map-set (rank_of s) vs p w))

pub next_none : (s : Program) (vs : List RankView) (n p : ℕ) (v : RankView) (b : Board) → n ≡ length vs → p < n → v ≡ get_or vs p v → numbers_in vs ≡ range_with_len 0 s.ranks
    → local_on s b v ≡ None → next (world_in s vs b) (Local p) ≡ None
next_none s vs n p v b e h read numbers none = next_read s vs n p v b e h read numbers ∙ ap (option_map (put_on s vs p)) none

unmapped : {A B : Type 0} (f : A → B) (o : Option A) → option_map f o ≡ None → o ≡ None
unmapped f None e = refl
unmapped f (Some x) e = cc

pub none_on : (s : Program) (vs : List RankView) (n p : ℕ) (v : RankView) (b : Board) → n ≡ length vs → p < n → v ≡ get_or vs p v → numbers_in vs ≡ range_with_len 0 s.ranks
    → next (world_in s vs b) (Local p) ≡ None → local_on s b v ≡ None
none_on s vs n p v b e h read numbers none = unmapped (put_on s vs p) (local_on s b v) (sym (next_read s vs n p v b e h read numbers) ∙ none)

-- its record
record_read : (s : Program) (vs : List RankView) (n p : ℕ) (v : RankView) → n ≡ length vs → p < n → v ≡ get_or vs p v → numbers_in vs ≡ range_with_len 0 s.ranks
    → local_record_at (ranks_in s vs) p ≡ local_record v.rank s.ranks (rank_of s v)
record_read s vs n p v e h read numbers =
    let same : (v.rank ≡ p) × (s.ranks ≡ n) = as_numbered s vs n p v e h read numbers in
    rw (rank_read s vs n p v e h read) (λ i. local_record (sym same.0 i) ((length-ranks_in s vs ∙ sym e ∙ sym same.1) i) (rank_of s v))

pub recorded_ok : {E : Type 0} (s : Program) (vs : List RankView) (n p : ℕ) (v : RankView) (result : Result LocalDone E) → n ≡ length vs → p < n → v ≡ get_or vs p v → numbers_in vs ≡ range_with_len 0 s.ranks
    → IfOk result (λ done. local_record v.rank s.ranks (rank_of s v) ≡ Some done) → IfOk result (λ done. local_record_at (ranks_in s vs) p ≡ Some done)
recorded_ok s vs n p v (Ok done) e h read numbers is = record_read s vs n p v e h read numbers ∙ is
recorded_ok s vs n p v (Err failed) e h read numbers is = tt

pub woke_read : (s : Program) (vs : List RankView) (n p : ℕ) (v : RankView) (writes : List (ℕ × ℤ)) (handle : Option ℕ) (made : WakeRecord) → n ≡ length vs → p < n → v ≡ get_or vs p v → made ≡ wake_record (rank_of s v) writes handle → wake_record_at (ranks_in s vs) p writes handle ≡ Some made
woke_read s vs n p v writes handle made e h read is = rw (rank_read s vs n p v e h read) (ap Some (sym is))

-- ---- the writes of all ranks

pub writes_set : (vs : List RankView) (n p : ℕ) (v w : RankView) → n ≡ length vs → p < n → v ≡ get_or vs p v → writes_in (set vs p w) + v.writes ≡ writes_in vs + w.writes
writes_set [] n p v w e h read = absurd (omega (arith, e))
writes_set (u ∷ vs) n zero v w e h read = omega (arith, ap (λ (x : RankView). x.writes) read)
writes_set (u ∷ vs) n (suc p) v w e h read = omega (arith, writes_set vs (length vs) p v w refl (omega (arith, e)) read)

pub writes_same : (vs : List RankView) (n p : ℕ) (v w : RankView) → n ≡ length vs → p < n → v ≡ get_or vs p v → w.writes ≡ v.writes → writes_in (set vs p w) ≡ writes_in vs
writes_same vs n p v w e h read same = omega (arith, writes_set vs n p v w e h read, same)

put_back-suc : (x : RankWorld) (ys : List RankWorld) (p : ℕ) (o : Option RankWorld) (back : RankWorld → RankWorld) → put_at (x ∷ ys) (suc p) o back ≡ x ∷ put_at ys p o back
put_back-suc x ys p None back = refl
put_back-suc x ys p (Some r) back = refl

put_back-set : (xs : List RankWorld) (p : ℕ) (r s : RankWorld) (back : RankWorld → RankWorld) → slice_get xs p ≡ Some r → back s ≡ r → update_at (set xs p s) p back ≡ xs
put_back-set [] p r s back read undone = cc
put_back-set (x ∷ xs) zero r s back read undone =
    let same : x ≡ r = cc in
    ap (λ y. y ∷ xs) (undone ∙ sym same)
put_back-set (x ∷ xs) (suc p) r s back read undone =
    put_back-suc x (set xs p s) p (slice_get (set xs p s) p) back ∙ ap (λ ys. x ∷ ys) (put_back-set xs p r s back read undone)

-- a changed rank that is put back is the rank before
pub put_back_read : (s : Program) (vs : List RankView) (n p : ℕ) (v w : RankView) (back : RankWorld → RankWorld) → n ≡ length vs → p < n → v ≡ get_or vs p v → back (rank_of s w) ≡ rank_of s v
    → update_at (ranks_in s (set vs p w)) p back ≡ ranks_in s vs
put_back_read s vs n p v w back e h read undone =
    ap (λ ranks. update_at ranks p back) (map-set (rank_of s) vs p w) ∙ put_back-set (ranks_in s vs) p (rank_of s v) (rank_of s w) back (rank_read s vs n p v e h read) undone

-- a change of the rank that was read is the change there
pub update_read : (s : Program) (vs : List RankView) (n p : ℕ) (v w : RankView) (f : RankWorld → RankWorld) → n ≡ length vs → p < n → v ≡ get_or vs p v → rank_of s w ≡ f (rank_of s v)
    → ranks_in s (set vs p w) ≡ update_at (ranks_in s vs) p f
update_read s vs n p v w f e h read done = rw (rank_read s vs n p v e h read) (map-set (rank_of s) vs p w ∙ ap (slice_set (ranks_in s vs) p) done)

-- a rank that stays is no change
same-set : (xs : List RankWorld) (p : ℕ) (r : RankWorld) → slice_get xs p ≡ Some r → set xs p r ≡ xs
same-set [] p r read = cc
same-set (x ∷ xs) zero r read = let same : x ≡ r = cc in ap (λ y. y ∷ xs) (sym same)
same-set (x ∷ xs) (suc p) r read = ap (λ ys. x ∷ ys) (same-set xs p r read)

pub stays_read : (s : Program) (vs : List RankView) (n p : ℕ) (v w : RankView) → n ≡ length vs → p < n → v ≡ get_or vs p v → rank_of s w ≡ rank_of s v → ranks_in s (set vs p w) ≡ ranks_in s vs
stays_read s vs n p v w e h read same = map-set (rank_of s) vs p w ∙ ap (set (ranks_in s vs) p) same ∙ same-set (ranks_in s vs) p (rank_of s v) (rank_read s vs n p v e h read)

-- a woken rank that is blocked again is the rank before
pub wake_back : (s : Program) (vs : List RankView) (n p : ℕ) (v w : RankView) (back : RankWorld → RankWorld) → n ≡ length vs → p < n → v ≡ get_or vs p v
    → (v.activity ≡ Blocked → back (rank_of s w) ≡ rank_of s v)
    → IfSome (slice_get (ranks_in s vs) p) (λ r. r.activity ≡ Blocked) → update_at (ranks_in s (set vs p w)) p back ≡ ranks_in s vs
wake_back s vs n p v w back e h read undone blocked =
    let at : slice_get (ranks_in s vs) p ≡ Some (rank_of s v) = rank_read s vs n p v e h read in
    put_back_read s vs n p v w back e h read (undone (rw at at blocked))

blocked_only : (a : Activity) → is_blocked a ≡ true → a ≡ Blocked
blocked_only Running e = cc
blocked_only Blocked e = refl
blocked_only (Trapped t) e = cc

waits_only : (o : Option RankWorld) → waits o ≡ true → IfSome o (λ r. r.activity ≡ Blocked)
waits_only None e = tt
waits_only (Some r) e = blocked_only r.activity e

both_true : (a b : Bool) → a && b ≡ true → a ≡ true
both_true true b e = refl
both_true false b e = e

-- only a blocked rank is woken
pub waking_blocked : (o : Option RankWorld) (b : Bool) → waits o && b ≡ true → IfSome o (λ r. r.activity ≡ Blocked)
waking_blocked o b e = waits_only o (both_true (waits o) b e)

pub start_more : (s : Program) (vs : List RankView) (v : RankView) (n : ℕ) (r : RankWorld) → ranks_in s vs ≡ replicate n r → rank_of s v ≡ r → ranks_in s (vs ++ v ∷ []) ≡ replicate (n + 1) r
start_more s vs v n r e same = map-append (rank_of s) vs (v ∷ []) ∙ ap (λ xs. xs ++ rank_of s v ∷ []) e ∙ ap (λ x. replicate n r ++ x ∷ []) same ∙ more n r
  where
    more : (n : ℕ) (r : RankWorld) → replicate n r ++ r ∷ [] ≡ replicate (n + 1) r
    more n r = replicate-append-replicate n 1 r

pub writes_more : (vs : List RankView) (v : RankView) → writes_in vs ≡ 0 → v.writes ≡ 0 → writes_in (vs ++ v ∷ []) ≡ 0
writes_more [] v none same = omega (arith, same)
writes_more (u ∷ vs) v none same = omega (arith, none, writes_more vs v (omega (arith, none)) same)

-- ---- ranks are copied, one after the other

-- one rank more that shows the same
copied_more : {X : Type 0} (f : RankView → X) (copied vs : List RankView) (i : ℕ) (v w : RankView) → i < length vs → v ≡ get_or vs i v → f w ≡ f v → map f copied ≡ map f (take i vs) → map f (copied ++ w ∷ []) ≡ map f (take (i + 1) vs)
copied_more f copied vs i v w lt read same so_far =
    let more : take (i + 1) vs ≡ take i vs ++ v ∷ [] = take_more vs i v lt ∙ ap (λ x. take i vs ++ x ∷ []) (sym read) in
    map-append f copied (w ∷ []) ∙ ap (λ xs. xs ++ f w ∷ []) so_far ∙ ap (λ x. map f (take i vs) ++ x ∷ []) same ∙ sym (map-append f (take i vs) (v ∷ [])) ∙ ap (map f) (sym more)

pub ranks_copied_more : (s : Program) (copied vs : List RankView) (i : ℕ) (v w : RankView) → i < length vs → v ≡ get_or vs i v → rank_of s w ≡ rank_of s v → ranks_in s copied ≡ ranks_in s (take i vs) → ranks_in s (copied ++ w ∷ []) ≡ ranks_in s (take (i + 1) vs)
ranks_copied_more s copied vs i v w = copied_more (rank_of s) copied vs i v w

pub numbers_copied_more : (copied vs : List RankView) (i : ℕ) (v w : RankView) → i < length vs → v ≡ get_or vs i v → w.rank ≡ v.rank → numbers_in copied ≡ numbers_in (take i vs) → numbers_in (copied ++ w ∷ []) ≡ numbers_in (take (i + 1) vs)
numbers_copied_more copied vs i v w = copied_more (λ (x : RankView). x.rank) copied vs i v w

pub ranks_copied : (s : Program) (copied vs : List RankView) (n : ℕ) → length vs ≤ n → ranks_in s copied ≡ ranks_in s (take n vs) → ranks_in s copied ≡ ranks_in s vs
ranks_copied s copied vs n all so_far = so_far ∙ ap (ranks_in s) (take_all n vs all)

pub numbers_copied : (copied vs : List RankView) (n : ℕ) → length vs ≤ n → numbers_in copied ≡ numbers_in (take n vs) → numbers_in copied ≡ numbers_in vs
numbers_copied copied vs n all so_far = so_far ∙ ap numbers_in (take_all n vs all)

-- one rank more that has or has not ended
pub ended_on : (s : Program) (vs : List RankView) (i : ℕ) (v : RankView) (total : Bool) → i < length vs → v ≡ get_or vs i v → has_ended (rank_of s v) ≡ true → list_all has_ended (ranks_in s (drop i vs)) ≡ total
    → list_all has_ended (ranks_in s (drop (i + 1) vs)) ≡ total
ended_on s vs i v total h read e so_far = rw add-one (ended_suc s vs i v total h read e so_far)
  where
    ended_suc : (s : Program) (vs : List RankView) (i : ℕ) (v : RankView) (total : Bool) → i < length vs → v ≡ get_or vs i v → has_ended (rank_of s v) ≡ true → list_all has_ended (ranks_in s (drop i vs)) ≡ total
        → list_all has_ended (ranks_in s (drop (suc i) vs)) ≡ total
    ended_suc s [] i v total h read e so_far = absurd (omega arith)
    ended_suc s (u ∷ vs) zero v total h read e so_far =
        let at : has_ended (rank_of s u) ≡ true = ap (λ (x : RankView). has_ended (rank_of s x)) (sym read) ∙ e in
        ap (λ b. b && list_all has_ended (ranks_in s vs)) (sym at) ∙ so_far
    ended_suc s (u ∷ vs) (suc i) v total h read e so_far = ended_suc s vs i v total (omega arith) read e so_far

pub ended_not : (s : Program) (vs : List RankView) (i : ℕ) (v : RankView) (total : Bool) → i < length vs → v ≡ get_or vs i v → has_ended (rank_of s v) ≡ false → list_all has_ended (ranks_in s (drop i vs)) ≡ total → total ≡ false
ended_not s [] i v total h read e so_far = absurd (omega arith)
ended_not s (u ∷ vs) zero v total h read e so_far =
    let at : has_ended (rank_of s u) ≡ false = ap (λ (x : RankView). has_ended (rank_of s x)) (sym read) ∙ e in
    sym so_far ∙ ap (λ b. b && list_all has_ended (ranks_in s vs)) at
ended_not s (u ∷ vs) (suc i) v total h read e so_far = ended_not s vs i v total (omega arith) read e so_far

pub ruleset ending = (ended_on, ended_not)

pub ruleset at_rank = (numbers_set, writes_set, woke_read, room_kept, room_taken, room_spared, put_back_read, update_read, wake_back)

pub ruleset reading = (slice_get-ranks_in)

pub ruleset numbered = (number_is, rank_is)

pub ruleset starting = (start_more, numbers_more, writes_more)

pub ruleset copying = (numbers_copied_more, numbers_copied, writes_more)

pub ruleset board = (length-ranks_in, board_count)
