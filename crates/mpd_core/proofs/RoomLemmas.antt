-- Room for a step: of each rank, and of the board.
use Rattle.std.proofs.Common.{◌≡◌, ℕ, zero, suc, ◌<◌, ◌≤◌, ◌+◌, min, List, [], ◌∷◌, ◌++◌, length, get_or, set, take, drop, refl, sym, ap, ◌∙◌, arith}
use Rattle.std.proofs.lemmas.List.{take_more_set, take_all, drop_more, drop-set-lt, length-set}
use Rattle.mpd_rank.specs.Views.{RankView}
use Rattle.mpd_core.specs.Views.{room_in}

room_less : (vs : List RankView) (k : ℕ) → room_in k vs ≤ k
room_less [] k = omega arith
room_less (v ∷ vs) k = omega (arith, room_less vs k)

min_none : (a k r : ℕ) → min a k ≡ 0 → r ≤ k → min a r ≡ 0
min_none a k r none less = omega (arith, none, less)

-- there is none where a rank has none
pub no_room_at : (vs : List RankView) (n p board_room : ℕ) (v : RankView) → n ≡ length vs → p < n → v ≡ get_or vs p v → v.room ≡ 0 → room_in board_room vs ≡ 0
no_room_at [] n p k v e h read none = absurd (omega (arith, e))
no_room_at (u ∷ vs) n zero k v e h read none = rw (← read) (omega (arith, none))
no_room_at (u ∷ vs) n (suc p) k v e h read none = omega (arith, no_room_at vs (length vs) p k v refl (omega (arith, e)) read none)

pub no_room_with : (vs : List RankView) (n p board_room : ℕ) (v : RankView) → n ≡ length vs → p < n → v ≡ get_or vs p v → min v.room board_room ≡ 0 → room_in board_room vs ≡ 0
no_room_with [] n p k v e h read none = absurd (omega (arith, e))
no_room_with (u ∷ vs) n zero k v e h read none = min_none u.room k (room_in k vs) (rw (sym read) none) (room_less vs k)
no_room_with (u ∷ vs) n (suc p) k v e h read none = omega (arith, no_room_with vs (length vs) p k v refl (omega (arith, e)) read none)

-- or nothing more fits on the board
pub no_board_room : (vs : List RankView) (board_room : ℕ) → board_room ≡ 0 → room_in board_room vs ≡ 0
no_board_room [] k none = none
no_board_room (v ∷ vs) k none = omega (arith, no_board_room vs k none)

-- ---- room is kept of one rank after the other

room_append : (vs : List RankView) (k : ℕ) (w : RankView) → room_in k (vs ++ w ∷ []) ≡ room_in (min w.room k) vs
room_append [] k w = refl
room_append (v ∷ vs) k w = ap (min v.room) (room_append vs k w)

-- one rank more has room
pub room_more : (vs : List RankView) (i k : ℕ) (w : RankView) → i < length vs → 1 ≤ k → 1 ≤ w.room → ((n : ℕ) → 1 ≤ n → 1 ≤ room_in n (take i vs)) → 1 ≤ room_in k (take (i + 1) (set vs i w))
room_more vs i k w h some one all = rw (take_more_set vs i w h, room_append (take i vs) k w) (all (min w.room k) (omega (arith, some, one)))

rest_at : (vs olds : List RankView) (i : ℕ) (v : RankView) → i < length vs → length vs ≡ length olds → drop i vs ≡ drop i olds → get_or vs i v ∷ drop (i + 1) vs ≡ get_or olds i v ∷ drop (i + 1) olds
rest_at vs olds i v h long e = sym (drop_more vs i v h) ∙ e ∙ drop_more olds i v (omega (arith, long))

-- and those behind it are as they were
pub rest_more : (vs olds : List RankView) (i : ℕ) (w : RankView) → i < length vs → length vs ≡ length olds → drop i vs ≡ drop i olds → drop (i + 1) (set vs i w) ≡ drop (i + 1) olds
rest_more vs olds i w h long e = drop-set-lt (i + 1) vs i w (omega arith) ∙ ap (drop 1) (rest_at vs olds i w h long e)

-- a rank that was reached without room had none at first
pub no_room_old : (vs olds : List RankView) (n i k : ℕ) (v : RankView) → drop i vs ≡ drop i olds → n ≡ length vs → length vs ≡ length olds → i < n → v ≡ get_or vs i v → v.room ≡ 0 → room_in k olds ≡ 0
no_room_old vs olds n i k v e size long h read none =
    no_room_at olds n i k v (size ∙ long) h (read ∙ ap (λ us. get_or us 0 v) (rest_at vs olds i v (omega (arith, size)) long e)) none

-- a rank with no less room than the one it takes the place of leaves no less in all
pub room_kept : (vs : List RankView) (n p board_room : ℕ) (v w : RankView) → n ≡ length vs → p < n → v ≡ get_or vs p v → v.room ≤ w.room → room_in board_room vs ≤ room_in board_room (set vs p w)
room_kept [] n p k v w e h read more = absurd (omega (arith, e))
room_kept (u ∷ vs) n zero k v w e h read more = omega (arith, more, ap (λ (x : RankView). x.room) read)
room_kept (u ∷ vs) n (suc p) k v w e h read more = omega (arith, room_kept vs (length vs) p k v w refl (omega (arith, e)) read more)

-- nor does it with more room on the board
pub room_grows : (vs : List RankView) (k m : ℕ) → k ≤ m → room_in k vs ≤ room_in m vs
room_grows [] k m more = more
room_grows (v ∷ vs) k m more = omega (arith, room_grows vs k m more)

at_most : (a b c : ℕ) → a ≤ b → b ≤ c → a ≤ c
at_most a b c low high = omega (arith, low, high)

pub room_never_less : (before after : List RankView) (k m : ℕ) → k ≤ m → ((n : ℕ) → room_in n before ≤ room_in n after) → room_in k before ≤ room_in m after
room_never_less before after k m more kept = at_most (room_in k before) (room_in k after) (room_in m after) (kept k) (room_grows after k m more)

pub room_on : (olds vs : List RankView) (n p k : ℕ) (v w : RankView) → n ≡ length vs → p < n → v ≡ get_or vs p v → v.room ≤ w.room → room_in k olds ≤ room_in k vs → room_in k olds ≤ room_in k (set vs p w)
room_on olds vs n p k v w e h read more so_far = at_most (room_in k olds) (room_in k vs) (room_in k (set vs p w)) so_far (room_kept vs n p k v w e h read more)

pub length_set : (vs : List RankView) (i : ℕ) (w : RankView) → length (set vs i w) ≡ length vs
length_set vs i w = length-set vs i w

pub room_all : (vs : List RankView) (n k : ℕ) → n ≡ length vs → 1 ≤ k → ((m : ℕ) → 1 ≤ m → 1 ≤ room_in m (take n vs)) → 1 ≤ room_in k vs
room_all vs n k e some all = rw (sym (take_all n vs (omega (arith, e)))) (all k some)

-- ---- what a step takes of the room, and what it leaves

-- one at most, with one less on the board
pub room_grown : (vs : List RankView) (k m : ℕ) → k ≤ m + 1 → room_in k vs ≤ room_in m vs + 1
room_grown [] k m less = less
room_grown (v ∷ vs) k m less = omega (arith, room_grown vs k m less)

-- and with one less of a rank
pub room_taken : (vs : List RankView) (n p k m : ℕ) (v w : RankView) → n ≡ length vs → p < n → v ≡ get_or vs p v → v.room ≤ w.room + 1 → k ≤ m + 1 → room_in k vs ≤ room_in m (set vs p w) + 1
room_taken [] n p k m v w e h read rank board = absurd (omega (arith, e))
room_taken (u ∷ vs) n zero k m v w e h read rank board = omega (arith, rank, room_grown vs k m board, ap (λ (x : RankView). x.room) read)
room_taken (u ∷ vs) n (suc p) k m v w e h read rank board = omega (arith, room_taken vs (length vs) p k m v w refl (omega (arith, e)) read rank board)

-- none, with no less on the board nor of the rank
pub room_spared : (vs : List RankView) (n p k m : ℕ) (v w : RankView) → n ≡ length vs → p < n → v ≡ get_or vs p v → v.room ≤ w.room → k ≤ m → room_in k vs ≤ room_in m (set vs p w)
room_spared vs n p k m v w e h read rank board = at_most (room_in k vs) (room_in k (set vs p w)) (room_in m (set vs p w)) (room_kept vs n p k v w e h read rank) (room_grows (set vs p w) k m board)

-- one at most, where the board has one less and no rank has less
pub room_less_on_board : (before after : List RankView) (k m : ℕ) → k ≤ m + 1 → ((n : ℕ) → room_in n before ≤ room_in n after) → room_in k before ≤ room_in m after + 1
room_less_on_board before after k m board ranks = omega (arith, room_grown before k m board, ranks m)

pub ruleset refused = (no_board_room)

pub ruleset spending = (room_grown, room_grows, room_less_on_board)

pub ruleset sparing = (room_grows, room_never_less)

pub ruleset keeping = (no_board_room, room_all, room_grows, room_never_less)
