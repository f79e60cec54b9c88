-- All ranks are blocked on a barrier, go on from it, and are blocked on it again.
use Rattle.std.proofs.Common.{◌≡◌, ◌&&◌, ℕ, zero, suc, ◌<◌, ◌≤◌, ◌+◌, ◌-◌, Bool, true, false, nat_lt, if◌then◌else◌, min, List, [], ◌∷◌, ◌++◌, length, map, get_or, set, take, drop, add-one, append-nil, Option, Some, None, refl, sym, ap, ◌∙◌, arith, slice_get}
use Rattle.std.proofs.lemmas.List.{take_all, drop_all, length-map}
use Rattle.std.specs.List.{list_all, range_with_len}
use Rattle.mpd_model.specs.declared.step.Step.TheVariants.{Release}
use Rattle.mpd_model.specs.declared.call.Activity.{Activity}
use Rattle.mpd_model.specs.declared.call.Activity.TheVariants.{Running, Blocked, Trapped}
use Rattle.mpd_model.specs.declared.call.MatchSet.TheVariants.{Barrier}
use Rattle.mpd_model.specs.script.Program.{Program}
use Rattle.mpd_model.specs.steps.World.{RankWorld, World, Board, is_barrier, kind_at, last_call}
use Rattle.mpd_model.specs.steps.Next.{next, with_set, is_blocked, waits, is_at_barrier, can_release, going_on, released}
use Rattle.mpd_rank.specs.Views.{RankView, rank_of}
use Rattle.mpd_rank.specs.Undone.{blocked_again}
use Rattle.mpd_core.specs.Views.{ranks_in, world_in, numbers_in, room_in, writes_in, acting, Holds}
use Rattle.mpd_core.proofs.RankLemmas.{count_is}
use Rattle.mpd_core.proofs.TagLemmas.{tags_same}

-- ---- a change of every rank, one after the other

-- so many are changed, and the others are as they were
abbrev pub changed : (RankView → RankView) → ℕ → List RankView → List RankView
changed f n vs = map f (take n vs) ++ drop n vs

set_changed : (f : RankView → RankView) (i : ℕ) (vs : List RankView) (v w : RankView) → i < length vs → v ≡ get_or (changed f i vs) i v → w ≡ f v → set (changed f i vs) i w ≡ changed f (suc i) vs
set_changed f i [] v w h read is = absurd (omega arith)
set_changed f zero (u ∷ vs) v w h read is = ap (λ x. x ∷ vs) (is ∙ ap f read)
set_changed f (suc i) (u ∷ vs) v w h read is = ap (λ xs. f u ∷ xs) (set_changed f i vs v w (omega arith) read is)

pub changed_more : (f : RankView → RankView) (i : ℕ) (vs us : List RankView) (v w : RankView) → i < length vs → us ≡ changed f i vs → v ≡ get_or us i v → w ≡ f v → set us i w ≡ changed f (i + 1) vs
changed_more f i vs us v w h e read is = rw add-one (ap (λ xs. set xs i w) e ∙ set_changed f i vs v w h (read ∙ ap (λ xs. get_or xs i v) e) is)

pub changed_all : (f : RankView → RankView) (i n : ℕ) (vs us : List RankView) → n ≡ length vs → n ≤ i → us ≡ changed f i vs → us ≡ map f vs
changed_all f i n vs us size last e =
    let all : length vs ≤ i = omega (arith, size, last) in
    e ∙ ap (λ xs. map f xs ++ drop i vs) (take_all i vs all) ∙ ap (λ xs. map f vs ++ xs) (drop_all i vs all) ∙ append-nil (map f vs)

-- ---- what that is to the ranks of a world

abbrev doing : Activity → RankWorld → RankWorld
doing a r = record r { activity = a }

ranks_acting : (s : Program) (a : Activity) (vs : List RankView) → ranks_in s (map (acting a) vs) ≡ map (doing a) (ranks_in s vs)
ranks_acting s a [] = refl
ranks_acting s a (v ∷ vs) = ap (λ rs. doing a (rank_of s v) ∷ rs) (ranks_acting s a vs)

numbers_acting : (a : Activity) (vs : List RankView) → numbers_in (map (acting a) vs) ≡ numbers_in vs
numbers_acting a [] = refl
numbers_acting a (v ∷ vs) = ap (λ ks. v.rank ∷ ks) (numbers_acting a vs)

writes_acting : (a : Activity) (vs : List RankView) → writes_in (map (acting a) vs) ≡ writes_in vs + length vs
writes_acting a [] = refl
writes_acting a (v ∷ vs) = omega (arith, writes_acting a vs)

pub written_all : (a : Activity) (i n : ℕ) (vs us : List RankView) → n ≡ length vs → n ≤ i → us ≡ changed (acting a) i vs → writes_in us ≡ writes_in vs + length vs
written_all a i n vs us size last e = ap writes_in (changed_all (acting a) i n vs us size last e) ∙ writes_acting a vs

room_acting : (a : Activity) (vs : List RankView) (board_room : ℕ) → room_in board_room (map (acting a) vs) ≡ room_in board_room vs
room_acting a [] k = refl
room_acting a (v ∷ vs) k = ap (min v.room) (room_acting a vs k)

pub room_as_before : (a : Activity) (i n : ℕ) (vs us : List RankView) (board_room : ℕ) → n ≡ length vs → n ≤ i → us ≡ changed (acting a) i vs → room_in board_room vs ≤ room_in board_room us
room_as_before a i n vs us k size last e = omega (arith, ap (room_in k) (changed_all (acting a) i n vs us size last e) ∙ room_acting a vs k)

pub held_acting : (s : Program) (a : Activity) (vs ws : List RankView) (b c : Board) → Holds s vs b → ws ≡ map (acting a) vs → c.calls ≡ b.calls → Holds s ws c
held_acting s a vs ws b c held e same = record {
  few = omega (arith, ap length e ∙ length-map vs (acting a), held.few);
  numbers = ap numbers_in e ∙ numbers_acting a vs ∙ held.numbers;
  calls = ap length same ∙ held.calls;
  tags = tags_same b c held.tags same;
}

pub ranks_running : (s : Program) (vs ws : List RankView) → ws ≡ map (acting Running) vs → ranks_in s ws ≡ map going_on (ranks_in s vs)
ranks_running s vs ws e = ap (ranks_in s) e ∙ ranks_acting s Running vs

pub ranks_blocked : (s : Program) (vs ws : List RankView) → ws ≡ map (acting Blocked) vs → ranks_in s ws ≡ map blocked_again (ranks_in s vs)
ranks_blocked s vs ws e = ap (ranks_in s) e ∙ ranks_acting s Blocked vs

-- ---- whether every rank is at a barrier

module _ (t : ℕ → Bool) where
  -- all of a range
  abbrev pub all_from : ℕ → ℕ → Bool
  all_from i n = list_all t (range_with_len i n)

  all_next : (i n : ℕ) → i < n → all_from i (n - i) ≡ t i && all_from (i + 1) (n - (i + 1))
  all_next i n h =
      let k : n - i ≡ suc (n - (i + 1)) = omega arith in
      rw k refl

  pub all_on : (i n : ℕ) (total : Bool) → i < n → all_from i (n - i) ≡ total → t i ≡ true → all_from (i + 1) (n - (i + 1)) ≡ total
  all_on i n total h e here = sym (all_next i n h ∙ ap (λ b. b && all_from (i + 1) (n - (i + 1))) here) ∙ e

  pub all_not : (i n : ℕ) (total : Bool) → i < n → all_from i (n - i) ≡ total → t i ≡ false → total ≡ false
  all_not i n total h e here = sym e ∙ all_next i n h ∙ ap (λ b. b && all_from (i + 1) (n - (i + 1))) here

  pub all_ended : (i n : ℕ) (total : Bool) → n ≤ i → all_from i (n - i) ≡ total → total ≡ true
  all_ended i n total last e =
      let none : n - i ≡ 0 = omega arith in
      sym e ∙ ap (all_from i) none

and_false : (a b : Bool) → b ≡ false → a && b ≡ false
and_false true b e = e
and_false false b e = refl

and_true : (a b : Bool) → b ≡ true → a && b ≡ a
and_true true b e = e
and_true false b e = refl

left_true : (a b : Bool) → a && b ≡ true → a ≡ true
left_true true b e = refl
left_true false b e = e

right_true : (a b : Bool) → a && b ≡ true → b ≡ true
right_true true b e = e
right_true false b e = cc

pub cannot_release : (w : World) (n i : ℕ) → n ≡ length w.ranks → i < n → all_from (is_at_barrier w) i (n - i) ≡ all_from (is_at_barrier w) 0 n → is_at_barrier w i ≡ false → can_release w ≡ false
cannot_release w n i size h e here =
    let none : all_from (is_at_barrier w) 0 (length w.ranks) ≡ false = ap (all_from (is_at_barrier w) 0) (sym size) ∙ all_not (is_at_barrier w) i n (all_from (is_at_barrier w) 0 n) h e here in
    and_false (nat_lt 0 (length w.ranks)) (all_from (is_at_barrier w) 0 (length w.ranks)) none

pub releases_all : (w : World) (n i : ℕ) → n ≡ length w.ranks → n ≤ i → all_from (is_at_barrier w) i (n - i) ≡ all_from (is_at_barrier w) 0 n → nat_lt 0 n ≡ can_release w
releases_all w n i size last e =
    let all : all_from (is_at_barrier w) 0 (length w.ranks) ≡ true = ap (all_from (is_at_barrier w) 0) (sym size) ∙ all_ended (is_at_barrier w) i n (all_from (is_at_barrier w) 0 n) last e in
    ap (nat_lt 0) size ∙ sym (and_true (nat_lt 0 (length w.ranks)) (all_from (is_at_barrier w) 0 (length w.ranks)) all)

-- ---- ranks that are all blocked go on, and are blocked again

blocked_only : (a : Activity) → is_blocked a ≡ true → a ≡ Blocked
blocked_only Running e = cc
blocked_only Blocked e = refl
blocked_only (Trapped t) e = cc

blocked_back : (rs : List RankWorld) (k : ℕ) (at : ℕ → Option RankWorld) (more : ℕ → Bool) → ((j : ℕ) → at (k + j) ≡ slice_get rs j) → list_all (λ p. waits (at p) && more p) (range_with_len k (length rs)) ≡ true
    → map blocked_again (map going_on rs) ≡ rs
blocked_back [] k at more each all = refl
blocked_back (r ∷ rs) k at more each all =
    let rest : Bool = list_all (λ p. waits (at p) && more p) (range_with_len (k + 1) (length rs)) in
    let none : k ≡ k + 0 = omega arith in
    let here : at k ≡ Some r = ap at none ∙ each 0 in
    let waiting : waits (at k) ≡ true = left_true (waits (at k)) (more k) (left_true (waits (at k) && more k) rest all) in
    let blocked : r.activity ≡ Blocked = blocked_only r.activity (ap waits (sym here) ∙ waiting) in
    let next : (j : ℕ) → at (k + 1 + j) ≡ slice_get rs j = λ j. (let one : k + 1 + j ≡ k + suc j = omega arith in ap at one ∙ each (suc j)) in
    let others : map blocked_again (map going_on rs) ≡ rs = blocked_back rs (k + 1) at more next (right_true (waits (at k) && more k) rest all) in
    (λ i. record r { activity = sym blocked i } ∷ others i)

pub release_back : (s : Program) (vs ws : List RankView) (b : Board) → can_release (world_in s vs b) ≡ true → ws ≡ map (acting Running) vs → map blocked_again (ranks_in s ws) ≡ ranks_in s vs
release_back s vs ws b can e =
    let w = world_in s vs b in
    let all : list_all (is_at_barrier w) (range_with_len 0 (length w.ranks)) ≡ true = right_true (nat_lt 0 (length w.ranks)) (list_all (is_at_barrier w) (range_with_len 0 (length w.ranks))) can in
    let first : (j : ℕ) → slice_get w.ranks (0 + j) ≡ slice_get w.ranks j = λ j. (let none : 0 + j ≡ j = omega arith in ap (slice_get w.ranks) none) in
    ap (map blocked_again) (ranks_running s vs ws e)
    ∙ blocked_back w.ranks 0 (slice_get w.ranks) (λ p. is_barrier (kind_at b (last_call b p))) first all

-- and that is the step
pub release_next : (s : Program) (vs ws : List RankView) (b c : Board) → can_release (world_in s vs b) ≡ true → ws ≡ map (acting Running) vs → c ≡ with_set b Barrier → next (world_in s vs b) Release ≡ Some (world_in s ws c)
release_next s vs ws b c can e is =
    let w = world_in s vs b in
    ap (λ (t : Bool). if t then Some (released w) else None) can
    ∙ (λ i. Some (record { ranks = sym (ranks_running s vs ws e) i; board = sym is i }))

-- There are as many ranks as the program has.
pub ranks_of_script : (s : Program) (vs : List RankView) (b : Board) → Holds s vs b → length vs ≡ s.ranks
ranks_of_script s vs b held = count_is s vs held.numbers

pub ruleset changing = (changed_more, changed_all, written_all, room_as_before)

pub ruleset at_barriers = (all_on, cannot_release, releases_all)

pub ruleset releasing = (release_back, release_next, ranks_blocked, held_acting, ranks_of_script)
