-- One of several sides is changed.
use Rattle.std.proofs.Common.{◌≡◌, ℕ, zero, suc, ◌+◌, ◌<◌, ◌≤◌, min, Option, Some, None, List, [], ◌∷◌, ◌++◌, refl, sym, ap, ◌∙◌, length, map, get_or, set, take, drop, slice_get, replicate, arith}
use Rattle.std.proofs.lemmas.List.{map-set, map-append, get_or-map, get_or-replicate, replicate-append-replicate, take_more_set, take_all, drop_more, drop-set-lt}
use Rattle.std.proofs.lemmas.List.Sums.{sum_by-set, sum_by-append, sum_by-cons}
use Rattle.mpd_model.specs.declared.step.CallId.{CallId}
use Rattle.mpd_model.specs.declared.call.Call.{Call}
use Rattle.mpd_model.specs.declared.call.CallKind.{CallKind}
use Rattle.mpd_model.specs.declared.call.CallKind.TheVariants.{Send, Recv}
use Rattle.mpd_model.specs.steps.World.{listed_calls}
use Rattle.mpd_model.specs.steps.Next.{HasReceiver}
use Rattle.mpd_match.specs.Views.{SideView, no_side, side_at, calls_in, lines_in, writes_in, room_in}
use Rattle.mpd_match.specs.Lines.{line_of, mark_in, mark_at}

pub read_side : (sides : List SideView) (p : ℕ) (v : SideView) → p < length sides → v ≡ get_or sides p v → side_at sides p ≡ v
read_side [] p v lt read = absurd (omega arith)
read_side (u ∷ us) zero v lt read = sym read
read_side (u ∷ us) (suc p) v lt read = read_side us p v (omega arith) read

pub listed_at : (sides : List SideView) (p : ℕ) → listed_calls (slice_get (calls_in sides) p) ≡ (side_at sides p).calls
listed_at [] p = refl
listed_at (u ∷ us) zero = refl
listed_at (u ∷ us) (suc p) = listed_at us p

-- a part that stays
pub same_part : {X : Type 0} (f : SideView → X) (sides : List SideView) (p : ℕ) (v w : SideView) → v ≡ get_or sides p v → f w ≡ f v → map f (set sides p w) ≡ map f sides
same_part f [] p v w read e = refl
same_part f (u ∷ us) zero v w read e = ap (λ x. x ∷ map f us) (e ∙ ap f read)
same_part f (u ∷ us) (suc p) v w read e = ap (λ xs. f u ∷ xs) (same_part f us p v w read e)

-- calls that change
pub calls_at : (sides : List SideView) (p : ℕ) (v w : SideView) (f : List Call → List Call) → p < length sides → v ≡ get_or sides p v → w.calls ≡ f v.calls
    → calls_in (set sides p w) ≡ set (calls_in sides) p (f (listed_calls (slice_get (calls_in sides) p)))
calls_at sides p v w f lt read e =
    map-set (λ (u : SideView). u.calls) sides p w
    ∙ ap (set (calls_in sides) p) (e ∙ ap f (sym (listed_at sides p ∙ ap (λ (u : SideView). u.calls) (read_side sides p v lt read))))

pub room_less : (sides : List SideView) (p : ℕ) (v w : SideView) (less set_room : ℕ) → p < length sides → v ≡ get_or sides p v → v.room ≤ w.room + less → room_in set_room sides ≤ room_in set_room (set sides p w) + less
room_less [] p v w less set_room lt read e = absurd (omega arith)
room_less (u ∷ us) zero v w less set_room lt read e = let same : v.room ≡ u.room = ap (λ (x : SideView). x.room) read in omega arith
room_less (u ∷ us) (suc p) v w less set_room lt read e = omega (arith, room_less us p v w less set_room (omega arith) read e)

pub room_same : (sides : List SideView) (p : ℕ) (v w : SideView) (set_room : ℕ) → v ≡ get_or sides p v → w.room ≡ v.room → room_in set_room (set sides p w) ≡ room_in set_room sides
room_same [] p v w set_room read e = refl
room_same (u ∷ us) zero v w set_room read e = ap (λ (n : ℕ). min n (room_in set_room us)) (e ∙ ap (λ (x : SideView). x.room) read)
room_same (u ∷ us) (suc p) v w set_room read e = ap (min u.room) (room_same us p v w set_room read e)

pub writes_more : (sides : List SideView) (p : ℕ) (v w : SideView) (more : ℕ) → p < length sides → v ≡ get_or sides p v → w.writes ≡ v.writes + more → writes_in (set sides p w) ≡ writes_in sides + more
writes_more sides p v w more lt read e =
    let same : v.writes ≡ (get_or sides p v).writes = ap (λ (x : SideView). x.writes) read in
    omega (arith, sum_by-set (λ (x : SideView). x.writes) sides p w v lt)

-- ---- how many lines a side has

pub lines_at : (sides : List SideView) (p : ℕ) → p < length sides → lines_in sides ≡ replicate (length sides) (suc (length sides)) → (side_at sides p).lines ≡ suc (length sides)
lines_at sides p lt e =
    sym (get_or-map (λ (x : SideView). x.lines) sides p no_side 0 lt)
    ∙ ap (λ (xs : List ℕ). get_or xs p 0) e
    ∙ get_or-replicate (length sides) p (suc (length sides)) 0 lt

pub has_line : (ranks : ℕ) (kind : CallKind) (line : ℕ) → HasReceiver ranks kind → line_of (Some kind) ≡ Some line → line < suc ranks
has_line ranks (Send s) line has e = let f : s.to + 1 ≡ line = cc in omega (arith, f)
has_line ranks (Recv r) line has e = let f : 0 ≡ line = cc in omega (arith, f)
has_line ranks kind line has e = absurd (cc)

-- ---- all sides, one after the other

abbrev pub marks_in : List SideView → List (List (Option CallId))
marks_in sides = map (λ v. v.marks) sides

mark_told : (sides : List SideView) (p i : ℕ) → mark_in (side_at sides p).marks i ≡ mark_in (get_or (marks_in sides) p []) i
mark_told [] p i = refl
mark_told (u ∷ us) zero i = refl
mark_told (u ∷ us) (suc p) i = mark_told us p i

pub marks_told : (sides others : List SideView) (c : CallId) → marks_in sides ≡ marks_in others → mark_at sides c ≡ mark_at others c
marks_told sides others c e = mark_told sides c.rank c.index ∙ ap (λ (zs : List (List (Option CallId))). mark_in (get_or zs c.rank []) c.index) e ∙ sym (mark_told others c.rank c.index)

no_mark : (n p i : ℕ) → mark_in (get_or (replicate n []) p []) i ≡ None
no_mark zero p i = refl
no_mark (suc n) zero i = refl
no_mark (suc n) (suc p) i = no_mark n p i

pub marks_none : (sides : List SideView) (n : ℕ) (c : CallId) → marks_in sides ≡ replicate n [] → mark_at sides c ≡ None
marks_none sides n c e = mark_told sides c.rank c.index ∙ ap (λ (zs : List (List (Option CallId))). mark_in (get_or zs c.rank []) c.index) e ∙ no_mark n c.rank c.index

pub one_more_like : {X : Type 0} (f : SideView → X) (sides : List SideView) (v : SideView) (n : ℕ) (x : X) → map f sides ≡ replicate n x → f v ≡ x → map f (sides ++ v ∷ []) ≡ replicate (n + 1) x
one_more_like f sides v n x e is =
    map-append f sides (v ∷ []) ∙ ap (λ xs. xs ++ f v ∷ []) e ∙ ap (λ y. replicate n x ++ y ∷ []) is ∙ replicate-append-replicate n 1 x

pub writes_pushed : (sides : List SideView) (v : SideView) → writes_in sides ≡ 0 → v.writes ≡ 0 → writes_in (sides ++ v ∷ []) ≡ 0
writes_pushed sides v e is = omega (arith, sum_by-append (λ (u : SideView). u.writes) sides (v ∷ []), sum_by-cons (λ (u : SideView). u.writes) v [])

pub all_copied : {X : Type 0} (f : SideView → X) (copied sides : List SideView) (n : ℕ) → length sides ≤ n → map f copied ≡ map f (take n sides) → map f copied ≡ map f sides
all_copied f copied sides n e so_far = so_far ∙ ap (map f) (take_all n sides e)

-- ---- room is kept of one side after the other

pub no_room_at : (sides : List SideView) (p : ℕ) (v : SideView) (set_room : ℕ) → p < length sides → v ≡ get_or sides p v → v.room ≡ 0 → room_in set_room sides ≡ 0
no_room_at [] p v k lt read none = absurd (omega arith)
no_room_at (u ∷ us) zero v k lt read none = let same : v.room ≡ u.room = ap (λ (x : SideView). x.room) read in omega arith
no_room_at (u ∷ us) (suc p) v k lt read none = omega (arith, no_room_at us p v k (omega arith) read none)

pub some_room_at : (sides : List SideView) (p set_room : ℕ) → p < length sides → room_in set_room sides ≤ (side_at sides p).room
some_room_at [] p k lt = absurd (omega arith)
some_room_at (u ∷ us) zero k lt = omega arith
some_room_at (u ∷ us) (suc p) k lt = omega (arith, some_room_at us p k (omega arith))

pub some_set_room : (sides : List SideView) (set_room : ℕ) → room_in set_room sides ≤ set_room
some_set_room [] k = omega arith
some_set_room (u ∷ us) k = omega (arith, some_set_room us k)

-- where match sets have more room, so have all
pub more_set_room : (sides : List SideView) (k m less : ℕ) → k ≤ m + less → room_in k sides ≤ room_in m sides + less
more_set_room [] k m less le = le
more_set_room (u ∷ us) k m less le = omega (arith, more_set_room us k m less le)

room_append : (sides : List SideView) (k : ℕ) (w : SideView) → room_in k (sides ++ w ∷ []) ≡ room_in (min w.room k) sides
room_append [] k w = refl
room_append (u ∷ us) k w = ap (min u.room) (room_append us k w)

pub room_more : (sides : List SideView) (i k : ℕ) (w : SideView) → i < length sides → 1 ≤ k → 1 ≤ w.room → ((n : ℕ) → 1 ≤ n → 1 ≤ room_in n (take i sides)) → 1 ≤ room_in k (take (i + 1) (set sides i w))
room_more sides i k w lt some one all =
    let e : room_in k (take (i + 1) (set sides i w)) ≡ room_in (min w.room k) (take i sides) = ap (room_in k) (take_more_set sides i w lt) ∙ room_append (take i sides) k w in
    omega (arith, e, all (min w.room k) (omega arith))

rest_at : (sides olds : List SideView) (i : ℕ) (v : SideView) → i < length sides → length sides ≡ length olds → drop i sides ≡ drop i olds → get_or sides i v ∷ drop (i + 1) sides ≡ get_or olds i v ∷ drop (i + 1) olds
rest_at sides olds i v lt long e = sym (drop_more sides i v lt) ∙ e ∙ drop_more olds i v (omega (arith, long))

pub rest_more : (sides olds : List SideView) (i : ℕ) (w : SideView) → i < length sides → length sides ≡ length olds → drop i sides ≡ drop i olds → drop (i + 1) (set sides i w) ≡ drop (i + 1) olds
rest_more sides olds i w lt long e = drop-set-lt (i + 1) sides i w (omega arith) ∙ ap (drop 1) (rest_at sides olds i w lt long e)

pub no_room_old : (sides olds : List SideView) (i k : ℕ) (v : SideView) → i < length sides → length sides ≡ length olds → drop i sides ≡ drop i olds → v ≡ get_or sides i v → v.room ≡ 0 → room_in k olds ≡ 0
no_room_old sides olds i k v lt long e read none =
    no_room_at olds i v k (omega (arith, long)) (read ∙ ap (λ (us : List SideView). get_or us 0 v) (rest_at sides olds i v lt long e)) none

pub room_all : (sides : List SideView) (n k : ℕ) → n ≡ length sides → 1 ≤ k → ((m : ℕ) → 1 ≤ m → 1 ≤ room_in m (take n sides)) → 1 ≤ room_in k sides
room_all sides n k e some all = let f : room_in k (take n sides) ≡ room_in k sides = ap (room_in k) (take_all n sides (omega (arith, e))) in omega (arith, f, all k some)

pub ruleset keeping = (room_all, marks_told)

pub ruleset copying = (marks_told, writes_pushed, marks_none, one_more_like)

-- what holds of a refusal
