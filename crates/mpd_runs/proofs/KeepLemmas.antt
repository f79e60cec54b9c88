-- The place of a leaf among leaves that rise, and what is added there.
use Rattle.std.proofs.Common.{◌≡◌, ℕ, zero, suc, ◌+◌, ◌-◌, ◌/◌, ◌<◌, ◌≤◌, if◌then◌else◌, Bool, true, false, List, [], ◌∷◌, length, map, take, drop, get_or, insert, Ordering, Less, Equal, Greater, is_eq, is_lt, String, string_bytes, refl, sym, ap, subst, ◌∙◌, arith}
use Rattle.std.specs.List.{AllByRecursion}
use Rattle.std.specs.List.Sorted.{IsStrictlySortedBy}
use Rattle.std.specs.Global.{Global, Box}
use Rattle.std.proofs.lemmas.List.{length-map}
use Rattle.mpd_explore.specs.declared.report.SearchLeaf.{SearchLeaf}
use Rattle.mpd_explore.proofs.ListLemmas.{drop_at}
use Rattle.mpd_runs.specs.Order.{order, leaf_order, Rises, with_leaf_by, with_leaf}
use Rattle.mpd_runs.specs.Drawing.{IsPlace, begins_with, TextsAre, IsEven, in_box, text_in}
use Rattle.mpd_runs.proofs.OrderLemmas.{order_then}

-- ---- the search for a place

abbrev pub AllBefore : List ℕ → List SearchLeaf → Type 0
AllBefore cs ls = AllByRecursion (λ l. order l.choices cs ≡ Less) ls

abbrev pub NoneBefore : List ℕ → List SearchLeaf → Type 0
NoneBefore cs ls = AllByRecursion (λ l. is_lt (order l.choices cs) ≡ false) ls

less_is : (o : Ordering) → is_lt o ≡ true → o ≡ Less
less_is Less h = refl
less_is Equal h = cc
less_is Greater h = cc

-- what comes before a leaf that comes before some choices
before_then : (x : SearchLeaf) (cs : List ℕ) (ls : List SearchLeaf) (i : ℕ) (y : SearchLeaf) → AllByRecursion (λ m. leaf_order x m ≡ Less) ls → i < length ls → y ≡ get_or ls i y → order y.choices cs ≡ Less → order x.choices cs ≡ Less
before_then x cs [] i y all within read h = absurd (omega (arith, within))
before_then x cs (l ∷ ls) zero y all within read h = let at : order x.choices y.choices ≡ Less = rw read all.0 in order_then x.choices y.choices cs at h
before_then x cs (l ∷ ls) (suc i) y all within read h = before_then x cs ls i y all.1 (omega (arith, within)) read h

pub low_more : (cs : List ℕ) (ls : List SearchLeaf) (i : ℕ) (y : SearchLeaf) → Rises ls → i < length ls → y ≡ get_or ls i y → order y.choices cs ≡ Less → AllBefore cs (take (suc i) ls)
unfolding IsStrictlySortedBy
low_more cs [] i y rises within read h = absurd (omega (arith, within))
low_more cs (l ∷ ls) zero y rises within read h = (ap (λ (x : SearchLeaf). order x.choices cs) (sym read) ∙ h, tt)
low_more cs (l ∷ ls) (suc i) y rises within read h = (before_then l cs ls i y rises.0 (omega (arith, within)) read h, low_more cs ls i y rises.1 (omega (arith, within)) read h)

-- what comes behind a leaf that doesn't
not_before : (b c cs : List ℕ) → is_lt (order b cs) ≡ false → order b c ≡ Less → (p : Ordering) → order c cs ≡ p → is_lt p ≡ false
not_before b c cs h k Equal f = refl
not_before b c cs h k Greater f = refl
not_before b c cs h k Less f = sym (ap is_lt (order_then b c cs k f)) ∙ h

none_behind : (x : SearchLeaf) (cs : List ℕ) (ls : List SearchLeaf) → AllByRecursion (λ m. leaf_order x m ≡ Less) ls → is_lt (order x.choices cs) ≡ false → NoneBefore cs ls
none_behind x cs [] all h = tt
none_behind x cs (l ∷ ls) all h = (not_before x.choices l.choices cs h all.0 (order l.choices cs) refl, none_behind x cs ls all.1 h)

pub high_less : (cs : List ℕ) (ls : List SearchLeaf) (i : ℕ) (y : SearchLeaf) → Rises ls → i < length ls → y ≡ get_or ls i y → is_lt (order y.choices cs) ≡ false → NoneBefore cs (drop i ls)
unfolding IsStrictlySortedBy
high_less cs [] i y rises within read h = absurd (omega (arith, within))
high_less cs (l ∷ ls) zero y rises within read h = let at : is_lt (order l.choices cs) ≡ false = rw read at h in (at, none_behind l cs ls rises.0 at)
high_less cs (l ∷ ls) (suc i) y rises within read h = high_less cs ls i y rises.1 (omega (arith, within)) read h

-- where a search stands: what is below the one place comes before, and what is from the other on doesn't
pub record Searching (cs : List ℕ) (ls : List SearchLeaf) (low high : ℕ) : Type 0 where
  pub ordered : low ≤ high
  pub within : high ≤ length ls
  pub before : AllBefore cs (take low ls)
  pub behind : NoneBefore cs (drop high ls)

one_more : (i : ℕ) → suc i ≡ i + 1
one_more i = omega arith

pub searching_on : (cs : List ℕ) (ls : List SearchLeaf) (low high i : ℕ) (y : SearchLeaf) (b : Bool) → Rises ls → Searching cs ls low high → low ≤ i → i < high → y ≡ get_or ls i y → b ≡ is_lt (order y.choices cs)
    → Searching cs ls (if b then i + 1 else low) (if b then high else i)
searching_on cs ls low high i y true rises s above below read h =
    record { ordered = omega (arith, below); within = s.within; before = subst (λ n. AllBefore cs (take n ls)) (one_more i) (low_more cs ls i y rises (omega (arith, below, s.within)) read (less_is (order y.choices cs) (sym h))); behind = s.behind }
searching_on cs ls low high i y false rises s above below read h =
    record { ordered = above; within = omega (arith, below, s.within); before = s.before; behind = high_less cs ls i y rises (omega (arith, below, s.within)) read (sym h) }

pub searching_then : (cs : List ℕ) (ls : List SearchLeaf) (low high i next_low next_high : ℕ) (y : SearchLeaf) (b : Bool) → Rises ls → Searching cs ls low high → low < high → i ≡ low + (high - low) / 2 → y ≡ get_or ls i y → b ≡ is_lt (order y.choices cs)
    → next_low ≡ (if b then i + 1 else low) → next_high ≡ (if b then high else i) → Searching cs ls next_low next_high
searching_then cs ls low high i next_low next_high y b rises s some middle read h one other =
    rw (one, other) (searching_on cs ls low high i y b rises s (omega (arith, middle)) (omega (arith, middle, some)) read h)

pub smaller : (low high i : ℕ) (b : Bool) → low ≤ i → i < high → (if b then high else i) - (if b then i + 1 else low) < high - low
smaller low high i true above below = omega (arith, above, below)
smaller low high i false above below = omega (arith, above, below)

-- ---- what is added

greater_is : (o : Ordering) → is_lt o ≡ false → is_eq o ≡ false → o ≡ Greater
greater_is Less h k = cc
greater_is Equal h k = cc
greater_is Greater h k = refl

equal_is : (o : Ordering) → is_eq o ≡ true → o ≡ Equal
equal_is Less h = cc
equal_is Equal h = refl
equal_is Greater h = cc

pub insert_is : (l : SearchLeaf) (ls : List SearchLeaf) (i : ℕ) → i ≤ length ls → AllBefore l.choices (take i ls) → NoneBefore l.choices (drop i ls) → begins_with l.choices (drop i ls) ≡ false → insert ls i l ≡ with_leaf l ls
insert_is l [] zero within before behind h = refl
insert_is l [] (suc i) within before behind h = absurd (omega (arith, within))
insert_is l (m ∷ ms) zero within before behind h = ap (λ o. with_leaf_by o l m ms (with_leaf l ms)) (sym (greater_is (leaf_order m l) behind.0 h))
insert_is l (m ∷ ms) (suc i) within before behind h = ap (λ ls. m ∷ ls) (insert_is l ms i (omega (arith, within)) before.1 behind h) ∙ ap (λ o. with_leaf_by o l m ms (with_leaf l ms)) (sym before.0)

pub there_is : (l : SearchLeaf) (ls : List SearchLeaf) (i : ℕ) → AllBefore l.choices (take i ls) → begins_with l.choices (drop i ls) ≡ true → ls ≡ with_leaf l ls
there_is l [] zero before h = cc
there_is l [] (suc i) before h = cc
there_is l (m ∷ ms) zero before h = ap (λ o. with_leaf_by o l m ms (with_leaf l ms)) (sym (equal_is (leaf_order m l) h))
there_is l (m ∷ ms) (suc i) before h = ap (λ ls. m ∷ ls) (there_is l ms i before.1 h) ∙ ap (λ o. with_leaf_by o l m ms (with_leaf l ms)) (sym before.0)

-- ---- its text

map_insert : {A B : Type 0} (f : A → B) (l : A) (ls : List A) (i : ℕ) → insert (map f ls) i (f l) ≡ map f (insert ls i l)
map_insert f l ls zero = refl
map_insert f l [] (suc i) = refl
map_insert f l (m ∷ ms) (suc i) = ap (λ ts. f m ∷ ts) (map_insert f l ms i)

pub text_put : {A : Type 0} (bytes : A → List ℕ) (asked : Bool) (x : A) (xs new : List A) (i : ℕ) (own : List ℕ) → asked ≡ true → new ≡ insert xs i x → bytes x ≡ own → map bytes new ≡ (if asked then insert (map bytes xs) i own else map bytes xs)
text_put bytes false x xs new i own is pushed h = cc
text_put bytes true x xs new i own is pushed h = ap (map bytes) pushed ∙ sym (map_insert bytes x xs i) ∙ ap (λ t. insert (map bytes xs) i t) h

pub text_inserted : (asked : Bool) (text : SearchLeaf → List ℕ) (l : SearchLeaf) (ls new : List SearchLeaf) (texts now : List (List ℕ)) (i : ℕ) (own : List ℕ) → text l ≡ own → new ≡ insert ls i l → now ≡ (if asked then insert texts i own else texts) → TextsAre asked text ls texts → TextsAre asked text new now
text_inserted false text l ls new texts now i own is pushed added h = added ∙ h
text_inserted true text l ls new texts now i own is pushed added h = added ∙ ap (λ t. insert texts i t) (sym is) ∙ ap (λ ts. insert ts i (text l)) h ∙ map_insert text l ls i ∙ ap (map text) (sym pushed)

pub even_within : (asked : Bool) (ls : List SearchLeaf) (texts : List (List ℕ)) (i : ℕ) → IsEven asked ls texts → i ≤ length ls → asked ≡ true → i ≤ length texts
even_within false ls texts i h within e = cc
even_within true ls texts i h within e = omega (arith, h, within)

-- ---- the same of what a call is lent

pub leaf_there : (l : SearchLeaf) (ls one other : List SearchLeaf) (cs ds : List ℕ) (i : ℕ) (b : Bool) → one ≡ ls → cs ≡ l.choices → other ≡ ls → ds ≡ l.choices → IsPlace cs one i → b ≡ begins_with ds (drop i other) → b ≡ true → ls ≡ with_leaf l ls
leaf_there l ls one other cs ds i b h k m n at is on =
    let own : IsPlace l.choices ls i = rw (h, k) at at in
    let begins : b ≡ begins_with l.choices (drop i ls) = rw (m, n) at is in
    there_is l ls i own.before (sym begins ∙ on)

pub leaf_added : (l : SearchLeaf) (ls new one other : List SearchLeaf) (cs ds : List ℕ) (i : ℕ) (b : Bool) → one ≡ ls → cs ≡ l.choices → other ≡ ls → ds ≡ l.choices → IsPlace cs one i → b ≡ begins_with ds (drop i other) → b ≡ false → new ≡ insert ls i l → new ≡ with_leaf l ls
leaf_added l ls new one other cs ds i b h k m n at is off pushed =
    let own : IsPlace l.choices ls i = rw (h, k) at at in
    let begins : b ≡ begins_with l.choices (drop i ls) = rw (m, n) at is in
    pushed ∙ insert_is l ls i own.within own.before own.behind (sym begins ∙ off)

-- ---- what stands in boxes

box_read : {A : Type 0} (boxes : List (Box A)) (i : ℕ) (b : Box A) → b ≡ get_or boxes i b → in_box b ≡ get_or (map in_box boxes) i (in_box b)
box_read [] i b h = refl
box_read (c ∷ boxes) zero b h = ap in_box h
box_read (c ∷ boxes) (suc i) b h = box_read boxes i b h

pub box_put : {A : Type 0} (boxes new : List (Box A)) (i : ℕ) (b : Box A) (x : A) → new ≡ insert boxes i b → in_box b ≡ x → map in_box new ≡ insert (map in_box boxes) i x
box_put boxes new i b x pushed h = ap (map in_box) pushed ∙ sym (map_insert in_box b boxes i) ∙ ap (λ y. insert (map in_box boxes) i y) h

none_left : (cs : List ℕ) (ls : List SearchLeaf) → NoneBefore cs (drop (length ls) ls)
none_left cs [] = tt
none_left cs (l ∷ ls) = none_left cs ls

pub boxed_first : (cs : List ℕ) (boxes : List (Box SearchLeaf)) (n : ℕ) → n ≡ length boxes → Searching cs (map in_box boxes) 0 n
boxed_first cs boxes n is =
    let long : n ≡ length (map in_box boxes) = is ∙ sym (length-map boxes in_box) in
    record { ordered = omega arith; within = omega (arith, long); before = tt; behind = subst (λ m. NoneBefore cs (drop m (map in_box boxes))) (sym long) (none_left cs (map in_box boxes)) }

pub boxed_within : (cs : List ℕ) (boxes : List (Box SearchLeaf)) (low high : ℕ) → Searching cs (map in_box boxes) low high → high ≤ length boxes
boxed_within cs boxes low high s = omega (arith, s.within, length-map boxes in_box)

pub boxed_then : (cs : List ℕ) (boxes : List (Box SearchLeaf)) (low high i next_low next_high : ℕ) (y : Box SearchLeaf) (l : SearchLeaf) (b : Bool) → Rises (map in_box boxes) → Searching cs (map in_box boxes) low high → low < high → i ≡ low + (high - low) / 2 → y ≡ get_or boxes i y → l ≡ in_box y → b ≡ is_lt (order l.choices cs)
    → next_low ≡ (if b then i + 1 else low) → next_high ≡ (if b then high else i) → Searching cs (map in_box boxes) next_low next_high
boxed_then cs boxes low high i next_low next_high y l b rises s some middle read own h one other =
    searching_then cs (map in_box boxes) low high i next_low next_high (in_box y) b rises s some middle (box_read boxes i y read) (h ∙ ap (λ (m : SearchLeaf). is_lt (order m.choices cs)) own) one other

pub boxed_begins : (cs : List ℕ) (boxes : List (Box SearchLeaf)) (i : ℕ) (y : Box SearchLeaf) (l : SearchLeaf) (b : Bool) → i < length boxes → y ≡ get_or boxes i y → l ≡ in_box y → b ≡ is_eq (order l.choices cs) → b ≡ begins_with cs (drop i (map in_box boxes))
boxed_begins cs boxes i y l b within read own h =
    h ∙ ap (λ (m : SearchLeaf). is_eq (order m.choices cs)) own ∙ sym (ap (begins_with cs) (drop_at (map in_box boxes) i (in_box y) (omega (arith, within, length-map boxes in_box)) (box_read boxes i y read)))

pub texts_unboxed : (boxes : List (Box (String Global))) (texts : List (String Global)) → texts ≡ map in_box boxes → map string_bytes texts ≡ map text_in boxes
texts_unboxed [] texts h = ap (map string_bytes) h
texts_unboxed (b ∷ boxes) texts h = ap (map string_bytes) h ∙ ap (λ ts. text_in b ∷ ts) (texts_unboxed boxes (map in_box boxes) refl)
