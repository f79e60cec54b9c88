-- A place at which a line is cut.
use Rattle.std.proofs.Common.{◌≡◌, ℕ, zero, suc, ◌+◌, ◌-◌, ◌<◌, ◌≤◌, Bool, true, false, ◌&&◌, ◌||◌, if◌then◌else◌, cond, List, [], ◌∷◌, length, take, get_or, slice_get, refl, Option, Some, None, sym, ap, ◌∙◌, subst, arith}
use Rattle.std.specs.Prelude.{IfSome}
use Rattle.std.specs.List.{find, list_any, range_with_len}
use Rattle.std.proofs.lemmas.List.Folds.{list_any_more}
use Rattle.mpd_lines.proofs.WordLemmas.{IsCut, last_is, find_is}
use Rattle.mpd_lines.specs.Folding.{is_ink, is_blank, can_cut, last_below, first_of_all}

-- ---- it is one of the line

is_in : (l : List ℕ) (i : ℕ) → is_blank (slice_get l i) ≡ true → i < length l
is_in [] i h = cc
is_in (b ∷ l) zero h = omega arith
is_in (b ∷ l) (suc i) h = let n : i < length l = is_in l i h in omega (arith, n)

all_in : (l : List ℕ) (o : Option ℕ) → IsCut l o → IfSome o (λ i. i < length l)
all_in l None h = tt
all_in l (Some i) h = is_in l i h

pub last_within : (i n : ℕ) (l : List ℕ) → Some i ≡ last_below l n → i < length l
last_within i n l e = subst (λ o. IfSome o (λ j. j < length l)) (sym e) (all_in l (last_below l n) (last_is l n))

pub first_within : (o : Option ℕ) (l : List ℕ) → o ≡ first_of_all l → IfSome o (λ i. i < length l)
first_within o l e = subst (λ p. IfSome p (λ j. j < length l)) (sym e) (all_in l (first_of_all l) (find_is l (range_with_len 0 (length l))))

pub ruleset inside = (last_within, first_within)

-- ---- downwards

lower : (l : List ℕ) (n m : ℕ) (b : Bool) → n ≡ suc m → b ≡ can_cut l m → b ≡ false → last_below l n ≡ last_below l m
lower l n m b e is none = ap (last_below l) e ∙ ap (λ (v : Bool). if v then Some m else last_below l m) (sym is ∙ none)

pub lower_more : (l : List ℕ) (n above : ℕ) (b : Bool) (total : Option ℕ) → above < n → b ≡ can_cut l (n - above - 1) → b ≡ false → last_below l (n - above) ≡ total → last_below l (n - (above + 1)) ≡ total
lower_more l n above b total lt is none h =
    let k : n - above ≡ suc (n - above - 1) = omega (arith, lt) in
    let m : n - (above + 1) ≡ n - above - 1 = omega arith in
    ap (last_below l) m ∙ sym (lower l (n - above) (n - above - 1) b k is none) ∙ h

pub ruleset falling = (lower_more, lower_more)

-- ---- upwards

byte_at : (l : List ℕ) (i : ℕ) → i < length l → slice_get l i ≡ Some (get_or l i 0)
byte_at [] i h = absurd (omega (arith, h))
byte_at (b ∷ l) zero h = refl
byte_at (b ∷ l) (suc i) h = byte_at l i (omega (arith, h))

pub inked_more : (l : List ℕ) (i : ℕ) (v w : Bool) → i < length l → v ≡ list_any is_ink (take i l) → w ≡ (v || is_ink (get_or l i 0)) → w ≡ list_any is_ink (take (i + 1) l)
inked_more l i v w lt h k = k ∙ ap (λ u. u || is_ink (get_or l i 0)) h ∙ sym (list_any_more is_ink l i 0 lt)

cut_is : (l : List ℕ) (i : ℕ) (v u : Bool) → i < length l → v ≡ list_any is_ink (take i l) → u ≡ (is_blank (Some (get_or l i 0)) && v) → can_cut l i ≡ u
cut_is l i v u lt h k = ap (λ o. is_blank o && list_any is_ink (take i l)) (byte_at l i lt) ∙ ap (λ w. is_blank (Some (get_or l i 0)) && w) (sym h) ∙ sym k

one_more : (l : List ℕ) (i : ℕ) → i < length l → find (can_cut l) (range_with_len i (length l - i)) ≡ cond (can_cut l i) (Some i) (find (can_cut l) (range_with_len (i + 1) (length l - (i + 1))))
one_more l i lt = let k : length l - i ≡ suc (length l - (i + 1)) = omega (arith, lt) in ap (λ n. find (can_cut l) (range_with_len i n)) k

pub place_more : (l : List ℕ) (i : ℕ) (v u : Bool) (total : Option ℕ) → i < length l → v ≡ list_any is_ink (take i l) → u ≡ (is_blank (Some (get_or l i 0)) && v) → u ≡ false
    → find (can_cut l) (range_with_len i (length l - i)) ≡ total → find (can_cut l) (range_with_len (i + 1) (length l - (i + 1))) ≡ total
place_more l i v u total lt h k none e =
    sym (one_more l i lt ∙ ap (λ (w : Bool). cond w (Some i) (find (can_cut l) (range_with_len (i + 1) (length l - (i + 1))))) (cut_is l i v u lt h k ∙ none)) ∙ e

pub place_now : (l : List ℕ) (i : ℕ) (v u : Bool) (total : Option ℕ) → i < length l → v ≡ list_any is_ink (take i l) → u ≡ (is_blank (Some (get_or l i 0)) && v) → u ≡ true
    → find (can_cut l) (range_with_len i (length l - i)) ≡ total → Some i ≡ total
place_now l i v u total lt h k some e =
    sym (one_more l i lt ∙ ap (λ (w : Bool). cond w (Some i) (find (can_cut l) (range_with_len (i + 1) (length l - (i + 1))))) (cut_is l i v u lt h k ∙ some)) ∙ e

pub no_place : (l : List ℕ) (i : ℕ) (total : Option ℕ) → length l ≤ i → find (can_cut l) (range_with_len i (length l - i)) ≡ total → None ≡ total
no_place l i total le e = let k : length l - i ≡ 0 = omega (arith, le) in sym (ap (λ n. find (can_cut l) (range_with_len i n)) k) ∙ e

pub ruleset looking = (inked_more, place_more, place_now, no_place)
