-- A text whose long lines go on in further lines has the words that it had.
use Rattle.std.proofs.Common.{◌≡◌, ℕ, zero, suc, ◌-◌, Bool, true, false, ◌&&◌, ◌||◌, ◌==◌, not, nat_lt, if◌then◌else◌, List, [], ◌∷◌, ◌++◌, length, map, slice_get, Option, Some, None, refl, sym, ap, ◌∙◌, arith}
use Rattle.std.proofs.lemmas.Bool.Decides.{nat_tests}
use Rattle.std.specs.Prelude.{IfSome}
use Rattle.std.specs.List.{filter, find, flat_map, range_with_len}
use Rattle.std.proofs.lemmas.List.Elements.{filter-append}
use Rattle.mpd_lines.proofs.FoldLemmas.{some_line}
use Rattle.mpd_lines.specs.Folding.{is_blank, is_letter, can_cut, last_below, first_of_all, or_else, cut, laid, folded_line, grown, begun, lines, joined, folded_at}

abbrev letters : List ℕ → List ℕ
letters z = filter is_letter z

-- ---- a line is cut at a blank

abbrev pub IsCut : List ℕ → Option ℕ → Type 0
IsCut l o = IfSome o (λ i. is_blank (slice_get l i) ≡ true)

first_true : (a b : Bool) → (a && b) ≡ true → a ≡ true
first_true true b h = refl
first_true false b h = h

last_at : (l : List ℕ) (n : ℕ) (v : Bool) (o : Option ℕ) → can_cut l n ≡ v → IsCut l o → IsCut l (if v then Some n else o)
last_at l n true o e h = first_true (is_blank (slice_get l n)) _ e
last_at l n false o e h = h

pub last_is : (l : List ℕ) (n : ℕ) → IsCut l (last_below l n)
last_is l zero = tt
last_is l (suc n) = last_at l n (can_cut l n) (last_below l n) refl (last_is l n)

pub find_is : (l : List ℕ) (is : List ℕ) → IsCut l (find (can_cut l) is)
find_is l [] = tt
find_is l (i ∷ is) = last_at l i (can_cut l i) (find (can_cut l) is) refl (find_is l is)

either_is : (l : List ℕ) (o p : Option ℕ) → IsCut l o → IsCut l p → IsCut l (or_else o p)
either_is l None p h k = k
either_is l (Some i) p h k = h

cut_at : (l : List ℕ) (v : Bool) (o : Option ℕ) → IsCut l o → IsCut l (if v then o else None)
cut_at l true o h = h
cut_at l false o h = tt

cut_is : (width : ℕ) (l : List ℕ) → IsCut l (cut width l)
unfolding cut
cut_is width l =
    cut_at l (nat_lt width (length l)) (or_else (last_below l (suc width)) (first_of_all l)) (either_is l (last_below l (suc width)) (first_of_all l) (last_is l (suc width)) (find_is l (range_with_len 0 (length l))))

-- ---- what is cut has the same letters

blank_goes : (b : ℕ) (l : List ℕ) → (b == 32) ≡ true → letters (b ∷ l) ≡ letters l
blank_goes b l h = ap (λ (v : Bool). if not (v || b == 10) then b ∷ filter is_letter l else filter is_letter l) h

same_letters : (n : ℕ) (o : Option ℕ) (l : List ℕ) → IsCut l o → letters (laid n o l) ≡ letters l
same_letters n None l h = refl
same_letters n (Some i) [] h = refl
same_letters n (Some zero) (b ∷ l) h = same_letters n (cut (n - 8) l) l (cut_is (n - 8) l) ∙ sym (blank_goes b l h)
same_letters n (Some (suc i)) (b ∷ l) h = ap (λ (z : List ℕ). if is_letter b then b ∷ z else z) (same_letters n (Some i) l h)

line_letters : (n : ℕ) (l : List ℕ) → letters (folded_line n l) ≡ letters l
line_letters n l = same_letters n (cut n l) l (cut_is n l)

-- ---- all lines

abbrev behind_feeds : List (List ℕ) → List ℕ
behind_feeds ls = flat_map (λ m. 10 ∷ m) ls

more_letters : (n : ℕ) (ls : List (List ℕ)) → letters (behind_feeds (map (folded_line n) ls)) ≡ letters (behind_feeds ls)
more_letters n [] = refl
more_letters n (l ∷ ls) =
    filter-append is_letter (folded_line n l) (behind_feeds (map (folded_line n) ls)) ∙ ap (λ z. z ++ filter is_letter (behind_feeds (map (folded_line n) ls))) (line_letters n l)
    ∙ ap (λ z. filter is_letter l ++ z) (more_letters n ls) ∙ sym (filter-append is_letter l (behind_feeds ls))

joined_letters : (n : ℕ) (ls : List (List ℕ)) → letters (joined (map (folded_line n) ls)) ≡ letters (joined ls)
joined_letters n [] = refl
joined_letters n (l ∷ ls) =
    filter-append is_letter (folded_line n l) (behind_feeds (map (folded_line n) ls)) ∙ ap (λ z. z ++ filter is_letter (behind_feeds (map (folded_line n) ls))) (line_letters n l)
    ∙ ap (λ z. filter is_letter l ++ z) (more_letters n ls) ∙ sym (filter-append is_letter l (behind_feeds ls))

-- ---- lines, joined again

feeds_are : (ls : List (List ℕ)) → (l : List ℕ) × (ms : List (List ℕ)) × (ls ≡ l ∷ ms) → flat_map (λ m. 10 ∷ m) ls ≡ 10 ∷ joined ls
feeds_are ls (l, ms, e) = ap (λ xs. flat_map (λ m. 10 ∷ m) xs) e ∙ ap (λ xs. 10 ∷ joined xs) (sym e)

grown_joined : (b : ℕ) (ls : List (List ℕ)) → (l : List ℕ) × (ms : List (List ℕ)) × (ls ≡ l ∷ ms) → joined (grown b ls) ≡ b ∷ joined ls
grown_joined b ls (l, ms, e) = ap (λ xs. joined (grown b xs)) e ∙ ap (λ xs. b ∷ joined xs) (sym e)

is_feed : (b : ℕ) → (b == 10) ≡ true → b ≡ 10
is_feed b h = grind (arith, nat_tests)

begun_joined : (v : Bool) (b : ℕ) (z : List ℕ) → (b == 10) ≡ v → joined (lines z) ≡ z → joined (begun v b (lines z)) ≡ b ∷ z
begun_joined true b z e h = feeds_are (lines z) (some_line z) ∙ ap (λ y. 10 ∷ y) h ∙ ap (λ c. c ∷ z) (sym (is_feed b e))
begun_joined false b z e h = grown_joined b (lines z) (some_line z) ∙ ap (λ y. b ∷ y) h

joined_lines : (z : List ℕ) → joined (lines z) ≡ z
joined_lines [] = refl
joined_lines (b ∷ z) = begun_joined (b == 10) b z refl (joined_lines z)

pub words_stay : (n : ℕ) (z : List ℕ) → filter is_letter (folded_at n z) ≡ filter is_letter z
unfolding folded_at
words_stay n z = joined_letters n (lines z) ∙ ap letters (joined_lines z)
