-- A line that stays long could nowhere be cut.
use Rattle.std.proofs.Common.{◌≡◌, ℕ, zero, suc, ◌+◌, ◌-◌, ◌<◌, ◌≤◌, ◌⊎◌, Bool, true, false, ◌&&◌, ◌||◌, ◌==◌, nat_lt, if◌then◌else◌, cond, List, [], ◌∷◌, ◌++◌, length, map, take, replicate, slice_get, Option, Some, None, refl, sym, ap, ◌∙◌, subst, arith, append_assoc, append-nil, inl, inr}
use Rattle.std.specs.Prelude.{IfSome}
use Rattle.std.specs.List.{All, find, flat_map, list_any, range_with_len}
use Rattle.std.proofs.lemmas.Bool.{cases_lt}
use Rattle.std.proofs.lemmas.Bool.Decides.{nat_tests}
use Rattle.std.proofs.lemmas.List.Elements.{All-nil, All-cons}
use Rattle.mpd_lines.proofs.FoldLemmas.{some_line}
use Rattle.mpd_lines.specs.Folding.{is_ink, is_blank, can_cut, last_below, first_of_all, or_else, cut, laid, break, folded_line, grown, begun, lines, joined, folded_at, IsShort}

-- ---- where nothing can be cut

abbrev Nowhere : List ℕ → Type 0
Nowhere l = (i : ℕ) → can_cut l i ≡ false

behind_blank : (l : List ℕ) → ((i : ℕ) → can_cut l i ≡ false) → (i : ℕ) → can_cut (32 ∷ l) i ≡ false
behind_blank l h zero = refl
behind_blank l h (suc i) = h i

no_byte : (l : List ℕ) (i : ℕ) → length l ≤ i → is_blank (slice_get l i) ≡ false
no_byte [] i h = refl
no_byte (b ∷ l) zero h = absurd (omega (arith, h))
no_byte (b ∷ l) (suc i) h = no_byte l i (omega (arith, h))

past : (l : List ℕ) (i : ℕ) → length l ≤ i → can_cut l i ≡ false
past l i h = ap (λ v. v && list_any is_ink (take i l)) (no_byte l i h)

few : (n : ℕ) (l : List ℕ) → length (take n l) ≤ n
few zero l = omega arith
few (suc n) [] = omega arith
few (suc n) (b ∷ l) = let h : length (take n l) ≤ n = few n l in omega (arith, h)

got : (n i : ℕ) (l : List ℕ) → i < n → slice_get (take n l) i ≡ slice_get l i
got zero i l h = absurd (omega (arith, h))
got (suc n) i [] h = refl
got (suc n) zero (b ∷ l) h = refl
got (suc n) (suc i) (b ∷ l) h = got n i l (omega (arith, h))

took : (i n : ℕ) (l : List ℕ) → i ≤ n → take i (take n l) ≡ take i l
took zero n l h = refl
took (suc i) zero l h = absurd (omega (arith, h))
took (suc i) (suc n) [] h = refl
took (suc i) (suc n) (b ∷ l) h = ap (λ z. b ∷ z) (took i n l (omega (arith, h)))

same_cut : (n i : ℕ) (l : List ℕ) → i < n → can_cut (take n l) i ≡ can_cut l i
same_cut n i l h =
    ap (λ o. is_blank o && list_any is_ink (take i (take n l))) (got n i l h) ∙ ap (λ z. is_blank (slice_get l i) && list_any is_ink z) (took i n l (omega (arith, h)))

before_at : (l : List ℕ) (k i : ℕ) → (i < k) ⊎ (k ≤ i) → ((j : ℕ) → j < k → can_cut l j ≡ false) → can_cut (take k l) i ≡ false
before_at l k i (inl lt) h = same_cut k i l lt ∙ h i lt
before_at l k i (inr le) h = let n : length (take k l) ≤ k = few k l in past (take k l) i (omega (arith, le, n))

before_first : (l : List ℕ) (k : ℕ) → ((j : ℕ) → j < k → can_cut l j ≡ false) → (i : ℕ) → can_cut (take k l) i ≡ false
before_first l k h i = before_at l k i (cases_lt i k) h

-- ---- the first place

abbrev Found : List ℕ → ℕ → ℕ → Option ℕ → Type 0
Found l a n None = (i : ℕ) → a ≤ i → i < a + n → can_cut l i ≡ false
Found l a n (Some k) = (i : ℕ) → a ≤ i → i < k → can_cut l i ≡ false

next_by : (l : List ℕ) (a i : ℕ) → can_cut l a ≡ false → a ≤ i → (a < i) ⊎ (i ≤ a) → (a + 1 ≤ i → can_cut l i ≡ false) → can_cut l i ≡ false
next_by l a i e le (inl lt) h = h (omega (arith, lt))
next_by l a i e le (inr ge) h = let k : i ≡ a = omega (arith, le, ge) in ap (can_cut l) k ∙ e

found_at : (l : List ℕ) (a n : ℕ) (v : Bool) (o : Option ℕ) → can_cut l a ≡ v → Found l (a + 1) n o → Found l a (suc n) (cond v (Some a) o)
found_at l a n true o e h = λ i le lt. absurd (omega (arith, le, lt))
found_at l a n false None e h = λ i le lt. next_by l a i e le (cases_lt a i) (λ k. h i k (omega (arith, lt)))
found_at l a n false (Some m) e h = λ i le lt. next_by l a i e le (cases_lt a i) (λ k. h i k lt)

searched : (l : List ℕ) (n a : ℕ) → Found l a n (find (can_cut l) (range_with_len a n))
searched l zero a = λ i le lt. absurd (omega (arith, le, lt))
searched l (suc n) a = found_at l a n (can_cut l a) (find (can_cut l) (range_with_len (a + 1) n)) refl (searched l n (a + 1))

-- ---- what is left on a line

abbrev kept : Option ℕ → List ℕ → List ℕ
kept None l = l
kept (Some i) l = take i l

abbrev Fits : ℕ → List ℕ → Type 0
Fits w l = (length l ≤ w) ⊎ Nowhere l

small_at : (n : ℕ) (v : Bool) (o : Option ℕ) → IfSome o (λ i. i < n) → IfSome (if v then Some n else o) (λ i. i < suc n)
small_at n true o h = omega arith
small_at n false None h = tt
small_at n false (Some i) h = omega (arith, h)

last_small : (l : List ℕ) (n : ℕ) → IfSome (last_below l n) (λ i. i < n)
last_small l zero = tt
last_small l (suc n) = small_at n (can_cut l n) (last_below l n) (last_small l n)

nowhere_at : (l : List ℕ) (i : ℕ) → (i < length l) ⊎ (length l ≤ i) → Found l 0 (length l) None → can_cut l i ≡ false
nowhere_at l i (inl lt) h = h i (omega arith) (omega (arith, lt))
nowhere_at l i (inr le) h = past l i le

not_more : (w n : ℕ) → nat_lt w n ≡ false → n ≤ w
not_more w n h = grind (arith, nat_tests)

fits_by : (w : ℕ) (l : List ℕ) (v : Bool) (o p : Option ℕ) → nat_lt w (length l) ≡ v → IfSome o (λ i. i < suc w) → Found l 0 (length l) p → Fits w (kept (if v then or_else o p else None) l)
fits_by w l false o p e h f = inl (not_more w (length l) e)
fits_by w l true (Some i) p e h f = let n : length (take i l) ≤ i = few i l in inl (omega (arith, n, h))
fits_by w l true None None e h f = inr (λ i. nowhere_at l i (cases_lt i (length l)) f)
fits_by w l true None (Some k) e h f = inr (before_first l k (λ j lt. f j (omega arith) lt))

fits : (w : ℕ) (l : List ℕ) → Fits w (kept (cut w l) l)
unfolding cut
fits w l = fits_by w l (nat_lt w (length l)) (last_below l (suc w)) (first_of_all l) refl (last_small l (suc w)) (searched l (length l) 0)

abbrev blanks : List ℕ
blanks = replicate 8 32

first_short : (n : ℕ) (l : List ℕ) → Fits n l → IsShort n l
first_short n l (inl le) = λ lt. absurd (omega (arith, le, lt))
first_short n l (inr h) = λ lt. h

later_short : (n : ℕ) (l : List ℕ) → 8 ≤ n → Fits (n - 8) l → IsShort n (blanks ++ l)
later_short n l wide (inl le) = λ lt. absurd (omega (arith, wide, le, lt))
later_short n l wide (inr h) = λ lt. behind_blank (32 ∷ 32 ∷ 32 ∷ 32 ∷ 32 ∷ 32 ∷ 32 ∷ l) (behind_blank (32 ∷ 32 ∷ 32 ∷ 32 ∷ 32 ∷ 32 ∷ l) (behind_blank (32 ∷ 32 ∷ 32 ∷ 32 ∷ 32 ∷ l) (behind_blank (32 ∷ 32 ∷ 32 ∷ 32 ∷ l)
    (behind_blank (32 ∷ 32 ∷ 32 ∷ l) (behind_blank (32 ∷ 32 ∷ l) (behind_blank (32 ∷ l) (behind_blank l h)))))))

-- ---- lines

abbrev Each : (List ℕ → Type 0) → List (List ℕ) → Type 0
Each P [] = Unit {0}
Each P (l ∷ ls) = P l × Each P ls

each_join : (P : List ℕ → Type 0) (xs ys : List (List ℕ)) → Each P xs → Each P ys → Each P (xs ++ ys)
each_join P [] ys h k = k
each_join P (x ∷ xs) ys (a, h) k = (a, each_join P xs ys h k)

all_of : (P : List ℕ → Type 0) (xs : List (List ℕ)) → Each P xs → All P xs
all_of P [] h = All-nil P
all_of P (x ∷ xs) (a, h) = All-cons P x xs a (all_of P xs h)

-- a line has no line feed
abbrev Plain : List ℕ → Type 0
Plain [] = Unit {0}
Plain (b ∷ l) = ((b == 10) ≡ false) × Plain l

plain_join : (x y : List ℕ) → Plain x → Plain y → Plain (x ++ y)
plain_join [] y h k = k
plain_join (b ∷ x) y (e, h) k = (e, plain_join x y h k)

one_by : (v : Bool) (b : ℕ) (l : List ℕ) → v ≡ false → lines l ≡ l ∷ [] → begun v b (lines l) ≡ (b ∷ l) ∷ []
one_by true b l e h = cc
one_by false b l e h = ap (grown b) h

one_line : (l : List ℕ) → Plain l → lines l ≡ l ∷ []
one_line [] h = refl
one_line (b ∷ l) (e, h) = one_by (b == 10) b l e (one_line l h)

grown_plain : (b : ℕ) (ls : List (List ℕ)) → (b == 10) ≡ false → Each Plain ls → Each Plain (grown b ls)
grown_plain b [] e h = tt
grown_plain b (l ∷ ls) e (p, h) = ((e, p), h)

begun_plain : (v : Bool) (b : ℕ) (ls : List (List ℕ)) → (b == 10) ≡ v → Each Plain ls → Each Plain (begun v b ls)
begun_plain true b ls e h = (tt, h)
begun_plain false b ls e h = grown_plain b ls e h

all_plain : (z : List ℕ) → Each Plain (lines z)
all_plain [] = (tt, tt)
all_plain (b ∷ z) = begun_plain (b == 10) b (lines z) refl (all_plain z)

begun_join : (v : Bool) (b : ℕ) (ls ms : List (List ℕ)) → (l : List ℕ) × (more : List (List ℕ)) × (ls ≡ l ∷ more) → begun v b (ls ++ ms) ≡ begun v b ls ++ ms
begun_join true b ls ms h = refl
begun_join false b ls ms (l, more, e) = ap (λ xs. grown b (xs ++ ms)) e ∙ ap (λ xs. grown b xs ++ ms) (sym e)

lines_between : (x y : List ℕ) → lines (x ++ 10 ∷ y) ≡ lines x ++ lines y
lines_between [] y = refl
lines_between (b ∷ x) y = ap (begun (b == 10) b) (lines_between x y) ∙ begun_join (b == 10) b (lines x) (lines y) (some_line x)

-- ---- a line that is cut

short_lone : (n : ℕ) (l : List ℕ) → Plain l → IsShort n l → Each (IsShort n) (lines l)
short_lone n l p h = subst (Each (IsShort n)) (sym (one_line l p)) (h, tt)

laid_short : (n : ℕ) (o : Option ℕ) (l pre : List ℕ) → 8 ≤ n → Plain pre → Plain l → IsShort n (pre ++ kept o l) → Each (IsShort n) (lines (pre ++ laid n o l))
laid_short n None l pre wide p q h = short_lone n (pre ++ l) (plain_join pre l p q) h
laid_short n (Some zero) [] pre wide p q h = short_lone n (pre ++ []) (plain_join pre [] p tt) h
laid_short n (Some (suc i)) [] pre wide p q h = short_lone n (pre ++ []) (plain_join pre [] p tt) h
laid_short n (Some zero) (b ∷ l) pre wide p (e, q) h =
    subst (Each (IsShort n)) (sym (lines_between pre (blanks ++ laid n (cut (n - 8) l) l)))
    (each_join (IsShort n) (lines pre) (lines (blanks ++ laid n (cut (n - 8) l) l)) (short_lone n pre p (subst (IsShort n) (append-nil pre) h))
    (laid_short n (cut (n - 8) l) l blanks wide (refl, (refl, (refl, (refl, (refl, (refl, (refl, (refl, tt)))))))) q (later_short n (kept (cut (n - 8) l) l) wide (fits (n - 8) l))))
laid_short n (Some (suc i)) (b ∷ l) pre wide p (e, q) h =
    subst (λ z. Each (IsShort n) (lines z)) (append_assoc pre (b ∷ []) (laid n (Some i) l))
    (laid_short n (Some i) l (pre ++ b ∷ []) wide (plain_join pre (b ∷ []) p (e, tt)) q (subst (IsShort n) (sym (append_assoc pre (b ∷ []) (take i l))) h))

line_short : (n : ℕ) (l : List ℕ) → 8 ≤ n → Plain l → Each (IsShort n) (lines (folded_line n l))
line_short n l wide p = laid_short n (cut n l) l [] wide tt p (first_short n (kept (cut n l) l) (fits n l))

-- ---- a whole text

more_short : (n : ℕ) (x : List ℕ) (ls : List (List ℕ)) → 8 ≤ n → Each (IsShort n) (lines x) → Each Plain ls → Each (IsShort n) (lines (x ++ flat_map (λ m. 10 ∷ m) (map (folded_line n) ls)))
more_short n x [] wide h p = subst (λ z. Each (IsShort n) (lines z)) (sym (append-nil x)) h
more_short n x (l ∷ ls) wide h (p, q) =
    let rest : List ℕ = folded_line n l ++ flat_map (λ m. 10 ∷ m) (map (folded_line n) ls) in
    subst (Each (IsShort n)) (sym (lines_between x rest)) (each_join (IsShort n) (lines x) (lines rest) h (more_short n (folded_line n l) ls wide (line_short n l wide p) q))

joined_short : (n : ℕ) (ls : List (List ℕ)) → 8 ≤ n → Each Plain ls → Each (IsShort n) (lines (joined (map (folded_line n) ls)))
joined_short n [] wide p = (λ lt i. past [] i (omega arith), tt)
joined_short n (l ∷ ls) wide (p, q) = more_short n (folded_line n l) ls wide (line_short n l wide p) q

pub short_or_whole : (n : ℕ) (z : List ℕ) → 8 ≤ n → All (IsShort n) (lines (folded_at n z))
unfolding folded_at
short_or_whole n z wide = all_of (IsShort n) (lines (joined (map (folded_line n) (lines z)))) (joined_short n (lines z) wide (all_plain z))
