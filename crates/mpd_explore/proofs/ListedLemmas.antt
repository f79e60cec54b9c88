-- What is listed of all leaves, up to the first bad one or not, and what is left out.
use Rattle.std.proofs.Common.{◌≡◌, ℕ, zero, suc, ◌<◌, ◌≤◌, ◌||◌, ◌&&◌, if◌then◌else◌, nat_lt, Bool, true, false, List, [], ◌∷◌, ◌++◌, length, take, drop, get_or, refl, sym, ap, ◌∙◌, arith, append-nil}
use Rattle.std.proofs.lemmas.Bool.Decides.{nat_tests}
use Rattle.std.proofs.lemmas.List.{length-take, take_all, drop_all}
use Rattle.std.proofs.Math.Seq.{drop-cons}
use Rattle.mpd_explore.specs.declared.report.SearchLeaf.{SearchLeaf}
use Rattle.mpd_explore.specs.declared.report.SearchLimits.{SearchLimits}
use Rattle.mpd_explore.specs.Report.{is_bad, any_bad, up_to_bad, ended_by, listed, left_out}

-- ---- tests

pub is_less : (m n : ℕ) (b : Bool) → nat_lt m n ≡ b → m < n → nat_lt m n ≡ true
is_less m n b e h = grind (arith, nat_tests)

pub is_not_less : (m n : ℕ) → n ≤ m → nat_lt m n ≡ false
is_not_less m n h = grind (arith, nat_tests)

pub not_less : (m n : ℕ) → nat_lt m n ≡ false → n ≤ m
not_less m n h = grind (arith, nat_tests)

pub neither : (a b : Bool) → (a || b) ≡ false → (a ≡ false) × (b ≡ false)
neither true b h = cc
neither false b h = (refl, h)

pub both_true : (a b : Bool) → (a && b) ≡ true → (a ≡ true) × (b ≡ true)
both_true true b h = (refl, h)
both_true false b h = cc

pub not_both : (a b : Bool) → (a && b) ≡ false → a ≡ true → b ≡ false
not_both true b h e = h
not_both false b h e = cc

or_true : (a : Bool) → (a || true) ≡ true
or_true true = refl
or_true false = refl

-- ---- a bad leaf

pub bad_behind : (xs ys : List SearchLeaf) → any_bad xs ≡ false → any_bad (xs ++ ys) ≡ any_bad ys
bad_behind [] ys h = refl
bad_behind (x ∷ xs) ys h =
    let both = neither (is_bad x.ending) (any_bad xs) h in
    ap (λ b. b || any_bad (xs ++ ys)) both.0 ∙ bad_behind xs ys both.1

pub bad_last : (xs : List SearchLeaf) (x : SearchLeaf) → is_bad x.ending ≡ true → any_bad (xs ++ x ∷ []) ≡ true
bad_last [] x h = ap (λ b. b || false) h
bad_last (y ∷ xs) x h = ap (λ b. is_bad y.ending || b) (bad_last xs x h) ∙ or_true (is_bad y.ending)

pub good_last : (xs : List SearchLeaf) (x : SearchLeaf) → any_bad xs ≡ false → is_bad x.ending ≡ false → any_bad (xs ++ x ∷ []) ≡ false
good_last xs x h k = bad_behind xs (x ∷ []) h ∙ ap (λ b. b || false) k

-- a loop that looks for one
pub bad_here : (leaves : List SearchLeaf) (i : ℕ) (x : SearchLeaf) → i < length leaves → x ≡ get_or leaves i x → any_bad (drop i leaves) ≡ any_bad leaves → is_bad x.ending ≡ true → true ≡ any_bad leaves
bad_here leaves i x within read rest h =
    sym (sym rest ∙ ap any_bad (drop-cons leaves i x within ∙ ap (λ y. y ∷ drop (suc i) leaves) (sym read)) ∙ ap (λ b. b || any_bad (drop (suc i) leaves)) h)

pub bad_later : (leaves : List SearchLeaf) (i n : ℕ) (x : SearchLeaf) → i < length leaves → x ≡ get_or leaves i x → n ≡ suc i → any_bad (drop i leaves) ≡ any_bad leaves → is_bad x.ending ≡ false → any_bad (drop n leaves) ≡ any_bad leaves
bad_later leaves i n x within read next rest h =
    ap (λ m. any_bad (drop m leaves)) next
    ∙ sym (ap any_bad (drop-cons leaves i x within ∙ ap (λ y. y ∷ drop (suc i) leaves) (sym read)) ∙ ap (λ b. b || any_bad (drop (suc i) leaves)) h)
    ∙ rest

pub bad_none : (leaves : List SearchLeaf) (i : ℕ) → length leaves ≤ i → any_bad (drop i leaves) ≡ any_bad leaves → false ≡ any_bad leaves
bad_none leaves i long rest = sym (ap any_bad (drop_all i leaves long)) ∙ rest

-- ---- up to the first bad one

either_none : (b : Bool) → ◌≡◌ {A = List SearchLeaf} (if b then [] else []) []
either_none true = refl
either_none false = refl

-- behind leaves none of which is bad
pub up_behind : (xs ys : List SearchLeaf) → any_bad xs ≡ false → up_to_bad (xs ++ ys) ≡ xs ++ up_to_bad ys
up_behind [] ys h = refl
up_behind (x ∷ xs) ys h =
    let both = neither (is_bad x.ending) (any_bad xs) h in
    ap (λ b. x ∷ (if b then [] else up_to_bad (xs ++ ys))) both.0 ∙ ap (λ zs. x ∷ zs) (up_behind xs ys both.1)

pub up_none : (xs : List SearchLeaf) → any_bad xs ≡ false → up_to_bad xs ≡ xs
up_none xs h = ap up_to_bad (sym (append-nil xs)) ∙ up_behind xs [] h ∙ append-nil xs

pub up_last : (xs : List SearchLeaf) (x : SearchLeaf) → any_bad xs ≡ false → up_to_bad (xs ++ x ∷ []) ≡ xs ++ x ∷ []
up_last xs x h = up_behind xs (x ∷ []) h ∙ ap (λ ys. xs ++ x ∷ ys) (either_none (is_bad x.ending))

has_case : (b c : Bool) (us vs : List SearchLeaf) → (b || c) ≡ true → (c ≡ true → us ≡ vs) → ◌≡◌ {A = List SearchLeaf} (if b then [] else us) (if b then [] else vs)
has_case true c us vs h more = refl
has_case false c us vs h more = more h

-- where one of them is bad, what is behind them is nothing to it
pub up_has : (xs ys : List SearchLeaf) → any_bad xs ≡ true → up_to_bad (xs ++ ys) ≡ up_to_bad xs
up_has [] ys h = cc
up_has (x ∷ xs) ys h = ap (λ zs. x ∷ zs) (has_case (is_bad x.ending) (any_bad xs) (up_to_bad (xs ++ ys)) (up_to_bad xs) h (λ k. up_has xs ys k))

pub up_taken : (xs ys : List SearchLeaf) (n : ℕ) → any_bad xs ≡ true → length xs ≤ n → up_to_bad (take n (xs ++ ys)) ≡ up_to_bad xs
up_taken [] ys n h few = cc
up_taken (x ∷ xs) ys zero h few = absurd (omega (arith, few))
up_taken (x ∷ xs) ys (suc n) h few =
    ap (λ zs. x ∷ zs) (has_case (is_bad x.ending) (any_bad xs) (up_to_bad (take n (xs ++ ys))) (up_to_bad xs) h (λ k. up_taken xs ys n k (omega (arith, few))))

twice_case : (b : Bool) (ys : List SearchLeaf) → up_to_bad ys ≡ ys → ◌≡◌ {A = List SearchLeaf} (if b then [] else up_to_bad (if b then [] else ys)) (if b then [] else ys)
twice_case true ys h = refl
twice_case false ys h = h

pub up_twice : (xs : List SearchLeaf) → up_to_bad (up_to_bad xs) ≡ up_to_bad xs
up_twice [] = refl
up_twice (x ∷ xs) = ap (λ zs. x ∷ zs) (twice_case (is_bad x.ending) (up_to_bad xs) (up_twice xs))

-- ---- what is listed is a front of all

pub take_lower : {A : Type 0} (m n : ℕ) (xs : List A) → m ≤ n → take m (take n xs) ≡ take m xs
take_lower zero n xs h = refl
take_lower (suc m) zero xs h = absurd (omega arith)
take_lower (suc m) (suc n) [] h = refl
take_lower (suc m) (suc n) (x ∷ xs) h = ap (λ ys. x ∷ ys) (take_lower m n xs (omega arith))

front_case : (b : Bool) (ys xs : List SearchLeaf) → ys ≡ take (length ys) xs → ◌≡◌ {A = List SearchLeaf} (if b then [] else ys) (take (length (if b then [] else ys)) xs)
front_case true ys xs h = refl
front_case false ys xs h = h

pub up_front : (xs : List SearchLeaf) → up_to_bad xs ≡ take (length (up_to_bad xs)) xs
up_front [] = refl
up_front (x ∷ xs) = ap (λ zs. x ∷ zs) (front_case (is_bad x.ending) (up_to_bad xs) xs (up_front xs))

pub up_few : (xs : List SearchLeaf) → length (up_to_bad xs) ≤ length xs
up_few xs = omega (arith, ap length (up_front xs), length-take (length (up_to_bad xs)) xs)

take_front : (n : ℕ) (xs : List SearchLeaf) → take n xs ≡ take (length (take n xs)) xs
take_front zero xs = refl
take_front (suc n) [] = refl
take_front (suc n) (x ∷ xs) = ap (λ ys. x ∷ ys) (take_front n xs)

front_by : (b : Bool) (n : ℕ) (xs : List SearchLeaf) → ended_by b (take n xs) ≡ take (length (ended_by b (take n xs))) xs
front_by false n xs = take_front n xs
front_by true n xs =
    up_front (take n xs) ∙ take_lower (length (up_to_bad (take n xs))) n xs (omega (arith, up_few (take n xs), length-take n xs))

pub listed_front : (l : SearchLimits) (leaves : List SearchLeaf) → listed l leaves ≡ take (length (listed l leaves)) leaves
listed_front l leaves = front_by l.until_bad l.runs leaves

pub listed_few : (l : SearchLimits) (leaves : List SearchLeaf) → length (listed l leaves) ≤ length leaves
listed_few l leaves = omega (arith, ap length (listed_front l leaves), length-take (length (listed l leaves)) leaves)

-- where as many are listed, all are
pub listed_whole : (l : SearchLimits) (leaves : List SearchLeaf) → length leaves ≤ length (listed l leaves) → listed l leaves ≡ leaves
listed_whole l leaves h = listed_front l leaves ∙ take_all (length (listed l leaves)) leaves h

pub up_whole : (leaves : List SearchLeaf) → length leaves ≤ length (up_to_bad leaves) → up_to_bad leaves ≡ leaves
up_whole leaves h = up_front leaves ∙ take_all (length (up_to_bad leaves)) leaves h

pub ended_whole : (b : Bool) (leaves : List SearchLeaf) → length leaves ≤ length (ended_by b leaves) → ended_by b leaves ≡ leaves
ended_whole false leaves h = refl
ended_whole true leaves h = up_whole leaves h

pub ended_few : (b : Bool) (leaves : List SearchLeaf) → length (ended_by b leaves) ≤ length leaves
ended_few false leaves = omega arith
ended_few true leaves = up_few leaves

pub ended_same : (b : Bool) (leaves : List SearchLeaf) → (b ≡ true → up_to_bad leaves ≡ leaves) → ended_by b leaves ≡ leaves
ended_same false leaves h = refl
ended_same true leaves h = h refl

pub ended_twice : (b : Bool) (leaves : List SearchLeaf) → ended_by b (ended_by b leaves) ≡ ended_by b leaves
ended_twice false leaves = refl
ended_twice true leaves = up_twice leaves

-- where a list ends with the first bad leaf, it is all of itself up to that
pub listed_up : (l : SearchLimits) (leaves : List SearchLeaf) → l.until_bad ≡ true → up_to_bad (listed l leaves) ≡ listed l leaves
listed_up l leaves until =
    ap (λ b. up_to_bad (ended_by b (take l.runs leaves))) until ∙ up_twice (take l.runs leaves) ∙ sym (ap (λ b. ended_by b (take l.runs leaves)) until)

-- ---- and what is left out

left_none : (b : Bool) (n m k : ℕ) → k ≤ n → k ≤ m → (if b then nat_lt n k else nat_lt m k) ≡ false
left_none true n m k h i = is_not_less n k h
left_none false n m k h i = is_not_less m k i

left_some : (b : Bool) (n m k : ℕ) → n < k → (b ≡ false → m < k) → (if b then nat_lt n k else nat_lt m k) ≡ true
left_some true n m k h i = is_less n k _ refl h
left_some false n m k h i = is_less m k _ refl (i refl)

-- all are listed
pub none_out : (l : SearchLimits) (leaves : List SearchLeaf) → length leaves ≤ length (listed l leaves) → length leaves ≤ l.runs → left_out l leaves ≡ false
none_out l leaves h i = left_none l.until_bad (length (listed l leaves)) l.runs (length leaves) h i

-- fewer are listed than there are
pub some_out : (l : SearchLimits) (leaves : List SearchLeaf) → length (listed l leaves) < length leaves → (l.until_bad ≡ false → l.runs < length leaves) → left_out l leaves ≡ true
some_out l leaves h i = left_some l.until_bad (length (listed l leaves)) l.runs (length leaves) h i

all_by : (b : Bool) (n : ℕ) (leaves : List SearchLeaf) → (if b then nat_lt (length (ended_by b (take n leaves))) (length leaves) else nat_lt n (length leaves)) ≡ false → length leaves ≤ length (ended_by b (take n leaves))
all_by false n leaves h = omega (arith, not_less n (length leaves) h, length-take n leaves)
all_by true n leaves h = not_less (length (up_to_bad (take n leaves))) (length leaves) h

-- where none is left out, all are listed
pub all_listed : (l : SearchLimits) (leaves : List SearchLeaf) → left_out l leaves ≡ false → listed l leaves ≡ leaves
all_listed l leaves h = listed_whole l leaves (all_by l.until_bad l.runs leaves h)

-- the leaves that are listed are the first ones
pub first_listed : (l : SearchLimits) (all leaves : List SearchLeaf) → leaves ≡ listed l all → leaves ≡ take (length leaves) all
first_listed l all leaves is = is ∙ listed_front l all ∙ ap (λ ls. take (length ls) all) (sym is)
