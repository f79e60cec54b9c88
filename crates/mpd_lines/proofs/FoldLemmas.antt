-- Lines that are cut, and texts that are cut into lines.
use Rattle.std.proofs.Common.{◌≡◌, ℕ, zero, suc, ◌+◌, ◌-◌, ◌<◌, ◌≤◌, ◌==◌, Bool, true, false, ◌&&◌, ◌||◌, if◌then◌else◌, List, [], ◌∷◌, ◌++◌, length, map, take, drop, Option, Some, None, refl, sym, ap, ◌∙◌, arith, append_assoc, append-nil, Result, Ok, Err, OnOk}
use Rattle.std.specs.List.{flat_map}
use Rattle.mpd_lines.specs.Folding.{FEED, break, cut, laid, folded_line, grown, begun, lines, line_len, joined, folded, folded_at}

-- ---- one line

laid_at : (n i : ℕ) (l : List ℕ) → i < length l → laid n (Some i) l ≡ take i l ++ (break ++ laid n (cut (n - 8) (drop (suc i) l)) (drop (suc i) l))
laid_at n i [] h = absurd (omega (arith, h))
laid_at n zero (b ∷ l) h = refl
laid_at n (suc i) (b ∷ l) h = ap (λ t. b ∷ t) (laid_at n i l (omega (arith, h)))

pub laid_more : (n w m i : ℕ) (rest part behind old one two total : List ℕ) → m ≡ n - 8 → Some i ≡ cut w rest → i < length rest → part ≡ take i rest → behind ≡ drop (i + 1) rest → one ≡ old ++ part → two ≡ one ++ break
    → old ++ laid n (cut w rest) rest ≡ total → two ++ laid n (cut m behind) behind ≡ total
laid_more n w m i rest part behind old one two total less is lt p e f g h =
    let k : i + 1 ≡ suc i = omega arith in
    let at : behind ≡ drop (suc i) rest = e ∙ ap (λ n. drop n rest) k in
    let whole : laid n (cut w rest) rest ≡ part ++ (break ++ laid n (cut (n - 8) behind) behind) =
    ap (λ o. laid n o rest) (sym is) ∙ laid_at n i rest lt ∙ ap (λ z. take i rest ++ (break ++ laid n (cut (n - 8) z) z)) (sym at) ∙ ap (λ z. z ++ (break ++ laid n (cut (n - 8) behind) behind)) (sym p) in
    ap (λ k. two ++ laid n (cut k behind) behind) less ∙ ap (λ t. t ++ laid n (cut (n - 8) behind) behind) (g ∙ ap (λ t. t ++ break) f) ∙ append_assoc (old ++ part) break (laid n (cut (n - 8) behind) behind) ∙ append_assoc old part (break ++ laid n (cut (n - 8) behind) behind)
    ∙ ap (λ t. old ++ t) (sym whole) ∙ h

pub laid_all : (n w : ℕ) (rest old now total : List ℕ) → None ≡ cut w rest → now ≡ old ++ rest → old ++ laid n (cut w rest) rest ≡ total → now ≡ total
laid_all n w rest old now total is e h = e ∙ ap (λ o. old ++ laid n o rest) is ∙ h

pub ruleset laying = (laid_more, laid_all)

-- ---- the first line

first_at : (v : Bool) (b : ℕ) (z : List ℕ) → (line_len z < length z → lines z ≡ take (line_len z) z ∷ lines (drop (suc (line_len z)) z)) → (if v then 0 else suc (line_len z)) < suc (length z)
    → begun v b (lines z) ≡ take (if v then 0 else suc (line_len z)) (b ∷ z) ∷ lines (drop (suc (if v then 0 else suc (line_len z))) (b ∷ z))
first_at true b z h lt = refl
first_at false b z h lt = ap (grown b) (h (omega (arith, lt)))

first_line : (z : List ℕ) → line_len z < length z → lines z ≡ take (line_len z) z ∷ lines (drop (suc (line_len z)) z)
first_line [] h = absurd (omega (arith, h))
first_line (b ∷ z) h = first_at (b == 10) b z (first_line z) h

last_at : (v : Bool) (b : ℕ) (z : List ℕ) → (length z ≤ line_len z → lines z ≡ z ∷ []) → suc (length z) ≤ (if v then 0 else suc (line_len z)) → begun v b (lines z) ≡ (b ∷ z) ∷ []
last_at true b z h le = absurd (omega (arith, le))
last_at false b z h le = ap (grown b) (h (omega (arith, le)))

last_line : (z : List ℕ) → length z ≤ line_len z → lines z ≡ z ∷ []
last_line [] h = refl
last_line (b ∷ z) h = last_at (b == 10) b z (last_line z) h

pub line_ends : (n : ℕ) (z before behind : List ℕ) → n ≡ line_len z → n < length z → before ≡ take n z → behind ≡ drop (n + 1) z → lines z ≡ before ∷ lines behind
line_ends n z before behind is lt e f =
    let k : n + 1 ≡ suc n = omega arith in
    first_line z (omega (arith, is, lt)) ∙ ap (λ m. take m z ∷ lines (drop (suc m) z)) (sym is) ∙ ap (λ t. t ∷ lines (drop (suc n) z)) (sym e) ∙ ap (λ t. before ∷ lines t) (ap (λ m. drop m z) (sym k) ∙ sym f)

pub no_line_ends : (n : ℕ) (z : List ℕ) → n ≡ line_len z → length z ≤ n → lines z ≡ z ∷ []
no_line_ends n z is le = last_line z (omega (arith, is, le))

pub ruleset ending = (line_ends, no_line_ends)

-- ---- texts

some_at : (v : Bool) (b : ℕ) (ls : List (List ℕ)) → (l : List ℕ) × (ms : List (List ℕ)) × (ls ≡ l ∷ ms) → (l : List ℕ) × (ms : List (List ℕ)) × (begun v b ls ≡ l ∷ ms)
some_at true b ls h = ([], ls, refl)
some_at false b ls (l, ms, e) = (b ∷ l, ms, ap (grown b) e)

pub some_line : (z : List ℕ) → (l : List ℕ) × (ms : List (List ℕ)) × (lines z ≡ l ∷ ms)
some_line [] = ([], [], refl)
some_line (b ∷ z) = some_at (b == 10) b (lines z) (some_line z)

between : (n : ℕ) (ls : List (List ℕ)) → (l : List ℕ) × (ms : List (List ℕ)) × (ls ≡ l ∷ ms) → flat_map (λ m. 10 ∷ m) (map (folded_line n) ls) ≡ 10 ∷ joined (map (folded_line n) ls)
between n ls (l, ms, e) = ap (λ xs. flat_map (λ m. 10 ∷ m) (map (folded_line n) xs)) e ∙ ap (λ xs. 10 ∷ joined (map (folded_line n) xs)) (sym e)

pub folded_more : (n : ℕ) (z l behind old one two total : List ℕ) → lines z ≡ l ∷ lines behind → one ≡ old ++ folded_line n l → two ≡ one ++ 10 ∷ [] → old ++ folded_at n z ≡ total → two ++ folded_at n behind ≡ total
unfolding folded_at
folded_more n z l behind old one two total is e f h =
    let more : List ℕ = joined (map (folded_line n) (lines behind)) in
    let whole : joined (map (folded_line n) (lines z)) ≡ folded_line n l ++ 10 ∷ more = ap (λ ls. joined (map (folded_line n) ls)) is ∙ ap (λ t. folded_line n l ++ t) (between n (lines behind) (some_line behind)) in
    ap (λ t. t ++ more) (f ∙ ap (λ t. t ++ 10 ∷ []) e) ∙ append_assoc (old ++ folded_line n l) (10 ∷ []) more ∙ append_assoc old (folded_line n l) (10 ∷ more) ∙ ap (λ t. old ++ t) (sym whole) ∙ h

folded_end : (n : ℕ) (z old now total : List ℕ) → lines z ≡ z ∷ [] → now ≡ old ++ folded_line n z → old ++ folded_at n z ≡ total → now ≡ total
unfolding folded_at
folded_end n z old now total is e h =
    let whole : joined (map (folded_line n) (lines z)) ≡ folded_line n z = ap (λ ls. joined (map (folded_line n) ls)) is ∙ append-nil (folded_line n z) in
    e ∙ ap (λ t. old ++ t) (sym whole) ∙ h

pub folded_last : {T E : Type 0} (n : ℕ) (r : Result T E) (z old now total : List ℕ) → lines z ≡ z ∷ [] → OnOk r (now ≡ old ++ folded_line n z) → old ++ folded_at n z ≡ total → OnOk r (now ≡ total)
folded_last n (Ok x) z old now total is e h = folded_end n z old now total is e h
folded_last n (Err x) z old now total is e h = tt

pub ruleset folding = (folded_more, folded_last)

-- ---- the usual width

pub folded_usual : (z : List ℕ) → folded_at 80 z ≡ folded z
unfolding folded folded_at
folded_usual z = refl

pub ruleset usual = (folded_usual)
