-- The lines of a header, and the length that they give.
use Rattle.std.proofs.Common.{◌≡◌, ℕ, zero, suc, ◌+◌, ◌<◌, ◌≤◌, Bool, true, false, ◌&&◌, ◌==◌, if◌then◌else◌, List, [], ◌∷◌, ◌++◌, length, get_or, take, drop, Option, Some, None, Result, Ok, Err, refl, ap, sym, ◌∙◌, arith}
use Rattle.std.specs.List.{flat_map}
use Rattle.std.proofs.lemmas.List.{drop_all}
use Rattle.mpd_model.specs.texts.Words.{words}
use Rattle.mpd_frames.specs.Header.{is_break, grown, lines, is_length, length_in, lengths_of_line, only_length, length_of}
use Rattle.mpd_frames.specs.Scanning.{breaks_at, break_len, step_by, step, taken}
use Rattle.mpd_frames.specs.declared.fault.FrameFault.{FrameFault}
use Rattle.mpd_frames.specs.declared.fault.FrameFault.TheVariants.{NoLength}

-- ---- the first break

-- what there is at a place: a break, or one byte more of the line
last_byte : (v : Bool) → 1 ≡ if (v && false) then 0 else suc (break_len [])
last_byte true = refl
last_byte false = refl

break_here : (xs : List ℕ) (i : ℕ) → i < length xs → break_len (drop i xs) ≡ if is_break (get_or xs i 0) (get_or xs (suc i) 0) then 0 else suc (break_len (drop (suc i) xs))
break_here [] i h = absurd (omega (arith, h))
break_here (b ∷ []) zero h = last_byte (b == 13)
break_here (b ∷ c ∷ z) zero h = refl
break_here (b ∷ z) (suc i) h = break_here z i (omega (arith, h))

pub break_found : (xs : List ℕ) (i n : ℕ) → i < length xs → breaks_at xs i ≡ true → i + break_len (drop i xs) ≡ n → i ≡ n
break_found xs i n h there e =
    let k : i + 1 ≡ suc i = omega arith in
    let y : is_break (get_or xs i 0) (get_or xs (suc i) 0) ≡ true = rw k at there in
    let at : break_len (drop i xs) ≡ 0 = rw y at (break_here xs i h) in
    omega (arith, at, e)

pub break_more : (xs : List ℕ) (i n : ℕ) → i < length xs → breaks_at xs i ≡ false → i + break_len (drop i xs) ≡ n → (i + 1) + break_len (drop (i + 1) xs) ≡ n
break_more xs i n h nothing e =
    let k : i + 1 ≡ suc i = omega arith in
    let y : is_break (get_or xs i 0) (get_or xs (suc i) 0) ≡ false = rw k at nothing in
    let at : break_len (drop i xs) ≡ suc (break_len (drop (suc i) xs)) = rw y at (break_here xs i h) in
    rw k (omega (arith, at, e))

pub break_end : (xs : List ℕ) (i n : ℕ) → length xs ≤ i → i ≤ length xs → i + break_len (drop i xs) ≡ n → length xs ≡ n
break_end xs i n le ge e =
    let at : break_len (drop i xs) ≡ 0 = ap break_len (drop_all i xs le) in
    omega (arith, le, ge, at, e)

pub ruleset finding = (break_found, break_more, break_end)

-- ---- the first line

first_at : (v : Bool) (b c : ℕ) (z : List ℕ) → (break_len (c ∷ z) < length (c ∷ z) → lines (c ∷ z) ≡ take (break_len (c ∷ z)) (c ∷ z) ∷ lines (drop (suc (suc (break_len (c ∷ z)))) (c ∷ z)))
    → (if v then 0 else suc (break_len (c ∷ z))) < suc (length (c ∷ z))
    → (if v then [] ∷ lines z else grown b (lines (c ∷ z))) ≡ take (if v then 0 else suc (break_len (c ∷ z))) (b ∷ c ∷ z) ∷ lines (drop (suc (suc (if v then 0 else suc (break_len (c ∷ z))))) (b ∷ c ∷ z))
first_at true b c z h lt = refl
first_at false b c z h lt = ap (grown b) (h (omega (arith, lt)))

first_line : (z : List ℕ) → break_len z < length z → lines z ≡ take (break_len z) z ∷ lines (drop (suc (suc (break_len z))) z)
first_line [] h = absurd (omega (arith, h))
first_line (b ∷ []) h = absurd (omega (arith, h))
first_line (b ∷ c ∷ z) h = first_at (is_break b c) b c z (first_line (c ∷ z)) h

last_at : (v : Bool) (b c : ℕ) (z : List ℕ) → (length (c ∷ z) ≤ break_len (c ∷ z) → lines (c ∷ z) ≡ (c ∷ z) ∷ []) → suc (length (c ∷ z)) ≤ (if v then 0 else suc (break_len (c ∷ z)))
    → (if v then [] ∷ lines z else grown b (lines (c ∷ z))) ≡ (b ∷ c ∷ z) ∷ []
last_at true b c z h le = absurd (omega (arith, le))
last_at false b c z h le = ap (grown b) (h (omega (arith, le)))

last_line : (z : List ℕ) → length z ≤ break_len z → lines z ≡ z ∷ []
last_line [] h = refl
last_line (b ∷ []) h = refl
last_line (b ∷ c ∷ z) h = last_at (is_break b c) b c z (last_line (c ∷ z)) h

pub line_ends : (n : ℕ) (z before rest after : List ℕ) → n ≡ break_len z → n < length z → before ≡ take n z → rest ≡ drop n z → after ≡ drop 2 rest → lines z ≡ before ∷ lines after
line_ends n z before rest after is lt e f g =
    let k : after ≡ drop (suc (suc n)) z = g ∙ ap (λ x. drop 2 x) f ∙ drop_two n z in
    first_line z (omega (arith, is, lt)) ∙ ap (λ m. take m z ∷ lines (drop (suc (suc m)) z)) (sym is) ∙ ap (λ t. t ∷ lines (drop (suc (suc n)) z)) (sym e) ∙ ap (λ t. before ∷ lines t) (sym k)
  where
    drop_two : (n : ℕ) (z : List ℕ) → drop 2 (drop n z) ≡ drop (suc (suc n)) z
    drop_two zero z = refl
    drop_two (suc n) [] = refl
    drop_two (suc n) (b ∷ z) = drop_two n z

pub no_line_ends : (n : ℕ) (z : List ℕ) → n ≡ break_len z → length z ≤ n → lines z ≡ z ∷ []
no_line_ends n z is le = last_line z (omega (arith, is, le))

pub ruleset ending = (line_ends, no_line_ends)

-- ---- what they give

abbrev given : Option ℕ → List (Result ℕ FrameFault)
given None = []
given (Some n) = Ok n ∷ []

taken_by : (v : Bool) (found : Option ℕ) (l : Result ℕ FrameFault) (ls : List (List ℕ)) (others : List (Result ℕ FrameFault)) → ((f : Option ℕ) → taken f ls ≡ only_length (given f ++ others))
    → elim (step_by found (if v then l ∷ [] else [])) as (λ _. Result ℕ FrameFault) [ Ok f ↦ taken f ls | Err fault ↦ Err fault ] ≡ only_length (given found ++ ((if v then l ∷ [] else []) ++ others))
taken_by false found l ls others h = h found
taken_by true None (Ok n) ls others h = h (Some n)
taken_by true None (Err f) ls others h = refl
taken_by true (Some m) l ls others h = refl

pub taken_all : (found : Option ℕ) (ls : List (List ℕ)) → taken found ls ≡ only_length (given found ++ flat_map lengths_of_line ls)
taken_all None [] = refl
taken_all (Some n) [] = refl
taken_all found (l ∷ ls) = taken_by (is_length l) found (length_in (words (drop 15 l))) ls (flat_map lengths_of_line ls) (λ f. taken_all f ls)

pub given_at_first : (h : List ℕ) (found : Option ℕ) → found ≡ None → taken found (lines h) ≡ length_of h
given_at_first h found is = ap (λ f. taken f (lines h)) is ∙ taken_all None (lines h)

taken_step : (found : Option ℕ) (line : List ℕ) (ls all : List (List ℕ)) (total : Result ℕ FrameFault) (r : Result (Option ℕ) FrameFault) → all ≡ line ∷ ls → r ≡ step found line → taken found all ≡ total
    → elim r as (λ _. Result ℕ FrameFault) [ Ok f ↦ taken f ls | Err fault ↦ Err fault ] ≡ total
taken_step found line ls all total r is e h = ap (λ (x : Result (Option ℕ) FrameFault). elim x as (λ _. Result ℕ FrameFault) [ Ok f ↦ taken f ls | Err fault ↦ Err fault ]) e ∙ ap (λ x. taken found x) (sym is) ∙ h

pub given_more : (found more : Option ℕ) (rest line after : List ℕ) (total : Result ℕ FrameFault) → lines rest ≡ line ∷ lines after → Ok more ≡ step found line → taken found (lines rest) ≡ total → taken more (lines after) ≡ total
given_more found more rest line after total is e h = taken_step found line (lines after) (lines rest) total (Ok more) is e h

pub given_wrong : (found : Option ℕ) (rest line after : List ℕ) (fault : FrameFault) (total : Result ℕ FrameFault) → lines rest ≡ line ∷ lines after → Err fault ≡ step found line → taken found (lines rest) ≡ total → Err fault ≡ total
given_wrong found rest line after fault total is e h = taken_step found line (lines after) (lines rest) total (Err fault) is e h

pub given_last : (found : Option ℕ) (n : ℕ) (rest : List ℕ) (total : Result ℕ FrameFault) → lines rest ≡ rest ∷ [] → Ok (Some n) ≡ step found rest → taken found (lines rest) ≡ total → Ok n ≡ total
given_last found n rest total is e h = taken_step found rest [] (lines rest) total (Ok (Some n)) is e h

pub given_none : (found : Option ℕ) (rest : List ℕ) (total : Result ℕ FrameFault) → lines rest ≡ rest ∷ [] → Ok None ≡ step found rest → taken found (lines rest) ≡ total → Err NoLength ≡ total
given_none found rest total is e h = taken_step found rest [] (lines rest) total (Ok None) is e h

pub given_wrong_last : (found : Option ℕ) (rest : List ℕ) (fault : FrameFault) (total : Result ℕ FrameFault) → lines rest ≡ rest ∷ [] → Err fault ≡ step found rest → taken found (lines rest) ≡ total → Err fault ≡ total
given_wrong_last found rest fault total is e h = taken_step found rest [] (lines rest) total (Err fault) is e h

pub ruleset giving = (given_at_first, given_more, given_wrong, given_last, given_none, given_wrong_last)
