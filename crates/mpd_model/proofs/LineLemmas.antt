-- A text, line by line, and lines without what ends them.
use Rattle.std.proofs.Common.{◌≡◌, ℕ, suc, ◌+◌, ◌<◌, Bool, true, false, ◌&&◌, ◌||◌, ◌==◌, if◌then◌else◌, List, [], ◌∷◌, ◌++◌, length, take, drop, refl, ap, sym, ◌∙◌, append_assoc, arith}
use Rattle.std.proofs.lemmas.Bool.Decides.{nat_tests}
use Rattle.mpd_model.specs.texts.Lines.{raw_lines, line_len, grow, bare, is_ending, is_feed, is_none}

-- ---- the first line

first_at : (v : Bool) (b : ℕ) (z : List ℕ) → (0 < length z → raw_lines z ≡ take (line_len z) z ∷ raw_lines (drop (line_len z) z))
    → (if v then (b ∷ []) ∷ raw_lines z else grow b (raw_lines z)) ≡ take (if v then 1 else suc (line_len z)) (b ∷ z) ∷ raw_lines (drop (if v then 1 else suc (line_len z)) (b ∷ z))
first_at true b z h = refl
first_at false b [] h = refl
first_at false b (c ∷ z) h = ap (grow b) (h (omega arith))

first_line : (z : List ℕ) → 0 < length z → raw_lines z ≡ take (line_len z) z ∷ raw_lines (drop (line_len z) z)
first_line [] h = absurd (omega (arith, h))
first_line (b ∷ z) h = first_at (b == 10) b z (first_line z)

some_at : (v : Bool) (n : ℕ) → 0 < (if v then 1 else suc n)
some_at true n = omega arith
some_at false n = omega arith

some_len : (z : List ℕ) → 0 < length z → 0 < line_len z
some_len [] h = h
some_len (b ∷ z) h = some_at (b == 10) (line_len z)

some_test : (n : ℕ) → (n == 0) ≡ false → 0 < n
some_test n h = grind (arith, nat_tests)

pub one_line : (n : ℕ) (z before behind : List ℕ) → (length z == 0) ≡ false → n ≡ line_len z → before ≡ take n z → behind ≡ drop n z → raw_lines z ≡ before ∷ raw_lines behind
one_line n z before behind h e f g =
    first_line z (some_test (length z) h) ∙ ap (λ k. take k z ∷ raw_lines (drop k z)) (sym e) ∙ ap (λ t. t ∷ raw_lines (drop n z)) (sym f) ∙ ap (λ t. before ∷ raw_lines t) (sym g)

pub less_behind : (n : ℕ) (z behind : List ℕ) → (length z == 0) ≡ false → n ≡ line_len z → length behind + n ≡ length z → length behind < length z
less_behind n z behind h e f = omega (arith, f, e, some_len z (some_test (length z) h))

none_at : (z : List ℕ) → length z ≡ 0 → raw_lines z ≡ []
none_at [] e = refl
none_at (b ∷ z) e = absurd (omega (arith, e))

pub no_line : (z : List ℕ) → (length z == 0) ≡ true → raw_lines z ≡ []
no_line z h = none_at z (grind (arith, nat_tests))

pub ruleset cutting = (one_line, less_behind, no_line)

-- ---- a line without what ends it

or_false : (p q : Bool) → p ≡ false → q ≡ false → (p || q) ≡ false
or_false true q e f = e
or_false false q e f = f

and_false : (p q : Bool) → q ≡ false → (p && q) ≡ false
and_false true q e = e
and_false false q e = refl

bare_step : (y : ℕ) (l : List ℕ) → is_ending y l ≡ false → bare (y ∷ l) ≡ y ∷ bare l
bare_step y l e = ap (λ (p : Bool). if p then [] else y ∷ bare l) e

pub ending_test : (y : ℕ) (l : List ℕ) → is_none l ≡ false → is_feed l ≡ false → is_ending y l ≡ false
ending_test y l e f = or_false (y == 10 && is_none l) (y == 13 && is_feed l) (and_false (y == 10) (is_none l) e) (and_false (y == 13) (is_feed l) f)

-- what has no line feed at its end
ending_before : (ys : List ℕ) (y b : ℕ) → (b == 10) ≡ false → is_ending y (ys ++ b ∷ []) ≡ false
ending_before [] y b e = ending_test y (b ∷ []) refl e
ending_before (z ∷ []) y b e = ending_test y (z ∷ b ∷ []) refl refl
ending_before (z ∷ w ∷ ws) y b e = ending_test y (z ∷ w ∷ (ws ++ b ∷ [])) refl refl

ending_last : (b : ℕ) → (b == 10) ≡ false → is_ending b [] ≡ false
ending_last b e = or_false (b == 10 && true) (b == 13 && false) (ap (λ (p : Bool). p && true) e) (and_false (b == 13) false refl)

bare_unfed : (ys : List ℕ) (b : ℕ) → (b == 10) ≡ false → bare (ys ++ b ∷ []) ≡ ys ++ b ∷ []
bare_unfed [] b e = bare_step b [] (ending_last b e)
bare_unfed (y ∷ ys) b e = bare_step y (ys ++ b ∷ []) (ending_before ys y b e) ∙ ap (λ l. y ∷ l) (bare_unfed ys b e)

-- what has one, behind a carriage return, and behind another byte
ending_before_two : (ys : List ℕ) (y b c : ℕ) → is_ending y (ys ++ b ∷ c ∷ []) ≡ false
ending_before_two [] y b c = ending_test y (b ∷ c ∷ []) refl refl
ending_before_two (z ∷ []) y b c = ending_test y (z ∷ b ∷ c ∷ []) refl refl
ending_before_two (z ∷ w ∷ ws) y b c = ending_test y (z ∷ w ∷ (ws ++ b ∷ c ∷ [])) refl refl

bare_return : (ys : List ℕ) → bare (ys ++ 13 ∷ 10 ∷ []) ≡ ys
bare_return [] = refl
bare_return (y ∷ ys) = bare_step y (ys ++ 13 ∷ 10 ∷ []) (ending_before_two ys y 13 10) ∙ ap (λ l. y ∷ l) (bare_return ys)

ending_other : (b : ℕ) → (b == 13) ≡ false → is_ending b (10 ∷ []) ≡ false
ending_other b e = or_false (b == 10 && false) (b == 13 && true) (and_false (b == 10) false refl) (ap (λ (p : Bool). p && true) e)

bare_fed : (ys : List ℕ) (b : ℕ) → (b == 13) ≡ false → bare (ys ++ b ∷ 10 ∷ []) ≡ ys ++ b ∷ []
bare_fed [] b e = bare_step b (10 ∷ []) (ending_other b e)
bare_fed (y ∷ ys) b e = bare_step y (ys ++ b ∷ 10 ∷ []) (ending_before_two ys y b 10) ∙ ap (λ l. y ∷ l) (bare_fed ys b e)

pub with_return : (xs ys : List ℕ) → xs ≡ ys ++ 13 ∷ [] → ys ≡ bare (xs ++ 10 ∷ [])
with_return xs ys e = sym (ap (λ l. bare (l ++ 10 ∷ [])) e ∙ ap bare (append_assoc ys (13 ∷ []) (10 ∷ [])) ∙ bare_return ys)

pub without_return : (xs ys : List ℕ) (b : ℕ) → xs ≡ ys ++ b ∷ [] → (b == 13) ≡ false → xs ≡ bare (xs ++ 10 ∷ [])
without_return xs ys b e f = e ∙ sym (ap (λ l. bare (l ++ 10 ∷ [])) e ∙ ap bare (append_assoc ys (b ∷ []) (10 ∷ [])) ∙ bare_fed ys b f)

pub empty_fed : (xs : List ℕ) → length xs ≡ 0 → xs ≡ bare (xs ++ 10 ∷ [])
empty_fed [] e = refl
empty_fed (x ∷ xs) e = absurd (omega (arith, e))

pub fed : (r xs ys : List ℕ) → xs ≡ ys ++ 10 ∷ [] → r ≡ bare (ys ++ 10 ∷ []) → r ≡ bare xs
fed r xs ys e f = f ∙ ap bare (sym e)

pub unfed : (xs ys : List ℕ) (b : ℕ) → xs ≡ ys ++ b ∷ [] → (b == 10) ≡ false → xs ≡ bare xs
unfed xs ys b e f = e ∙ sym (ap bare e ∙ bare_unfed ys b f)

pub empty_unfed : (xs : List ℕ) → length xs ≡ 0 → xs ≡ bare xs
empty_unfed [] e = refl
empty_unfed (x ∷ xs) e = absurd (omega (arith, e))

pub ruleset baring = (with_return, without_return, empty_fed, fed, unfed, empty_unfed)
