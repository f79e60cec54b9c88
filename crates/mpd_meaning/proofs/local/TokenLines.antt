-- Tokens hold no line feed, so each has the line of its place.
use Rattle.std.proofs.Common.{◌≡◌, ◌⊎◌, ℕ, zero, suc, ◌+◌, ◌-◌, ◌==◌, Bool, true, false, cond, ◌&&◌, not, List, [], ◌∷◌, ◌++◌, length, take, drop, inl, inr, refl, sym, ap, ◌∙◌, arith, append_assoc, length-append}
use Rattle.mpd_laws.proofs.cutting.LineCuts.{and_second}
use Rattle.std.proofs.lemmas.Bool.{cases_Bool, eqb-true}
use Rattle.std.proofs.lemmas.Bool.Decides.{nat_tests}
use Rattle.std.proofs.lemmas.List.{take_at, drop_at}
use Rattle.std.proofs.lemmas.List.Elements.{All-from_recursion}
use Rattle.std.proofs.lemmas.List.Sums.{sum_by-cons}
use Rattle.std.specs.Char.{is_ascii_digit}
use Rattle.std.specs.List.{All, AllByRecursion, count_by, prefix_len}
use Rattle.std.specs.Prelude.{slice_index}
use Rattle.mpd_model.specs.declared.token.Class.TheVariants as class
use Rattle.mpd_model.specs.declared.token.Symbol.TheVariants as m
use Rattle.mpd_model.specs.declared.token.Token.{Token}
use Rattle.mpd_model.specs.declared.token.Token.TheVariants.{Is}
use Rattle.mpd_model.specs.grammar.Tokens.{Spot, spot, tokens, tokens_after, front, sign, word, number, run_len, begins_name, is_in_name, is_in_comment, is_blank, feeds}
use Rattle.mpd_meaning.specs.TokenLaws.{IsPlacedIn}

-- ---- bytes without a line feed

abbrev fed : List ℕ → ℕ
fed [] = 0
fed (b ∷ z) = cond (b == 10) 1 0 + fed z

fed_counts : (z : List ℕ) → count_by (λ b. b == 10) z ≡ fed z
fed_counts [] = refl
fed_counts (b ∷ z) = sum_by-cons (λ b. cond (b == 10) 1 0) b z ∙ ap (λ n. cond (b == 10) 1 0 + n) (fed_counts z)

fed-append : (a b : List ℕ) → fed (a ++ b) ≡ fed a + fed b
fed-append [] b = omega arith
fed-append (x ∷ a) b = omega (arith, fed-append a b)

one_feed : (b : ℕ) → (b == 10) ≡ false → fed (b ∷ []) ≡ 0
one_feed b e = ap (λ (c : Bool). cond c 1 0 + 0) e

-- a number that is one is not another
is_other : (n k : ℕ) → (n == k) ≡ true → (k == 10) ≡ false → (n == 10) ≡ false
is_other n k e f = ap (λ x. x == 10) (eqb-true n k e) ∙ f

-- the bytes at the front that are of a class
class_fed : (t : ℕ → Bool) → ((b : ℕ) → t b ≡ true → (b == 10) ≡ false) → (z : List ℕ) → fed (take (prefix_len t z) z) ≡ 0
class_fed t no_feed [] = refl
class_fed t no_feed (b ∷ z) =
    elim (cases_Bool (t b)) [
      | inl is ↦
          let more : fed (take (1 + prefix_len t z) (b ∷ z)) ≡ 0 = first b z (prefix_len t z) (no_feed b is) (class_fed t no_feed z) in
          ap (λ (c : Bool). fed (take (cond c (1 + prefix_len t z) 0) (b ∷ z))) is ∙ more
      | inr other ↦ ap (λ (c : Bool). fed (take (cond c (1 + prefix_len t z) 0) (b ∷ z))) other
    ]
  where
    first : (b : ℕ) (z : List ℕ) (n : ℕ) → (b == 10) ≡ false → fed (take n z) ≡ 0 → fed (take (1 + n) (b ∷ z)) ≡ 0
    first b z n e h =
        let k : 1 + n ≡ suc n = omega arith in
        ap (λ x. fed (take x (b ∷ z))) k ∙ ap (λ (c : Bool). cond c 1 0 + fed (take n z)) e ∙ omega (arith, h)

digit_feeds : (b : ℕ) → is_ascii_digit b ≡ true → (b == 10) ≡ false
digit_feeds b e = grind (arith, nat_tests, e)

name_feeds : (b : ℕ) → is_in_name b ≡ true → (b == 10) ≡ false
name_feeds b e =
    elim (cases_Bool (b == 10)) [
      | inr h ↦ h
      | inl h ↦ absurd (let x : is_in_name 10 ≡ true = ap is_in_name (sym (eqb-true b 10 h)) ∙ e in cc)
    ]

comment_feeds : (b : ℕ) → is_in_comment b ≡ true → (b == 10) ≡ false
comment_feeds b e = not_true (b == 10) e
  where
    not_true : (c : Bool) → not c ≡ true → c ≡ false
    not_true true e = cc
    not_true false e = refl

-- ---- the length of a sign: one byte, or two of which the second is no line feed

abbrev pub IsShort : ℕ → Token × ℕ → Type 0
IsShort next p = (p.1 ≡ 1) ⊎ ((p.1 ≡ 2) × ((next == 10) ≡ false))

short_if : (next : ℕ) (c : Bool) (x y : Token × ℕ) → (c ≡ true → IsShort next x) → IsShort next y → IsShort next (cond c x y)
short_if next true x y h k = h refl
short_if next false x y h k = k

short_two : (next k : ℕ) (long short : _) → (k == 10) ≡ false → IsShort next (cond (next == k) (Is long, 2) (Is short, 1))
short_two next k long short f = short_if next (next == k) (Is long, 2) (Is short, 1) (λ e. inr (refl, is_other next k e f)) (inl refl)

pub sign_short : (b n : ℕ) → IsShort n (sign b n)
unfolding sign
sign_short b n =
    short_if n (b == 59) _ _ (λ e. inl refl) (short_if n (b == 123) _ _ (λ e. inl refl) (short_if n (b == 125) _ _ (λ e. inl refl) (short_if n (b == 40) _ _ (λ e. inl refl)
    (short_if n (b == 41) _ _ (λ e. inl refl) (short_if n (b == 91) _ _ (λ e. inl refl) (short_if n (b == 93) _ _ (λ e. inl refl)
    (short_if n (b == 61) _ _ (λ e. short_two n 61 m.Equal m.Assign refl) (short_if n (b == 33) _ _ (λ e. short_two n 61 m.NotEqual m.Not refl)
    (short_if n (b == 60) _ _ (λ e. short_two n 61 m.AtMost m.Less refl) (short_if n (b == 62) _ _ (λ e. short_two n 61 m.AtLeast m.Greater refl)
    (short_if n (b == 43) _ _ (λ e. inl refl) (short_if n (b == 45) _ _ (λ e. inl refl) (short_if n (b == 42) _ _ (λ e. inl refl)
    (short_if n (b == 47) _ _ (λ e. inl refl) (short_if n (b == 37) _ _ (λ e. inl refl)
    (short_if n (b == 38 && n == 38) _ _ (λ e. inr (refl, is_other n 38 (and_second (b == 38) (n == 38) e) refl))
    (short_if n (b == 124 && n == 124) _ _ (λ e. inr (refl, is_other n 124 (and_second (b == 124) (n == 124) e) refl)) (inl refl))))))))))))))))))

-- the bytes of a sign behind its first
sign_fed : (z : List ℕ) (b : ℕ) (p : Token × ℕ) → IsShort (slice_index (b ∷ z) 1) p → fed (take (p.1 - 1) z) ≡ 0
sign_fed z b p (inl e) = ap (λ n. fed (take (n - 1) z)) e
sign_fed [] b p (inr h) = ap (λ n. fed (take (n - 1) [])) h.0
sign_fed (c ∷ z) b p (inr h) = ap (λ n. fed (take (n - 1) (c ∷ z))) h.0 ∙ one_feed c h.1

-- ---- the bytes of a token behind its first

-- of a class, where the first is of it
run_fed : (t : ℕ → Bool) → ((b : ℕ) → t b ≡ true → (b == 10) ≡ false) → (b : ℕ) (z : List ℕ) → t b ≡ true → fed (take (prefix_len t (b ∷ z) - 1) z) ≡ 0
run_fed t no_feed b z e =
    let k : prefix_len t (b ∷ z) - 1 ≡ prefix_len t z = ap (λ (c : Bool). cond c (1 + prefix_len t z) 0 - 1) e ∙ omega arith in
    ap (λ n. fed (take n z)) k ∙ class_fed t no_feed z

begins_is_in : (b : ℕ) → begins_name b ≡ true → is_in_name b ≡ true
begins_is_in b e = grind (arith, nat_tests, e)

front_fed : (b : ℕ) (z : List ℕ) → fed (take ((front (b ∷ z)).1 - 1) z) ≡ 0
unfolding front
front_fed b z =
    elim (cases_Bool (is_ascii_digit b)) [
      | inl digit ↦
          ap (λ (c : Bool). fed (take ((cond c (number (take digits (b ∷ z)), digits) (cond (begins_name b) (word (take name (b ∷ z)), name) (sign b (slice_index (b ∷ z) 1)))).1 - 1) z)) digit
          ∙ run_fed is_ascii_digit digit_feeds b z digit
      | inr no_digit ↦
          ap (λ (c : Bool). fed (take ((cond c (number (take digits (b ∷ z)), digits) (cond (begins_name b) (word (take name (b ∷ z)), name) (sign b (slice_index (b ∷ z) 1)))).1 - 1) z)) no_digit
          ∙ elim (cases_Bool (begins_name b)) [
            | inl begins ↦
                ap (λ (c : Bool). fed (take ((cond c (word (take name (b ∷ z)), name) (sign b (slice_index (b ∷ z) 1))).1 - 1) z)) begins
                ∙ run_fed is_in_name name_feeds b z (begins_is_in b begins)
            | inr no_name ↦
                ap (λ (c : Bool). fed (take ((cond c (word (take name (b ∷ z)), name) (sign b (slice_index (b ∷ z) 1))).1 - 1) z)) no_name
                ∙ sign_fed z b (sign b (slice_index (b ∷ z) 1)) (sign_short b (slice_index (b ∷ z) 1))
          ]
    ]
  where
    digits : ℕ
    digits = run_len class.Digit (b ∷ z)

    name : ℕ
    name = run_len class.Name (b ∷ z)

-- ---- all tokens

-- what stands before a place and what stands there
record Splits (text before z : List ℕ) (place line : ℕ) : Type 0 where
  is : text ≡ before ++ z
  place_is : length before ≡ place
  line_is : line ≡ fed before + 1

one_on : (text before z : List ℕ) (b place line more : ℕ) → Splits text before (b ∷ z) place line → fed (b ∷ []) ≡ more → Splits text (before ++ b ∷ []) z (place + 1) (line + more)
one_on text before z b place line more s e =
    let p = s.place_is in
    let l = s.line_is in
    record {
      is = s.is ∙ sym (append_assoc before (b ∷ []) z);
      place_is = omega (arith, p, length-append before (b ∷ []));
      line_is = omega (arith, l, e, fed-append before (b ∷ []));
    }

spot_placed : (text before z : List ℕ) (b place line : ℕ) → Splits text before (b ∷ z) place line → IsPlacedIn text (spot (b ∷ z) place line)
spot_placed text before z b place line s =
    let at : take place text ≡ before = ap (take place) s.is ∙ take_at before (b ∷ z) place s.place_is in
    let behind : drop place text ≡ b ∷ z = ap (drop place) s.is ∙ drop_at before (b ∷ z) place s.place_is in
    let p = s.place_is in
    record {
      within = omega (arith, p, ap length s.is, length-append before (b ∷ z));
      bytes = ap (take (length (take (front (b ∷ z)).1 (b ∷ z)))) behind ∙ take_taken (front (b ∷ z)).1 (b ∷ z);
      line = s.line_is ∙ ap (λ y. fed y + 1) (sym at) ∙ ap (λ n. n + 1) (sym (fed_counts (take place text)));
    }
  where
    take_taken : (n : ℕ) (z : List ℕ) → take (length (take n z)) z ≡ take n z
    take_taken zero z = refl
    take_taken (suc n) [] = refl
    take_taken (suc n) (c ∷ z) = ap (λ y. c ∷ y) (take_taken n z)

either_way : (a c : Bool) (P : List Spot → Type 0) (xs ys zs : List Spot) → (a ≡ true → P xs) → (a ≡ false → c ≡ true → P ys) → (a ≡ false → c ≡ false → P zs) → P (cond a xs (cond c ys zs))
either_way true c P xs ys zs x y z = x refl
either_way false true P xs ys zs x y z = y refl refl
either_way false false P xs ys zs x y z = z refl refl

no_blank : (b : ℕ) → is_blank b ≡ false → (b == 10) ≡ false
no_blank b e = grind (arith, nat_tests, e)

feeds_is : (b : ℕ) → fed (b ∷ []) ≡ feeds b
feeds_is b = omega arith

-- of bytes that are skipped the first is no line feed, and the others neither
skipped : (n b : ℕ) (z : List ℕ) → fed (take (suc n) (b ∷ z)) ≡ 0 → (fed (b ∷ []) ≡ 0) × (fed (take n z) ≡ 0)
skipped n b z h = (omega (arith, h), omega (arith, h))

on_same : (text before z : List ℕ) (b place line : ℕ) → Splits text before (b ∷ z) place line → fed (b ∷ []) ≡ 0 → Splits text (before ++ b ∷ []) z (place + 1) line
on_same text before z b place line s e =
    let more = one_on text before z b place line 0 s e in
    record { is = more.is; place_is = more.place_is; line_is = let l = more.line_is in omega (arith, l) }

placed : (text : List ℕ) (skip : ℕ) (place line : ℕ) (z before : List ℕ) → Splits text before z place line → fed (take skip z) ≡ 0 → AllByRecursion (IsPlacedIn text) (tokens_after skip place line z)
unfolding tokens_after
placed text skip place line [] before s h = tt
placed text (suc skip) place line (b ∷ z) before s h =
    let k = skipped skip b z h in
    placed text skip (place + 1) line z (before ++ b ∷ []) (on_same text before z b place line s k.0) k.1
placed text zero place line (b ∷ z) before s h =
    either_way (is_blank b) (b == 35) (AllByRecursion (IsPlacedIn text)) _ _ _
    (λ e. placed text 0 (place + 1) (line + feeds b) z (before ++ b ∷ []) (one_on text before z b place line (feeds b) s (feeds_is b)) refl)
    (λ e f. placed text (run_len class.Comment z) (place + 1) line z (before ++ b ∷ []) (on_same text before z b place line s (one_feed b (no_blank b e))) (class_fed is_in_comment comment_feeds z))
    (λ e f. (
      spot_placed text before z b place line s,
      placed text ((front (b ∷ z)).1 - 1) (place + 1) line z (before ++ b ∷ []) (on_same text before z b place line s (one_feed b (no_blank b e))) (front_fed b z),
    ))

pub placed_by_recursion : (text : List ℕ) → AllByRecursion (IsPlacedIn text) (tokens text)
placed_by_recursion text = placed text 0 0 1 text [] (record { is = refl; place_is = refl; line_is = refl }) refl

pub each_placed : (text : List ℕ) → All (IsPlacedIn text) (tokens text)
each_placed text = All-from_recursion (IsPlacedIn text) (tokens text) (placed_by_recursion text)
