-- Texts without a byte of one kind, and how they are cut.
use Rattle.std.proofs.Common.{◌≡◌, ℕ, ◌+◌, ◌-◌, ◌*◌, ◌/◌, ◌%◌, ◌^◌, ◌<◌, ◌≤◌, ◌==◌, ◌&&◌, Bool, true, false, not, if◌then◌else◌, List, [], ◌∷◌, ◌++◌, length, length-append, map, Option, Some, None, refl, ap, sym, ◌∙◌, arith, append-nil, nat_le}
use Rattle.std.specs.Prelude.{option_map, filter}
use Rattle.std.specs.Char.{is_ascii_digit}
use Rattle.std.specs.Fmt.{decimal}
use Rattle.std.specs.List.{list_all, onto_first, flat_map, AllByRecursion}
use Rattle.std.proofs.lemmas.Bool.Decides.{nat_tests, Decides-eqb}
use Rattle.std.proofs.lemmas.Fmt.{decimal_by_steps, length-decimal-le}
use Rattle.std.proofs.lemmas.List.Folds.{list_all-append}
use Rattle.std.proofs.lemmas.List.Splits.{slice_split-cons_yes, slice_split-cons_no}
use Rattle.mpd_model.specs.texts.Words.{is_blank, with_byte, put_before, pieces, has_some, words, digits_value, is_number, number_of}
use Rattle.mpd_model.specs.texts.Lines.{bare, is_ending}
use Rattle.mpd_witness.specs.WitnessText.{parts_at, cut_at, line_of}

abbrev pub is_other : ℕ → ℕ → Bool
is_other c b = not (b == c)

-- no such byte is in the text
abbrev pub is_clear : ℕ → List ℕ → Bool
is_clear c z = list_all (is_other c) z

pub clear_join : (c : ℕ) (a z : List ℕ) → is_clear c a ≡ true → is_clear c z ≡ true → is_clear c (a ++ z) ≡ true
clear_join c a z e h = list_all-append (is_other c) a z ∙ rw (e, h) refl

and_parts : (p q : Bool) → (p && q) ≡ true → (p ≡ true) × (q ≡ true)
and_parts true q e = (refl, e)
and_parts false q e = absurd (let h : ⊥ = cc in h)

not_true : (v : Bool) → not v ≡ true → v ≡ false
not_true true e = absurd (let h : ⊥ = cc in h)
not_true false e = refl

clear_first : (c b : ℕ) (z : List ℕ) → is_clear c (b ∷ z) ≡ true → ((b == c) ≡ false) × (is_clear c z ≡ true)
clear_first c b z e = let h = and_parts (is_other c b) (is_clear c z) e in (not_true (b == c) h.0, h.1)

pub same_byte : (c : ℕ) → (c == c) ≡ true
same_byte c = (Decides-eqb c c).1 refl

-- ---- cuts

pub parts_next : (c : ℕ) (a z : List ℕ) → is_clear c a ≡ true → parts_at c (a ++ c ∷ z) ≡ a ∷ parts_at c z
parts_next c [] z e = slice_split-cons_yes (λ b. b == c) c z (same_byte c)
parts_next c (b ∷ a) z e =
    let h = clear_first c b a e in
    slice_split-cons_no (λ d. d == c) b (a ++ c ∷ z) h.0 ∙ ap (onto_first b) (parts_next c a z h.1)

pub parts_last : (c : ℕ) (a : List ℕ) → is_clear c a ≡ true → parts_at c a ≡ a ∷ []
parts_last c [] e = refl
parts_last c (b ∷ a) e =
    let h = clear_first c b a e in
    slice_split-cons_no (λ d. d == c) b a h.0 ∙ ap (onto_first b) (parts_last c a h.1)

-- texts, each behind such a byte
pub parts_listed : {A : Type 0} (c : ℕ) (f : A → List ℕ) (a : List ℕ) (xs : List A) → is_clear c a ≡ true → AllByRecursion (λ x. is_clear c (f x) ≡ true) xs
    → parts_at c (a ++ flat_map (λ x. c ∷ f x) xs) ≡ a ∷ map f xs
parts_listed c f a [] e h = ap (parts_at c) (append-nil a) ∙ parts_last c a e
parts_listed c f a (x ∷ xs) e h = parts_next c a (f x ++ flat_map (λ y. c ∷ f y) xs) e ∙ ap (λ ps. a ∷ ps) (parts_listed c f (f x) xs h.0 h.1)

abbrev cut_onto : ℕ → Option (List ℕ × List ℕ) → Option (List ℕ × List ℕ)
cut_onto b o = option_map (λ q. (b ∷ q.0, q.1)) o

pub cut_next : (c : ℕ) (a z : List ℕ) → is_clear c a ≡ true → cut_at c (a ++ c ∷ z) ≡ Some (a, z)
cut_next c [] z e = rw (same_byte c) refl
cut_next c (b ∷ a) z e =
    let h = clear_first c b a e in
    let none : (b == c) ≡ false = h.0 in
    ap (λ (v : Bool). if v then Some ([], a ++ c ∷ z) else cut_onto b (cut_at c (a ++ c ∷ z))) none ∙ ap (cut_onto b) (cut_next c a z h.1)

-- ---- lines

ending_other : (b : ℕ) (l : List ℕ) → (b == 10) ≡ false → (b == 13) ≡ false → is_ending b l ≡ false
ending_other b l e h = rw (e, h) refl

pub line_clear : (z : List ℕ) → is_clear 10 z ≡ true → is_clear 13 z ≡ true → line_of z ≡ z
line_clear [] e h = refl
line_clear (b ∷ z) e h =
    let f = clear_first 10 b z e in
    let r = clear_first 13 b z h in
    ap (λ (v : Bool). if v then [] else b ∷ bare (z ++ 10 ∷ [])) (ending_other b (z ++ 10 ∷ []) f.0 r.0) ∙ ap (λ l. b ∷ l) (line_clear z f.1 r.1)

-- ---- words

blank_other : (b : ℕ) → (b == 32) ≡ false → (b == 9) ≡ false → is_blank b ≡ false
blank_other b e h = rw (e, h) refl

pieces_next : (a z : List ℕ) → is_clear 32 a ≡ true → is_clear 9 a ≡ true → pieces (a ++ 32 ∷ z) ≡ a ∷ pieces z
pieces_next [] z e h = refl
pieces_next (b ∷ a) z e h =
    let s = clear_first 32 b a e in
    let t = clear_first 9 b a h in
    ap (λ v. put_before v b (pieces (a ++ 32 ∷ z))) (blank_other b s.0 t.0) ∙ ap (with_byte b) (pieces_next a z s.1 t.1)

pieces_last : (a : List ℕ) → is_clear 32 a ≡ true → is_clear 9 a ≡ true → pieces a ≡ a ∷ []
pieces_last [] e h = refl
pieces_last (b ∷ a) e h =
    let s = clear_first 32 b a e in
    let t = clear_first 9 b a h in
    ap (λ v. put_before v b (pieces a)) (blank_other b s.0 t.0) ∙ ap (with_byte b) (pieces_last a s.1 t.1)

kept_first : (a : List ℕ) (ps : List (List ℕ)) → 0 < length a → filter (has_some {A = ℕ}) (a ∷ ps) ≡ a ∷ filter (has_some {A = ℕ}) ps
kept_first [] ps l = absurd (omega arith)
kept_first (b ∷ a) ps l = refl

pub words_next : (a z : List ℕ) → 0 < length a → is_clear 32 a ≡ true → is_clear 9 a ≡ true → words (a ++ 32 ∷ z) ≡ a ∷ words z
words_next a z l e h = ap (filter (has_some {A = ℕ})) (pieces_next a z e h) ∙ kept_first a (pieces z) l

pub words_last : (a : List ℕ) → 0 < length a → is_clear 32 a ≡ true → is_clear 9 a ≡ true → words a ≡ a ∷ []
words_last a l e h = ap (filter (has_some {A = ℕ})) (pieces_last a e h) ∙ kept_first a [] l

-- ---- numbers

record IsDecimal (n : ℕ) (ds : List ℕ) : Type 0 where
  some : 0 < length ds
  digits : list_all is_ascii_digit ds ≡ true
  value : digits_value 0 ds ≡ n

value_append : (n : ℕ) (ds : List ℕ) (d : ℕ) → digits_value n (ds ++ d ∷ []) ≡ digits_value n ds * 10 + (d - 48)
value_append n [] d = refl
value_append n (e ∷ ds) d = value_append (n * 10 + (e - 48)) ds d

is_digit : (d : ℕ) → d < 10 → is_ascii_digit (48 + d) ≡ true
is_digit d h = grind (arith, nat_tests)

decimal_one : (m : ℕ) → m < 10 → IsDecimal m ((48 + m) ∷ [])
decimal_one m h = record { some = omega arith; digits = rw (is_digit m h) refl; value = omega arith }

decimal_more : (m : ℕ) (ds : List ℕ) → 10 ≤ m → IsDecimal (m / 10) ds → IsDecimal m (ds ++ (48 + m % 10) ∷ [])
decimal_more m ds h x =
    let small : m % 10 < 10 = omega arith in
    record {
      some = omega (arith, length-append ds ((48 + m % 10) ∷ []));
      digits = list_all-append is_ascii_digit ds ((48 + m % 10) ∷ []) ∙ rw (x.digits, is_digit (m % 10) small) refl;
      value = value_append 0 ds (48 + m % 10) ∙ omega (arith, x.value);
    }

is_decimal : (n : ℕ) → n < 2 ^ 64 → IsDecimal n (decimal n)
is_decimal = decimal_by_steps IsDecimal decimal_one decimal_more

digit_other : (c b : ℕ) → is_ascii_digit c ≡ false → is_ascii_digit b ≡ true → is_other c b ≡ true
digit_other c b e h =
    elim (b == c) as (λ v. (b == c) ≡ v → not v ≡ true) [
      | true ↦ λ k. absurd (let same : b ≡ c = (Decides-eqb b c).0 k in let t : true ≡ false = sym h ∙ ap is_ascii_digit same ∙ e in let x : ⊥ = cc in x)
      | false ↦ λ k. refl
    ] refl

digits_clear : (c : ℕ) (z : List ℕ) → is_ascii_digit c ≡ false → list_all is_ascii_digit z ≡ true → is_clear c z ≡ true
digits_clear c [] e h = refl
digits_clear c (b ∷ z) e h =
    let p = and_parts (is_ascii_digit b) (list_all is_ascii_digit z) h in
    rw (digit_other c b e p.0, digits_clear c z e p.1) refl

pub decimal_clear : (c n : ℕ) → is_ascii_digit c ≡ false → n < 2 ^ 64 → is_clear c (decimal n) ≡ true
decimal_clear c n e h = digits_clear c (decimal n) e ((is_decimal n h).digits)

pub decimal_some : (n : ℕ) → n < 2 ^ 64 → 0 < length (decimal n)
decimal_some n h = (is_decimal n h).some

pub number_read : (n : ℕ) → n < 1000000000 → number_of (decimal n) ≡ Some n
number_read n h =
    let big : n < 2 ^ 64 = omega arith in
    let x = is_decimal n big in
    let some : 0 < length (decimal n) = x.some in
    let few : length (decimal n) ≤ 9 = length-decimal-le 9 n (omega arith) (omega arith) big in
    let a : nat_le 1 (length (decimal n)) ≡ true = grind (arith, nat_tests) in
    let b : nat_le (length (decimal n)) 9 ≡ true = grind (arith, nat_tests) in
    let ok : is_number (decimal n) ≡ true = rw (a, b, x.digits) refl in
    ap (λ (v : Bool). if v then Some (digits_value 0 (decimal n)) else None) ok ∙ ap (λ (i : ℕ). Some i) x.value
