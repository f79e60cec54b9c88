-- A frame that is written is read again.
use Rattle.std.proofs.Common.{◌≡◌, ℕ, ◌-◌, ◌<◌, ◌≤◌, ◌^◌, ◌⊎◌, inl, inr, Bool, true, false, ◌&&◌, ◌||◌, ◌==◌, nat_le, bytes_eq, if◌then◌else◌, List, [], ◌∷◌, ◌++◌, length, take, drop, filter, Some, None, Ok, Err, codes, refl, ap, sym, subst, ◌∙◌, arith, append_assoc, length-append}
use Rattle.std.specs.Fmt.{decimal}
use Rattle.std.specs.List.{list_all, ends_with, flat_map}
use Rattle.std.specs.Char.{is_ascii_digit}
use Rattle.std.specs.Str.Parse.{AllDigits}
use Rattle.std.specs.Cmp.{unsigned_Decides}
use Rattle.std.proofs.lemmas.Bool.{ne_eqb, le-leb}
use Rattle.std.proofs.lemmas.Fmt.{decimal_is_IsNumeral, digits_value-decimal, length-decimal-le}
use Rattle.std.proofs.lemmas.List.{take-append-drop, length-drop}
use Rattle.std.proofs.lemmas.Slice.Eq.{bytes_eq-Decides, ends_is}
use Rattle.std.proofs.lemmas.Str.Parse.{digit_from_value, numerals_by_fold, tells_digits}
use Rattle.mpd_model.specs.texts.Words.{is_blank, with_byte, put_before, pieces, has_some, words, digits_value, number_of}
use Rattle.mpd_frames.specs.Header.{BREAK, is_ended, IsHeader, grown, lines, within, length_in, only_length, lengths_of_line}
use Rattle.mpd_frames.specs.Frame.{header_text, frame_text}
use Rattle.mpd_frames.specs.Frames.{Frames, IsFrame}
use Rattle.mpd_frames.specs.declared.fault.FrameFault.TheVariants.{BadLength, BodyTooLong}

-- ---- digits

abbrev Digits : List ℕ → Type 0
Digits [] = Unit {0}
Digits (c ∷ cs) = (48 ≤ c) × (c ≤ 57) × Digits cs

digits_of : (ds : List ℕ) → AllDigits 10 ds → Digits ds
digits_of [] d = tt
digits_of (c ∷ cs) d = let k = digit_from_value c d.0 in (k.0, k.1, digits_of cs d.1)

and_true : (a b : Bool) → a ≡ true → b ≡ true → (a && b) ≡ true
and_true a b e f = ap (λ x. x && b) e ∙ f

all_ascii : (ds : List ℕ) → Digits ds → list_all is_ascii_digit ds ≡ true
all_ascii [] d = refl
all_ascii (c ∷ cs) d = let lo = d.0 in let hi = d.1 in and_true (is_ascii_digit c) (list_all is_ascii_digit cs) (and_true (nat_le 48 c) (nat_le c 57) (le-leb 48 c lo) (le-leb c 57 hi)) (all_ascii cs d.2)

not_blank : (c : ℕ) → 48 ≤ c → is_blank c ≡ false
not_blank c lo = ap (λ x. x || (c == 9)) (ne_eqb c 32 (λ e. omega (arith, lo, e))) ∙ ne_eqb c 9 (λ e. omega (arith, lo, e))

one_piece : (ds : List ℕ) → Digits ds → pieces ds ≡ ds ∷ []
one_piece [] d = refl
one_piece (c ∷ cs) d = ap (λ v. put_before v c (pieces cs)) (not_blank c d.0) ∙ ap (with_byte c) (one_piece cs d.2)

kept : (ds : List ℕ) → 0 < length ds → filter (has_some {A = ℕ}) ([] ∷ ds ∷ []) ≡ ds ∷ []
kept [] h = absurd (omega (arith, h))
kept (c ∷ cs) h = refl

one_word : (ds : List ℕ) → Digits ds → 0 < length ds → words (32 ∷ ds) ≡ ds ∷ []
one_word ds d some = ap (λ ps. filter (has_some {A = ℕ}) ([] ∷ ps)) (one_piece ds d) ∙ kept ds some

number_is : (ds : List ℕ) → Digits ds → 0 < length ds → length ds ≤ 7 → number_of ds ≡ Some (digits_value 0 ds)
number_is ds d some few =
    let le : 1 ≤ length ds = omega (arith, some) in
    let less : length ds ≤ 9 = omega (arith, few) in
    ap (λ v. if v then Some (digits_value 0 ds) else None)
    (and_true (nat_le 1 (length ds)) (nat_le (length ds) 9 && list_all is_ascii_digit ds) (le-leb 1 (length ds) le)
    (and_true (nat_le (length ds) 9) (list_all is_ascii_digit ds) (le-leb (length ds) 9 less) (all_ascii ds d)))

length_is : (ds : List ℕ) (n : ℕ) → Digits ds → 0 < length ds → length ds ≤ 7 → digits_value 0 ds ≡ n → n ≤ 1048576 → length_in (ds ∷ []) ≡ Ok n
length_is ds n d some few value most =
    ap (λ (v : Bool). if v then within (number_of ds) else Err BadLength) (le-leb (length ds) 7 few) ∙ ap within (number_is ds d some few ∙ ap Some value)
    ∙ ap (λ (v : Bool). if v then Ok n else Err BodyTooLong) (le-leb n 1048576 most)

-- ---- lines

-- no byte is a carriage return
abbrev plain : List ℕ → Bool
plain [] = true
plain (b ∷ l) = if b == 13 then false else plain l

plain_digits : (ds : List ℕ) → Digits ds → plain ds ≡ true
plain_digits [] d = refl
plain_digits (c ∷ cs) d = let lo = d.0 in ap (λ v. if v then false else plain cs) (ne_eqb c 13 (λ e. omega (arith, lo, e))) ∙ plain_digits cs d.2

not_true : false ≡ true → ⊥
not_true e = cc

plain_tail : (v : Bool) (l : List ℕ) → (if v then false else plain l) ≡ true → (v ≡ false) × (plain l ≡ true)
plain_tail true l e = absurd (not_true e)
plain_tail false l e = (refl, e)

lines_grow : (b : ℕ) (z : List ℕ) → (b == 13) ≡ false → 0 < length z → lines (b ∷ z) ≡ grown b (lines z)
lines_grow b [] e some = absurd (omega (arith, some))
lines_grow b (c ∷ z) e some = ap (λ v. if v && (c == 10) then [] ∷ lines z else grown b (lines (c ∷ z))) e

line_of : (l z : List ℕ) → plain l ≡ true → lines (l ++ 13 ∷ 10 ∷ z) ≡ l ∷ lines z
line_of [] z e = refl
line_of (b ∷ l) z e =
    let k = plain_tail (b == 13) l e in
    lines_grow b (l ++ 13 ∷ 10 ∷ z) k.0 (omega (arith, length-append l (13 ∷ 10 ∷ z))) ∙ ap (grown b) (line_of l z k.1)

-- ---- the end of the header

abbrev TAIL : List ℕ
TAIL = 13 ∷ 10 ∷ 13 ∷ 10 ∷ []

-- the first carriage return stands after the line
first_return : (l u front v : List ℕ) → plain l ≡ true → l ++ 13 ∷ u ≡ front ++ 13 ∷ v → length l ≤ length front
first_return [] u front v e same = omega arith
first_return (b ∷ l) u [] v e same =
    let k = plain_tail (b == 13) l e in
    let is : b ≡ 13 = cc in
    absurd (not_true (sym k.0 ∙ ap (λ x. x == 13) is))
first_return (b ∷ l) u (c ∷ front) v e same =
    let k = plain_tail (b == 13) l e in
    let next : l ++ 13 ∷ u ≡ front ++ 13 ∷ v = cc in
    let le = first_return l u front v k.1 next in
    omega (arith, le)

or_cases : (a b : Bool) → (a || b) ≡ true → (a ≡ true) ⊎ (b ≡ true)
or_cases true b e = inl refl
or_cases false b e = inr e

not_yet : (l : List ℕ) (k : ℕ) → plain l ≡ true → 0 < length l → k < length (l ++ TAIL) → is_ended (take k (l ++ TAIL)) ≡ true → ⊥
not_yet l k e some lt ended = by (or_cases (bytes_eq (take k (l ++ TAIL)) BREAK) (ends_with ◌==◌ (take k (l ++ TAIL)) TAIL) ended)
  where
    x : List ℕ
    x = take k (l ++ TAIL)

    y : List ℕ
    y = drop k (l ++ TAIL)

    by : (bytes_eq (take k (l ++ TAIL)) BREAK ≡ true) ⊎ (ends_with ◌==◌ (take k (l ++ TAIL)) TAIL ≡ true) → ⊥
    by (inl t) =
        let is : take k (l ++ TAIL) ≡ BREAK = (bytes_eq-Decides (take k (l ++ TAIL)) BREAK).0 t in
        let whole : l ++ TAIL ≡ 13 ∷ (10 ∷ drop k (l ++ TAIL)) = sym (take-append-drop k (l ++ TAIL)) ∙ ap (λ z. z ++ drop k (l ++ TAIL)) is in
        let le = first_return l (10 ∷ 13 ∷ 10 ∷ []) [] (10 ∷ drop k (l ++ TAIL)) e whole in
        omega (arith, le, some)
    by (inr t) =
        let front = take (length (take k (l ++ TAIL)) - 4) (take k (l ++ TAIL)) in
        let is : take k (l ++ TAIL) ≡ front ++ TAIL = (ends_is unsigned_Decides (take k (l ++ TAIL)) TAIL (ends_with ◌==◌ (take k (l ++ TAIL)) TAIL) refl).0 t in
        let whole : l ++ TAIL ≡ front ++ (TAIL ++ drop k (l ++ TAIL)) = sym (take-append-drop k (l ++ TAIL)) ∙ ap (λ z. z ++ drop k (l ++ TAIL)) is ∙ append_assoc front TAIL (drop k (l ++ TAIL)) in
        let le = first_return l (10 ∷ 13 ∷ 10 ∷ []) front (10 ∷ 13 ∷ 10 ∷ drop k (l ++ TAIL)) e whole in
        omega (arith, le, lt, ap length whole, length-append front (TAIL ++ drop k (l ++ TAIL)), length-append l TAIL, length-drop k (l ++ TAIL))

by_false : (v : Bool) → (v ≡ true → ⊥) → v ≡ false
by_false true h = absurd (h refl)
by_false false h = refl

or_true : (a b : Bool) → b ≡ true → (a || b) ≡ true
or_true true b e = refl
or_true false b e = e

ends_line : (l : List ℕ) → plain l ≡ true → 0 < length l → length l ≤ 4092 → IsHeader (l ++ TAIL)
ends_line l e some few = record {
  short = omega (arith, few, length-append l TAIL);
  ended = or_true (bytes_eq (l ++ TAIL) BREAK) (ends_with ◌==◌ (l ++ TAIL) TAIL) ((ends_is unsigned_Decides (l ++ TAIL) TAIL (ends_with ◌==◌ (l ++ TAIL) TAIL) refl).1 l refl);
  first = λ k lt. by_false (is_ended (take k (l ++ TAIL))) (not_yet l k e some lt);
}

-- ---- a whole frame

header_frame : (ds body : List ℕ) → Digits ds → 0 < length ds → length ds ≤ 7 → digits_value 0 ds ≡ length body → length body ≤ 1048576 → IsFrame (codes "Content-Length: " ++ ds ++ TAIL) body
header_frame ds body d some few value most =
    let line = codes "Content-Length: " ++ ds in
    let smooth : plain line ≡ true = plain_digits ds d in
    record {
      is_header = ends_line line smooth (omega arith) (omega (arith, few));
      length_is = ap (λ ls. only_length (flat_map lengths_of_line ls)) (line_of line (13 ∷ 10 ∷ []) smooth)
          ∙ ap (λ ws. only_length (length_in ws ∷ [])) (one_word ds d some) ∙ ap (λ r. only_length (r ∷ [])) (length_is ds (length body) d some few value most);
    }

pub read_again : (body rest : List ℕ) → length body ≤ 1048576 → Frames (frame_text body ++ rest) (body ∷ []) rest
read_again body rest most =
    let fits : length body < 2 ^ 64 = omega (arith, most) in
    let ds = decimal (length body) in
    let numeral = (decimal_is_IsNumeral (length body) fits).0 in
    let some = numeral.0 in
    let few : length ds ≤ 7 = length-decimal-le 7 (length body) (omega arith) (omega (arith, most)) fits in
    let value : digits_value 0 ds ≡ length body = digits_value-decimal (numerals_by_fold (AllDigits 10) tells_digits digits_value (record { empty = λ n. refl; more = λ n c cs k. refl })) (length body) fits in
    let same : header_text (length body) ≡ codes "Content-Length: " ++ ds ++ TAIL = append_assoc (codes "Content-Length: " ++ ds) BREAK BREAK in
    (header_text (length body), rest, append_assoc (header_text (length body)) body rest, subst (λ h. IsFrame h body) (sym same) (header_frame ds body (digits_of ds numeral.1) some few value most), refl)
