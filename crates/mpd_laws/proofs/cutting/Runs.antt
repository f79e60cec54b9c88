-- Names and numbers, cut: each ends where what follows is in no name.
use Rattle.std.proofs.Common.{◌≡◌, ℕ, suc, pos, ◌+◌, ◌-◌, ◌*◌, ◌/◌, ◌%◌, ◌^◌, ◌<◌, ◌≤◌, ◌==◌, Bool, true, false, List, [], ◌∷◌, ◌++◌, length, length-append, take, nat_lt, refl, subst, ap, ◌∙◌, arith, inl, inr}
use Rattle.std.specs.Prelude.{slice_index}
use Rattle.std.proofs.Math.Seq.{take-append_seam}
use Rattle.std.proofs.lemmas.Bool.{cases_Bool}
use Rattle.std.proofs.lemmas.Bool.Decides.{nat_tests}
use Rattle.std.proofs.lemmas.Fmt.{decimal_by_steps}
use Rattle.std.proofs.lemmas.List.Folds.{list_all-append}
use Rattle.std.specs.Fmt.{decimal}
use Rattle.std.specs.Char.{is_ascii_digit}
use Rattle.std.specs.List.{list_all, prefix_len}
use Rattle.mpd_model.specs.declared.token.Token.{Token}
use Rattle.mpd_model.specs.declared.token.Token.TheVariants.{Number}
use Rattle.mpd_model.specs.grammar.Grammar.{is_text}
use Rattle.mpd_model.specs.grammar.Tokens.{is_blank, is_in_name, begins_name, decimal_after, number, word, front, tokens_after, tokens_at, Spot}
use Rattle.mpd_laws.proofs.cutting.Cuts.{Ends, Cut, Spelled, IsWord, one_word}

-- ---- runs of bytes

pub first_passes : (p : ℕ → Bool) (b : ℕ) (w : List ℕ) → list_all p (b ∷ w) ≡ true → (p b ≡ true) × (list_all p w ≡ true)
first_passes p b w h =
    elim (cases_Bool (p b)) [
      | inl is ↦ let e = rw is at h in (is, e)
      | inr other ↦ let e = rw other at h in absurd (let x : ⊥ = cc in x)
    ]

run_append : (p : ℕ → Bool) (w rest : List ℕ) → list_all p w ≡ true → prefix_len p rest ≡ 0 → prefix_len p (w ++ rest) ≡ length w
run_append p [] rest h e = e
run_append p (b ∷ w) rest h e =
    let f = first_passes p b w h in
    rw f.0 (omega (arith, run_append p w rest f.1 e))

no_digit : (b : ℕ) → is_in_name b ≡ false → is_ascii_digit b ≡ false
no_digit b h = grind (arith, nat_tests)

ends_names : (rest : List ℕ) → Ends rest → prefix_len is_in_name rest ≡ 0
ends_names [] h = refl
ends_names (b ∷ z) h = rw h refl

ends_digits : (rest : List ℕ) → Ends rest → prefix_len is_ascii_digit rest ≡ 0
ends_digits [] h = refl
ends_digits (b ∷ z) h = rw (no_digit b h) refl

-- ---- bytes by their kinds

begins_no_digit : (b : ℕ) → begins_name b ≡ true → is_ascii_digit b ≡ false
begins_no_digit b h = grind (arith, nat_tests)

in_name_no_blank : (b : ℕ) → is_in_name b ≡ true → is_blank b ≡ false
in_name_no_blank b h = grind (arith, nat_tests)

in_name_no_comment : (b : ℕ) → is_in_name b ≡ true → (b == 35) ≡ false
in_name_no_comment b h = grind (arith, nat_tests)

pub in_name_no_equal : (b : ℕ) → is_in_name b ≡ true → (b == 61) ≡ false
in_name_no_equal b h = grind (arith, nat_tests)

in_name_text : (b : ℕ) → is_in_name b ≡ true → is_text b ≡ true
in_name_text b h = grind (arith, nat_tests)

digit_in_name : (b : ℕ) → is_ascii_digit b ≡ true → is_in_name b ≡ true
digit_in_name b h = grind (arith, nat_tests)

pub names_are_text : (w : List ℕ) → list_all is_in_name w ≡ true → list_all is_text w ≡ true
names_are_text [] h = refl
names_are_text (b ∷ w) h =
    let f = first_passes is_in_name b w h in
    rw (in_name_text b f.0, names_are_text w f.1) refl

pub digits_in_names : (w : List ℕ) → list_all is_ascii_digit w ≡ true → list_all is_in_name w ≡ true
digits_in_names [] h = refl
digits_in_names (b ∷ w) h =
    let f = first_passes is_ascii_digit b w h in
    rw (digit_in_name b f.0, digits_in_names w f.1) refl

-- ---- one run as a token

skip : (w : List ℕ) (p l : ℕ) (rest : List ℕ) → (q : ℕ) × (tokens_after (length w) p l (w ++ rest) ≡ tokens_at q l rest)
unfolding tokens_after
skip [] p l rest = (p, refl)
skip (b ∷ w) p l rest = skip w (p + 1) l rest

abbrev with_length : Token → ℕ → Token × ℕ
with_length t n = (t, n)

seam : (f : List ℕ → Token) (z rest : List ℕ) (n : ℕ) → n ≡ length z → with_length (f (take n (z ++ rest))) n ≡ with_length (f z) (length z)
seam f z rest n e = rw (e, take-append_seam z rest) refl

front_word : (b : ℕ) (w rest : List ℕ) → begins_name b ≡ true → list_all is_in_name (b ∷ w) ≡ true → Ends rest → front ((b ∷ w) ++ rest) ≡ (word (b ∷ w), length (b ∷ w))
unfolding front
front_word b w rest h a e =
    let run : 1 + prefix_len is_in_name (w ++ rest) ≡ length (b ∷ w) = omega (arith, run_append is_in_name w rest (first_passes is_in_name b w a).1 (ends_names rest e)) in
    rw (begins_no_digit b h, h) (seam word (b ∷ w) rest (1 + prefix_len is_in_name (w ++ rest)) run)

front_number : (b : ℕ) (w rest : List ℕ) → list_all is_ascii_digit (b ∷ w) ≡ true → Ends rest → front ((b ∷ w) ++ rest) ≡ (number (b ∷ w), length (b ∷ w))
unfolding front
front_number b w rest a e =
    let run : 1 + prefix_len is_ascii_digit (w ++ rest) ≡ length (b ∷ w) = omega (arith, run_append is_ascii_digit w rest (first_passes is_ascii_digit b w a).1 (ends_digits rest e)) in
    rw ((first_passes is_ascii_digit b w a).0) (seam number (b ∷ w) rest (1 + prefix_len is_ascii_digit (w ++ rest)) run)

abbrev spot_of : Token → ℕ → List ℕ → ℕ → ℕ → Spot
spot_of t b w p l = record { token = t; text = b ∷ w; place = p; line = l }

run_cut : (t : Token) (b : ℕ) (w rest : List ℕ) → is_in_name b ≡ true → front ((b ∷ w) ++ rest) ≡ (t, length (b ∷ w)) → (p l : ℕ) → Cut (IsWord t (b ∷ w)) (b ∷ w) p l rest
unfolding tokens_after
run_cut t b w rest h e p l =
    let behind = skip w (p + 1) l rest in
    let more : suc (length w) - 1 ≡ length w = omega arith in
    record {
      spots = spot_of t b w p l ∷ [];
      to_place = behind.0;
      to_line = l;
      is = rw (in_name_no_blank b h, in_name_no_comment b h, e, more, take-append_seam (b ∷ w) rest) (ap (λ ss. spot_of t b w p l ∷ ss) behind.1);
      holds = one_word (spot_of t b w p l) refl refl;
    }

-- ---- the digits of a number

record IsDecimal (n : ℕ) (ds : List ℕ) : Type 0 where
  some : 0 < length ds
  digits : list_all is_ascii_digit ds ≡ true
  value : decimal_after 0 ds ≡ n

after_append : (n : ℕ) (ds : List ℕ) (d : ℕ) → decimal_after n (ds ++ d ∷ []) ≡ decimal_after n ds * 10 + (d - 48)
after_append n [] d = refl
after_append n (e ∷ ds) d = after_append (n * 10 + (e - 48)) ds d

is_digit : (d : ℕ) → d < 10 → is_ascii_digit (48 + d) ≡ true
is_digit d h = grind (arith, nat_tests)

decimal_one : (m : ℕ) → m < 10 → IsDecimal m ((48 + m) ∷ [])
decimal_one m h = record { some = omega arith; digits = rw (is_digit m h) refl; value = omega arith }

decimal_more : (m : ℕ) (ds : List ℕ) → 10 ≤ m → IsDecimal (m / 10) ds → IsDecimal m (ds ++ (48 + m % 10) ∷ [])
decimal_more m ds h x =
    let small : m % 10 < 10 = omega arith in
    record {
      some = omega (arith, length-append ds ((48 + m % 10) ∷ []));
      digits = list_all-append is_ascii_digit ds ((48 + m % 10) ∷ []) ∙ rw (x.digits, is_digit (m % 10) small) refl;
      value = after_append 0 ds (48 + m % 10) ∙ omega (arith, x.value);
    }

is_decimal : (n : ℕ) → n < 2 ^ 64 → IsDecimal n (decimal n)
is_decimal = decimal_by_steps IsDecimal decimal_one decimal_more

number_is : (n : ℕ) → n < 2 ^ 63 → number (decimal n) ≡ Number (pos n)
unfolding number
number_is n h =
    let x = is_decimal n (omega arith) in
    let small : nat_lt n (2 ^ 63) ≡ true = grind (arith, nat_tests) in
    rw (x.value, small) refl

-- ---- names and numbers

pub run_spelled : (t : Token) (b : ℕ) (w : List ℕ) → list_all is_in_name (b ∷ w) ≡ true → ((rest : List ℕ) → Ends rest → front ((b ∷ w) ++ rest) ≡ (t, length (b ∷ w))) → Spelled Ends (IsWord t (b ∷ w)) (b ∷ w)
run_spelled t b w h f = record {
  cut = λ p l rest e. run_cut t b w rest (first_passes is_in_name b w h).0 (f rest e) p l;
  plain = names_are_text (b ∷ w) h;
}

-- no name and no number begins with `=`
pub first_of_names : (w rest : List ℕ) → 0 < length w → list_all is_in_name w ≡ true → (slice_index (w ++ rest) 0 == 61) ≡ false
first_of_names [] rest h a = absurd (omega arith)
first_of_names (b ∷ w) rest h a = in_name_no_equal b (first_passes is_in_name b w a).0

-- a word or a name
pub word_spelled : (w : List ℕ) → begins_name (slice_index w 0) ≡ true → list_all is_in_name w ≡ true → Spelled Ends (IsWord (word w) w) w
word_spelled [] h a = absurd (let x : ⊥ = cc in x)
word_spelled (b ∷ w) h a = run_spelled (word (b ∷ w)) b w a (λ rest e. front_word b w rest h a e)

pub number_spelled : (w : List ℕ) → 0 < length w → list_all is_ascii_digit w ≡ true → Spelled Ends (IsWord (number w) w) w
number_spelled [] h a = absurd (omega arith)
number_spelled (b ∷ w) h a = run_spelled (number (b ∷ w)) b w (digits_in_names (b ∷ w) a) (λ rest e. front_number b w rest a e)

pub decimal_spelled : (n : ℕ) → n < 2 ^ 63 → Spelled Ends (IsWord (Number (pos n)) (decimal n)) (decimal n)
decimal_spelled n h =
    let x = is_decimal n (omega arith) in
    subst (λ t. Spelled Ends (IsWord t (decimal n)) (decimal n)) (number_is n h) (number_spelled (decimal n) x.some x.digits)

-- the first byte of a number is a digit
pub decimal_first : (n : ℕ) (rest : List ℕ) → n < 2 ^ 63 → (slice_index (decimal n ++ rest) 0 == 61) ≡ false
decimal_first n rest h =
    let x = is_decimal n (omega arith) in
    first_of_names (decimal n) rest x.some (digits_in_names (decimal n) x.digits)
