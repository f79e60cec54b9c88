-- What the tokens of a text are: each name is one, and each number can be written.
use Rattle.std.proofs.Common.{◌≡◌, ℕ, zero, suc, pos, ℤ, ◌+◌, ◌-◌, ◌<◌, ◌^◌, ◌==◌, Bool, true, false, ◌&&◌, if◌then◌else◌, nat_lt, nat_le, List, [], ◌∷◌, ◌++◌, length, take, refl, subst, ap, sym, ◌∙◌, arith, inl, inr}
use Rattle.std.specs.Prelude.{slice_index}
use Rattle.std.proofs.lemmas.Bool.{cases_Bool}
use Rattle.std.proofs.lemmas.Bool.Decides.{nat_tests}
use Rattle.std.specs.Char.{is_ascii_digit}
use Rattle.std.specs.List.{list_all, prefix_len}
use Rattle.std.specs.Str.{bytes_eq}
use Rattle.mpd_model.specs.declared.token.Class.TheVariants as class
use Rattle.mpd_model.specs.declared.token.Symbol.{Symbol}
use Rattle.mpd_model.specs.declared.token.Symbol.TheVariants as m
use Rattle.mpd_model.specs.declared.token.Token.{Token}
use Rattle.mpd_model.specs.declared.token.Token.TheVariants.{Number, Name}
use Rattle.mpd_model.specs.grammar.Printable.{IsName, IsWritable}
use Rattle.mpd_model.specs.grammar.Tokens.{Spot, spot, tokens_after, front, sign, two, number, word, word_in, reserved, decimal_after, run_len, is_blank, begins_name, is_in_name}

pub record IsGood (s : Spot) : Type 0 where
  pub name : s.token ≡ Name → IsName s.text
  pub number : (z : ℤ) → s.token ≡ Number z → IsWritable z

abbrev pub AllGood : List Spot → Type 0
AllGood [] = Unit {0}
AllGood (s ∷ ss) = IsGood s × AllGood ss

pub good_left : (a b : List Spot) → AllGood (a ++ b) → AllGood a
good_left [] b h = tt
good_left (s ∷ a) b h = (h.0, good_left a b h.1)

pub good_right : (a b : List Spot) → AllGood (a ++ b) → AllGood b
good_right [] b h = h
good_right (s ∷ a) b h = good_right a b h.1

-- ---- tokens by their kinds

-- neither a name nor a number
abbrev is_plain : Token → Bool
is_plain (Number z) = false
is_plain Name = false
is_plain _ = true

no_name : (t : Token) → is_plain t ≡ true → t ≡ Name → ⊥
no_name t h e = let x : false ≡ true = rw e at h in cc

no_number : (t : Token) (z : ℤ) → is_plain t ≡ true → t ≡ Number z → ⊥
no_number t z h e = let x : false ≡ true = rw e at h in cc

plain_good : (s : Spot) → is_plain s.token ≡ true → IsGood s
plain_good s h = record { name = λ e. absurd (no_name s.token h e); number = λ z e. absurd (no_number s.token z h e) }

choice : (v : Bool) (x y : Token × ℕ) → is_plain x.0 ≡ true → is_plain y.0 ≡ true → is_plain (if v then x else y).0 ≡ true
choice true x y h k = h
choice false x y h k = k

two_plain : (v : Bool) (a b : Symbol) → is_plain (two v a b).0 ≡ true
two_plain true a b = refl
two_plain false a b = refl

sign_plain : (b n : ℕ) → is_plain (sign b n).0 ≡ true
unfolding sign
sign_plain b n =
    choice (b == 59) _ _ refl (choice (b == 123) _ _ refl (choice (b == 125) _ _ refl (choice (b == 40) _ _ refl (choice (b == 41) _ _ refl
    (choice (b == 91) _ _ refl (choice (b == 93) _ _ refl (choice (b == 61) _ _ (two_plain (n == 61) m.Equal m.Assign) (choice (b == 33) _ _ (two_plain (n == 61) m.NotEqual m.Not)
    (choice (b == 60) _ _ (two_plain (n == 61) m.AtMost m.Less) (choice (b == 62) _ _ (two_plain (n == 61) m.AtLeast m.Greater)
    (choice (b == 43) _ _ refl (choice (b == 45) _ _ refl (choice (b == 42) _ _ refl (choice (b == 47) _ _ refl (choice (b == 37) _ _ refl
    (choice (b == 38 && n == 38) _ _ refl (choice (b == 124 && n == 124) _ _ refl refl)))))))))))))))))

-- a word is no number
word_no_number : (z : ℤ) (ks : List (List ℕ × Symbol)) (w : List ℕ) → word_in ks w ≡ Number z → ⊥
word_no_number z [] w h =
    elim (cases_Bool (nat_le (length w) 64)) [
      | inl is ↦ let e = rw is at h in cc
      | inr other ↦ let e = rw other at h in cc
    ]
word_no_number z (k ∷ ks) w h =
    elim (cases_Bool (bytes_eq k.0 w)) [
      | inl is ↦ let e = rw is at h in cc
      | inr other ↦ let e = rw other at h in word_no_number z ks w e
    ]

number_no_name : (w : List ℕ) → number w ≡ Name → ⊥
unfolding number
number_no_name w h =
    elim (cases_Bool (nat_lt (decimal_after 0 w) (2 ^ 63))) [
      | inl is ↦ let e = rw is at h in cc
      | inr other ↦ let e = rw other at h in cc
    ]

value_of : Token → ℤ
value_of (Number z) = z
value_of _ = pos 0

number_writable : (w : List ℕ) (z : ℤ) → number w ≡ Number z → IsWritable z
unfolding number value_of
number_writable w z h =
    elim (cases_Bool (nat_lt (decimal_after 0 w) (2 ^ 63))) [
      | inl is ↦
          let e = rw is at h in
          let same : pos (decimal_after 0 w) ≡ z = ap value_of e in
          let small : decimal_after 0 w < 2 ^ 63 = grind (arith, nat_tests) in
          subst IsWritable same small
      | inr other ↦ let e = rw other at h in absurd (let x : ⊥ = cc in x)
    ]

-- ---- the token at the front

run_passes : (p : ℕ → Bool) (w : List ℕ) → list_all p (take (prefix_len p w) w) ≡ true
run_passes p [] = refl
run_passes p (b ∷ w) =
    elim (cases_Bool (p b)) [
      | inl is ↦ let e : 1 + prefix_len p w ≡ suc (prefix_len p w) = omega arith in rw (is, e) rw is (run_passes p w)
      | inr other ↦ rw other refl
    ]

begins_in_name : (b : ℕ) → begins_name b ≡ true → is_in_name b ≡ true
begins_in_name b h = grind (arith, nat_tests)

run_first : (b : ℕ) (z : List ℕ) → is_in_name b ≡ true → slice_index (take (run_len class.Name (b ∷ z)) (b ∷ z)) 0 ≡ b
run_first b z h = let e : 1 + prefix_len is_in_name z ≡ suc (prefix_len is_in_name z) = omega arith in rw h rw e refl

name_here : (b : ℕ) (z : List ℕ) → begins_name b ≡ true → word (take (run_len class.Name (b ∷ z)) (b ∷ z)) ≡ Name → IsName (take (run_len class.Name (b ∷ z)) (b ∷ z))
name_here b z h e = record {
  begins = ap begins_name (run_first b z (begins_in_name b h)) ∙ h;
  goes_on = run_passes is_in_name (b ∷ z);
  free = e;
}

-- what stands at the front, by what its first byte is
front_at : (b : ℕ) (z : List ℕ) → Bool → Bool → Token × ℕ
front_at b z true other = (number (take (run_len class.Digit (b ∷ z)) (b ∷ z)), run_len class.Digit (b ∷ z))
front_at b z false true = (word (take (run_len class.Name (b ∷ z)) (b ∷ z)), run_len class.Name (b ∷ z))
front_at b z false false = sign b (slice_index (b ∷ z) 1)

front_is : (b : ℕ) (z : List ℕ) (v u : Bool) → is_ascii_digit b ≡ v → begins_name b ≡ u → front (b ∷ z) ≡ front_at b z v u
unfolding front front_at
front_is b z true u e f = rw e refl
front_is b z false true e f = rw (e, f) refl
front_is b z false false e f = rw (e, f) refl

abbrev spot_at : Token × ℕ → List ℕ → ℕ → ℕ → Spot
spot_at f z p l = record { token = f.0; text = take f.1 z; place = p; line = l }

good_at : (b : ℕ) (z : List ℕ) (p l : ℕ) (v u : Bool) → begins_name b ≡ u → IsGood (spot_at (front_at b z v u) (b ∷ z) p l)
unfolding front_at word
good_at b z p l true u e = record {
  name = λ h. absurd (number_no_name (take (run_len class.Digit (b ∷ z)) (b ∷ z)) h);
  number = λ y h. number_writable (take (run_len class.Digit (b ∷ z)) (b ∷ z)) y h;
}
good_at b z p l false true e = record {
  name = λ h. name_here b z e h;
  number = λ y h. absurd (word_no_number y reserved (take (run_len class.Name (b ∷ z)) (b ∷ z)) h);
}
good_at b z p l false false e = plain_good (spot_at (front_at b z false false) (b ∷ z) p l) (sign_plain b (slice_index (b ∷ z) 1))

spot_good : (b : ℕ) (z : List ℕ) (p l : ℕ) → IsGood (spot (b ∷ z) p l)
spot_good b z p l =
    let e = front_is b z (is_ascii_digit b) (begins_name b) refl refl in
    subst (λ f. IsGood (spot_at f (b ∷ z) p l)) (sym e) (good_at b z p l (is_ascii_digit b) (begins_name b) refl)

either_good : (v : Bool) (x y : List Spot) → AllGood x → AllGood y → AllGood (if v then x else y)
either_good true x y h k = h
either_good false x y h k = k

pub tokens_good : (skip p l : ℕ) (z : List ℕ) → AllGood (tokens_after skip p l z)
unfolding tokens_after
tokens_good skip p l [] = tt
tokens_good zero p l (b ∷ z) =
    either_good (is_blank b) _ _ (tokens_good 0 (p + 1) _ z)
    (either_good (b == 35) _ _ (tokens_good (run_len class.Comment z) (p + 1) l z) (spot_good b z p l, tokens_good ((front (b ∷ z)).1 - 1) (p + 1) l z))
tokens_good (suc skip) p l (b ∷ z) = tokens_good skip (p + 1) l z
