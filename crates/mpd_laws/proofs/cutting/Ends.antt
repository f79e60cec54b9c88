-- No token of a text is its end.
use Rattle.std.proofs.Common.{◌≡◌, ◌≢◌, ℕ, zero, suc, ◌+◌, ◌-◌, ◌^◌, ◌==◌, ◌&&◌, nat_lt, nat_le, Bool, true, false, cond, List, [], ◌∷◌, ◌++◌, length, take, slice_index, refl, pos}
use Rattle.std.specs.Char.{is_ascii_digit}
use Rattle.std.specs.Str.{bytes_eq}
use Rattle.mpd_model.specs.declared.token.Class.TheVariants as class
use Rattle.mpd_model.specs.declared.token.Symbol.{Symbol}
use Rattle.mpd_model.specs.declared.token.Symbol.TheVariants as m
use Rattle.mpd_model.specs.declared.token.Token.{Token}
use Rattle.mpd_model.specs.declared.token.Token.TheVariants.{Number, Name, Is, Bad, End}
use Rattle.mpd_model.specs.grammar.Input.{token_of}
use Rattle.mpd_model.specs.grammar.Tokens.{Spot, spot, tokens_after, front, sign, word, word_in, number, reserved, run_len, begins_name, is_blank, feeds, decimal_after}

unfoldable IsReal : Token → Type 0
IsReal t = t ≢ End

real_number : (n : ℕ) → IsReal (Number (pos n))
unfolding IsReal
real_number n e = absurd (cc)

real_symbol : (k : Symbol) → IsReal (Is k)
unfolding IsReal
real_symbol k e = absurd (cc)

real_name : IsReal Name
unfolding IsReal
real_name e = absurd (cc)

real_bad : IsReal Bad
unfolding IsReal
real_bad e = absurd (cc)

real_if : (c : Bool) (x y : Token) → IsReal x → IsReal y → IsReal (cond c x y)
real_if true x y a b = a
real_if false x y a b = b

-- of pairs
unfoldable IsRealPair : Token × ℕ → Type 0
IsRealPair p = IsReal p.0

pair : (t : Token) (n : ℕ) → IsReal t → IsRealPair (t, n)
unfolding IsRealPair
pair t n h = h

pair_symbol : (k : Symbol) (n : ℕ) → IsRealPair (Is k, n)
pair_symbol k n = pair (Is k) n (real_symbol k)

pair_if : (c : Bool) (x y : Token × ℕ) → IsRealPair x → IsRealPair y → IsRealPair (cond c x y)
pair_if true x y a b = a
pair_if false x y a b = b

pair_two_if : (c d : Bool) (k l : Symbol) (n o : ℕ) (y : Token × ℕ) → IsRealPair y → IsRealPair (cond c (cond d (Is k, n) (Is l, o)) y)
pair_two_if c d k l n o y b = pair_if c (cond d (Is k, n) (Is l, o)) y (pair_if d (Is k, n) (Is l, o) (pair_symbol k n) (pair_symbol l o)) b

-- signs, each with its tests: the long one, or the short one where the next byte doesn't fit
abbrev Sign : Type 0
Sign = Bool × (Bool × (Symbol × (ℕ × (Symbol × ℕ))))

abbrev single : Bool → Symbol → ℕ → Sign
single c k n = (c, (true, (k, (n, (k, n)))))

abbrev double : Bool → Bool → Symbol → Symbol → Sign
double c d long short = (c, (d, (long, (2, (short, 1)))))

abbrev chosen : List Sign → Token × ℕ
chosen [] = (Bad, 1)
chosen (s ∷ ss) = cond s.0 (cond s.1.0 (Is s.1.1.0, s.1.1.1.0) (Is s.1.1.1.1.0, s.1.1.1.1.1)) (chosen ss)

chosen_real : (ss : List Sign) → IsRealPair (chosen ss)
chosen_real [] = pair Bad 1 real_bad
chosen_real (s ∷ ss) = pair_two_if s.0 s.1.0 s.1.1.0 s.1.1.1.1.0 s.1.1.1.0 s.1.1.1.1.1 (chosen ss) (chosen_real ss)

abbrev signs : ℕ → ℕ → List Sign
signs b next =
    single (b == 59) m.Semicolon 1
    ∷ single (b == 123) m.BraceOpen 1
    ∷ single (b == 125) m.BraceClose 1
    ∷ single (b == 40) m.RoundOpen 1
    ∷ single (b == 41) m.RoundClose 1
    ∷ single (b == 91) m.SquareOpen 1
    ∷ single (b == 93) m.SquareClose 1
    ∷ double (b == 61) (next == 61) m.Equal m.Assign
    ∷ double (b == 33) (next == 61) m.NotEqual m.Not
    ∷ double (b == 60) (next == 61) m.AtMost m.Less
    ∷ double (b == 62) (next == 61) m.AtLeast m.Greater
    ∷ single (b == 43) m.Plus 1
    ∷ single (b == 45) m.Minus 1
    ∷ single (b == 42) m.Times 1
    ∷ single (b == 47) m.Divide 1
    ∷ single (b == 37) m.Remainder 1
    ∷ single (b == 38 && next == 38) m.And 2
    ∷ single (b == 124 && next == 124) m.Or 2 ∷ []

sign_is : (b next : ℕ) → sign b next ≡ chosen (signs b next)
unfolding sign
sign_is b next = refl

sign_real : (b next : ℕ) → IsRealPair (sign b next)
sign_real b next = rw (sign_is b next) (chosen_real (signs b next))

number_real : (ds : List ℕ) → IsReal (number ds)
unfolding number
number_real ds = real_if (nat_lt (decimal_after 0 ds) (2 ^ 63)) (Number (pos (decimal_after 0 ds))) Bad (real_number (decimal_after 0 ds)) real_bad

word_in_real : (table : List (List ℕ × Symbol)) (w : List ℕ) → IsReal (word_in table w)
word_in_real [] w = real_if (nat_le (length w) 64) Name Bad real_name real_bad
word_in_real (k ∷ ks) w = real_if (bytes_eq k.0 w) (Is k.1) (word_in ks w) (real_symbol k.1) (word_in_real ks w)

word_real : (w : List ℕ) → IsReal (word w)
unfolding word
word_real w = word_in_real reserved w

front_real : (z : List ℕ) → IsRealPair (front z)
unfolding front
front_real z =
    let digits = run_len class.Digit z in
    let name = run_len class.Name z in
    let next = sign (slice_index z 0) (slice_index z 1) in
    let bytes : Token × ℕ = (word (take name z), name) in
    pair_if (is_ascii_digit (slice_index z 0)) (number (take digits z), digits) (cond (begins_name (slice_index z 0)) bytes next)
    (pair (number (take digits z)) digits (number_real (take digits z)))
    (pair_if (begins_name (slice_index z 0)) bytes next (pair (word (take name z)) name (word_real (take name z))) (sign_real (slice_index z 0) (slice_index z 1)))

-- ---- lists of tokens

abbrev pub NoEnd : List Spot → Type 0
NoEnd [] = Unit {0}
NoEnd (s ∷ ss) = (s.token ≢ End) × NoEnd ss

spot_real : (z : List ℕ) (p l : ℕ) → (spot z p l).token ≢ End
unfolding IsRealPair IsReal
spot_real z p l = front_real z

gap_or : (a b : Bool) (xs ys zs : List Spot) → NoEnd xs → NoEnd ys → NoEnd zs → NoEnd (cond a xs (cond b ys zs))
gap_or true b xs ys zs x y z = x
gap_or false true xs ys zs x y z = y
gap_or false false xs ys zs x y z = z

pub tokens_real : (skip p l : ℕ) (z : List ℕ) → NoEnd (tokens_after skip p l z)
unfolding tokens_after
tokens_real skip p l [] = tt
tokens_real (suc skip) p l (b ∷ z) = tokens_real skip (p + 1) l z
tokens_real zero p l (b ∷ z) =
    gap_or (is_blank b) (b == 35) _ _ _ (tokens_real 0 (p + 1) (l + feeds b) z) (tokens_real (run_len class.Comment z) (p + 1) l z)
    (spot_real (b ∷ z) p l, tokens_real ((front (b ∷ z)).1 - 1) (p + 1) l z)

pub rest_real : (a b : List Spot) → NoEnd (a ++ b) → NoEnd b
rest_real [] b h = h
rest_real (s ∷ ss) b h = rest_real ss b h.1

pub none_left : (ss : List Spot) → NoEnd ss → token_of ss ≡ End → ss ≡ []
none_left [] h e = refl
none_left (s ∷ ss) h e = absurd (h.0 e)
