-- The tokens of a text, the longest first, each with its byte place.
use Rattle.std.specs.Prelude.{ℕ, zero, suc, ◌+◌, ◌-◌, ◌*◌, ◌^◌, pos, Bool, not, ◌&&◌, ◌||◌, if◌then◌else◌, ◌==◌, nat_lt, nat_le, List, [], ◌∷◌, length, take, slice_index, map, codes, ◌≡◌, refl}
use Rattle.std.specs.Char.{is_ascii_digit, is_ascii_alphabetic, is_ascii_alphanumeric}
use Rattle.std.specs.List.{prefix_len}
use Rattle.std.specs.Str.{bytes_eq}
use Rattle.mpd_model.specs.declared.limits.TheConstants.{NAME_MAX}
use Rattle.mpd_model.specs.declared.token.Symbol.{Symbol}
use Rattle.mpd_model.specs.declared.token.Symbol.TheVariants as m
use Rattle.mpd_model.specs.declared.token.Token.{Token}
use Rattle.mpd_model.specs.declared.token.Token.TheVariants.{Number, Name, Is, Bad}
use Rattle.mpd_model.specs.declared.token.TheConstants.{RESERVED}
use Rattle.mpd_model.specs.declared.token.Class.{Class}
use Rattle.mpd_model.specs.declared.token.Class.TheVariants as class

abbrev pub is_blank : ℕ → Bool
is_blank b = b == 9 || b == 10 || b == 13 || b == 32

abbrev pub begins_name : ℕ → Bool
begins_name b = is_ascii_alphabetic b || b == 95

abbrev pub is_in_name : ℕ → Bool
is_in_name b = is_ascii_alphanumeric b || b == 95

-- a comment ends before the next line feed
abbrev pub is_in_comment : ℕ → Bool
is_in_comment b = not (b == 10)

abbrev pub is_in : Class → ℕ → Bool
is_in class.Digit b = is_ascii_digit b
is_in class.Name b = is_in_name b
is_in class.Comment b = is_in_comment b

-- how many bytes at the front are of the class
abbrev pub run_len : Class → List ℕ → ℕ
run_len c = prefix_len (is_in c)

abbrev pub is_gap : ℕ → Bool
is_gap b = is_blank b || b == 35

-- the value of digits
abbrev pub decimal_after : ℕ → List ℕ → ℕ
decimal_after n [] = n
decimal_after n (d ∷ ds) = decimal_after (n * 10 + (d - 48)) ds

unfoldable pub number : List ℕ → Token
number digits = if nat_lt (decimal_after 0 digits) (2 ^ 63) then Number (pos (decimal_after 0 digits)) else Bad

abbrev pub reserved : List (List ℕ × Symbol)
reserved =
    (codes "mpd", m.Mpd) ∷ (codes "ranks", m.Ranks) ∷ (codes "var", m.Var) ∷ (codes "req", m.Req) ∷ (codes "if", m.If) ∷ (codes "else", m.Else)
    ∷ (codes "while", m.While) ∷ (codes "print", m.Print) ∷ (codes "assert", m.Assert) ∷ (codes "send", m.Send) ∷ (codes "ssend", m.Ssend)
    ∷ (codes "isend", m.Isend) ∷ (codes "issend", m.Issend) ∷ (codes "recv", m.Recv) ∷ (codes "irecv", m.Irecv) ∷ (codes "wait", m.Wait)
    ∷ (codes "waitany", m.Waitany) ∷ (codes "barrier", m.Barrier) ∷ (codes "to", m.To) ∷ (codes "from", m.From) ∷ (codes "tag", m.Tag)
    ∷ (codes "any", m.Any) ∷ (codes "status", m.Status) ∷ (codes "rank", m.Rank) ∷ (codes "size", m.Size) ∷ []

-- the code's table is this one
pub reserved_is : map (λ k. (k.0.now, k.1)) RESERVED ≡ reserved
reserved_is = refl

abbrev pub word_in : List (List ℕ × Symbol) → List ℕ → Token
word_in [] w = if nat_le (length w) NAME_MAX then Name else Bad
word_in (k ∷ ks) w = if bytes_eq k.0 w then Is k.1 else word_in ks w

unfoldable pub word : List ℕ → Token
word w = word_in reserved w

-- a sign by its first byte and the next, with its length
abbrev pub two : Bool → Symbol → Symbol → Token × ℕ
two is_long long short = if is_long then (Is long, 2) else (Is short, 1)

unfoldable pub sign : ℕ → ℕ → Token × ℕ
sign b next =
    if b == 59 then (Is m.Semicolon, 1) else (if b == 123 then (Is m.BraceOpen, 1) else (if b == 125 then (Is m.BraceClose, 1)
    else (if b == 40 then (Is m.RoundOpen, 1) else (if b == 41 then (Is m.RoundClose, 1)
    else (if b == 91 then (Is m.SquareOpen, 1) else (if b == 93 then (Is m.SquareClose, 1)
    else (if b == 61 then two (next == 61) m.Equal m.Assign
    else (if b == 33 then two (next == 61) m.NotEqual m.Not
    else (if b == 60 then two (next == 61) m.AtMost m.Less
    else (if b == 62 then two (next == 61) m.AtLeast m.Greater
    else (if b == 43 then (Is m.Plus, 1) else (if b == 45 then (Is m.Minus, 1) else (if b == 42 then (Is m.Times, 1)
    else (if b == 47 then (Is m.Divide, 1) else (if b == 37 then (Is m.Remainder, 1)
    else (if b == 38 && next == 38 then (Is m.And, 2)
    else (if b == 124 && next == 124 then (Is m.Or, 2)
    else (Bad, 1))))))))))))))))))

-- the token at the front of a text that begins with neither a blank nor a comment, and its length
unfoldable pub front : List ℕ → Token × ℕ
front z =
    let digits = run_len class.Digit z in
    let name = run_len class.Name z in
    if is_ascii_digit (slice_index z 0) then (number (take digits z), digits)
    else (if begins_name (slice_index z 0) then (word (take name z), name)
    else sign (slice_index z 0) (slice_index z 1))

-- a token, its bytes and its place
pub record Spot : Type 0 where
  pub token : Token
  pub text : List ℕ
  pub place : ℕ
  pub line : ℕ

abbrev pub spot : List ℕ → ℕ → ℕ → Spot
spot z place line = record { token = (front z).0; text = take (front z).1 z; place = place; line = line }

-- a line feed ends a line
abbrev pub feeds : ℕ → ℕ
feeds b = if b == 10 then 1 else 0

-- The tokens of the text that stands at a place and in a line, after so many bytes of it. Neither a token nor a comment has a line feed.
unfoldable pub tokens_after : ℕ → ℕ → ℕ → List ℕ → List Spot
tokens_after skip place line [] = []
tokens_after (suc skip) place line (b ∷ z) = tokens_after skip (place + 1) line z
tokens_after zero place line (b ∷ z) =
    if is_blank b then tokens_after 0 (place + 1) (line + feeds b) z
    else (if b == 35 then tokens_after (run_len class.Comment z) (place + 1) line z
    else spot (b ∷ z) place line ∷ tokens_after ((front (b ∷ z)).1 - 1) (place + 1) line z)

abbrev pub tokens_at : ℕ → ℕ → List ℕ → List Spot
tokens_at = tokens_after 0

abbrev pub tokens : List ℕ → List Spot
tokens = tokens_at 0 1
