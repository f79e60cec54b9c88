-- The condition of a breakpoint: `x == 3`, with blanks or without.
use Rattle.std.specs.Prelude.{ℕ, suc, ◌-◌, ◌^◌, ◌==◌, ℤ, pos, negsuc, Bool, true, false, not, ◌&&◌, ◌||◌, nat_lt, nat_le, if◌then◌else◌, List, [], ◌∷◌, ◌++◌, length, take, Option, Some, None, option_and_then, Result, Ok, Err}
use Rattle.std.specs.List.{list_all, flat_map}
use Rattle.std.specs.Char.{is_ascii_digit}
use Rattle.mpd_model.specs.declared.comparison.Comparison.{Comparison}
use Rattle.mpd_model.specs.declared.breakpoint.Condition.{Condition}
use Rattle.mpd_model.specs.declared.place.DeclKind.{DeclKind}
use Rattle.mpd_model.specs.declared.place.DeclKind.TheVariants.{Variable, Handle}
use Rattle.mpd_model.specs.script.Declaration.{Declared}
use Rattle.mpd_model.specs.runs.Comparisons.{comparison_of}
use Rattle.mpd_model.specs.texts.Words.{stop_len, with_byte, digits_value}
use Rattle.mpd_names.specs.declared.name.Named.{Named}
use Rattle.mpd_names.specs.declared.name.NameFault.{NameFault}
use Rattle.mpd_names.specs.declared.name.NameFault.TheVariants as name
use Rattle.mpd_names.specs.Names.{named}
use Rattle.mpd_vocabulary.specs.declared.topic.Topic.TheVariants as topic
use Rattle.mpd_vocabulary.specs.declared.word.WordFault.{WordFault}
use Rattle.mpd_vocabulary.specs.declared.word.WordFault.TheVariants.{Usage, NoNameIn, NoSuchIndex, NoIndex, NoValue}

-- ---- pieces: runs of bytes of operators, and of other bytes

-- `!`, `<`, `=` and `>`
abbrev pub is_sign : ℕ → Bool
is_sign b = (b == 33) || ((b == 60) || ((b == 61) || (b == 62)))

-- a byte of the other kind than those of operators, or than all others
abbrev pub is_other : Bool → ℕ → Bool
is_other true b = not (is_sign b)
is_other false b = is_sign b

abbrev pub begins_other : Bool → List ℕ → Bool
begins_other sign [] = false
begins_other sign (b ∷ z) = is_other sign b

abbrev pub put_piece : Bool → ℕ → List (List ℕ) → List (List ℕ)
put_piece true b pieces = (b ∷ []) ∷ pieces
put_piece false b pieces = with_byte b pieces

-- the pieces of a word: `x<=3` has three
abbrev pub cut : List ℕ → List (List ℕ)
cut [] = []
cut (b ∷ z) = put_piece (begins_other (is_sign b) z) b (cut z)

-- those of what is left of a word, and of the words that follow
abbrev pub pieces_of : List ℕ → List (List ℕ) → List (List ℕ)
pieces_of left rest = cut left ++ flat_map cut rest

abbrev pub piece_len : List ℕ → ℕ
piece_len [] = 0
piece_len (b ∷ z) = suc (stop_len (is_other (is_sign b)) z)

abbrev pub first_piece : List ℕ → List ℕ
first_piece z = take (piece_len z) z

-- ---- numbers of 64 bits

-- 1 to 19 digits
abbrev pub is_magnitude : List ℕ → Bool
is_magnitude z = nat_le 1 (length z) && (nat_le (length z) 19 && list_all is_ascii_digit z)

abbrev pub magnitude_of : List ℕ → Option ℕ
magnitude_of z = if is_magnitude z then Some (digits_value 0 z) else None

abbrev pub from_zero : ℕ → Option ℤ
from_zero n = if nat_lt n (2 ^ 63) then Some (pos n) else None

abbrev pub below_zero : ℕ → Option ℤ
below_zero n = if n == 0 then Some (pos 0) else (if nat_le n (2 ^ 63) then Some (negsuc (n - 1)) else None)

-- digits, with a `-` before them if the number is below 0
abbrev pub integer_of : List ℕ → Option ℤ
integer_of [] = None
integer_of (b ∷ z) = if b == 45 then option_and_then below_zero (magnitude_of z) else option_and_then from_zero (magnitude_of (b ∷ z))

-- ---- conditions

-- one cell of a variable
abbrev pub cell_by : Named → DeclKind → Result ℕ WordFault
cell_by n Handle = Err NoValue
cell_by n Variable = if n.cells == 1 then Ok n.first else Err NoIndex

abbrev pub cell_of : Named → Result ℕ WordFault
cell_of n = cell_by n n.kind

-- what a name stands for, which begins the word of this number of its line
abbrev pub compared_cell : ℕ → Result Named NameFault → Result ℕ WordFault
compared_cell place (Ok n) = cell_of n
compared_cell place (Err name.Unknown) = Err (NoNameIn place)
compared_cell place (Err name.NoSuchCell) = Err NoSuchIndex

abbrev pub on_cell : Comparison → ℤ → Result ℕ WordFault → Result Condition WordFault
on_cell k v (Err e) = Err e
on_cell k v (Ok c) = Ok (record { cell = c; comparison = k; value = v })

abbrev pub condition_by : Result ℕ WordFault → Option Comparison → Option ℤ → Result Condition WordFault
condition_by cell None v = Err (Usage topic.Break)
condition_by cell (Some k) None = Err (Usage topic.Break)
condition_by cell (Some k) (Some v) = on_cell k v cell

abbrev pub condition_of : List Declared → ℕ → List ℕ → List ℕ → List ℕ → Result Condition WordFault
condition_of ds place a operator number = condition_by (compared_cell place (named ds a)) (comparison_of operator) (integer_of number)

-- a name, an operator and a number; the name begins the word of this number of its line
abbrev pub condition_in : List Declared → ℕ → List (List ℕ) → Result Condition WordFault
condition_in ds place [] = Err (Usage topic.Break)
condition_in ds place (a ∷ []) = Err (Usage topic.Break)
condition_in ds place (a ∷ b ∷ []) = Err (Usage topic.Break)
condition_in ds place (a ∷ b ∷ c ∷ []) = condition_of ds place a b c
condition_in ds place (a ∷ b ∷ c ∷ d ∷ more) = Err (Usage topic.Break)
