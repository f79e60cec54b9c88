-- What a word `NAME` or `NAME[INDEX]` means.
use Rattle.std.specs.Prelude.{ℕ, suc, ◌+◌, not, nat_lt, bytes_eq, if◌then◌else◌, List, [], ◌∷◌, take, drop, slice_get, Option, Some, None, Result, Ok, Err, ◌==◌, codes}
use Rattle.std.specs.Char.{is_ascii_digit}
use Rattle.mpd_model.specs.script.Declaration.{Declared}
use Rattle.mpd_model.specs.texts.Words.{stop_len, number_of}
use Rattle.mpd_names.specs.declared.name.Named.{Named}
use Rattle.mpd_names.specs.declared.name.NameFault.{NameFault}
use Rattle.mpd_names.specs.declared.name.NameFault.TheVariants.{Unknown, NoSuchCell}
use Rattle.mpd_names.specs.Cells.{whole}

-- the number of the declaration of a name, counted from n
abbrev pub declaration_from : ℕ → List Declared → List ℕ → Option ℕ
declaration_from n [] name = None
declaration_from n (d ∷ ds) name = if bytes_eq d.name name then Some n else declaration_from (suc n) ds name

-- ---- an index

-- how many bytes stand before the first `[`, or all
abbrev pub name_len : List ℕ → ℕ
name_len z = stop_len (λ b. b == 91) z

-- how many digits stand at the front
abbrev pub digit_len : List ℕ → ℕ
digit_len z = stop_len (λ b. not (is_ascii_digit b)) z

-- the digits of an index, where one at least and `]` alone stand after its `[`
abbrev pub digits_by : List ℕ → List ℕ → Option (List ℕ)
digits_by [] end = None
digits_by (b ∷ digits) end = if bytes_eq end (codes "]") then Some (b ∷ digits) else None

abbrev pub digits_of : List ℕ → Option (List ℕ)
digits_of z = digits_by (take (digit_len z) z) (drop (digit_len z) z)

-- one cell of an array; a name without a size has none, and no array has one of more than 9 digits
abbrev pub element : Named → Option ℕ → Option ℕ → Result Named NameFault
element all None i = Err NoSuchCell
element all (Some size) None = Err NoSuchCell
element all (Some size) (Some i) = if nat_lt i size then Ok (record all { first = all.first + i; cells = 1 }) else Err NoSuchCell

abbrev pub indexed : Named → Option ℕ → Option (List ℕ) → Result Named NameFault
indexed all size None = Err Unknown
indexed all size (Some digits) = element all size (number_of digits)

-- all cells of a declaration, or the one that what stands after the name says
abbrev pub meant_by : Named → Option ℕ → List ℕ → Result Named NameFault
meant_by all size [] = Ok all
meant_by all size (b ∷ z) = indexed all size (digits_of z)

abbrev pub meant : List Declared → ℕ → List ℕ → Option Declared → Result Named NameFault
meant ds i behind None = Err Unknown
meant ds i behind (Some d) = meant_by (whole ds i d) d.size behind

abbrev pub meant_at : List Declared → List ℕ → Option ℕ → Result Named NameFault
meant_at ds behind None = Err Unknown
meant_at ds behind (Some i) = meant ds i behind (slice_get ds i)

-- What a word means: the name is what stands before its first `[`.
abbrev pub named : List Declared → List ℕ → Result Named NameFault
named ds word = meant_at ds (drop (name_len word) word) (declaration_from 0 ds (take (name_len word) word))
