-- What is shown of a text at a place.
use Rattle.std.specs.Prelude.{ℕ, ◌+◌, ◌-◌, Bool, true, false, ◌&&◌, ◌||◌, ◌==◌, nat_le, nat_lt, if◌then◌else◌, List, [], ◌∷◌, ◌++◌, length, map, take, drop, codes, replicate, reverse}
use Rattle.std.specs.List.{position_or_len, before_first}
use Rattle.mpd_trace.specs.declared.excerpts.TheConstants.{SHOWN_MAX, SHOWN_BEFORE}

abbrev pub is_feed : ℕ → Bool
is_feed b = b == 10

-- how many bytes of its line stand before the place
abbrev pub column_of : List ℕ → ℕ → ℕ
column_of text place = position_or_len is_feed (reverse (take place text))

-- the line that the place is in, without its end
abbrev pub line_around : List ℕ → ℕ → List ℕ
line_around text place = before_first is_feed (drop (length (take place text) - column_of text place) text)

-- a byte takes one column
abbrev pub shown : ℕ → ℕ
shown b = if b == 9 || b == 13 then 32 else (if nat_le 32 b && nat_le b 126 then b else 63)

-- where the part that is shown begins, for a place in this column
abbrev pub shown_from : ℕ → ℕ
shown_from column = if nat_lt column SHOWN_MAX then 0 else column - SHOWN_BEFORE

-- what stands where the line was cut
abbrev pub ellipsis : Bool → List ℕ
ellipsis true = codes "..."
ellipsis false = []

-- the part of a line from this byte on, with a dots at each end that was cut
abbrev pub part_shown : List ℕ → ℕ → List ℕ
part_shown line from =
    ellipsis (nat_lt 0 from) ++ map shown (take SHOWN_MAX (drop from line)) ++ ellipsis (nat_lt SHOWN_MAX (length (drop from line)))

-- what stands before the caret
abbrev pub under : ℕ → ℕ → List ℕ
under column from = replicate (2 + length (ellipsis (nat_lt 0 from)) + (column - from)) 32

-- the line of the place, indented by two, and a caret below its byte
abbrev pub excerpt_of : List ℕ → ℕ → List ℕ
excerpt_of text place =
    let column = column_of text place in
    codes "  " ++ part_shown (line_around text place) (shown_from column) ++ 10 ∷ under column (shown_from column) ++ 94 ∷ 10 ∷ []
