-- Marks: comments of a script that name places in a program (docs/FROM_A_RUN.md, "Marks").
use Rattle.std.specs.Prelude.{ℕ, zero, suc, Bool, false, ◌==◌, ◌&&◌, ◌||◌, nat_eq, nat_lt, nat_le, if◌then◌else◌, List, [], ◌∷◌, length, take, drop, slice_get, Option, Some, None, codes}
use Rattle.std.specs.List.{prefix_len, starts_with, ends_with}
use Rattle.std.specs.Option.{option_and_then}
use Rattle.std.specs.Char.{is_ascii_graphic, is_ascii_alphanumeric}
use Rattle.mpd_model.specs.texts.Lines.{lines_of}
use Rattle.mpd_names.specs.declared.mark.TheConstants.{PLACE_MAX}

-- what stands after the first `#` of a line
abbrev pub comment_of : List ℕ → Option (List ℕ)
comment_of [] = None
comment_of (b ∷ z) = if b == 35 then Some z else comment_of z

-- a byte of a name: a letter, a digit or `_`
abbrev pub is_named : ℕ → Bool
is_named b = is_ascii_alphanumeric b || b == 95

-- nothing, or a space and a note in brackets
abbrev pub is_note : List ℕ → Bool
is_note z = length z == 0 || (starts_with nat_eq z (codes " [") && ends_with nat_eq z (codes "]"))

-- the name of a call, and perhaps its note
abbrev pub is_call : List ℕ → Bool
is_call z = nat_lt 0 (prefix_len is_named z) && is_note (drop (prefix_len is_named z) z)

-- a space, and a call
abbrev pub is_called : List ℕ → Bool
is_called [] = false
is_called (b ∷ z) = b == 32 && is_call z

-- a place has 1 to 80 bytes
abbrev pub is_place_len : ℕ → Bool
is_place_len n = nat_le 1 n && nat_le n PLACE_MAX

-- the place that a text begins with, if a call follows it
abbrev pub place_before : List ℕ → Option (List ℕ)
place_before z = if is_place_len (prefix_len is_ascii_graphic z) && is_called (drop (prefix_len is_ascii_graphic z) z) then Some (take (prefix_len is_ascii_graphic z) z) else None

-- the place of a comment, if that is a mark
abbrev pub place_in : List ℕ → Option (List ℕ)
place_in z = if starts_with nat_eq z (codes "@ ") then place_before (drop 2 z) else None

-- the place of a line's mark, if it has one
unfoldable pub place_of : List ℕ → Option (List ℕ)
place_of l = option_and_then place_in (comment_of l)

-- the same of the line of a script after so many others
abbrev pub mark_at : List ℕ → ℕ → Option (List ℕ)
mark_at script above = option_and_then place_of (slice_get (lines_of script) above)

-- the same of a script's line, from 1
abbrev pub mark_of : List ℕ → ℕ → Option (List ℕ)
mark_of script zero = None
mark_of script (suc above) = mark_at script above
