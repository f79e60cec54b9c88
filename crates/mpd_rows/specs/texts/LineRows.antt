-- Rows of the cutting of lines: each holds by computing.
use Rattle.std.specs.Prelude.{◌≡◌, ℕ, List, [], ◌∷◌, ◌++◌, codes, refl}
use Rattle.mpd_model.specs.texts.Lines.{lines_of, ended_lines, divided}

abbrev feed : List ℕ
feed = 10 ∷ []

abbrev carriage : List ℕ
carriage = 13 ∷ []

-- an empty input has no line
empty : lines_of [] ≡ []
empty = refl

-- one line feed is one empty line
one_feed : lines_of feed ≡ [] ∷ []
one_feed = refl

-- one carriage return before a line feed is dropped
carriage_dropped : lines_of (codes "ab" ++ carriage ++ feed ++ codes "c") ≡ codes "ab" ∷ codes "c" ∷ []
carriage_dropped = refl

-- and only one, and only there
one_carriage_dropped : lines_of (carriage ++ codes "a" ++ carriage ++ carriage ++ feed) ≡ (carriage ++ codes "a" ++ carriage) ∷ []
one_carriage_dropped = refl

-- the last line may have no line feed; its carriage return stays
last_without_feed : lines_of (codes "a" ++ feed ++ codes "b" ++ carriage) ≡ codes "a" ∷ (codes "b" ++ carriage) ∷ []
last_without_feed = refl

-- after the last line feed there is no line
no_line_behind : lines_of (codes "a" ++ feed ++ feed) ≡ codes "a" ∷ [] ∷ []
no_line_behind = refl

-- a line that has not ended is none yet
not_ended : ended_lines (codes "a" ++ feed ++ codes "b") ≡ codes "a" ∷ []
not_ended = refl

-- the script is all before the line of three hyphens, its last line feed included
divided_at_line : divided (codes "mpd" ++ feed ++ codes "---" ++ feed ++ codes "back" ++ feed) ≡ (codes "mpd" ++ feed, codes "back" ++ feed)
divided_at_line = refl

-- a carriage return before the line feed changes nothing
divided_at_carriage : divided (codes "mpd" ++ carriage ++ feed ++ codes "---" ++ carriage ++ feed ++ codes "back") ≡ (codes "mpd" ++ carriage ++ feed, codes "back")
divided_at_carriage = refl

-- it may be the first line
divided_at_start : divided (codes "---" ++ feed ++ codes "back") ≡ ([], codes "back")
divided_at_start = refl

-- or the last one, without a line feed
divided_at_end : divided (codes "mpd" ++ feed ++ codes "---") ≡ (codes "mpd" ++ feed, [])
divided_at_end = refl

-- but there no carriage return is dropped
not_divided_at_end : divided (codes "---" ++ carriage) ≡ (codes "---" ++ carriage, [])
not_divided_at_end = refl

-- no blank may stand before it
not_divided_blank_before : divided (codes " ---" ++ feed ++ codes "back") ≡ (codes " ---" ++ feed ++ codes "back", [])
not_divided_blank_before = refl

-- nor after it
not_divided_blank_behind : divided (codes "--- " ++ feed ++ codes "back") ≡ (codes "--- " ++ feed ++ codes "back", [])
not_divided_blank_behind = refl

-- the first of two divides
divided_at_first : divided (codes "---" ++ feed ++ codes "---" ++ feed) ≡ ([], codes "---" ++ feed)
divided_at_first = refl

-- without such a line all is script
not_divided : divided (codes "mpd" ++ feed ++ codes "----") ≡ (codes "mpd" ++ feed ++ codes "----", [])
not_divided = refl
