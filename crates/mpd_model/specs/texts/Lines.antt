-- How a text is cut into lines, and how the script of an input is divided from what follows it.
use Rattle.std.specs.Prelude.{ℕ, suc, Bool, true, false, ◌&&◌, ◌||◌, ◌==◌, if◌then◌else◌, List, [], ◌∷◌, ◌++◌, map, filter}

-- a byte before the first of these lines
abbrev pub grow : ℕ → List (List ℕ) → List (List ℕ)
grow b [] = (b ∷ []) ∷ []
grow b (l ∷ ls) = (b ∷ l) ∷ ls

-- the lines of a text, each with the line feed that ends it; the last may have none
abbrev pub raw_lines : List ℕ → List (List ℕ)
raw_lines [] = []
raw_lines (b ∷ z) = if b == 10 then (b ∷ []) ∷ raw_lines z else grow b (raw_lines z)

-- how many bytes the first line of a text has, with its line feed
abbrev pub line_len : List ℕ → ℕ
line_len [] = 0
line_len (b ∷ z) = if b == 10 then 1 else suc (line_len z)

-- the lines, one after another
abbrev pub joined : List (List ℕ) → List ℕ
joined [] = []
joined (l ∷ ls) = l ++ joined ls

abbrev pub is_feed : List ℕ → Bool
is_feed [] = false
is_feed (b ∷ []) = b == 10
is_feed (b ∷ c ∷ l) = false

abbrev pub is_none : List ℕ → Bool
is_none [] = true
is_none (b ∷ l) = false

-- what follows is the line feed alone, or a carriage return and the line feed
abbrev pub is_ending : ℕ → List ℕ → Bool
is_ending b l = (b == 10 && is_none l) || (b == 13 && is_feed l)

-- a line without its line feed, and without one carriage return right before that; what has no line feed stays whole
abbrev pub bare : List ℕ → List ℕ
bare [] = []
bare (b ∷ l) = if is_ending b l then [] else b ∷ bare l

abbrev pub ends_with_feed : List ℕ → Bool
ends_with_feed [] = false
ends_with_feed (b ∷ []) = b == 10
ends_with_feed (b ∷ c ∷ l) = ends_with_feed (c ∷ l)

-- the lines of an input that has ended
abbrev pub lines_of : List ℕ → List (List ℕ)
lines_of z = map bare (raw_lines z)

-- the whole lines of an input that has not ended yet
abbrev pub ended_lines : List ℕ → List (List ℕ)
ended_lines z = map bare (filter ends_with_feed (raw_lines z))

abbrev pub same_bytes : List ℕ → List ℕ → Bool
same_bytes [] [] = true
same_bytes [] (c ∷ m) = false
same_bytes (b ∷ l) [] = false
same_bytes (b ∷ l) (c ∷ m) = b == c && same_bytes l m

-- the line that ends the script: three hyphens and nothing else
abbrev pub is_divider : List ℕ → Bool
is_divider l = same_bytes (bare l) (45 ∷ 45 ∷ 45 ∷ [])

-- the bytes before the first line that divides, and those after it
abbrev pub divided_lines : List (List ℕ) → List ℕ × List ℕ
divided_lines [] = ([], [])
divided_lines (l ∷ ls) = if is_divider l then ([], joined ls) else (l ++ (divided_lines ls).0, (divided_lines ls).1)

abbrev pub divided : List ℕ → List ℕ × List ℕ
divided z = divided_lines (raw_lines z)
