-- Long lines: how a text is laid out, so that its lines have no more bytes than a width, where they have blanks (docs/CONSOLE.md, "Long lines").
use Rattle.std.specs.Prelude.{◌≡◌, ◌<◌, ℕ, ◌-◌, zero, suc, ◌==◌, Bool, true, false, ◌&&◌, ◌||◌, not, nat_lt, if◌then◌else◌, List, [], ◌∷◌, ◌++◌, length, map, replicate, take, slice_get, Option, Some, None}
use Rattle.std.specs.List.{find, flat_map, list_any, range_with_len}
use Rattle.mpd_lines.specs.declared.fold.TheConstants.{WIDTH, INDENT}

abbrev pub BLANK : ℕ
BLANK = 32

abbrev pub FEED : ℕ
FEED = 10

-- ---- where a line is cut

abbrev pub is_ink : ℕ → Bool
is_ink b = not (b == BLANK)

abbrev pub is_blank : Option ℕ → Bool
is_blank None = false
is_blank (Some b) = b == BLANK

-- whether a line can be cut at a place: a blank stands there, and before it a byte that is none
abbrev pub can_cut : List ℕ → ℕ → Bool
can_cut l i = is_blank (slice_get l i) && list_any is_ink (take i l)

-- the greatest number below this one at which it can
abbrev pub last_below : List ℕ → ℕ → Option ℕ
last_below l zero = None
last_below l (suc n) = if can_cut l n then Some n else last_below l n

abbrev pub first_of_all : List ℕ → Option ℕ
first_of_all l = find (can_cut l) (range_with_len 0 (length l))

abbrev pub or_else : Option ℕ → Option ℕ → Option ℕ
or_else None other = other
or_else (Some i) other = Some i

-- A line of more bytes than this is cut at the last place that has no more of them before it, else at the first.
unfoldable pub cut : ℕ → List ℕ → Option ℕ
cut width l = if nat_lt width (length l) then or_else (last_below l (suc width)) (first_of_all l) else None

-- ---- lines

-- what ends a line that is cut, and begins the next
abbrev pub break : List ℕ
break = FEED ∷ replicate INDENT BLANK

-- What is left of a line, given the width and where it is cut: the blank is left out, and what stands after it begins a further line.
abbrev pub laid : ℕ → Option ℕ → List ℕ → List ℕ
laid width None l = l
laid width (Some i) [] = []
laid width (Some zero) (b ∷ l) = break ++ laid width (cut (width - INDENT) l) l
laid width (Some (suc i)) (b ∷ l) = b ∷ laid width (Some i) l

abbrev pub folded_line : ℕ → List ℕ → List ℕ
folded_line width l = laid width (cut width l) l

-- ---- a whole text

-- a byte before the first of some lines, where there is one
abbrev pub grown : ℕ → List (List ℕ) → List (List ℕ)
grown b [] = []
grown b (l ∷ ls) = (b ∷ l) ∷ ls

abbrev pub begun : Bool → ℕ → List (List ℕ) → List (List ℕ)
begun true b ls = [] ∷ ls
begun false b ls = grown b ls

-- what stands before the first line feed, between two, and after the last
abbrev pub lines : List ℕ → List (List ℕ)
lines [] = [] ∷ []
lines (b ∷ z) = begun (b == FEED) b (lines z)

-- how many bytes the first of them has
abbrev pub line_len : List ℕ → ℕ
line_len [] = 0
line_len (b ∷ z) = if b == FEED then 0 else suc (line_len z)

-- some lines, with a line feed between two
abbrev pub joined : List (List ℕ) → List ℕ
joined [] = []
joined (l ∷ ls) = l ++ flat_map (λ m. FEED ∷ m) ls

unfoldable pub folded_at : ℕ → List ℕ → List ℕ
folded_at width z = joined (map (folded_line width) (lines z))

-- the same at the width that is usual
unfoldable pub folded : List ℕ → List ℕ
folded z = joined (map (folded_line WIDTH) (lines z))

-- ---- what stays: bytes that are no blanks, and no line feeds

abbrev pub is_letter : ℕ → Bool
is_letter b = not (b == BLANK || b == FEED)

-- ---- a line of no more bytes than fit, or one that can nowhere be cut

abbrev pub IsShort : ℕ → List ℕ → Type 0
IsShort width l = width < length l → (i : ℕ) → can_cut l i ≡ false
