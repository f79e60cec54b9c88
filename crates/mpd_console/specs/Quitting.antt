-- The words that end a dialogue, or ask for what a desk can't do, as their bytes are read.
use Rattle.std.specs.Prelude.{ℕ, suc, ◌+◌, ◌==◌, ◌&&◌, ◌||◌, ◌++◌, Bool, true, false, is_some, nat_eq, nat_le, nat_lt, if◌then◌else◌, List, [], ◌∷◌, take, length, Option, Some, None, option_map}
use Rattle.std.specs.List.{ends_with}
use Rattle.mpd_model.specs.declared.limits.TheConstants.{LINE_MAX}
use Rattle.mpd_model.specs.texts.Words.{is_blank}
use Rattle.mpd_console.specs.declared.quit.Wish.{Wish}
use Rattle.mpd_console.specs.declared.quit.Wish.TheVariants as wish
use Rattle.mpd_console.specs.declared.quit.Seen.{Seen}
use Rattle.mpd_console.specs.declared.quit.Seen.TheVariants.{Blanks, Part, Exit, Reload, Source, Sources, Word, Return, Other}
use Rattle.mpd_console.specs.declared.quit.Begun.{Begun}

abbrev pub nothing : Begun
nothing = record { seen = Blanks; length = 0 }

-- after a word that asks for this, whole or short
abbrev pub word_behind : Wish → ℕ → Seen
word_behind x b = if is_blank b then Word x else (if b == 13 then Return x else Other)

-- after so many bytes of `quit`
abbrev pub part_behind : ℕ → ℕ → Seen
part_behind n b =
    if (n == 1) && (b == 117) then Part 2
    else (if (n == 2) && (b == 105) then Part 3
    else (if (n == 3) && (b == 116) then Part 4
    else (if (n == 1) || (n == 4) then word_behind wish.Quit b else Other)))

-- after so many bytes of its other name, `exit`, which ends as the word does
abbrev pub exit_behind : ℕ → ℕ → Seen
exit_behind n b =
    if (n == 1) && (b == 120) then Exit 2
    else (if (n == 2) && (b == 105) then Exit 3
    else (if (n == 3) && (b == 116) then Part 4 else Other))

-- after so many bytes of `reload`
abbrev pub reload_behind : ℕ → ℕ → Seen
reload_behind n b =
    if (n == 1) && (b == 101) then Reload 2
    else (if (n == 2) && (b == 108) then Reload 3
    else (if (n == 3) && (b == 111) then Reload 4
    else (if (n == 4) && (b == 97) then Reload 5
    else (if (n == 5) && (b == 100) then Reload 6
    else (if n == 6 then word_behind wish.Reload b else Other)))))

-- after so many bytes of `source`
abbrev pub source_behind : ℕ → ℕ → Seen
source_behind n b =
    if (n == 1) && (b == 111) then Source 2
    else (if (n == 2) && (b == 117) then Source 3
    else (if (n == 3) && (b == 114) then Source 4
    else (if (n == 4) && (b == 99) then Source 5
    else (if (n == 5) && (b == 101) then Source 6
    else (if (n == 6) && is_blank b then Sources else Other)))))

abbrev pub first_seen : ℕ → Seen
first_seen b = if is_blank b then Blanks else (if b == 113 then Part 1 else (if b == 101 then Exit 1 else (if b == 114 then Reload 1 else (if b == 115 then Source 1 else Other))))

abbrev pub seen_behind : Seen → ℕ → Seen
seen_behind Blanks b = first_seen b
seen_behind (Part n) b = part_behind n b
seen_behind (Exit n) b = exit_behind n b
seen_behind (Reload n) b = reload_behind n b
seen_behind (Source n) b = source_behind n b
seen_behind Sources b = Sources
seen_behind (Word x) b = word_behind x b
seen_behind (Return x) b = Other
seen_behind Other b = Other

-- the bytes are counted up to one more than a line may have
abbrev pub begun_behind : Begun → ℕ → Begun
begun_behind s b = record { seen = seen_behind s.seen b; length = if nat_lt LINE_MAX s.length then s.length else s.length + 1 }

abbrev pub wish_if : Bool → Wish → Option Wish
wish_if is x = if is then Some x else None

-- the line is such a word, whole or short, and not too long; a carriage return at its end isn't counted
abbrev pub wish_by : Seen → ℕ → Option Wish
wish_by Blanks n = None
wish_by (Part k) n = wish_if (((k == 1) || (k == 4)) && nat_le n LINE_MAX) wish.Quit
wish_by (Exit k) n = None
wish_by (Reload k) n = wish_if ((k == 6) && nat_le n LINE_MAX) wish.Reload
wish_by (Source k) n = None
wish_by Sources n = Some wish.Source
wish_by (Word x) n = wish_if (nat_le n LINE_MAX) x
wish_by (Return x) n = wish_if (nat_le n (LINE_MAX + 1)) x
wish_by Other n = None

abbrev pub wish_in : Begun → Option Wish
wish_in s = wish_by s.seen s.length

-- how many bytes there are up to the end of the first line that is such a word
abbrev pub wish_len : Begun → List ℕ → Option ℕ
wish_len s [] = None
wish_len s (b ∷ z) =
    if b == 10 then (if is_some (wish_in s) then Some 1 else option_map suc (wish_len nothing z)) else option_map suc (wish_len (begun_behind s b) z)

-- what of the last line was read, after these bytes, or after the end of the first line that is such a word
abbrev pub begun_after : Begun → List ℕ → Begun
begun_after s [] = s
begun_after s (b ∷ z) = if b == 10 then (if is_some (wish_in s) then s else begun_after nothing z) else begun_after (begun_behind s b) z

-- ---- what is given

abbrev pub is_none : List ℕ → Bool
is_none [] = true
is_none (b ∷ z) = false

-- what can be given at once: the words of a file, or else what was read
abbrev pub next_of : List ℕ → List ℕ → List ℕ
next_of words held = if is_none words then held else words

-- the same, if so many bytes are asked for
abbrev pub at_once : List ℕ → List ℕ → ℕ → List ℕ
at_once words held n = take n (next_of words held)

abbrev pub or_all : Option ℕ → ℕ → ℕ
or_all None all = all
or_all (Some n) all = n

-- so many of these bytes are given: those up to the end of the first line that is such a word, or all
abbrev pub given_len : Begun → List ℕ → ℕ
given_len s z = or_all (wish_len s z) (length z)

-- ---- the words of a file, whose last line ends

abbrev pub ended : List ℕ → List ℕ
ended [] = []
ended (b ∷ z) = if ends_with nat_eq (b ∷ z) (10 ∷ []) then b ∷ z else (b ∷ z) ++ 10 ∷ []
