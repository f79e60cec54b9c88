-- Several numbers of ranks, as a word names them.
use Rattle.std.specs.Prelude.{◌≤◌, ℕ, suc, ◌+◌, ◌&&◌, if◌then◌else◌, ◌==◌, nat_le, List, [], ◌∷◌, length, take, drop, Option, Some, None, option_and_then}
use Rattle.mpd_model.specs.declared.limits.TheConstants.{RANKS_MAX}
use Rattle.mpd_model.specs.texts.Words.{number_of}
use Rattle.mpd_trace.specs.declared.span.RankSpan.{RankSpan}

-- how many bytes stand before the first of this kind, or all
abbrev pub length_before : ℕ → List ℕ → ℕ
length_before stop [] = 0
length_before stop (b ∷ z) = if b == stop then 0 else suc (length_before stop z)

abbrev pub if_ranks : ℕ → Option ℕ
if_ranks n = if nat_le 1 n && nat_le n RANKS_MAX then Some n else None

-- a number of ranks that a script can have
abbrev pub rank_count : List ℕ → Option ℕ
rank_count word = option_and_then if_ranks (number_of word)

-- the first is the least, and both are numbers of ranks
abbrev pub IsSpan : RankSpan → Type 0
IsSpan s = (1 ≤ s.first) × (s.first ≤ s.last) × (s.last ≤ RANKS_MAX)

abbrev pub span_between : Option ℕ → Option ℕ → Option RankSpan
span_between (Some first) (Some last) = if nat_le first last then Some (record { first = first; last = last }) else None
span_between _ _ = None

-- `N`, which is all from N to N, or `N-M`
abbrev pub span_of : List ℕ → Option RankSpan
span_of word =
    let place = length_before 45 word in
    if place == length word then span_between (rank_count word) (rank_count word) else span_between (rank_count (take place word)) (rank_count (drop (place + 1) word))
