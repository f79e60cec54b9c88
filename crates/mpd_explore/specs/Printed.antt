-- The text of a report by the texts of its witnesses.
use Rattle.std.specs.Prelude.{ℕ, suc, Bool, List, [], ◌∷◌, ◌++◌, length, slice_get, Option, Some, None, codes}
use Rattle.std.specs.Fmt.{decimal}
use Rattle.mpd_model.specs.texts.Texts.{line}
use Rattle.mpd_explore.specs.declared.report.SearchLeaf.{SearchLeaf}
use Rattle.mpd_explore.specs.ReportText.{leaf_line, more_text}

-- the line of a witness by what it has after the number, where that isn't empty
abbrev pub numbered : ℕ → List ℕ → List ℕ
numbered n [] = []
numbered n (c ∷ cs) = codes "witness " ++ decimal n ++ c ∷ cs

abbrev pub numbered_at : ℕ → Option (List ℕ) → List ℕ
numbered_at n None = []
numbered_at n (Some text) = numbered n text

-- the lines of leaves, of which the first is number n, each with the line of the text of its number
abbrev pub lines_told : List (List ℕ) → ℕ → List SearchLeaf → List ℕ
lines_told texts n [] = []
lines_told texts n (l ∷ ls) = leaf_line n l ++ numbered_at n (slice_get texts n) ++ lines_told texts (suc n) ls

-- how many leaves there are, and whether there are others
abbrev pub count_line : ℕ → Bool → List ℕ
count_line count more = line (codes "leaves " ++ decimal count ++ codes " more " ++ more_text more)

abbrev pub total_line : List SearchLeaf → Bool → List ℕ
total_line leaves more = count_line (length leaves) more

abbrev pub told_text : List (List ℕ) → List SearchLeaf → Bool → List ℕ
told_text texts leaves more = lines_told texts 0 leaves ++ total_line leaves more
