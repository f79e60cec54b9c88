-- Worked rows of the numbers of ranks that words name.
use Rattle.std.specs.Prelude.{◌≡◌, ℕ, List, [], ◌∷◌, map, Option, Some, None, codes, refl}
use Rattle.mpd_trace.specs.declared.span.RankSpan.{RankSpan}
use Rattle.mpd_trace.specs.Spans.{span_of}

abbrev Row : Type 0
Row = List ℕ × Option RankSpan

abbrev names : List ℕ → ℕ → ℕ → Row
names word first last = (word, Some (record { first = first; last = last }))

abbrev rows : List Row
rows =
    names (codes "1") 1 1
    ∷ names (codes "16") 16 16
    ∷ names (codes "2-5") 2 5
    ∷ names (codes "1-16") 1 16
    ∷ names (codes "7-7") 7 7
    ∷ names (codes "002-000000016") 2 16
    ∷ (codes "", None)
    ∷ (codes "0", None)
    ∷ (codes "17", None)
    ∷ (codes "x", None)
    ∷ (codes "+3", None)
    ∷ (codes " 3", None)
    ∷ (codes "-3", None)
    ∷ (codes "3-", None)
    ∷ (codes "-", None)
    ∷ (codes "5-2", None)
    ∷ (codes "0-3", None)
    ∷ (codes "3-17", None)
    ∷ (codes "1-2-3", None)
    ∷ (codes "0000000001", None)
    ∷ []

pub worked_spans : map (λ (row : Row). span_of row.0) rows ≡ map (λ (row : Row). row.1) rows
worked_spans = refl
