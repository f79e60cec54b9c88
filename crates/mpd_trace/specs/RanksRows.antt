-- Worked rows of texts with another number of ranks, and what is read of them.
use Rattle.std.specs.Prelude.{◌≡◌, ℕ, List, [], ◌∷◌, ◌++◌, map, codes, refl}
use Rattle.std.specs.Fmt.{digits}
use Rattle.mpd_trace.specs.Ranks.{text_with}

-- a text, how many ranks are asked for, and the text for these
abbrev Row : Type 0
Row = List ℕ × ℕ × List ℕ

abbrev rows : List Row
rows =
    (codes "mpd 1; ranks 3; barrier;", 4, codes "mpd 1; ranks 4; barrier;")
    ∷ (codes "mpd 1; ranks 3; barrier;", 3, codes "mpd 1; ranks 3; barrier;")
    ∷ (codes "mpd 2; ranks 3; print 3;", 16, codes "mpd 2; ranks 16; print 3;")
    ∷ (codes "mpd 1;ranks 12;print 12;", 1, codes "mpd 1;ranks 1;print 12;")
    ∷ (codes "mpd 01; ranks 003;", 5, codes "mpd 01; ranks 5;")
    ∷ (codes "mpd 1 ;ranks 2#4 of 7", 9, codes "mpd 1 ;ranks 9#4 of 7")
    ∷ (codes "# 5 ranks" ++ 10 ∷ codes "mpd 1; # 6" ++ 10 ∷ codes "ranks # 7" ++ 10 ∷ codes "2; var x;", 3, codes "# 5 ranks" ++ 10 ∷ codes "mpd 1; # 6" ++ 10 ∷ codes "ranks # 7" ++ 10 ∷ codes "3; var x;")
    ∷ []

pub worked : map (λ (row : Row). text_with row.1 row.0) rows ≡ map (λ (row : Row). row.2) rows
unfolding digits
worked = refl
