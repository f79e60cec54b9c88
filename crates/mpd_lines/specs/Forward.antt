-- Lines as they end one after another, after the beginning of a line that was there before.
use Rattle.std.specs.Prelude.{ℕ, ◌==◌, if◌then◌else◌, List, [], ◌∷◌, ◌++◌}
use Rattle.mpd_model.specs.texts.Lines.{bare}

-- the lines that end within z
abbrev pub ended_from : List ℕ → List ℕ → List (List ℕ)
ended_from part [] = []
ended_from part (b ∷ z) = if b == 10 then bare (part ++ b ∷ []) ∷ ended_from [] z else ended_from (part ++ b ∷ []) z

-- the beginning of a line that has not ended after z
abbrev pub part_from : List ℕ → List ℕ → List ℕ
part_from part [] = part
part_from part (b ∷ z) = if b == 10 then part_from [] z else part_from (part ++ b ∷ []) z

-- the line that the end of the input ends, where one has begun
abbrev pub last_line : List ℕ → List (List ℕ)
last_line [] = []
last_line (b ∷ l) = (b ∷ l) ∷ []

-- all lines, where the input ends after z
abbrev pub lines_from : List ℕ → List ℕ → List (List ℕ)
lines_from part z = ended_from part z ++ last_line (part_from part z)
