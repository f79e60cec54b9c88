-- Where the tokens of a text stand.
use Rattle.std.specs.Prelude.{◌≡◌, ℕ, ◌+◌, ◌<◌, ◌==◌, List, length, take, drop}
use Rattle.std.specs.List.{All, count_by}
use Rattle.mpd_model.specs.grammar.Tokens.{Spot, tokens}

-- A token stands in the text at its place, and its line is 1 plus the line feeds before that.
pub record IsPlacedIn (text : List ℕ) (s : Spot) : Type 0 where
  pub within : s.place < length text
  pub bytes : take (length s.text) (drop s.place text) ≡ s.text
  pub line : s.line ≡ count_by (λ b. b == 10) (take s.place text) + 1

abbrev pub EachTokenIsPlaced : Type 0
EachTokenIsPlaced = (text : List ℕ) → All (IsPlacedIn text) (tokens text)
