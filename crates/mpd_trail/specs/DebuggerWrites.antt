-- How many writes it takes at most to take back some steps.
use Rattle.std.specs.Prelude.{ℕ, ◌+◌, List, [], ◌∷◌}
use Rattle.mpd_model.specs.declared.step.Step.{Step}
use Rattle.mpd_core.specs.Writes.{most_writes}

-- of so many ranks
abbrev pub most_writes_of : ℕ → List Step → ℕ
most_writes_of ranks [] = 0
most_writes_of ranks (a ∷ steps) = most_writes ranks a + most_writes_of ranks steps
