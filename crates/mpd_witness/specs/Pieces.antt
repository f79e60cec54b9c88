-- The pieces of a text that are still to come.
use Rattle.std.specs.Prelude.{ℕ, Bool, true, false, ◌==◌, List, []}
use Rattle.std.specs.List.{slice_split}

abbrev pub parts_left : Bool → ℕ → List ℕ → List (List ℕ)
parts_left true c z = []
parts_left false c z = slice_split (λ b. b == c) z
