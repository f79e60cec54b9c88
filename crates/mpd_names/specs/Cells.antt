-- The cells of declarations, by their kind.
use Rattle.std.specs.Prelude.{ℕ, ◌+◌, List, [], ◌∷◌, take}
use Rattle.mpd_model.specs.declared.place.DeclKind.{DeclKind}
use Rattle.mpd_model.specs.declared.place.DeclKind.TheVariants.{Variable, Handle}
use Rattle.mpd_model.specs.script.Declaration.{Declared, cells_of, variable_cells, handle_cells}
use Rattle.mpd_names.specs.declared.name.Named.{Named}

-- how many cells of a kind a declaration has
abbrev pub kind_cells : DeclKind → Declared → ℕ
kind_cells Variable d = variable_cells d.kind d.size
kind_cells Handle d = handle_cells d.kind d.size

-- and how many some declarations have
abbrev pub cells_in : DeclKind → List Declared → ℕ
cells_in kind [] = 0
cells_in kind (d ∷ ds) = kind_cells kind d + cells_in kind ds

-- all cells of the declaration of number i: they stand after those of its kind that are declared before it
abbrev pub whole : List Declared → ℕ → Declared → Named
whole ds i d = record { kind = d.kind; declaration = i; first = cells_in d.kind (take i ds); cells = cells_of d.size }
