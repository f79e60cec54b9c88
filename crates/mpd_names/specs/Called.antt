-- Cells by their declarations.
use Rattle.std.specs.Prelude.{ℕ, ◌+◌, ◌-◌, nat_lt, if◌then◌else◌, List, [], ◌∷◌, Option, Some, None}
use Rattle.mpd_model.specs.declared.place.DeclKind.{DeclKind}
use Rattle.mpd_model.specs.script.Declaration.{Declared}
use Rattle.mpd_names.specs.declared.text.NamedCell.{NamedCell}
use Rattle.mpd_names.specs.Cells.{kind_cells}

-- the cell of number c among those of a kind, of declarations that are numbered from i on
abbrev pub cell_from : ℕ → List Declared → DeclKind → ℕ → Option NamedCell
cell_from i [] kind c = None
cell_from i (d ∷ ds) kind c = if nat_lt c (kind_cells kind d) then Some (record { declaration = i; index = c }) else cell_from (i + 1) ds kind (c - kind_cells kind d)

abbrev pub named_cell : List Declared → DeclKind → ℕ → Option NamedCell
named_cell ds kind c = cell_from 0 ds kind c
