-- A declaration as contracts see it, and the cells that declarations have.
use Rattle.std.specs.Prelude.{ℕ, ◌+◌, List, [], ◌∷◌, Option, Some, None, refl}
use Rattle.std.specs.Coded.{Coded, code_by, coded×, coded_ℕ, coded_list, coded_option}
use Rattle.mpd_model.specs.declared.place.DeclKind.{DeclKind}
use Rattle.mpd_model.specs.declared.place.DeclKind.TheVariants.{Variable, Handle}
use Rattle.mpd_model.specs.contracts.place.DeclKind as kind_row

pub record Declared : Type 0 where
  pub kind : DeclKind
  pub name : List ℕ
  pub size : Option ℕ

abbrev pub declared_code : Coded Declared
declared_code =
    code_by (DeclKind × (List ℕ × Option ℕ)) (coded× kind_row.the_row.coded (coded× (coded_list coded_ℕ) (coded_option coded_ℕ)))
    (λ d. (d.kind, (d.name, d.size))) (λ q. record { kind = q.0; name = q.1.0; size = q.1.1 }) (λ _. refl)

-- how many cells a declaration has: one, where it is no array
abbrev pub cells_of : Option ℕ → ℕ
cells_of None = 1
cells_of (Some n) = n

abbrev pub variable_cells : DeclKind → Option ℕ → ℕ
variable_cells Variable size = cells_of size
variable_cells Handle size = 0

abbrev pub handle_cells : DeclKind → Option ℕ → ℕ
handle_cells Variable size = 0
handle_cells Handle size = cells_of size

-- the cells of all variables, and of all handles
abbrev pub variables_in : List Declared → ℕ
variables_in [] = 0
variables_in (d ∷ ds) = variable_cells d.kind d.size + variables_in ds

abbrev pub handles_in : List Declared → ℕ
handles_in [] = 0
handles_in (d ∷ ds) = handle_cells d.kind d.size + handles_in ds
