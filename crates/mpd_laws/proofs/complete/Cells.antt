-- The cells that one more declaration brings.
use Rattle.std.proofs.Common.{◌≡◌, ◌+◌, List, [], ◌∷◌, ◌++◌, arith}
use Rattle.mpd_model.specs.script.Declaration.{Declared, variable_cells, handle_cells, variables_in, handles_in}

pub variables_in-more : (ds : List Declared) (d : Declared) → variables_in (ds ++ d ∷ []) ≡ variables_in ds + variable_cells d.kind d.size
variables_in-more [] d = omega arith
variables_in-more (e ∷ es) d = omega (arith, variables_in-more es d)

pub handles_in-more : (ds : List Declared) (d : Declared) → handles_in (ds ++ d ∷ []) ≡ handles_in ds + handle_cells d.kind d.size
handles_in-more [] d = omega arith
handles_in-more (e ∷ es) d = omega (arith, handles_in-more es d)
