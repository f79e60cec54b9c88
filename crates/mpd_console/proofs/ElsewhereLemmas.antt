-- The cells that a name means are among those that a script has.
use Rattle.std.proofs.Common.{◌≡◌, ℕ, ◌+◌, ◌≤◌, Bool, true, false, if◌then◌else◌, List, [], ◌∷◌, Option, Some, None, Result, Ok, Err, slice_get, refl, sym, ap, subst, arith}
use Rattle.std.specs.Prelude.{nat_lt, take, drop, ⊤}
use Rattle.std.proofs.lemmas.Bool.Decides.{nat_tests}
use Rattle.mpd_model.specs.declared.limits.TheConstants.{CELLS_MAX, HANDLES_MAX}
use Rattle.mpd_model.specs.script.Declaration.{Declared, cells_of, variables_in, handles_in}
use Rattle.mpd_model.specs.texts.Words.{number_of}
use Rattle.mpd_names.specs.declared.name.Named.{Named}
use Rattle.mpd_names.specs.declared.name.NameFault.{NameFault}
use Rattle.mpd_names.specs.declared.name.NameFault.TheVariants.{NoSuchCell}
use Rattle.mpd_names.specs.Cells.{whole}
use Rattle.mpd_names.specs.Names.{declaration_from, name_len, digits_of, element, indexed, meant_by, meant, meant_at, named}
use Rattle.mpd_names.proofs.CellLemmas.{few_at}

-- a result that is one, if it is any, has few cells
abbrev pub IsSmall : Result Named NameFault → Type 0
IsSmall (Err f) = ⊤
IsSmall (Ok n) = n.first + n.cells ≤ CELLS_MAX

element_small_by : (all : Named) (i : ℕ) (b : Bool) → nat_lt i all.cells ≡ b → all.first + all.cells ≤ CELLS_MAX → IsSmall (if b then Ok (record all { first = all.first + i; cells = 1 }) else Err NoSuchCell)
element_small_by all i true is few = grind (arith, nat_tests)
element_small_by all i false is few = tt

element_small : (all : Named) (size i : Option ℕ) → all.cells ≡ cells_of size → all.first + all.cells ≤ CELLS_MAX → IsSmall (element all size i)
element_small all None i own few = tt
element_small all (Some size) None own few = tt
element_small all (Some size) (Some i) own few = element_small_by all i (nat_lt i size) (ap (nat_lt i) own) few

indexed_small : (all : Named) (size : Option ℕ) (digits : Option (List ℕ)) → all.cells ≡ cells_of size → all.first + all.cells ≤ CELLS_MAX → IsSmall (indexed all size digits)
indexed_small all size None own few = tt
indexed_small all size (Some digits) own few = element_small all size (number_of digits) own few

meant_by_small : (all : Named) (size : Option ℕ) (behind : List ℕ) → all.cells ≡ cells_of size → all.first + all.cells ≤ CELLS_MAX → IsSmall (meant_by all size behind)
meant_by_small all size [] own few = few
meant_by_small all size (b ∷ z) own few = indexed_small all size (digits_of z) own few

meant_small : (ds : List Declared) (i : ℕ) (behind : List ℕ) (o : Option Declared) → slice_get ds i ≡ o → variables_in ds ≤ CELLS_MAX → handles_in ds ≤ HANDLES_MAX → IsSmall (meant ds i behind o)
meant_small ds i behind None at v h = tt
meant_small ds i behind (Some d) at v h = meant_by_small (whole ds i d) d.size behind refl (few_at ds i d d.kind at refl v h)

meant_at_small : (ds : List Declared) (behind : List ℕ) (o : Option ℕ) → variables_in ds ≤ CELLS_MAX → handles_in ds ≤ HANDLES_MAX → IsSmall (meant_at ds behind o)
meant_at_small ds behind None v h = tt
meant_at_small ds behind (Some i) v h = meant_small ds i behind (slice_get ds i) refl v h

pub named_small : (ds : List Declared) (word : List ℕ) (n : Named) → Ok n ≡ named ds word → variables_in ds ≤ CELLS_MAX → handles_in ds ≤ HANDLES_MAX → n.first + n.cells ≤ CELLS_MAX
named_small ds word n is v h = subst IsSmall (sym is) (meant_at_small ds (drop (name_len word) word) (declaration_from 0 ds (take (name_len word) word)) v h)
