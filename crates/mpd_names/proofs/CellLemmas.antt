-- How many cells stand before those of a declaration.
use Rattle.std.proofs.Common.{◌≡◌, ℕ, zero, suc, ◌+◌, ◌≤◌, List, [], ◌∷◌, take, Option, Some, None, slice_get, refl, ap, sym, arith}
use Rattle.std.specs.Option.{unwrap_or}
use Rattle.mpd_model.specs.declared.place.DeclKind.{DeclKind}
use Rattle.mpd_model.specs.declared.place.DeclKind.TheVariants.{Variable, Handle}
use Rattle.mpd_model.specs.declared.limits.TheConstants.{CELLS_MAX, HANDLES_MAX}
use Rattle.mpd_model.specs.script.Declaration.{Declared, cells_of, variable_cells, handle_cells, variables_in, handles_in}
use Rattle.mpd_names.specs.Cells.{kind_cells, cells_in}

-- ---- all cells of a kind

all_variables : (ds : List Declared) → cells_in Variable ds ≡ variables_in ds
all_variables [] = refl
all_variables (d ∷ ds) = ap (λ n. variable_cells d.kind d.size + n) (all_variables ds)

all_handles : (ds : List Declared) → cells_in Handle ds ≡ handles_in ds
all_handles [] = refl
all_handles (d ∷ ds) = ap (λ n. handle_cells d.kind d.size + n) (all_handles ds)

few_in : (k : DeclKind) (ds : List Declared) → variables_in ds ≤ CELLS_MAX → handles_in ds ≤ HANDLES_MAX → cells_in k ds ≤ CELLS_MAX
few_in Variable ds v h = omega (arith, all_variables ds, v)
few_in Handle ds v h = omega (arith, all_handles ds, h)

-- ---- those of one declaration stand among them

pub cells_or_one : (size : Option ℕ) → unwrap_or size 1 ≡ cells_of size
cells_or_one None = refl
cells_or_one (Some n) = refl

some_is : (d e : Declared) → Some d ≡ Some e → d ≡ e
some_is d e h = cc

cells_at : (k : DeclKind) (ds : List Declared) (i : ℕ) (d : Declared) → slice_get ds i ≡ Some d → cells_in k (take i ds) + kind_cells k d ≤ cells_in k ds
cells_at k [] i d h = cc
cells_at k (e ∷ ds) zero d h = let s : kind_cells k e ≡ kind_cells k d = ap (kind_cells k) (some_is e d h) in omega (arith, s)
cells_at k (e ∷ ds) (suc i) d h = omega (arith, cells_at k ds i d h)

own_cells : (k : DeclKind) (d : Declared) → k ≡ d.kind → kind_cells k d ≡ cells_of d.size
own_cells Variable d e = ap (λ x. variable_cells x d.size) (sym e)
own_cells Handle d e = ap (λ x. handle_cells x d.size) (sym e)

pub few_at : (ds : List Declared) (i : ℕ) (d : Declared) (k : DeclKind) → slice_get ds i ≡ Some d → k ≡ d.kind → variables_in ds ≤ CELLS_MAX → handles_in ds ≤ HANDLES_MAX → cells_in k (take i ds) + cells_of d.size ≤ CELLS_MAX
few_at ds i d k h e v r = omega (arith, cells_at k ds i d h, own_cells k d e, few_in k ds v r)

pub few_before : (ds : List Declared) (i : ℕ) (d : Declared) (k : DeclKind) → slice_get ds i ≡ Some d → variables_in ds ≤ CELLS_MAX → handles_in ds ≤ HANDLES_MAX → cells_in k (take i ds) ≤ CELLS_MAX
few_before ds i d k h v r = omega (arith, cells_at k ds i d h, few_in k ds v r)

pub ruleset counting = (few_at, few_before)
