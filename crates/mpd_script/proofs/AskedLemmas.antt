-- Declarations that stand before a text, one after another.
use Rattle.std.proofs.Common.{◌≡◌, ℕ, ◌+◌, ◌≤◌, List, [], ◌∷◌, ◌++◌, ◌<◌, length, drop, get_or, ap, sym, ◌∙◌, arith}
use Rattle.std.proofs.lemmas.List.{drop_more}
use Rattle.mpd_model.specs.script.Declaration.{Declared, variable_cells, handle_cells, variables_in, handles_in}

variables_split : (xs ys : List Declared) (d : Declared) → variables_in (xs ++ d ∷ ys) ≡ variables_in xs + variable_cells d.kind d.size + variables_in ys
variables_split [] ys d = omega arith
variables_split (x ∷ xs) ys d = omega (arith, variables_split xs ys d)

handles_split : (xs ys : List Declared) (d : Declared) → handles_in (xs ++ d ∷ ys) ≡ handles_in xs + handle_cells d.kind d.size + handles_in ys
handles_split [] ys d = omega arith
handles_split (x ∷ xs) ys d = omega (arith, handles_split xs ys d)

-- a front of a list and the declaration behind it have no more cells than the list
pub variables_first : (most : ℕ) (xs ys ds : List Declared) (d : Declared) → xs ++ d ∷ ys ≡ ds → variables_in ds ≤ most → variables_in xs + variable_cells d.kind d.size ≤ most
variables_first most xs ys ds d e h = omega (arith, h, ap variables_in e, variables_split xs ys d)

pub handles_first : (most : ℕ) (xs ys ds : List Declared) (d : Declared) → xs ++ d ∷ ys ≡ ds → handles_in ds ≤ most → handles_in xs + handle_cells d.kind d.size ≤ most
handles_first most xs ys ds d e h = omega (arith, h, ap handles_in e, handles_split xs ys d)

-- what is declared already, the next declaration and those behind it
pub next_declared : (xs ds : List Declared) (i : ℕ) (d : Declared) → i < length ds → d ≡ get_or ds i d → xs ++ drop i ds ≡ ds → xs ++ d ∷ drop (i + 1) ds ≡ ds
next_declared xs ds i d within is e = ap (λ a. xs ++ a ∷ drop (i + 1) ds) is ∙ ap (λ r. xs ++ r) (sym (drop_more ds i d within)) ∙ e
