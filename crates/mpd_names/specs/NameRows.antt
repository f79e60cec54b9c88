-- Worked rows of names. What is wanted was worked out by hand.
use Rattle.std.specs.Prelude.{◌≡◌, ℕ, map, List, [], ◌∷◌, Option, Some, None, Result, Ok, Err, codes, refl}
use Rattle.mpd_model.specs.declared.place.DeclKind.{DeclKind}
use Rattle.mpd_model.specs.declared.place.DeclKind.TheVariants.{Variable, Handle}
use Rattle.mpd_model.specs.script.Declaration.{Declared}
use Rattle.mpd_names.specs.declared.name.Named.{Named}
use Rattle.mpd_names.specs.declared.name.NameFault.{NameFault}
use Rattle.mpd_names.specs.declared.name.NameFault.TheVariants.{Unknown, NoSuchCell}
use Rattle.mpd_names.specs.Names.{named}
use Rattle.mpd_names.specs.declared.text.NamedCell.{NamedCell}
use Rattle.mpd_names.specs.Called.{named_cell}

abbrev decl : DeclKind → List ℕ → Option ℕ → Declared
decl kind name size = record { kind = kind; name = name; size = size }

-- var x; req r; var a[2]; req q[0]; var b[0];
abbrev pub five : List Declared
five = decl Variable (codes "x") None ∷ decl Handle (codes "r") None ∷ decl Variable (codes "a") (Some 2) ∷ decl Handle (codes "q") (Some 0) ∷ decl Variable (codes "b") (Some 0) ∷ []

abbrev cells : DeclKind → ℕ → ℕ → ℕ → Result Named NameFault
cells kind declaration first count = Ok (record { kind = kind; declaration = declaration; first = first; cells = count })

-- ---- words

abbrev words : List (List ℕ × Result Named NameFault)
words =
    (codes "x", cells Variable 0 0 1) ∷ (codes "r", cells Handle 1 0 1) ∷ (codes "a", cells Variable 2 1 2) ∷ (codes "q", cells Handle 3 1 0) ∷ (codes "b", cells Variable 4 3 0)
    ∷ (codes "a[0]", cells Variable 2 1 1) ∷ (codes "a[1]", cells Variable 2 2 1) ∷ (codes "a[01]", cells Variable 2 2 1)
    ∷ (codes "a[2]", Err NoSuchCell) ∷ (codes "a[0000000001]", Err NoSuchCell) ∷ (codes "x[0]", Err NoSuchCell) ∷ (codes "q[0]", Err NoSuchCell)
    ∷ (codes "y", Err Unknown) ∷ (codes "xa", Err Unknown) ∷ (codes "", Err Unknown) ∷ (codes "[0]", Err Unknown) ∷ (codes "y[0]", Err Unknown)
    ∷ (codes "a[", Err Unknown) ∷ (codes "a[]", Err Unknown) ∷ (codes "a[1", Err Unknown) ∷ (codes "a[1]]", Err Unknown) ∷ (codes "a[1 ]", Err Unknown) ∷ (codes "a[-1]", Err Unknown) ∷ []

pub row_words : map {B = Result Named NameFault} (λ q. named five q.0) words ≡ map {B = Result Named NameFault} (λ q. q.1) words
row_words = refl

-- ---- cells: the number of the declaration and the index, none where there is no such cell

abbrev there : ℕ → ℕ → Option NamedCell
there d i = Some (record { declaration = d; index = i })

abbrev numbers : List ((DeclKind × ℕ) × Option NamedCell)
numbers =
    ((Variable, 0), there 0 0) ∷ ((Variable, 1), there 2 0) ∷ ((Variable, 2), there 2 1) ∷ ((Variable, 3), None) ∷ ((Handle, 0), there 1 0) ∷ ((Handle, 1), None) ∷ []

pub row_numbers : map {B = Option NamedCell} (λ q. named_cell five q.0.0 q.0.1) numbers ≡ map {B = Option NamedCell} (λ q. q.1) numbers
row_numbers = refl
