-- Texts without a `<`, so that nothing in them ends an element of a page.
use Rattle.std.specs.Prelude.{ℕ, Bool, ◌==◌, not, if◌then◌else◌, List, [], ◌∷◌, codes}
use Rattle.std.specs.List.{list_all, flat_map}

abbrev pub no_less : List ℕ → Bool
no_less text = list_all (λ b. not (b == 60)) text

-- a `<`, which stands in a text of JSON alone, is written by its number
abbrev pub harmless_byte : ℕ → List ℕ
harmless_byte b = if b == 60 then codes "\\u003c" else b ∷ []

abbrev pub harmless : List ℕ → List ℕ
harmless text = flat_map harmless_byte text
