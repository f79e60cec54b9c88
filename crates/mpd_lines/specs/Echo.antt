-- Lines that are shown before their answers (docs/FORMATS.md, "Lines that are shown").
use Rattle.std.specs.Prelude.{◌≡◌, ℕ, Bool, nat_lt, if◌then◌else◌, List, [], ◌∷◌, ◌++◌, length, codes}
use Rattle.mpd_model.specs.declared.limits.TheConstants.{LINE_MAX}

-- two dots stand for a line that has more bytes than a line may have
abbrev pub shown_of : Bool → List ℕ → List ℕ
shown_of is_long z = if is_long then codes ".." else z

abbrev pub echo : List ℕ → List ℕ → List ℕ
echo mark z = mark ++ (shown_of (nat_lt LINE_MAX (length z)) z ++ 10 ∷ [])

-- the same of each such line
abbrev pub long_echo : List ℕ → List ℕ
long_echo mark = mark ++ (codes ".." ++ 10 ∷ [])

-- A desk answers a line by this text: the line, after a mark, and then what it says.
abbrev pub Echoes : {D : Type 0} → List ℕ → (D → List ℕ → List ℕ → D → Type 0) → D → List ℕ → List ℕ → D → Type 0
Echoes mark says d z text e = (answer : List ℕ) × (text ≡ echo mark z ++ answer) × says d z answer e
