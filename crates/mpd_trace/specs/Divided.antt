-- What of an input stands before the line that divides it, as it comes.
use Rattle.std.specs.Prelude.{◌≡◌, ℕ, ◌<◌, ◌≤◌, Bool, true, false, ◌&&◌, not, ◌==◌, if◌then◌else◌, List, [], ◌∷◌, ◌++◌, length, drop}
use Rattle.mpd_model.specs.declared.limits.TheConstants.{SCRIPT_MAX}
use Rattle.mpd_model.specs.texts.Lines.{raw_lines, divided, divided_lines, is_divider, is_none}
use Rattle.mpd_trace.specs.declared.divider.Division.{Division}
use Rattle.mpd_trace.specs.declared.divider.Division.TheVariants as d
use Rattle.mpd_trace.specs.declared.divider.Taken.{Taken}
use Rattle.mpd_trace.specs.declared.divider.Taken.TheVariants.{Open, Here, TooLong}

-- what is known to stand before the line that divides, and the beginning of a line which may still be that one;
-- settled: a line has begun in what is known
pub record Begun : Type 0 where
  pub known : List ℕ
  pub line : List ℕ
  pub settled : Bool

abbrev pub begun : List ℕ → List ℕ → Bool → Begun
begun known line settled = record { known = known; line = line; settled = settled }

abbrev pub is_prefix : List ℕ → List ℕ → Bool
is_prefix [] m = true
is_prefix (b ∷ l) [] = false
is_prefix (b ∷ l) (c ∷ m) = b == c && is_prefix l m

-- a line that begins so may be the one that divides
abbrev pub may_divide : List ℕ → Bool
may_divide line = is_prefix line (45 ∷ 45 ∷ 45 ∷ 13 ∷ [])

-- the line that has begun may divide, and stands in one place alone
pub record IsHeld (b : Begun) : Type 0 where
  pub line : may_divide b.line ≡ true
  pub none : b.settled ≡ true → b.line ≡ []

-- one byte more of the line
abbrev pub added : Begun → ℕ → Begun
added b byte =
    if b.settled then begun (b.known ++ byte ∷ []) b.line true
    else (if may_divide (b.line ++ byte ∷ []) then begun b.known (b.line ++ byte ∷ []) false else begun (b.known ++ b.line ++ byte ∷ []) [] true)

-- a line feed ends the line that divides
abbrev pub ends_script : Begun → Bool
ends_script b = if b.settled then false else is_divider (b.line ++ 10 ∷ [])

-- the first of these lines doesn't divide
abbrev pub settled_lines : List (List ℕ) → List ℕ × List ℕ
settled_lines [] = ([], [])
settled_lines (l ∷ ls) = (l ++ (divided_lines ls).0, (divided_lines ls).1)

-- what the input is divided into, where it goes on so
abbrev pub splits : Begun → List ℕ → List ℕ × List ℕ
splits b z =
    if b.settled then (b.known ++ (settled_lines (raw_lines z)).0, (settled_lines (raw_lines z)).1)
    else (b.known ++ (divided (b.line ++ z)).0, (divided (b.line ++ z)).1)

-- what a byte has brought: the line that divides, or a script that is too long
abbrev pub ByteBrings : Begun → ℕ → Taken → Begun → Type 0
ByteBrings old b Open new = ((z : List ℕ) → splits new z ≡ splits old (b ∷ z)) × (length new.known ≤ SCRIPT_MAX)
ByteBrings old b Here new = ((z : List ℕ) → splits old (b ∷ z) ≡ (new.known, z)) × (length new.known ≤ SCRIPT_MAX)
ByteBrings old b TooLong new = ((z : List ℕ) → (more : List ℕ) × ((splits old (b ∷ z)).0 ≡ new.known ++ more)) × (SCRIPT_MAX < length new.known)

-- so many bytes are a script that is too long, or not
abbrev pub Measures : ℕ → Taken → Type 0
Measures n Open = n ≤ SCRIPT_MAX
Measures n Here = ⊥
Measures n TooLong = SCRIPT_MAX < n

-- the line that divides is among these bytes, with its end: a byte more stands after it
abbrev pub has_divider : List ℕ → Bool
has_divider read = not (is_none (divided (read ++ 10 ∷ [])).1)

-- where the script ends is not known yet: the line that divides has not come, and the script may still be short enough
pub record IsOpen (read : List ℕ) : Type 0 where
  pub divider : has_divider read ≡ false
  pub short : (z : List ℕ) × (length (divided (read ++ z)).0 ≤ SCRIPT_MAX)

-- what a piece has brought: the line that divides, with so many of its bytes, or a script that is too long
abbrev pub PieceBrings : Begun → List ℕ → Division → Begun → Type 0
PieceBrings old piece d.Open new = ((z : List ℕ) → splits new z ≡ splits old (piece ++ z)) × (length new.known ≤ SCRIPT_MAX)
PieceBrings old piece (d.Here used) new =
    ((z : List ℕ) → splits old (piece ++ z) ≡ (new.known, drop used piece ++ z)) × (used ≤ length piece) × (length new.known ≤ SCRIPT_MAX)
PieceBrings old piece d.TooLong new = ((z : List ℕ) → (more : List ℕ) × ((splits old (piece ++ z)).0 ≡ new.known ++ more)) × (SCRIPT_MAX < length new.known)
