-- What a desk says to lines, one after another, and how much of it was written.
use Rattle.std.specs.Prelude.{◌≡◌, ℕ, ◌+◌, ◌<◌, ◌≤◌, Bool, if◌then◌else◌, List, [], ◌∷◌, ◌++◌, length, Option}
use Rattle.std.specs.Io.KnownBytes.{Appends}

-- the desk d, asked these lines in their order, says this text and is e then
abbrev pub SaysInTurn : {D : Type 0} → (D → List ℕ → List ℕ → D → Type 0) → D → List (List ℕ) → List ℕ → D → Type 0
SaysInTurn {D} says d [] text e = (text ≡ []) × (e ≡ d)
SaysInTurn {D} says d (l ∷ ls) text e =
    (m : D) × (first : List ℕ) × (others : List ℕ) × (text ≡ first ++ others) × says d l first m × SaysInTurn says m ls others e

-- the answers to these lines were written, and nothing else
abbrev pub Tells : {D : Type 0} → (D → List ℕ → List ℕ → D → Type 0) → D → List (List ℕ) → Option (List ℕ) → Option (List ℕ) → D → Type 0
Tells says d ls old new e = (text : List ℕ) × Appends old new text × SaysInTurn says d ls text e

-- fewer bytes of answers than these wait whenever a line is asked: so many where a desk's answers are gathered, else none at all
abbrev pub waiting_below : Bool → ℕ
waiting_below gathers = if gathers then 65536 else 1

-- A write failed. The desk d was asked the first so many of these lines, and is e. Of the bytes that had waited before, and of its
-- answers after them, a first part was written, not all of it, and nothing else. The last line stands apart: of what stood ahead of
-- its answer fewer bytes than `below` are unwritten. Where that is 1 none of these is, so there is a last line, e is the desk after
-- it, and its answer isn't written whole.
pub record BreaksOff {D : Type 0} (says : D → List ℕ → List ℕ → D → Type 0) (below : ℕ) (d : D) (ls : List (List ℕ)) (old : Option (List ℕ)) (before : List ℕ) (new : Option (List ℕ)) (e : D) : Type 0 where
  pub earlier : List (List ℕ)
  pub last : List (List ℕ)
  pub others : List (List ℕ)
  pub asked : earlier ++ (last ++ others) ≡ ls
  pub one : length last ≤ 1
  pub between : D
  pub said : List ℕ
  pub answer : List ℕ
  pub told : SaysInTurn says d earlier said between
  pub answered : SaysInTurn says between last answer e
  pub written : List ℕ
  pub unwritten : List ℕ
  pub whole : written ++ unwritten ≡ before ++ (said ++ answer)
  pub some : 0 < length unwritten
  pub appends : Appends old new written
  pub late : length (before ++ said) < length written + below

-- a part of these bytes was written, from their beginning on, but not all of them, and nothing else
abbrev pub AppendsPart : Option (List ℕ) → Option (List ℕ) → List ℕ → Type 0
AppendsPart old new bytes = (text : List ℕ) × (unwritten : List ℕ) × (text ++ unwritten ≡ bytes) × (0 < length unwritten) × Appends old new text

-- what stands between these bytes and the rest was written
abbrev pub Sent : Option (List ℕ) → Option (List ℕ) → List ℕ → List ℕ → Type 0
Sent old new bytes rest = (text : List ℕ) × (text ++ rest ≡ bytes) × Appends old new text
