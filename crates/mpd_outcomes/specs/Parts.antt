-- Where a table keeps what was found of states: each part of a key once, by a number, and what was found by the numbers of the parts.
use Rattle.std.specs.Prelude.{◌≡◌, ◌⊎◌, ◌<◌, ◌≤◌, ℕ, zero, suc, min, eqb, ℤ, pos, negsuc, Vec, Bool, List, [], ◌∷◌, length, take, drop, Option, Some, None}
use Rattle.std.specs.declared.alloc.Global.{Global}
use Rattle.std.specs.Map.{lookup}
use Rattle.std.specs.Ordering.{int_eq}
use Rattle.std.specs.Cmp.Lexicographic.{pointwise}
use Rattle.mpd_outcomes.specs.declared.table.Found.{Found}

-- what stands at a list, in a map by lists
abbrev pub at_items : {A X : Type 0} → (A → A → Bool) → List A → List (Vec A Global × X) → Option X
at_items eq q entries = lookup (λ k. pointwise eq q k.items) entries

-- the number of a part
abbrev pub number_of : List (Vec ℤ Global × ℕ) → List ℤ → Option ℕ
number_of parts part = at_items int_eq part parts

-- how many words come after the first one in its part, if they are there
abbrev pub words_after : ℤ → ℕ
words_after (pos n) = n
words_after (negsuc n) = 0

-- how many words the first part of some words has
abbrev pub part_size : List ℤ → ℕ
part_size [] = 0
part_size (w ∷ ws) = suc (min (words_after w) (length ws))

-- a number before others, where all are there
abbrev pub before_others : Option ℕ → Option (List ℕ) → Option (List ℕ)
before_others None others = None
before_others (Some n) None = None
before_others (Some n) (Some ns) = Some (n ∷ ns)

-- the numbers of the parts of some words, at most so many
abbrev pub numbers_of : List (Vec ℤ Global × ℕ) → ℕ → List ℤ → Option (List ℕ)
numbers_of parts zero [] = Some []
numbers_of parts zero (w ∷ ws) = None
numbers_of parts (suc n) [] = Some []
numbers_of parts (suc n) (w ∷ ws) = before_others (number_of parts (take (part_size (w ∷ ws)) (w ∷ ws))) (numbers_of parts n (drop (part_size (w ∷ ws)) (w ∷ ws)))

-- Each part has a number of its own, below how many there are.
pub record IsNumbering (parts : List (Vec ℤ Global × ℕ)) : Type 0 where
  pub below : (p : List ℤ) (n : ℕ) → number_of parts p ≡ Some n → n < length parts
  pub apart : (p q : List ℤ) (n : ℕ) → number_of parts p ≡ Some n → number_of parts q ≡ Some n → p ≡ q

-- There are these parts still, and the numbers of those that are new are new too.
pub record HasMoreParts (old new : List (Vec ℤ Global × ℕ)) : Type 0 where
  pub stay : (p : List ℤ) (n : ℕ) → number_of old p ≡ Some n → number_of new p ≡ Some n
  pub fresh : (p : List ℤ) (n : ℕ) → number_of new p ≡ Some n → (number_of old p ≡ Some n) ⊎ (length old ≤ n)
  pub more : length old ≤ length new

-- ---- what was found

-- the parts, and what was found by the numbers of parts
pub record StoreView : Type 0 where
  pub parts : List (Vec ℤ Global × ℕ)
  pub kept : List (Vec ℕ Global × Found)

abbrev pub found_by : List (Vec ℕ Global × Found) → Option (List ℕ) → Option Found
found_by kept None = None
found_by kept (Some ns) = at_items eqb ns kept

-- what was found of the state of a key
abbrev pub found_in : StoreView → List ℤ → Option Found
found_in s key = found_by s.kept (numbers_of s.parts (length key) key)

abbrev pub AllBelow : ℕ → List ℕ → Type 0
AllBelow n [] = Unit {0}
AllBelow n (m ∷ ms) = (m < n) × AllBelow n ms

-- it is kept by numbers of parts
abbrev pub IsNumbered : List (Vec ℤ Global × ℕ) → List (Vec ℕ Global × Found) → Type 0
IsNumbered parts kept = (ns : List ℕ) (f : Found) → at_items eqb ns kept ≡ Some f → AllBelow (length parts) ns
