-- A table of what was found of states, by their keys.
use Rattle.std.specs.Prelude.{◌≡◌, ◌⊎◌, ◌==◌, ◌+◌, nat_le, nat_lt, if◌then◌else◌, ℕ, ℤ, Vec, List, Bool, true, ◌&&◌, ◌||◌, Option, Some, None}
use Rattle.std.specs.declared.alloc.Global.{Global}
use Rattle.std.specs.Ordering.{int_eq}
use Rattle.std.specs.Cmp.Lexicographic.{pointwise}
use Rattle.mpd_outcomes.specs.declared.table.Found.{Found}
use Rattle.mpd_outcomes.specs.declared.table.Table.{Table}
use Rattle.mpd_outcomes.specs.Parts.{StoreView, found_in}

abbrev pub key_eq : Vec ℤ Global → Vec ℤ Global → Bool
key_eq x y = pointwise int_eq x.items y.items

-- what is kept under a key
abbrev pub found_at : Table → Vec ℤ Global → Option Found
found_at t key = found_in t.store key.items

-- What was found serves for the same fuel, and, where no run was cut, for any that is enough for the longest.
abbrev pub serves : Found → ℕ → Bool
serves f fuel = ((f.fuel == fuel) && nat_le f.height (fuel + 1)) || (nat_le f.height f.fuel && nat_le f.height fuel)

-- nothing is kept
abbrev pub NothingKept : Table → Type 0
NothingKept t = (key : Vec ℤ Global) → found_at t key ≡ None

-- what is kept was kept before, or is what was found now
abbrev pub KeepsAPart : Table → Vec ℤ Global → Found → Table → Type 0
KeepsAPart old key found new = (q : Vec ℤ Global) (f : Found) → found_at new q ≡ Some f → (found_at old q ≡ Some f) ⊎ ((key_eq key q ≡ true) × (f ≡ found))

-- what is kept was kept before
abbrev pub KeepsLess : Table → Table → Type 0
KeepsLess old new = (q : Vec ℤ Global) (f : Found) → found_at new q ≡ Some f → found_at old q ≡ Some f

-- what was kept is kept where it is higher than this, and nothing else
abbrev pub where_higher : ℕ → Option Found → Option Found
where_higher height None = None
where_higher height (Some f) = if nat_lt height f.height then Some f else None

abbrev pub KeepsAbove : ℕ → Table → Table → Type 0
KeepsAbove height old new = (q : Vec ℤ Global) → found_at new q ≡ where_higher height (found_at old q)

-- ---- the same of a store, by the words of keys

abbrev pub KeepsAPartIn : StoreView → List ℤ → Found → StoreView → Type 0
KeepsAPartIn old key found new = (q : List ℤ) (f : Found) → found_in new q ≡ Some f → (found_in old q ≡ Some f) ⊎ ((key ≡ q) × (f ≡ found))

abbrev pub KeepsLessIn : StoreView → StoreView → Type 0
KeepsLessIn old new = (q : List ℤ) (f : Found) → found_in new q ≡ Some f → found_in old q ≡ Some f

abbrev pub KeepsAboveIn : ℕ → StoreView → StoreView → Type 0
KeepsAboveIn height old new = (q : List ℤ) → found_in new q ≡ where_higher height (found_in old q)
