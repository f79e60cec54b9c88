-- What stands in the deque: plain numbers below a bound, each pushed once.
use Rattle.std.specs.Prelude.{◌≡◌, ℕ, ◌+◌, ◌<◌, ◌≤◌, Bool, true, List, [], ◌∷◌, length}
use mathlib.Core.Option.{some}
use lib.ListN.{get_elem?}
use Rattle.mpd_pool.specs.declared.deque.Hand.{Hand}

abbrev pub hand : Bool → Bool → ℕ → Hand
hand pushes live next = record { pushes = pushes; live = live; next = next }

-- each number is above the ones before it, from low on, and below high
abbrev pub Rising : ℕ → List ℕ → ℕ → Type 0
Rising low [] high = low ≤ high
Rising low (x ∷ xs) high = (low ≤ x) × Rising (x + 1) xs high

-- each number is below the bound
abbrev pub Below : ℕ → List ℕ → Type 0
Below high [] = Unit {0}
Below high (x ∷ xs) = (x < high) × Below high xs

-- who is live knows how many were pushed; who may push is alone
abbrev pub Knows : ℕ → ℕ → Hand → Type 0
Knows next ports v = (v.live ≡ true → v.next ≡ next) × (v.pushes ≡ true → (ports ≡ 1) × (v.live ≡ true))

abbrev pub Numbered : List ℕ → List Hand → Type 0
Numbered items views =
    (next : ℕ) × Rising 0 items next
    × ((port : ℕ) (v : Hand) → get_elem? views port ≡ some v → Knows next (length views) v)
