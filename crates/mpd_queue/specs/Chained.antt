-- Links both ways, as functions of a place. A place is an item, or the end of its list (None): next at the end is the
-- first item, and previous there is the last.
use Rattle.std.specs.Prelude.{◌≡◌, ℕ, ◌<◌, ◌≤◌, Bool, false, cond, eqb, Option, Some, None, List, [], ◌∷◌, length}
use Rattle.mpd_queue.specs.InOrder.{list_at, places}

-- two places are neighbours
abbrev pub Joined : (Option ℕ → Option ℕ) → (Option ℕ → Option ℕ) → Option ℕ → Option ℕ → Type 0
Joined next previous u v = (next u ≡ v) × (previous v ≡ u)

-- the links lead from a place through the items, and to the end
abbrev pub Chained : (Option ℕ → Option ℕ) → (Option ℕ → Option ℕ) → Option ℕ → List ℕ → Type 0
Chained next previous from [] = Joined next previous from None
Chained next previous from (x ∷ xs) = Joined next previous from (Some x) × Chained next previous (Some x) xs

-- every list is linked through, no item stands in two places, and each that stands has a cell
pub record Linked (next previous : ℕ → Option ℕ → Option ℕ) (ends cells : ℕ) (lists : List (List ℕ)) : Type 0 where
  pub as_many : ends ≡ length lists
  pub few : cells ≤ 4294967295
  pub inside : (item : ℕ) → 0 < places lists item → item < cells
  pub once : (item : ℕ) → places lists item ≤ 1
  pub chained : (list : ℕ) → list < length lists → Chained (next list) (previous list) None (list_at lists list)

-- whether two places share their link: each list has an end of its own, and an item has one cell for all lists
abbrev pub is_same_place : ℕ → Option ℕ → ℕ → Option ℕ → Bool
is_same_place list None other None = eqb list other
is_same_place list None other (Some j) = false
is_same_place list (Some i) other None = false
is_same_place list (Some i) other (Some j) = eqb i j

-- the links after one of them is written
abbrev pub written : (ℕ → Option ℕ → Option ℕ) → ℕ → Option ℕ → Option ℕ → ℕ → Option ℕ → Option ℕ
written links list at to other from = cond (is_same_place list at other from) to (links other from)

-- a place whose cell is there
abbrev pub HasCell : ℕ → Option ℕ → Type 0
HasCell cells None = Unit {0}
HasCell cells (Some item) = item < cells
