-- Worked rows: items 0, 1 and 2 are pushed on the first of two lists, 1 is taken out and put back, the last is dropped.
use Rattle.std.specs.Prelude.{◌≡◌, ℕ, Some, List, [], ◌∷◌, refl}
use Rattle.mpd_queue.specs.InOrder.{list_at, next_of, empty_lists, with_inserted, with_removed, with_pushed, with_newest_dropped}

abbrev pub three_items : List (List ℕ)
three_items = (0 ∷ 1 ∷ 2 ∷ []) ∷ [] ∷ []

pub row_pushed : with_pushed (with_pushed (with_pushed (empty_lists 2) 0 0) 0 1) 0 2 ≡ three_items
row_pushed = refl

pub row_spot : next_of (list_at three_items 0) 1 ≡ Some 2
row_spot = refl

pub row_removed : with_removed three_items 0 1 ≡ (0 ∷ 2 ∷ []) ∷ [] ∷ []
row_removed = refl

pub row_put_back : with_inserted ((0 ∷ 2 ∷ []) ∷ [] ∷ []) 0 1 (Some 2) ≡ three_items
row_put_back = refl

pub row_dropped : with_newest_dropped three_items 0 ≡ (0 ∷ 1 ∷ []) ∷ [] ∷ []
row_dropped = refl
