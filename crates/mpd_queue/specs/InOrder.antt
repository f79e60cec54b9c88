-- Disjoint lists in order: what stands in them, and what a change makes of them. Items are numbers.
use Rattle.std.specs.Prelude.{ℕ, Bool, false, cond, eqb, Option, Some, None, List, [], ◌∷◌, ◌++◌, ◌-◌, ◌<◌, length, take, replicate, slice_index_or, slice_set, count_by, sum_by}

-- the list of that number, empty where there is none
abbrev pub list_at : List (List ℕ) → ℕ → List ℕ
list_at lists list = slice_index_or lists list []

-- in how many places of a list the item stands
abbrev pub places_in : List ℕ → ℕ → ℕ
places_in items item = count_by (eqb item) items

-- in how many places of all lists: at most one, where they are disjoint and have no doubles
abbrev pub places : List (List ℕ) → ℕ → ℕ
places lists item = sum_by (λ (items : List ℕ). places_in items item) lists

abbrev pub first_of : List ℕ → Option ℕ
first_of [] = None
first_of (x ∷ xs) = Some x

-- what comes next after the item, where it first stands
abbrev pub next_of : List ℕ → ℕ → Option ℕ
next_of [] item = None
next_of (x ∷ xs) item = cond (eqb item x) (first_of xs) (next_of xs item)

abbrev pub is_link_to : Option ℕ → ℕ → Bool
is_link_to None x = false
is_link_to (Some y) x = eqb y x

-- the item is put in ahead of `next`; at the end, where that is None
abbrev pub inserted : List ℕ → ℕ → Option ℕ → List ℕ
inserted [] item next = item ∷ []
inserted (x ∷ xs) item next = cond (is_link_to next x) (item ∷ x ∷ xs) (x ∷ inserted xs item next)

-- the item is taken out, where it first stands
abbrev pub removed : List ℕ → ℕ → List ℕ
removed [] item = []
removed (x ∷ xs) item = cond (eqb item x) xs (x ∷ removed xs item)

abbrev pub pushed : List ℕ → ℕ → List ℕ
pushed items item = items ++ item ∷ []

abbrev pub newest_dropped : List ℕ → List ℕ
newest_dropped items = take (length items - 1) items

abbrev pub empty_lists : ℕ → List (List ℕ)
empty_lists count = replicate count []

-- and the same of one list among others

abbrev pub with_inserted : List (List ℕ) → ℕ → ℕ → Option ℕ → List (List ℕ)
with_inserted lists list item next = slice_set lists list (inserted (list_at lists list) item next)

abbrev pub with_removed : List (List ℕ) → ℕ → ℕ → List (List ℕ)
with_removed lists list item = slice_set lists list (removed (list_at lists list) item)

abbrev pub with_pushed : List (List ℕ) → ℕ → ℕ → List (List ℕ)
with_pushed lists list item = slice_set lists list (pushed (list_at lists list) item)

abbrev pub with_newest_dropped : List (List ℕ) → ℕ → List (List ℕ)
with_newest_dropped lists list = slice_set lists list (newest_dropped (list_at lists list))

-- what is put in ahead of `next` has its place: that item stands in the list, or it is the end
abbrev pub HasSpot : List ℕ → Option ℕ → Type 0
HasSpot items None = Unit {0}
HasSpot items (Some item) = 0 < places_in items item
