-- By what one list of cells differs from another, and what changes make of what was there before.
use Rattle.std.specs.Prelude.{ℕ, ◌==◌, Bool, if◌then◌else◌, List, [], ◌∷◌, ◌++◌, length, slice_get, slice_set, Option, Some, None}
use Rattle.std.specs.List.{flat_map, range_with_len}

-- cells with another value, by a test whether two are the same
abbrev pub other_by : {A : Type 0} → (A → A → Bool) → ℕ → Option A → Option A → List (ℕ × A)
other_by same i (Some x) (Some y) = if same x y then [] else (i, y) ∷ []
other_by same i was now = []

abbrev pub other_at : {A : Type 0} → (A → A → Bool) → List A → List A → ℕ → List (ℕ × A)
other_at same was now i = other_by same i (slice_get was i) (slice_get now i)

abbrev pub other_cells : {A : Type 0} → (A → A → Bool) → List A → List A → List (ℕ × A)
other_cells same was now = flat_map (other_at same was now) (range_with_len 0 (length now))

-- the last that is told, if any is
abbrev pub set_last : {A : Type 0} → A → List A → A
set_last was [] = was
set_last was (now ∷ more) = set_last now more

abbrev pub set_cells : {A : Type 0} → List A → List (ℕ × A) → List A
set_cells xs [] = xs
set_cells xs (c ∷ cs) = set_cells (slice_set xs c.0 c.1) cs

abbrev pub with_one : {A : Type 0} → List A → Option A → List A
with_one xs None = xs
with_one xs (Some x) = xs ++ x ∷ []

-- what entries tell of a rank, each of which has a rank
abbrev pub of_rank : {E A : Type 0} → (E → ℕ) → (E → A) → ℕ → List E → List A
of_rank rank what p es = flat_map (λ e. if rank e == p then what e ∷ [] else []) es
