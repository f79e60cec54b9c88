-- The links that cells and ends make.
use Rattle.std.specs.Prelude.{ℕ, Option, Some, None, List, slice_index_or, vec_len}
use Rattle.mpd_queue.specs.Chained.{Linked}
use Rattle.mpd_queue.specs.declared.links.Cell.{Cell}
use Rattle.mpd_queue.specs.declared.links.Ends.{Ends}
use Rattle.mpd_queue.specs.declared.links.Links.{Links}

abbrev pub no_cell : Cell
no_cell = record { previous = None; next = None }

abbrev pub no_ends : Ends
no_ends = record { first = None; last = None }

abbrev pub next_in : List Cell → List Ends → ℕ → Option ℕ → Option ℕ
next_in cells ends list None = (slice_index_or ends list no_ends).first
next_in cells ends list (Some item) = (slice_index_or cells item no_cell).next

abbrev pub previous_in : List Cell → List Ends → ℕ → Option ℕ → Option ℕ
previous_in cells ends list None = (slice_index_or ends list no_ends).last
previous_in cells ends list (Some item) = (slice_index_or cells item no_cell).previous

abbrev pub next_at : Links → ℕ → Option ℕ → Option ℕ
next_at links list at = next_in links.cells.items links.ends.items list at

abbrev pub previous_at : Links → ℕ → Option ℕ → Option ℕ
previous_at links list at = previous_in links.cells.items links.ends.items list at

-- the cells and ends hold the lists
abbrev pub Holds : Links → List (List ℕ) → Type 0
Holds links lists = Linked (next_at links) (previous_at links) (vec_len links.ends) (vec_len links.cells) lists
