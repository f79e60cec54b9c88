-- How many slots each rank holds, as a list of numbers tells it, and what a change adds to one of them.
use Rattle.std.specs.Prelude.{◌≡◌, ℕ, ◌==◌, if◌then◌else◌, Option, Some, List, length, slice_index_or}
use Rattle.mpd_model.specs.declared.call.CallKind.{CallKind}
use Rattle.mpd_model.specs.declared.call.MatchSet.{MatchSet}
use Rattle.mpd_model.specs.declared.call.MatchSet.TheVariants.{Pair}
use Rattle.mpd_model.specs.steps.World.{Board, kind_at, is_buffered, slots_used}

-- how many slots a call holds while no pair names it: one, where it is a send that was buffered
abbrev pub slots_of : Option CallKind → ℕ
slots_of kind = if is_buffered kind then 1 else 0

-- how many the send of a pair held before it
abbrev pub slots_paired : Board → Option MatchSet → ℕ
slots_paired b (Some (Pair s r)) = slots_of (kind_at b s)
slots_paired b set = 0

-- the slots of a rank in a list, 0 where it has none
abbrev pub held_in : List ℕ → ℕ → ℕ
held_in slots p = slice_index_or slots p 0

-- so many of one rank, and none of the others
abbrev pub at_rank : ℕ → ℕ → ℕ → ℕ
at_rank p n q = if q == p then n else 0

-- a list has the slots of each rank
pub record Counted (b : Board) (slots : List ℕ) : Type 0 where
  pub ranks : length slots ≡ length b.calls
  pub held : (p : ℕ) → held_in slots p ≡ slots_used b p
