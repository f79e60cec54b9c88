-- The free calls of a state, with their places.
use Rattle.std.specs.Prelude.{ℕ, if◌then◌else◌, List, [], ◌∷◌}
use Rattle.std.specs.List.{flat_map}
use Rattle.mpd_model.specs.script.Program.{Program}
use Rattle.mpd_model.specs.steps.World.{Board, call_id, rank_numbers, call_numbers, is_pending, is_posted}
use Rattle.mpd_names.specs.declared.place.PlacedCall.{PlacedCall}
use Rattle.mpd_names.specs.Placed.{placed_call_of}

-- the free sends of rank p to rank q, and all of rank p
abbrev pub pending_at : Program → Board → ℕ → ℕ → ℕ → List PlacedCall
pending_at s b p q i = if is_pending b p q i then placed_call_of s b (call_id p i) ∷ [] else []

abbrev pub pending_to : Program → Board → ℕ → ℕ → List PlacedCall
pending_to s b p q = flat_map (pending_at s b p q) (call_numbers b p)

abbrev pub pending_from : Program → Board → ℕ → List PlacedCall
pending_from s b p = flat_map (pending_to s b p) (rank_numbers b)

abbrev pub pending_calls : Program → Board → List PlacedCall
pending_calls s b = flat_map (pending_from s b) (rank_numbers b)

-- the free receives of a rank
abbrev pub posted_at : Program → Board → ℕ → ℕ → List PlacedCall
posted_at s b q j = if is_posted b q j then placed_call_of s b (call_id q j) ∷ [] else []

abbrev pub posted_of : Program → Board → ℕ → List PlacedCall
posted_of s b q = flat_map (posted_at s b q) (call_numbers b q)

abbrev pub posted_calls : Program → Board → List PlacedCall
posted_calls s b = flat_map (posted_of s b) (rank_numbers b)
