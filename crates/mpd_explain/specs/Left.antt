-- Calls that are left over: sends and receives that are not matched where a run ends.
use Rattle.std.specs.Prelude.{ℕ, Bool, not, ◌&&◌, if◌then◌else◌, List, [], ◌∷◌}
use Rattle.std.specs.List.{flat_map, list_any}
use Rattle.mpd_model.specs.declared.step.CallId.{CallId}
use Rattle.mpd_model.specs.script.Program.{Program}
use Rattle.mpd_model.specs.steps.World.{World, Board, call_id, id_eq, kind_at, rank_numbers, call_numbers, is_free}
use Rattle.mpd_names.specs.declared.place.PlacedCall.{PlacedCall}
use Rattle.mpd_names.specs.Placed.{placed_call_of}
use Rattle.mpd_explain.specs.Requests.{requests}

-- a blocked call, and those that it is for where it is a wait or a waitany
abbrev pub awaited_by : World → CallId → List CallId
awaited_by w c = c ∷ requests w c.rank (kind_at w.board c)

-- the same of several
abbrev pub awaited : World → List CallId → List CallId
awaited w blocked = flat_map (awaited_by w) blocked

abbrev pub is_among : List CallId → CallId → Bool
is_among cs c = list_any (λ d. id_eq d c) cs

-- whether a call is free, and none of those of which something is told
abbrev pub is_left : Board → List CallId → CallId → Bool
is_left b told c = is_free b c && not (is_among told c)

abbrev pub left_with : Program → Board → List CallId → CallId → List PlacedCall
left_with s b told c = if is_left b told c then placed_call_of s b c ∷ [] else []

-- those of a rank, and all, by rank and number
abbrev pub left_at : Program → Board → List CallId → ℕ → List PlacedCall
left_at s b told p = flat_map (λ i. left_with s b told (call_id p i)) (call_numbers b p)

abbrev pub left_beside : Program → Board → List CallId → List PlacedCall
left_beside s b told = flat_map (left_at s b told) (rank_numbers b)
