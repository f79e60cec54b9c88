-- The calls that a wait and a waitany are for.
use Rattle.std.specs.Prelude.{ℕ, List, [], ◌∷◌, take, drop, slice_get, Option, Some, None}
use Rattle.std.specs.List.{flat_map}
use Rattle.mpd_model.specs.declared.step.CallId.{CallId}
use Rattle.mpd_model.specs.declared.call.CallKind.{CallKind}
use Rattle.mpd_model.specs.declared.call.CallKind.TheVariants.{Wait, Waitany}
use Rattle.mpd_model.specs.declared.call.WaitanyCall.{WaitanyCall}
use Rattle.mpd_model.specs.steps.World.{RankWorld, World, call_id}

-- the call of rank p with that number, where there is a number
abbrev pub call_of : ℕ → Option ℕ → List CallId
call_of p None = []
call_of p (Some i) = call_id p i ∷ []

-- what the handles of a waitany hold, on a rank
abbrev pub request_handles : WaitanyCall → Option RankWorld → List (Option ℕ)
request_handles a None = []
request_handles a (Some r) = take a.count (drop a.first r.handles)

-- the calls that a wait and a waitany are for
abbrev pub requests : World → ℕ → Option CallKind → List CallId
requests w p (Some (Wait t)) = call_of p t.target
requests w p (Some (Waitany a)) = flat_map (call_of p) (request_handles a (slice_get w.ranks p))
requests w p kind = []
