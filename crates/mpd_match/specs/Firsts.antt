-- The first calls of the lines that fit a call.
use Rattle.std.specs.Prelude.{ℕ, Option}
use Rattle.std.specs.List.{filter}
use Rattle.mpd_model.specs.declared.step.CallId.{CallId}
use Rattle.mpd_model.specs.steps.World.{Board, call_id, fits, pending, posted}
use Rattle.mpd_model.specs.steps.Why.{first_in}

-- the first free send of rank p to the receive's rank that fits the receive
abbrev pub first_send : Board → ℕ → CallId → Option ℕ
first_send b p r = first_in (filter (λ i. fits b (call_id p i) r) (pending b p r.rank))

-- the first free receive of rank q that fits the send
abbrev pub first_recv : Board → CallId → ℕ → Option ℕ
first_recv b s q = first_in (filter (λ j. fits b s (call_id q j)) (posted b q))
