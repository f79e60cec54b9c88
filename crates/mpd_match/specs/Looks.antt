-- How many looks it takes to know whether a send and a receive are eligible, and which send of a rank is.
use Rattle.std.specs.Prelude.{ℕ, ◌+◌, Bool, ◌&&◌, cond, nat_lt, Option, Some, None}
use Rattle.std.specs.List.{list_any}
use Rattle.mpd_model.specs.declared.step.CallId.{CallId}
use Rattle.mpd_model.specs.steps.World.{Board, call_id, kind_at, is_free, fits, pending, posted}
use Rattle.mpd_match.specs.Lines.{passed, ahead, takes_from}
use Rattle.mpd_match.specs.Firsts.{first_send}

-- one, and one for each earlier free send, up to the first that fits the receive
abbrev pub send_looks : Board → CallId → CallId → ℕ
send_looks b s r = 1 + passed (λ i. fits b (call_id s.rank i) r) s.index (pending b s.rank r.rank)

-- one, and one for each earlier free receive, up to the first that fits the send
abbrev pub recv_looks : Board → CallId → CallId → ℕ
recv_looks b s r = 1 + passed (λ i. fits b s (call_id r.rank i)) r.index (posted b r.rank)

-- an earlier free send fits the receive
abbrev pub has_earlier_send : Board → CallId → CallId → Bool
has_earlier_send b s r = list_any (λ i. nat_lt i s.index && fits b (call_id s.rank i) r) (pending b s.rank r.rank)

-- none, where the two don't fit or aren't free; and the receives only where no earlier send is in the way
abbrev pub eligible_looks : Board → CallId → CallId → ℕ
eligible_looks b s r = cond (fits b s r && (is_free b s && is_free b r)) (send_looks b s r + cond (has_earlier_send b s r) 0 (recv_looks b s r)) 0

-- one, and one for each free receive ahead of the first that fits the send, where there is a send
abbrev pub behind_looks : Board → CallId → ℕ → Option ℕ → ℕ
behind_looks b r p None = 0
behind_looks b r p (Some i) = 1 + ahead (λ j. fits b (call_id p i) (call_id r.rank j)) (posted b r.rank)

-- none, where it is no free receive or names another source; one, and one for each free send ahead of the first that fits the
-- receive; and what the receives take
abbrev pub candidate_looks : Board → ℕ → CallId → ℕ
candidate_looks b p r = cond (takes_from (kind_at b r) p && is_free b r) (1 + ahead (λ i. fits b (call_id p i) r) (pending b p r.rank) + behind_looks b r p (first_send b p r)) 0
