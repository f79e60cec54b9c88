-- What a change makes of a board. A call or a match set more is `with_call` and `with_set` of the model.
use Rattle.std.specs.Prelude.{◌≡◌, ℕ, ◌-◌, Bool, true, false, Option, Some, None, length, slice_get, slice_set, take}
use Rattle.mpd_model.specs.declared.step.CallId.{CallId}
use Rattle.mpd_model.specs.declared.call.CallKind.{CallKind}
use Rattle.mpd_model.specs.declared.call.CallKind.TheVariants.{Send, Recv}
use Rattle.mpd_model.specs.declared.call.MatchSet.{MatchSet}
use Rattle.mpd_model.specs.declared.call.MatchSet.TheVariants.{Pair, Woke}
use Rattle.mpd_model.specs.declared.call.MatchSet.TheVariants as set
use Rattle.mpd_model.specs.steps.World.{Board, calls_of, pending, posted}
use Rattle.mpd_queue.specs.InOrder.{next_of}
use Rattle.mpd_match.specs.declared.record.PairRecord.{PairRecord}

-- ---- calls

abbrev pub without_last_call : Board → ℕ → Board
without_last_call b p = record b { calls = slice_set b.calls p (take (length (calls_of b p) - 1) (calls_of b p)) }

-- the call and its partner; and the four links of a line
abbrev pub issue_writes : Option CallKind → ℕ
issue_writes (Some (Send s)) = 6
issue_writes (Some (Recv r)) = 6
issue_writes None = 0
issue_writes kind = 2

-- the same, and two links
abbrev pub unissue_writes : Option CallKind → ℕ
unissue_writes (Some (Send s)) = 4
unissue_writes (Some (Recv r)) = 4
unissue_writes None = 0
unissue_writes kind = 2

-- ---- match sets

abbrev pub without_last_set : Board → Board
without_last_set b = record b { sets = take (length b.sets - 1) b.sets }

abbrev pub last_set : Board → Option MatchSet
last_set b = slice_get b.sets (length b.sets - 1)

-- A match set that pairs no calls. Where it is formed, or taken back, every call keeps its partner and its place.
abbrev pub is_lone : Option MatchSet → Bool
is_lone (Some (Pair s r)) = false
is_lone (Some (Woke c)) = true
is_lone (Some set.Barrier) = true
is_lone None = false

-- where both calls stand in their lists, told by what comes next
abbrev pub record_of_pair : Board → CallId → CallId → PairRecord
record_of_pair b s r = record { send_spot = next_of (pending b s.rank r.rank) s.index; recv_spot = next_of (posted b r.rank) r.index }

-- the match set is a pair, and the record that of its calls on this board
abbrev pub Recorded : Board → PairRecord → Option MatchSet → Type 0
Recorded b done (Some (Pair s r)) = done ≡ record_of_pair b s r
Recorded b done (Some (Woke c)) = ⊥
Recorded b done (Some set.Barrier) = ⊥
Recorded b done None = ⊥

abbrev pub is_woke : Option MatchSet → Bool
is_woke (Some (Pair s r)) = false
is_woke (Some (Woke c)) = true
is_woke (Some set.Barrier) = false
is_woke None = false
