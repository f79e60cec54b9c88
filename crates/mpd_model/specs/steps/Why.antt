-- The free calls that a free call could be matched with, and what holds each back (MPI 4.0, section 3.5).
use Rattle.std.specs.Prelude.{ℕ, ◌&&◌, if◌then◌else◌, nat_lt, List, [], ◌∷◌, map, Option, Some, None}
use Rattle.std.specs.Option.{option_map}
use Rattle.std.specs.List.{filter, flat_map}
use Rattle.mpd_model.specs.declared.step.CallId.{CallId}
use Rattle.mpd_model.specs.declared.call.CallKind.{CallKind}
use Rattle.mpd_model.specs.declared.call.CallKind.TheVariants.{Send, Recv}
use Rattle.mpd_model.specs.steps.World.{Board, call_id, rank_numbers, kind_at, is_free, fits, pending, posted}

abbrev pub first_in : {A : Type 0} → List A → Option A
first_in [] = None
first_in (x ∷ xs) = Some x

abbrev pub or_else : {A : Type 0} → Option A → Option A → Option A
or_else None other = other
or_else (Some x) other = Some x

-- the earliest free send of the same sender to that rank, before this one, that fits the receive
abbrev pub earlier_send : Board → CallId → CallId → Option CallId
earlier_send b s r = option_map (call_id s.rank) (first_in (filter (λ i. nat_lt i s.index && fits b (call_id s.rank i) r) (pending b s.rank r.rank)))

-- the earliest free receive of that rank, before this one, that fits the send
abbrev pub earlier_recv : Board → CallId → CallId → Option CallId
earlier_recv b s r = option_map (call_id r.rank) (first_in (filter (λ i. nat_lt i r.index && fits b s (call_id r.rank i)) (posted b r.rank)))

-- what holds back the match of a free send and a free receive that fit: an earlier send, else an earlier receive; none where they
-- are eligible
abbrev pub holder : Board → CallId → CallId → Option CallId
holder b s r = or_else (earlier_send b s r) (earlier_recv b s r)

-- a send's: the free receives that fit it, by number
abbrev pub why_send : Board → CallId → ℕ → List (CallId × Option CallId)
why_send b s q = map (λ j. (call_id q j, holder b s (call_id q j))) (filter (λ j. fits b s (call_id q j)) (posted b q))

-- a receive's: the free sends of a rank that fit it, by number
abbrev pub why_from : Board → CallId → ℕ → List (CallId × Option CallId)
why_from b r p = map (λ i. (call_id p i, holder b (call_id p i) r)) (filter (λ i. fits b (call_id p i) r) (pending b p r.rank))

abbrev pub why_recv : Board → CallId → List (CallId × Option CallId)
why_recv b r = flat_map (why_from b r) (rank_numbers b)

abbrev pub why_by : Board → CallId → Option CallKind → List (CallId × Option CallId)
why_by b c (Some (Send s)) = why_send b c s.to
why_by b c (Some (Recv r)) = why_recv b c
why_by b c kind = []

-- the free partners that fit a free call, by rank and number, each with the call that holds it back, if one does; of any other call
-- there are none
abbrev pub why : Board → CallId → List (CallId × Option CallId)
why b c = if is_free b c then why_by b c (kind_at b c) else []
