-- What nearly fits a call that waits, and what would have fitted it.
use Rattle.std.specs.Prelude.{ℕ, Bool, true, false, ◌||◌, ◌==◌, if◌then◌else◌, List, [], ◌∷◌, slice_get, Option, Some, None}
use Rattle.std.specs.List.{filter, flat_map, list_any}
use Rattle.mpd_model.specs.declared.step.CallId.{CallId}
use Rattle.mpd_model.specs.declared.call.CallKind.{CallKind}
use Rattle.mpd_model.specs.declared.call.CallKind.TheVariants.{Send, Recv}
use Rattle.mpd_model.specs.declared.call.MatchSet.{MatchSet}
use Rattle.mpd_model.specs.declared.call.MatchSet.TheVariants.{Pair}
use Rattle.mpd_model.specs.steps.World.{World, Board, call_id, id_eq, kind_at, last_call, rank_numbers, call_numbers, is_free, is_any_or, fits}
use Rattle.mpd_model.specs.steps.Next.{waits}
use Rattle.mpd_model.specs.steps.Why.{first_in, or_else}
use Rattle.mpd_explain.specs.Requests.{requests}
use Rattle.mpd_explain.specs.declared.near_miss.Miss.{Miss}
use Rattle.mpd_explain.specs.declared.near_miss.Miss.TheVariants.{Tag, Source, Destination}

-- ---- near misses

-- Of the three that a send and a receive must agree on, exactly one is not so.
abbrev pub miss_of : Bool → Bool → Bool → Option Miss
miss_of true true false = Some Tag
miss_of true false true = Some Source
miss_of false true true = Some Destination
miss_of to from tag = None

-- a send of rank p and a receive of rank q: where the send goes, the receive's source, and the tag
abbrev pub missing : Option CallKind → Option CallKind → ℕ → ℕ → Option Miss
missing (Some (Send s)) (Some (Recv r)) p q = miss_of (s.to == q) (is_any_or r.from p) (is_any_or r.tag s.tag)
missing one other p q = None

-- the same of two calls, of which either may be the send
abbrev pub near_miss : Board → CallId → CallId → Option Miss
near_miss b c e = or_else (missing (kind_at b c) (kind_at b e) c.rank e.rank) (missing (kind_at b e) (kind_at b c) e.rank c.rank)

abbrev pub miss_entry : CallId → Option Miss → List (CallId × Miss)
miss_entry e None = []
miss_entry e (Some m) = (e, m) ∷ []

-- the same of a free call
abbrev pub free_miss : Board → CallId → CallId → Option Miss
free_miss b c e = if is_free b e then near_miss b c e else None

-- a free call that nearly fits this one
abbrev pub misses_with : Board → CallId → CallId → List (CallId × Miss)
misses_with b c e = miss_entry e (free_miss b c e)

-- all of a rank, and all, by rank and number
abbrev pub misses_at : Board → CallId → ℕ → List (CallId × Miss)
misses_at b c p = flat_map (λ i. misses_with b c (call_id p i)) (call_numbers b p)

abbrev pub misses : Board → CallId → List (CallId × Miss)
misses b c = flat_map (misses_at b c) (rank_numbers b)

abbrev pub same_miss : Miss → Miss → Bool
same_miss Tag Tag = true
same_miss Source Source = true
same_miss Destination Destination = true
same_miss m n = false

abbrev pub first_miss : Miss → List (CallId × Miss) → Option (CallId × Miss)
first_miss m ms = first_in (filter (λ e. same_miss m e.1) ms)

-- the first that differs in the tag alone, else in this one thing, else in that one
abbrev pub by_order : Miss → Miss → List (CallId × Miss) → Option (CallId × Miss)
by_order m n ms = or_else (first_miss Tag ms) (or_else (first_miss m ms) (first_miss n ms))

-- calls of the rank that is waited for come before those of others: of that rank are, for a
-- receive, the sends of another destination, and for a send the receives of another source
abbrev pub nearest_of : Option CallKind → List (CallId × Miss) → Option (CallId × Miss)
nearest_of (Some (Recv r)) ms = by_order Destination Source ms
nearest_of kind ms = by_order Source Destination ms

-- a call that its rank waits for from when it issues it, and a send that is buffered
abbrev pub is_at_once : Option CallKind → Bool
is_at_once (Some (Send s)) = s.blocks || s.buffered
is_at_once (Some (Recv r)) = r.blocks
is_at_once kind = false

-- a call that the wait or the waitany is for in which its rank is blocked
abbrev pub is_waited : World → CallId → Bool
is_waited w c = if waits (slice_get w.ranks c.rank) then list_any (λ d. id_eq d c) (requests w c.rank (kind_at w.board (last_call w.board c.rank))) else false

-- any other may be meant for a call that is still to come
abbrev pub is_due : World → CallId → Bool
is_due w c = is_at_once (kind_at w.board c) || is_waited w c

abbrev pub due_entry : World → CallId → Option Miss → List (CallId × Miss)
due_entry w e None = []
due_entry w e (Some m) = if is_due w e then (e, m) ∷ [] else []

abbrev pub due_with : World → CallId → CallId → List (CallId × Miss)
due_with w c e = due_entry w e (free_miss w.board c e)

-- those of a rank that are due, and all, by rank and number
abbrev pub due_at : World → CallId → ℕ → List (CallId × Miss)
due_at w c p = flat_map (λ i. due_with w c (call_id p i)) (call_numbers w.board p)

abbrev pub due : World → CallId → List (CallId × Miss)
due w c = flat_map (due_at w c) (rank_numbers w.board)

-- the nearest of those that are due, else of all
abbrev pub nearest : World → CallId → Option (CallId × Miss)
nearest w c = or_else (nearest_of (kind_at w.board c) (due w c)) (nearest_of (kind_at w.board c) (misses w.board c))

-- ---- what was taken by another

-- the call of a pair that fits this one, with the call that has it
abbrev pub taken_of : Board → CallId → MatchSet → Option (CallId × CallId)
taken_of b c (Pair s r) = if fits b c r then Some (r, s) else (if fits b s c then Some (s, r) else None)
taken_of b c m = None

-- the last of some that are there
abbrev pub last_from : {A : Type 0} → Option A → List (Option A) → Option A
last_from found [] = found
last_from found (o ∷ os) = last_from (or_else o found) os

abbrev pub each_taken : Board → CallId → List MatchSet → List (Option (CallId × CallId))
each_taken b c [] = []
each_taken b c (m ∷ ms) = taken_of b c m ∷ each_taken b c ms

-- the last call that fits this one and was paired with another
abbrev pub taken : Board → CallId → Option (CallId × CallId)
taken b c = last_from None (each_taken b c b.sets)
