-- Whom the ranks of a deadlock wait for, and which of them wait for one another.
use Rattle.std.specs.Prelude.{ℕ, zero, suc, Bool, false, not, ◌||◌, ◌==◌, if◌then◌else◌, nat_lt, List, [], ◌∷◌, length, map, slice_get, slice_index_or, Option, Some, None, option_and_then}
use Rattle.std.specs.List.{filter, flat_map, list_all, list_any, range_with_len}
use Rattle.mpd_model.specs.declared.step.CallId.{CallId}
use Rattle.mpd_model.specs.declared.call.CallKind.{CallKind}
use Rattle.mpd_model.specs.declared.call.CallKind.TheVariants.{Send, Recv}
use Rattle.mpd_model.specs.steps.World.{World, Board, kind_at, is_barrier, rank_numbers, last_call}
use Rattle.mpd_model.specs.steps.Next.{is_at_barrier, waits}
use Rattle.mpd_model.specs.runs.Breakpoints.{is_number}
use Rattle.mpd_model.specs.steps.Why.{first_in}
use Rattle.mpd_explain.specs.Requests.{requests}

-- ---- whom a call waits for

-- whether a receive of rank p may get a message of rank q
abbrev pub is_source : ℕ → Option ℕ → ℕ → Bool
is_source p None q = not (p == q)
is_source p (Some named) q = named == q

-- whether a call of rank p is a send to rank q, or a receive that may get a message of it
abbrev pub is_partner : ℕ → Option CallKind → ℕ → Bool
is_partner p (Some (Send s)) q = s.to == q
is_partner p (Some (Recv r)) q = is_source p r.from q
is_partner p kind q = false

-- the same of a call, or of one of those that it is for
abbrev pub is_awaited : Board → CallId → List CallId → ℕ → Bool
is_awaited b c calls q = is_partner c.rank (kind_at b c) q || list_any (λ d. is_partner d.rank (kind_at b d) q) calls

-- those that are not at a barrier
abbrev pub absent : World → List ℕ
absent w = filter (λ q. not (is_at_barrier w q)) (rank_numbers w.board)

-- the ranks that a blocked call waits for
abbrev pub awaited_ranks : World → CallId → List ℕ
awaited_ranks w c = if is_barrier (kind_at w.board c) then absent w else filter (is_awaited w.board c (requests w c.rank (kind_at w.board c))) (rank_numbers w.board)

-- ---- cycles

abbrev pub only : List ℕ → Option ℕ
only (q ∷ []) = Some q
only qs = None

-- the rank that a blocked rank waits for, where it waits for one alone
abbrev pub single : World → ℕ → Option ℕ
single w p = if waits (slice_get w.ranks p) then only (awaited_ranks w (last_call w.board p)) else None

abbrev pub singles : World → List (Option ℕ)
singles w = map (single w) (rank_numbers w.board)

-- where one comes from rank p, going so many times to the rank that is waited for
abbrev pub after : List (Option ℕ) → ℕ → ℕ → Option ℕ
after next p zero = Some p
after next p (suc k) = option_and_then (λ q. slice_index_or next q None) (after next p k)

-- by how many such steps at least one comes back to rank p
abbrev pub round : List (Option ℕ) → ℕ → Option ℕ
round next p = first_in (filter (λ k. is_number (after next p k) p) (range_with_len 1 (length next)))

abbrev pub step_ranks : Option ℕ → List ℕ
step_ranks None = []
step_ranks (Some q) = q ∷ []

-- the ranks from p on, so many
abbrev pub ring : List (Option ℕ) → ℕ → ℕ → List ℕ
ring next p count = flat_map (λ k. step_ranks (after next p k)) (range_with_len 0 count)

abbrev pub is_lowest : ℕ → List ℕ → Bool
is_lowest p qs = list_all (λ q. not (nat_lt q p)) qs

-- the ranks of a cycle, where the first is its lowest
abbrev pub if_lowest : ℕ → List ℕ → Option (List ℕ)
if_lowest p qs = if is_lowest p qs then Some qs else None

abbrev pub cycle_by : List (Option ℕ) → ℕ → Option ℕ → Option (List ℕ)
cycle_by next p None = None
cycle_by next p (Some count) = if_lowest p (ring next p count)

-- the cycle that rank p is on, where it is the lowest of it
abbrev pub cycle : List (Option ℕ) → ℕ → Option (List ℕ)
cycle next p = cycle_by next p (round next p)

abbrev pub listed : Option (List ℕ) → List (List ℕ)
listed None = []
listed (Some qs) = qs ∷ []

-- all cycles of a world, by their lowest ranks
abbrev pub cycles : World → List (List ℕ)
cycles w = flat_map (λ p. listed (cycle (singles w) p)) (rank_numbers w.board)
