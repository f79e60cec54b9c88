-- How a run has ended, where no step is enabled.
use Rattle.std.specs.Prelude.{ℕ, Bool, true, false, if◌then◌else◌, List, [], ◌∷◌, map, slice_get, Option, Some, None}
use Rattle.std.specs.List.{filter, flat_map, list_any, list_all}
use Rattle.std.specs.Option.{unwrap_or}
use Rattle.mpd_model.specs.declared.step.CallId.{CallId}
use Rattle.mpd_model.specs.declared.call.Activity.{Activity}
use Rattle.mpd_model.specs.declared.call.Activity.TheVariants.{Running, Blocked, Trapped}
use Rattle.mpd_model.specs.declared.call.Call.{Call}
use Rattle.mpd_model.specs.declared.outcome.IssuedCall.{IssuedCall}
use Rattle.mpd_model.specs.declared.outcome.TrappedRank.{TrappedRank}
use Rattle.mpd_model.specs.declared.outcome.Outcome.{Outcome}
use Rattle.mpd_model.specs.declared.outcome.Outcome.TheVariants.{Done, Leftovers, Deadlock, Trap}
use Rattle.mpd_model.specs.script.Tree.{Tree}
use Rattle.mpd_model.specs.steps.World.{RankWorld, World, Board, call_id, call_at, rank_numbers, call_numbers, is_free, last_call}
use Rattle.mpd_model.specs.steps.Next.{steps_of, is_enabled, is_blocked}

abbrev pub no_statement : List (ℕ × Tree) → Bool
no_statement [] = true
no_statement (t ∷ ts) = false

-- the number of the next statement
abbrev pub first_number : List (ℕ × Tree) → Option ℕ
first_number [] = None
first_number (t ∷ ts) = Some t.0

-- a running rank with no statement left
abbrev pub ended_by : Activity → List (ℕ × Tree) → Bool
ended_by Running rest = no_statement rest
ended_by Blocked rest = false
ended_by (Trapped t) rest = false

abbrev pub has_ended : RankWorld → Bool
has_ended r = ended_by r.activity r.rest

-- A trapped rank stands at the statement that trapped it, so it has one; without one it would be told as the first.
abbrev pub trap_by : ℕ → Option ℕ → Activity → List TrappedRank
trap_by p n Running = []
trap_by p n Blocked = []
trap_by p n (Trapped t) = record { rank = p; statement = unwrap_or n 0; trap = t } ∷ []

abbrev pub traps_at : ℕ → Option RankWorld → List TrappedRank
traps_at p None = []
traps_at p (Some r) = trap_by p (first_number r.rest) r.activity

-- A call with the number of the statement that issued it; one that there isn't would be told as the first's, and none such is told.
abbrev pub statement_of : Option Call → ℕ
statement_of None = 0
statement_of (Some c) = c.statement

abbrev pub issued_by : ℕ → CallId → IssuedCall
issued_by number c = record { id = c; statement = number }

abbrev pub issued_call : Board → CallId → IssuedCall
issued_call b c = issued_by (statement_of (call_at b c)) c

abbrev pub ids_of : List IssuedCall → List CallId
ids_of calls = map (λ (c : IssuedCall). c.id) calls

-- the trapped ranks, the blocked calls and the free calls, by rank and number
abbrev pub traps_in : World → List TrappedRank
traps_in w = flat_map (λ p. traps_at p (slice_get w.ranks p)) (rank_numbers w.board)

abbrev pub blocked_at : World → ℕ → Option RankWorld → List IssuedCall
blocked_at w p None = []
blocked_at w p (Some r) = if is_blocked r.activity then issued_call w.board (last_call w.board p) ∷ [] else []

abbrev pub blocked_calls : World → List IssuedCall
blocked_calls w = flat_map (λ p. blocked_at w p (slice_get w.ranks p)) (rank_numbers w.board)

abbrev pub free_of : Board → ℕ → List IssuedCall
free_of b p = map (λ i. issued_call b (call_id p i)) (filter (λ i. is_free b (call_id p i)) (call_numbers b p))

abbrev pub free_calls : Board → List IssuedCall
free_calls b = flat_map (free_of b) (rank_numbers b)

-- the first of trap, done, leftovers and deadlock that holds
abbrev pub ended_with : List IssuedCall → Outcome
ended_with [] = Done
ended_with (c ∷ cs) = Leftovers (c ∷ cs)

abbrev pub untrapped : World → Outcome
untrapped w = if list_all has_ended w.ranks then ended_with (free_calls w.board) else Deadlock (blocked_calls w)

abbrev pub ending_by : World → List TrappedRank → Outcome
ending_by w [] = untrapped w
ending_by w (t ∷ ts) = Trap (t ∷ ts)

abbrev pub ending : World → Outcome
ending w = ending_by w (traps_in w)

abbrev pub is_stuck : World → Bool
is_stuck w = if list_any (is_enabled w) (steps_of w) then false else true

abbrev pub outcome : World → Option Outcome
outcome w = if is_stuck w then Some (ending w) else None
