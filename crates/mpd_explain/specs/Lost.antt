-- Requests that are lost: nobody can wait for them any more (docs/CONSOLE.md, "Answers").
use Rattle.std.specs.Prelude.{ℕ, Bool, true, false, ◌&&◌, ◌||◌, ◌==◌, not, if◌then◌else◌, List, [], ◌∷◌, length, slice_get, Option, Some, None}
use Rattle.std.specs.List.{filter, flat_map, list_any}
use Rattle.mpd_model.specs.declared.step.CallId.{CallId}
use Rattle.mpd_model.specs.declared.call.Call.{Call}
use Rattle.mpd_model.specs.declared.call.CallKind.{CallKind}
use Rattle.mpd_model.specs.declared.call.CallKind.TheVariants.{Send, Wait, Waitany}
use Rattle.mpd_model.specs.script.Program.{Program}
use Rattle.mpd_model.specs.steps.World.{RankWorld, World, Board, call_id, call_at, id_eq, kind_at, calls_of, rank_numbers, call_numbers, complete}
use Rattle.mpd_model.specs.steps.Next.{blocks}
use Rattle.mpd_model.specs.steps.Why.{first_in}
use Rattle.mpd_model.specs.runs.Breakpoints.{is_number}
use Rattle.mpd_names.specs.Placed.{issue_line, placed_call_of}
use Rattle.mpd_explain.specs.declared.lost.Loss.{Loss}

-- a call that its rank doesn't wait for as it issues it
abbrev pub is_request : Option CallKind → Bool
is_request None = false
is_request (Some kind) = not (blocks kind)

-- whether a handle of a rank holds the call of this number
abbrev pub is_held : Option RankWorld → ℕ → Bool
is_held None i = false
is_held (Some r) i = list_any (λ h. is_number h i) r.handles

-- the number of the call that a wait is for
abbrev pub target_of : CallKind → Option ℕ
target_of (Wait t) = t.target
target_of kind = None

-- whether one of these calls is a wait for the call of this number
abbrev pub is_waited : List Call → ℕ → Bool
is_waited calls i = list_any (λ (c : Call). is_number (target_of c.kind) i) calls

abbrev pub is_waitany : CallKind → Bool
is_waitany (Waitany a) = true
is_waitany kind = false

-- whether one of these calls is a waitany
abbrev pub has_waitany : List Call → Bool
has_waitany calls = list_any (λ (c : Call). is_waitany c.kind) calls

-- a call that a handle of its rank holds, or that a wait of its rank is for
abbrev pub is_kept : World → CallId → Bool
is_kept w c = is_held (slice_get w.ranks c.rank) c.index || is_waited (calls_of w.board c.rank) c.index

abbrev pub is_send : Option CallKind → Bool
is_send (Some (Send s)) = true
is_send kind = false

-- It is neither. Nothing is left to wait for of a send that is complete; and one that is complete
-- may have been what a waitany went on by.
abbrev pub is_lost : World → CallId → Bool
is_lost w c = is_request (kind_at w.board c) && (not (is_kept w c) && not ((is_send (kind_at w.board c) || has_waitany (calls_of w.board c.rank)) && complete w.board c))

-- ---- one line for all that a rank has lost of one line of the script

-- two calls of one rank and one line
abbrev pub is_beside : Program → Board → CallId → CallId → Bool
is_beside s b c d = (c.rank == d.rank) && (issue_line s.lines (call_at b c) == issue_line s.lines (call_at b d))

abbrev pub is_this : CallId → Option CallId → Bool
is_this c None = false
is_this c (Some d) = id_eq d c

-- the first of some that is beside a call, and how many are
abbrev pub first_beside : Program → Board → CallId → List CallId → Option CallId
first_beside s b c ds = first_in (filter (is_beside s b c) ds)

abbrev pub count_beside : Program → Board → CallId → List CallId → ℕ
count_beside s b c ds = length (filter (is_beside s b c) ds)

-- the requests of the rank and the line of a call
abbrev pub loss_of : Program → Board → List CallId → CallId → Loss
loss_of s b calls c = record { first = placed_call_of s b c; count = count_beside s b c calls }

-- of some calls each line is told at its first, unless one of it was lost before
abbrev pub loss_at : Program → Board → List CallId → List CallId → CallId → List Loss
loss_at s b before calls c = if is_this c (first_beside s b c calls) && not (list_any (is_beside s b c) before) then loss_of s b calls c ∷ [] else []

abbrev pub losses : Program → Board → List CallId → List CallId → List Loss
losses s b before calls = flat_map (loss_at s b before calls) calls

-- those of a rank, in the order of issue
abbrev pub lost_calls_of : World → ℕ → List CallId
lost_calls_of w p = flat_map (λ i. call_id p i ∷ []) (filter (λ i. is_lost w (call_id p i)) (call_numbers w.board p))

-- and those of all ranks
abbrev pub lost_calls : World → List CallId
lost_calls w = flat_map (lost_calls_of w) (rank_numbers w.board)

abbrev pub all_losses : Program → World → List Loss
all_losses s w = losses s w.board [] (lost_calls w)
