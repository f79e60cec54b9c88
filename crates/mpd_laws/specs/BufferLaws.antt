-- When a send is done, and how many buffers are taken, in every run (MPI 4.0, section 3.4).
use Rattle.std.specs.Prelude.{◌≡◌, ◌≤◌, ℕ, Bool, true, false, ◌&&◌, ◌||◌, not, List, length, Option, Some, is_some, is_none}
use Rattle.std.specs.List.{filter}
use Rattle.mpd_model.specs.declared.call.CallKind.{CallKind}
use Rattle.mpd_model.specs.declared.call.CallKind.TheVariants.{Send}
use Rattle.mpd_model.specs.declared.call.Mode.{Mode}
use Rattle.mpd_model.specs.declared.call.Mode.TheVariants.{Rendezvous, Buffered, Slots}
use Rattle.mpd_model.specs.declared.call.SendCall.{SendCall}
use Rattle.mpd_model.specs.declared.step.CallId.{CallId}
use Rattle.mpd_model.specs.declared.step.Step.{Step}
use Rattle.mpd_model.specs.script.Program.{Program}
use Rattle.mpd_model.specs.steps.World.{World, Board, start, call_id, call_numbers, kind_at, partner, is_done, is_limited, slots_used}
use Rattle.mpd_model.specs.steps.Next.{fold}

-- the mode that buffers every standard send
abbrev pub buffers_all : Mode → Bool
buffers_all Buffered = true
buffers_all mode = false

-- In every world that steps lead to, a send is done where it is paired, or where it is a standard one and the mode buffers them all. Of a
-- mode whose buffers run out this isn't so: there, which sends got one depends on what was matched before.
abbrev pub SendsAreDoneByMatchOrMode : Type 0
SendsAreDoneByMatchOrMode =
    (s : Program) (mode : Mode) (steps : List Step) (w : World) → fold (start s mode) steps ≡ Some w → is_limited mode ≡ false
    → (c : CallId) (send : SendCall) → kind_at w.board c ≡ Some (Send send)
    → is_done w.board c ≡ (is_some (partner w.board.sets c) || (buffers_all w.board.mode && not send.synchronous))

-- There, a synchronous send is never done before its match.
abbrev pub SynchronousSendsAwaitTheirMatch : Type 0
SynchronousSendsAwaitTheirMatch =
    (s : Program) (mode : Mode) (steps : List Step) (w : World) → fold (start s mode) steps ≡ Some w
    → (c : CallId) (send : SendCall) → kind_at w.board c ≡ Some (Send send) → send.synchronous ≡ true
    → is_done w.board c ≡ is_some (partner w.board.sets c)

-- No rank ever holds more slots than there are.
abbrev pub SlotsAreNeverExceeded : Type 0
SlotsAreNeverExceeded = (s : Program) (count : ℕ) (steps : List Step) (w : World) → fold (start s (Slots count)) steps ≡ Some w → (p : ℕ) → slots_used w.board p ≤ count

-- In rendezvous no rank ever holds one.
abbrev pub NoSlotIsHeldInRendezvous : Type 0
NoSlotIsHeldInRendezvous = (s : Program) (steps : List Step) (w : World) → fold (start s Rendezvous) steps ≡ Some w → (p : ℕ) → slots_used w.board p ≡ 0

-- a standard send that no pair names
abbrev pub is_standard : Option CallKind → Bool
is_standard (Some (Send s)) = not s.synchronous
is_standard kind = false

abbrev pub is_free_standard : Board → CallId → Bool
is_free_standard b c = is_standard (kind_at b c) && is_none (partner b.sets c)

-- In the mode that buffers all, a rank holds one for each of its standard sends that no pair names.
abbrev pub EachFreeStandardSendHoldsOne : Type 0
EachFreeStandardSendHoldsOne =
    (s : Program) (steps : List Step) (w : World) → fold (start s Buffered) steps ≡ Some w
    → (p : ℕ) → slots_used w.board p ≡ length (filter (λ i. is_free_standard w.board (call_id p i)) (call_numbers w.board p))
