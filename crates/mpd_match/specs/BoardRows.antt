-- Worked rows: rank 0 has sent 40 and 41 to rank 1, which waits to receive one of them. The first is paired, and free again.
use Rattle.std.specs.Prelude.{◌≡◌, ℤ, pos, false, true, [], ◌∷◌, Some, None, refl}
use Rattle.mpd_model.specs.declared.call.Call.{Call}
use Rattle.mpd_model.specs.declared.call.CallKind.TheVariants.{Send, Recv}
use Rattle.mpd_model.specs.declared.call.Mode.TheVariants.{Rendezvous}
use Rattle.mpd_model.specs.declared.call.MatchSet.TheVariants.{Pair}
use Rattle.mpd_model.specs.steps.World.{Board, start_board, call_id, pending, posted, eligible}
use Rattle.mpd_model.specs.steps.Next.{with_call, with_set}
use Rattle.mpd_match.specs.Changes.{without_last_call, without_last_set, last_set, record_of_pair}
use Rattle.mpd_match.specs.Looks.{eligible_looks}

abbrev pub sent : ℤ → Call
sent value = record { statement = 0; kind = Send (record { to = 1; tag = 7; value = value; synchronous = false; blocks = false; buffered = false }) }

abbrev pub received : Call
received = record { statement = 1; kind = Recv (record { from = Some 0; tag = Some 7; cell = 0; status = None; blocks = true }) }

abbrev pub two_messages : Board
two_messages = record { mode = Rendezvous; calls = (sent (pos 40) ∷ sent (pos 41) ∷ []) ∷ (received ∷ []) ∷ []; sets = [] }

abbrev pub one_paired : Board
one_paired = record { mode = Rendezvous; calls = (sent (pos 40) ∷ sent (pos 41) ∷ []) ∷ (received ∷ []) ∷ []; sets = Pair (call_id 0 0) (call_id 1 0) ∷ [] }

pub row_issued : with_call (with_call (with_call (start_board 2 Rendezvous) 0 (sent (pos 40))) 0 (sent (pos 41))) 1 received ≡ two_messages
row_issued = refl

pub row_unissued : (without_last_call two_messages 0).calls ≡ (sent (pos 40) ∷ []) ∷ (received ∷ []) ∷ []
row_unissued = refl

pub row_first : eligible two_messages (call_id 0 0) (call_id 1 0) ≡ true
row_first = refl

pub row_overtaken : eligible two_messages (call_id 0 1) (call_id 1 0) ≡ false
row_overtaken = refl

-- a look at each line; and one where an earlier send is in the way
pub row_looks : eligible_looks two_messages (call_id 0 0) (call_id 1 0) ≡ 2
row_looks = refl

pub row_looks_overtaken : eligible_looks two_messages (call_id 0 1) (call_id 1 0) ≡ 1
row_looks_overtaken = refl

pub row_spots : record_of_pair two_messages (call_id 0 0) (call_id 1 0) ≡ record { send_spot = Some 1; recv_spot = None }
row_spots = refl

pub row_paired : with_set two_messages (Pair (call_id 0 0) (call_id 1 0)) ≡ one_paired
row_paired = refl

pub row_last : last_set one_paired ≡ Some (Pair (call_id 0 0) (call_id 1 0))
row_last = refl

pub row_unpaired : without_last_set one_paired ≡ two_messages
row_unpaired = refl

pub row_lines : pending one_paired 0 1 ≡ 1 ∷ []
row_lines = refl

pub row_no_receive : posted one_paired 1 ≡ []
row_no_receive = refl
