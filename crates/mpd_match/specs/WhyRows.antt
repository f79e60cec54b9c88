-- Worked rows: ranks 0 and 1 have each sent one message to rank 2, which waits to receive one of rank 0, and then one of any rank.
use Rattle.std.specs.Prelude.{◌≡◌, pos, true, false, [], ◌∷◌, Some, None, refl}
use Rattle.mpd_model.specs.declared.call.Call.{Call}
use Rattle.mpd_model.specs.declared.call.CallKind.TheVariants.{Send, Recv}
use Rattle.mpd_model.specs.declared.call.Mode.TheVariants.{Rendezvous}
use Rattle.mpd_model.specs.steps.World.{Board, call_id}
use Rattle.mpd_model.specs.steps.Why.{why}

abbrev pub sent_to_2 : Call
sent_to_2 = record { statement = 0; kind = Send (record { to = 2; tag = 7; value = pos 40; synchronous = false; blocks = false; buffered = false }) }

abbrev pub received_of_0 : Call
received_of_0 = record { statement = 1; kind = Recv (record { from = Some 0; tag = Some 7; cell = 0; status = None; blocks = false }) }

abbrev pub received_of_any : Call
received_of_any = record { statement = 2; kind = Recv (record { from = None; tag = None; cell = 1; status = None; blocks = true }) }

abbrev pub two_senders : Board
two_senders = record { mode = Rendezvous; calls = (sent_to_2 ∷ []) ∷ (sent_to_2 ∷ []) ∷ (received_of_0 ∷ received_of_any ∷ []) ∷ []; sets = [] }

-- the named receive takes the message of rank 0 first; that of rank 1 doesn't fit it
pub row_any : why two_senders (call_id 2 1) ≡ (call_id 0 0, Some (call_id 2 0)) ∷ (call_id 1 0, None) ∷ []
row_any = refl

pub row_named : why two_senders (call_id 2 0) ≡ (call_id 0 0, None) ∷ []
row_named = refl

pub row_send : why two_senders (call_id 0 0) ≡ (call_id 2 0, None) ∷ (call_id 2 1, Some (call_id 2 0)) ∷ []
row_send = refl

pub row_no_call : why two_senders (call_id 2 2) ≡ []
row_no_call = refl
