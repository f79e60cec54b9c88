-- What each kind of call may wait for. A kind that joins joins the list below.
use Rattle.std.specs.Prelude.{◌≡◌, pos, Bool, true, false, map, List, [], ◌∷◌, ◌++◌, Option, Some, None, refl}
use Rattle.mpd_model.specs.declared.step.CallId.{CallId}
use Rattle.mpd_model.specs.declared.call.Activity.TheVariants.{Blocked}
use Rattle.mpd_model.specs.declared.call.CallKind.{CallKind}
use Rattle.mpd_model.specs.declared.call.CallKind.TheVariants.{Send, Recv, Wait, Waitany, Barrier}
use Rattle.mpd_model.specs.declared.call.Mode.TheVariants.{Rendezvous}
use Rattle.mpd_model.specs.steps.World.{World, call_id}
use Rattle.mpd_explain.specs.declared.near_miss.Miss.{Miss}
use Rattle.mpd_explain.specs.declared.near_miss.Miss.TheVariants.{Tag, Source, Destination}
use Rattle.mpd_explain.specs.Requests.{requests}
use Rattle.mpd_explain.specs.Missed.{missing, nearest_of, is_at_once}
use Rattle.mpd_explain.specs.Waits.{is_partner}

-- a send to rank 1, a synchronous one to rank 2, a receive from rank 1, one of any source, a wait,
-- a waitany, a barrier, and where there is no call
abbrev calls : List (Option CallKind)
calls =
    Some (Send (record { to = 1; tag = 2; value = pos 3; synchronous = false; blocks = true; buffered = false }))
    ∷ Some (Send (record { to = 2; tag = 5; value = pos 3; synchronous = true; blocks = false; buffered = false }))
    ∷ Some (Recv (record { from = Some 1; tag = Some 2; cell = 0; status = None; blocks = false }))
    ∷ Some (Recv (record { from = None; tag = None; cell = 4; status = None; blocks = true }))
    ∷ Some (Wait (record { handle = 6; target = Some 5 })) ∷ Some (Waitany (record { first = 1; count = 3; cell = 2; active = true })) ∷ Some Barrier ∷ None ∷ []

-- the handles of rank 0, of which the second and the fourth hold calls
abbrev here : World
here = record {
  ranks = record { rest = []; vars = []; handles = Some 8 ∷ Some 4 ∷ None ∷ Some 7 ∷ Some 9 ∷ []; out = []; activity = Blocked } ∷ [];
  board = record { mode = Rendezvous; calls = [] ∷ []; sets = [] };
}

pub row_requests : map {B = List CallId} (requests here 0) calls ≡ [] ∷ [] ∷ [] ∷ [] ∷ (call_id 0 5 ∷ []) ∷ (call_id 0 4 ∷ call_id 0 7 ∷ []) ∷ [] ∷ [] ∷ []
row_requests = refl

-- each with a receive of rank 1 that names rank 2, as a send of rank 0; and a send of rank 1 with
-- each, as a receive of rank 3
abbrev first_send : Option CallKind
first_send = Some (Send (record { to = 1; tag = 2; value = pos 3; synchronous = false; blocks = true; buffered = false }))

abbrev from_two : Option CallKind
from_two = Some (Recv (record { from = Some 2; tag = Some 2; cell = 0; status = None; blocks = false }))

pub row_missing : map {B = Option Miss} (λ k. missing k from_two 0 1) calls ≡ Some Source ∷ None ∷ None ∷ None ∷ None ∷ None ∷ None ∷ None ∷ []
row_missing = refl

pub row_missed : map {B = Option Miss} (λ k. missing first_send k 1 3) calls ≡ None ∷ None ∷ Some Destination ∷ Some Destination ∷ None ∷ None ∷ None ∷ None ∷ []
row_missed = refl

pub row_tag : missing (Some (Send (record { to = 1; tag = 5; value = pos 3; synchronous = false; blocks = true; buffered = false }))) from_two 2 1 ≡ Some Tag
row_tag = refl

-- two that differ in the source, and between these one that differs in the destination; and then
-- one that differs in the tag
abbrev some : List (CallId × Miss)
some = (call_id 0 0, Source) ∷ (call_id 0 1, Destination) ∷ (call_id 1 0, Source) ∷ []

pub row_nearest : map {B = Option (CallId × Miss)} (λ k. nearest_of k some) calls
    ≡ Some (call_id 0 0, Source) ∷ Some (call_id 0 0, Source) ∷ Some (call_id 0 1, Destination) ∷ Some (call_id 0 1, Destination) ∷ Some (call_id 0 0, Source) ∷ Some (call_id 0 0, Source) ∷ Some (call_id 0 0, Source) ∷ Some (call_id 0 0, Source) ∷ []
row_nearest = refl

pub row_tag_first : map {B = Option (CallId × Miss)} (λ k. nearest_of k (some ++ (call_id 2 0, Tag) ∷ (call_id 2 1, Tag) ∷ [])) calls
    ≡ Some (call_id 2 0, Tag) ∷ Some (call_id 2 0, Tag) ∷ Some (call_id 2 0, Tag) ∷ Some (call_id 2 0, Tag) ∷ Some (call_id 2 0, Tag) ∷ Some (call_id 2 0, Tag) ∷ Some (call_id 2 0, Tag) ∷ Some (call_id 2 0, Tag) ∷ []
row_tag_first = refl

pub row_at_once : map {B = Bool} is_at_once calls ≡ true ∷ false ∷ false ∷ true ∷ false ∷ false ∷ false ∷ false ∷ []
row_at_once = refl

pub row_buffered : is_at_once (Some (Send (record { to = 1; tag = 2; value = pos 3; synchronous = false; blocks = false; buffered = true }))) ≡ true
row_buffered = refl

-- whether a call of rank 0 waits for rank 1, and for rank 0
pub row_partner : map {B = Bool} (λ k. is_partner 0 k 1) calls ≡ true ∷ false ∷ true ∷ true ∷ false ∷ false ∷ false ∷ false ∷ []
row_partner = refl

pub row_itself : map {B = Bool} (λ k. is_partner 0 k 0) calls ≡ false ∷ false ∷ false ∷ false ∷ false ∷ false ∷ false ∷ false ∷ []
row_itself = refl
