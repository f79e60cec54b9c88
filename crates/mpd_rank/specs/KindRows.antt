-- What is asked of the tag of each kind of call. A kind that joins joins the list below.
use Rattle.std.specs.Prelude.{◌≡◌, ◌<◌, pos, true, false, map, List, [], ◌∷◌, Option, Some, None, refl}
use Rattle.mpd_model.specs.declared.limits.TheConstants.{TAGS}
use Rattle.mpd_model.specs.declared.call.CallKind.{CallKind}
use Rattle.mpd_model.specs.declared.call.CallKind.TheVariants.{Send, Recv, Wait, Waitany, Barrier}
use Rattle.mpd_rank.specs.Plans.{HasTag}

-- a send, a synchronous one, a receive of a tag, one of any, a wait, a waitany, a barrier, and where there is no call
abbrev calls : List (Option CallKind)
calls =
    Some (Send (record { to = 1; tag = 2; value = pos 3; synchronous = false; blocks = true; buffered = false }))
    ∷ Some (Send (record { to = 2; tag = 5; value = pos 3; synchronous = true; blocks = false; buffered = false }))
    ∷ Some (Recv (record { from = Some 1; tag = Some 2; cell = 0; status = None; blocks = false }))
    ∷ Some (Recv (record { from = None; tag = None; cell = 4; status = None; blocks = true }))
    ∷ Some (Wait (record { handle = 6; target = Some 5 })) ∷ Some (Waitany (record { first = 6; count = 3; cell = 2; active = true })) ∷ Some Barrier ∷ None ∷ []

pub row_tag : map {B = Type 0} HasTag calls ≡ (2 < TAGS) ∷ (5 < TAGS) ∷ Unit {0} ∷ Unit {0} ∷ Unit {0} ∷ Unit {0} ∷ Unit {0} ∷ Unit {0} ∷ []
row_tag = refl
