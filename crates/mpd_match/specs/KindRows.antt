-- What the lists of free calls and the counts of writes say of each kind of call. A kind that joins joins the list below.
use Rattle.std.specs.Prelude.{◌≡◌, ℕ, pos, Bool, true, false, map, List, [], ◌∷◌, Option, Some, None, refl}
use Rattle.mpd_model.specs.declared.call.CallKind.{CallKind}
use Rattle.mpd_model.specs.declared.call.CallKind.TheVariants.{Send, Recv, Wait, Waitany, Barrier}
use Rattle.mpd_match.specs.Changes.{issue_writes, unissue_writes}
use Rattle.mpd_match.specs.Lines.{line_of, takes_from}
use Rattle.mpd_match.specs.Picked.{named_source}
use Rattle.mpd_match.specs.Tags.{sent_tag, is_unseen}

-- a send to rank 1, a synchronous one to rank 2, a receive from rank 1, one of any source, a wait, a waitany, a barrier, and where
-- there is no call
abbrev calls : List (Option CallKind)
calls =
    Some (Send (record { to = 1; tag = 2; value = pos 3; synchronous = false; blocks = true; buffered = false }))
    ∷ Some (Send (record { to = 2; tag = 5; value = pos 3; synchronous = true; blocks = false; buffered = false }))
    ∷ Some (Recv (record { from = Some 1; tag = Some 2; cell = 0; status = None; blocks = false }))
    ∷ Some (Recv (record { from = None; tag = None; cell = 4; status = None; blocks = true }))
    ∷ Some (Wait (record { handle = 6; target = Some 5 })) ∷ Some (Waitany (record { first = 6; count = 3; cell = 2; active = true })) ∷ Some Barrier ∷ None ∷ []

pub row_line : map {B = Option ℕ} line_of calls ≡ Some 2 ∷ Some 3 ∷ Some 0 ∷ Some 0 ∷ None ∷ None ∷ None ∷ None ∷ []
row_line = refl

pub row_takes_from : map {B = Bool} (λ k. takes_from k 0) calls ≡ false ∷ false ∷ false ∷ true ∷ false ∷ false ∷ false ∷ false ∷ []
row_takes_from = refl

pub row_named_source : map {B = Option ℕ} named_source calls ≡ None ∷ None ∷ Some 1 ∷ None ∷ None ∷ None ∷ None ∷ None ∷ []
row_named_source = refl

pub row_issue : map {B = ℕ} issue_writes calls ≡ 6 ∷ 6 ∷ 6 ∷ 6 ∷ 2 ∷ 2 ∷ 2 ∷ 0 ∷ []
row_issue = refl

pub row_unissue : map {B = ℕ} unissue_writes calls ≡ 4 ∷ 4 ∷ 4 ∷ 4 ∷ 2 ∷ 2 ∷ 2 ∷ 0 ∷ []
row_unissue = refl

-- tags, of which none is marked; a receive of any source or tag can't be told by them
pub row_tag : map {B = ℕ} sent_tag calls ≡ 2 ∷ 5 ∷ 0 ∷ 0 ∷ 0 ∷ 0 ∷ 0 ∷ 0 ∷ []
row_tag = refl

pub row_unseen : map {B = Bool} (λ k. is_unseen k (0 ∷ [])) calls ≡ false ∷ false ∷ true ∷ false ∷ false ∷ false ∷ false ∷ false ∷ []
row_unseen = refl
