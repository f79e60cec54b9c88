-- Why a rank waits (docs/PAGES.md, "States").
use Rattle.std.specs.Prelude.{ℕ, if◌then◌else◌, [], ◌∷◌, map, slice_get, Option, Some, None}
use Rattle.mpd_model.specs.declared.step.CallId.{CallId}
use Rattle.mpd_model.specs.declared.call.CallKind.{CallKind}
use Rattle.mpd_model.specs.declared.call.CallKind.TheVariants.{Send, Recv, Barrier}
use Rattle.mpd_model.specs.steps.World.{World, Board, kind_at, is_done, last_call}
use Rattle.mpd_model.specs.steps.Next.{waits}
use Rattle.mpd_model.specs.steps.Why.{why}
use Rattle.mpd_explain.specs.Requests.{requests}
use Rattle.mpd_explain.specs.Waits.{absent}
use Rattle.mpd_page.specs.declared.reasons.Prospect.{Prospect}
use Rattle.mpd_page.specs.declared.reasons.Prospect.TheVariants.{Complete, Fits}
use Rattle.mpd_page.specs.declared.reasons.Awaited.{Awaited}
use Rattle.mpd_page.specs.declared.reasons.Reason.{Reason}
use Rattle.mpd_page.specs.declared.reasons.Reason.TheVariants.{NoWait, AtBarrier, For}

-- that it is complete, or the calls that it could be matched with, each with the call that holds that back, where one does
abbrev pub prospect : Board → CallId → Prospect
prospect b c = if is_done b c then Complete else Fits (why b c)

-- a send or a receive that is waited for
abbrev pub awaited : Board → CallId → Awaited
awaited b c = record { call = c; prospect = prospect b c }

-- what is waited for by a call: itself, the ranks that aren't at a barrier, or the requests of a wait
abbrev pub waited_by : World → CallId → Option CallKind → Reason
waited_by w c None = For []
waited_by w c (Some (Send s)) = For (awaited w.board c ∷ [])
waited_by w c (Some (Recv r)) = For (awaited w.board c ∷ [])
waited_by w c (Some Barrier) = AtBarrier (absent w)
waited_by w c (Some kind) = For (map (awaited w.board) (requests w c.rank (Some kind)))

-- the call that a rank waits in, and what it is for
abbrev pub waited : World → CallId → Reason
waited w c = waited_by w c (kind_at w.board c)

abbrev pub reason : World → ℕ → Reason
reason w p = if waits (slice_get w.ranks p) then waited w (last_call w.board p) else NoWait
