-- How a rank is at the end of a run, and whom it waits for.
use Rattle.std.specs.Prelude.{ℕ, Bool, if◌then◌else◌, List, [], ◌∷◌, Option, Some, None}
use Rattle.std.specs.List.{flat_map}
use Rattle.mpd_model.specs.declared.call.CallKind.{CallKind}
use Rattle.mpd_model.specs.declared.call.CallKind.TheVariants.{Send, Recv, Wait, Barrier}
use Rattle.mpd_model.specs.script.Program.{Program}
use Rattle.mpd_model.specs.steps.World.{World, Board, call_id, kind_at, rank_numbers}
use Rattle.mpd_model.specs.steps.Next.{is_at_barrier}
use Rattle.mpd_model.specs.steps.Outcomes.{is_stuck}
use Rattle.mpd_names.specs.declared.place.PlacedCall.{PlacedCall}
use Rattle.mpd_names.specs.declared.place.Stands.{Stands}
use Rattle.mpd_names.specs.declared.place.Stands.TheVariants as at
use Rattle.mpd_names.specs.Stand.{stands_of}
use Rattle.mpd_picture.specs.declared.ends.Finish.{Finish}
use Rattle.mpd_picture.specs.declared.ends.Finish.TheVariants as finish
use Rattle.mpd_picture.specs.declared.ends.Wanted.{Wanted}
use Rattle.mpd_picture.specs.declared.ends.Wanted.TheVariants as wanted

-- ---- whom a rank waits for

-- those that are not at a barrier
abbrev pub absent_at : World → ℕ → List ℕ
absent_at w q = if is_at_barrier w q then [] else q ∷ []

abbrev pub absent : World → List ℕ
absent w = flat_map (absent_at w) (rank_numbers w.board)

-- a barrier is for the one that isn't there, if that is one
abbrev pub for_absent : List ℕ → Wanted
for_absent (q ∷ []) = wanted.Rank q
for_absent qs = wanted.AllRanks

abbrev pub for_source : Option ℕ → Wanted
for_source None = wanted.AnyRank
for_source (Some q) = wanted.Rank q

-- whom a call is for
abbrev pub wanted_by : World → Option CallKind → Wanted
wanted_by w (Some (Send s)) = wanted.Rank s.to
wanted_by w (Some (Recv r)) = for_source r.from
wanted_by w (Some Barrier) = for_absent (absent w)
wanted_by w kind = wanted.Request

-- the call of a rank with that number, if it is one
abbrev pub target_kind : Board → ℕ → Option ℕ → Option CallKind
target_kind b p None = None
target_kind b p (Some i) = kind_at b (call_id p i)

-- what a rank that is in such a call waits for: of a wait the call that it is for
abbrev pub wanted_kind : Board → ℕ → Option CallKind → Option CallKind
wanted_kind b p (Some (Wait t)) = target_kind b p t.target
wanted_kind b p kind = kind

abbrev pub wanted_of : World → PlacedCall → Wanted
wanted_of w c = wanted_by w (wanted_kind w.board c.call.rank c.kind)

-- ---- how a rank is

-- A rank that is blocked has stopped where no step of any rank is enabled; else it waits.
abbrev pub waiting : Bool → ℕ → Wanted → Finish
waiting stuck line whom = if stuck then finish.Blocked line whom else finish.Held line whom

abbrev pub finish_by : World → Option Stands → Finish
finish_by w None = finish.Ended
finish_by w (Some at.Ended) = finish.Ended
finish_by w (Some (at.At line)) = finish.Running line
finish_by w (Some (at.Waits c)) = waiting (is_stuck w) c.line (wanted_of w c)
finish_by w (Some (at.CanGoOn c)) = waiting (is_stuck w) c.line (wanted_of w c)
finish_by w (Some (at.Trapped line t)) = finish.Trapped line t

-- how a rank is, and at which line of the script
abbrev pub finish_of : Program → World → ℕ → Finish
finish_of s w p = finish_by w (stands_of s w p)
