-- Why a call isn't matched, or isn't complete (docs/CONSOLE.md, "Looks").
use Rattle.std.specs.Prelude.{Bool, ◌&&◌, if◌then◌else◌, List, [], ◌∷◌, map, slice_get, Option, Some}
use Rattle.std.specs.Option.{option_map}
use Rattle.mpd_model.specs.declared.step.CallId.{CallId}
use Rattle.mpd_model.specs.declared.call.CallKind.{CallKind}
use Rattle.mpd_model.specs.declared.call.CallKind.TheVariants as on
use Rattle.mpd_model.specs.script.Program.{Program}
use Rattle.mpd_model.specs.steps.World.{World, Board, is_free, last_call, id_eq}
use Rattle.mpd_model.specs.steps.Next.{waits}
use Rattle.mpd_model.specs.steps.Why.{why}
use Rattle.mpd_names.specs.Placed.{placed_call_of}
use Rattle.mpd_explain.specs.declared.ends.Absence.{Absence}
use Rattle.mpd_explain.specs.declared.why.Partner.{Partner}
use Rattle.mpd_explain.specs.declared.why.Chances.{Chances}
use Rattle.mpd_explain.specs.declared.why.Chances.TheVariants.{NotFree, With, Lonely}
use Rattle.mpd_explain.specs.declared.why.Fit.{Fit}
use Rattle.mpd_explain.specs.declared.why.Why.{Why}
use Rattle.mpd_explain.specs.Ends.{absences}
use Rattle.mpd_explain.specs.Requests.{requests}
use Rattle.mpd_explain.specs.Wishes.{wish_of}

-- a call that fits another, and the call that holds the match back, where one does
abbrev pub partner_of : Program → Board → CallId × Option CallId → Partner
partner_of s b e = record { call = placed_call_of s b e.0; held_by = option_map (placed_call_of s b) e.1 }

abbrev pub chances_by : Program → World → CallId → List (CallId × Option CallId) → Chances
chances_by s w c [] = Lonely (wish_of s w c)
chances_by s w c (e ∷ es) = With (map (partner_of s w.board) (e ∷ es))

-- what a call can be matched with
abbrev pub chances_of : Program → World → CallId → Chances
chances_of s w c = if is_free w.board c then chances_by s w c (why w.board c) else NotFree

abbrev pub fit_of : Program → World → CallId → Fit
fit_of s w c = record { call = c; chances = chances_of s w c }

-- whether a rank is blocked, and its last call is this one
abbrev pub waits_in : World → CallId → Bool
waits_in w c = waits (slice_get w.ranks c.rank) && id_eq (last_call w.board c.rank) c

-- the calls that a wait is for; of a waitany only while its rank waits there, since what a rank has
-- gone on from waits for nothing
abbrev pub awaited_calls : World → CallId → CallKind → List CallId
awaited_calls w c (on.Waitany a) = if waits_in w c then requests w c.rank (Some (on.Waitany a)) else []
awaited_calls w c kind = requests w c.rank (Some kind)

-- the ranks that are not at a barrier, while the call's rank waits there
abbrev pub absent_at : Program → World → CallId → CallKind → List Absence
absent_at s w c on.Barrier = if waits_in w c then absences s w else []
absent_at s w c kind = []

-- why a call of this kind isn't matched, or isn't complete
abbrev pub why_by : Program → World → CallId → CallKind → Why
why_by s w c kind = record { fit = fit_of s w c; requests = map (fit_of s w) (awaited_calls w c kind); absent = absent_at s w c kind }
