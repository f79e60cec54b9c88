-- A script that is read again: what is kept of a session, and the session that begins anew with it.
use Rattle.std.specs.Prelude.{ℕ, suc, ◌+◌, Bool, true, false, if◌then◌else◌, List, [], ◌∷◌, length, flat_map, Option, Some, None, option_and_then}
use Rattle.std.specs.List.{range_with_len}
use Rattle.mpd_model.specs.declared.limits.TheConstants.{BREAKS_MAX}
use Rattle.mpd_model.specs.declared.breakpoint.Breakpoint.{Breakpoint}
use Rattle.mpd_model.specs.declared.breakpoint.Breakpoint.TheVariants as on
use Rattle.mpd_model.specs.declared.step.Step.{Step}
use Rattle.mpd_model.specs.script.Declaration.{Declared}
use Rattle.mpd_model.specs.script.Program.{Program}
use Rattle.mpd_model.specs.runs.Breakpoints.{break_at}
use Rattle.mpd_session.specs.declared.request.Command.{Command}
use Rattle.mpd_session.specs.declared.request.Command.TheVariants as command
use Rattle.mpd_session.specs.declared.reply.Reply.{Reply}
use Rattle.mpd_session.specs.declared.reply.Reply.TheVariants as reply
use Rattle.mpd_session.specs.Held.{Held}
use Rattle.mpd_session.specs.Respond.{respond}
use Rattle.mpd_console.specs.declared.told.First.{First}
use Rattle.mpd_console.specs.declared.told.First.TheVariants as first
use Rattle.mpd_console.specs.declared.told.Numbered.{Numbered}
use Rattle.mpd_console.specs.Elsewhere.{break_again}
use Rattle.mpd_console.specs.Says.{asking}

-- ---- breakpoints, as the script that is read again has their names

abbrev pub place_again : List Declared → Program → Option Breakpoint → Option Breakpoint
place_again ds s p = option_and_then (break_again ds s) p

-- all places, by number
abbrev pub places_again : List Declared → Program → List (Option Breakpoint) → List (Option Breakpoint)
places_again ds s places = flat_map (λ n. place_again ds s (break_at places n) ∷ []) (range_with_len 0 BREAKS_MAX)

-- those that can't be set there, as the script has them that was
abbrev pub lost_by : ℕ → Breakpoint → Option Breakpoint → List Numbered
lost_by n b None = record { number = n; stop = b } ∷ []
lost_by n b (Some c) = []

abbrev pub lost_at : List Declared → Program → ℕ → Option Breakpoint → List Numbered
lost_at ds s n None = []
lost_at ds s n (Some b) = lost_by n b (break_again ds s b)

abbrev pub lost_again : List Declared → Program → List (Option Breakpoint) → List Numbered
lost_again ds s places = flat_map (λ n. lost_at ds s n (break_at places n)) (range_with_len 0 BREAKS_MAX)

-- ---- the session that begins anew

-- a session that was asked something, whatever it has replied
abbrev pub asked : Held → Command → Held
asked s c = (respond s (asking c)).1

-- A session sets a breakpoint in the lowest place that is free. So that each comes to its own place, one of rank 0 stands in a place
-- that is to be free, until all are set.
abbrev pub or_filler : Option Breakpoint → Breakpoint
or_filler None = on.Rank 0
or_filler (Some b) = b

abbrev pub filled : Held → List (Option Breakpoint) → Held
filled s [] = s
filled s (p ∷ places) = filled (asked s (command.Break (or_filler p))) places

abbrev pub freed : Held → ℕ → Option Breakpoint → Held
freed s n None = asked s (command.Unbreak n)
freed s n (Some b) = s

abbrev pub all_freed : Held → ℕ → List (Option Breakpoint) → Held
all_freed s n [] = s
all_freed s n (p ∷ places) = all_freed (freed s n p) (n + 1) places

abbrev pub with_breaks : Held → List (Option Breakpoint) → Held
with_breaks s places = all_freed (filled s places) 0 places

-- Steps are taken one after another, as far as they fit: up to the first that the session refuses.
abbrev pub is_done : Reply → Bool
is_done (reply.Done v a) = true
is_done (reply.Refused r) = false

abbrev pub does : Held → Command → Bool
does s c = is_done (respond s (asking c)).0

abbrev pub fits : Held → Step → Bool
fits s a = does s (command.Step a)

abbrev pub fitting : Held → List Step → ℕ
fitting s [] = 0
fitting s (a ∷ steps) = if fits s a then suc (fitting (asked s (command.Step a)) steps) else 0

abbrev pub retaken : Held → List Step → Held
retaken s [] = s
retaken s (a ∷ steps) = if fits s a then retaken (asked s (command.Step a)) steps else asked s (command.Step a)

-- a session that has these breakpoints again, and has taken these steps again as far as they fit
abbrev pub gone_again : Held → List (Option Breakpoint) → List Step → Held
gone_again s places steps = retaken (with_breaks s places) steps

-- ---- what is told: how many steps are taken again, of how many

abbrev pub told_again : Held → List (Option Breakpoint) → List Step → First
told_again s places steps = first.Again (fitting (with_breaks s places) steps) (length steps)
