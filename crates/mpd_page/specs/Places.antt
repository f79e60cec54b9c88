-- Where a rank stands (docs/PAGES.md, "States").
use Rattle.std.specs.Prelude.{ℕ, Option, Some, None}
use Rattle.mpd_model.specs.script.Program.{Program}
use Rattle.mpd_model.specs.steps.World.{World}
use Rattle.mpd_names.specs.declared.place.Stands.{Stands}
use Rattle.mpd_names.specs.declared.place.Stands.TheVariants as at
use Rattle.mpd_names.specs.Stand.{stands_of}
use Rattle.mpd_page.specs.declared.places.Doing.{Doing}
use Rattle.mpd_page.specs.declared.places.Doing.TheVariants.{Runs, Blocked, Trapped, Ended}
use Rattle.mpd_page.specs.declared.places.RankPlace.{RankPlace}

abbrev pub on_line : ℕ → Doing → RankPlace
on_line line doing = record { line = line; doing = doing }

-- before the start a rank is at line 0
abbrev pub nowhere : RankPlace
nowhere = on_line 0 Runs

-- the line of the next statement, of the call that it waits in, or of the statement that trapped it; one that has ended is at line 0
abbrev pub place_of : Option Stands → RankPlace
place_of None = nowhere
place_of (Some at.Ended) = on_line 0 Ended
place_of (Some (at.At line)) = on_line line Runs
place_of (Some (at.Waits call)) = on_line call.line Blocked
place_of (Some (at.CanGoOn call)) = on_line call.line Blocked
place_of (Some (at.Trapped line t)) = on_line line (Trapped t)

abbrev pub place : Program → World → ℕ → RankPlace
place s w p = place_of (stands_of s w p)
