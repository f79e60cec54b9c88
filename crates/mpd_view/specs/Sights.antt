-- What a view shows of where a trail stands (docs/CONSOLE.md, "A view").
use Rattle.std.specs.Prelude.{◌≡◌, ℕ, Bool, true, false, not, ◌||◌, if◌then◌else◌, List, [], ◌∷◌, Option, Some, None}
use Rattle.std.specs.Option.{unwrap_or}
use Rattle.mpd_model.specs.steps.World.{World}
use Rattle.mpd_model.specs.runs.Trail.{Trail, world_of}
use Rattle.mpd_names.specs.declared.place.Stands.{Stands}
use Rattle.mpd_names.specs.declared.place.Stands.TheVariants as at
use Rattle.mpd_names.specs.Stand.{all_stands, line_of}
use Rattle.mpd_explain.specs.Positions.{position_of}
use Rattle.mpd_session.specs.Held.{Held}
use Rattle.mpd_view.specs.declared.sight.Sight.{Sight}

-- ---- the line that is shown in any case

-- whether a rank that stands so can go on: it runs, or its call is complete
abbrev pub can_go_on : Stands → Bool
can_go_on at.Ended = false
can_go_on (at.At line) = true
can_go_on (at.Waits call) = false
can_go_on (at.CanGoOn call) = true
can_go_on (at.Trapped line t) = false

-- the line of a rank that has not ended; if it is asked for, only if the rank can go on
abbrev pub line_if : Bool → Stands → Option ℕ
line_if only place = if not only || can_go_on place then line_of place else None

abbrev pub or_else : Option ℕ → Option ℕ → Option ℕ
or_else None other = other
or_else (Some n) other = Some n

-- that of the first rank that has one
abbrev pub first_line : Bool → List Stands → Option ℕ
first_line only [] = None
first_line only (place ∷ others) = or_else (line_if only place) (first_line only others)

-- that of the first rank that can go on; else of the first that has not ended; else the first line
abbrev pub focus_of : List Stands → ℕ
focus_of ranks = unwrap_or (or_else (first_line true ranks) (first_line false ranks)) 1

-- ---- the whole

abbrev pub sight_of : Trail → World → Sight
sight_of t w = record { ranks = all_stands t.program w; focus = focus_of (all_stands t.program w); depth = t.depth; position = position_of t w }

-- what a view shows of a session
abbrev pub IsSeen : Held → Sight → Type 0
IsSeen s x = (w : World) × (world_of s.trail ≡ Some w) × (x ≡ sight_of s.trail w)
