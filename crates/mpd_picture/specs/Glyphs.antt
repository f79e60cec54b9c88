-- What the steps of a run show, each at its row (docs/PICTURES.md, "Rows"): a call that is issued, a match, a release, and what a rank prints or
-- is trapped by each take a row. An `assert` that holds shows nothing.
use Rattle.std.specs.Prelude.{ℕ, ◌+◌, ◌-◌, ℤ, Bool, true, false, ◌||◌, not, ◌==◌, if◌then◌else◌, List, [], ◌∷◌, ◌++◌, length, slice_get, Option, Some, None, is_some}
use Rattle.std.specs.List.{flat_map}
use Rattle.std.specs.Option.{option_map}
use Rattle.mpd_model.specs.declared.step.Step.{Step}
use Rattle.mpd_model.specs.declared.step.Step.TheVariants.{Local, Match, Wake, WakeAny, Release}
use Rattle.mpd_model.specs.declared.call.Mode.{Mode}
use Rattle.mpd_model.specs.declared.call.Activity.{Activity}
use Rattle.mpd_model.specs.declared.call.Activity.TheVariants as activity
use Rattle.mpd_model.specs.script.Program.{Program}
use Rattle.mpd_model.specs.steps.World.{RankWorld, World, Board, call_id, calls_of, last_call, rank_numbers, start}
use Rattle.mpd_model.specs.steps.Next.{next}
use Rattle.mpd_names.specs.Placed.{rank_line}
use Rattle.mpd_picture.specs.declared.glyph.Deed.{Deed}
use Rattle.mpd_picture.specs.declared.glyph.Deed.TheVariants as deed
use Rattle.mpd_picture.specs.declared.glyphs.Before.{Before}
use Rattle.mpd_picture.specs.declared.glyph.Glyph.{Glyph}
use Rattle.mpd_picture.specs.declared.glyph.Event.{Event}
use Rattle.mpd_picture.specs.declared.glyph.Event.TheVariants.{Issued, Paired, WentOn, Released, Noted}

abbrev pub glyph : ℕ → Event → Glyph
glyph row e = record { row = row; event = e }

-- how much a rank has printed
abbrev pub printed_of : Option RankWorld → ℕ
printed_of None = 0
printed_of (Some r) = length r.out

-- Of a rank that runs, before its step: how many calls it had issued, how much it had printed, and the line where it stood.
abbrev pub before_step : List ℕ → World → Step → Before
before_step lines w (Local p) = record { calls = length (calls_of w.board p); printed = printed_of (slice_get w.ranks p); line = rank_line lines (slice_get w.ranks p) }
before_step lines w a = record { calls = 0; printed = 0; line = 0 }

-- Whether a step issues a call: its rank has another number of calls after it.
abbrev pub issues : ℕ → Board → ℕ → Bool
issues before b p = not (before == length (calls_of b p))

-- what a rank has done that had printed so much and now has this of it: it is trapped, or it has printed more
abbrev pub deed_by : Activity → Option ℤ → Option Deed
deed_by (activity.Trapped t) o = Some (deed.Trapped t)
deed_by doing o = option_map deed.Printed o

abbrev pub deed_of : ℕ → Option RankWorld → Option Deed
deed_of printed None = None
deed_of printed (Some r) = deed_by r.activity (slice_get r.out printed)

-- A step that issues a call, prints, traps, matches two calls or releases all ranks takes a row.
abbrev pub takes_row : Before → World → Step → Bool
takes_row before v (Local p) = issues before.calls v.board p || is_some (deed_of before.printed (slice_get v.ranks p))
takes_row before v (Match s r) = true
takes_row before v (Wake p) = false
takes_row before v (WakeAny p i) = false
takes_row before v Release = true

abbrev pub row_behind : Before → World → ℕ → Step → ℕ
row_behind before v row a = if takes_row before v a then row + 1 else row

-- A rank goes on after its last call.
abbrev pub went_on : Board → ℕ → ℕ → List Glyph
went_on b row p = glyph row (WentOn (last_call b p)) ∷ []

-- what a rank has done by itself, at the line where it stood before that
abbrev pub noted : ℕ → ℕ → ℕ → Option Deed → List Glyph
noted line row p None = []
noted line row p (Some d) = glyph row (Noted (record { rank = p; line = line; deed = d })) ∷ []

-- What a step shows, in the state after it, where the next row is this one. A rank that goes on is shown at the row before.
abbrev pub step_glyphs : Before → World → ℕ → Step → List Glyph
step_glyphs before v row (Local p) = if issues before.calls v.board p then glyph row (Issued (call_id p before.calls)) ∷ [] else noted before.line row p (deed_of before.printed (slice_get v.ranks p))
step_glyphs before v row (Match s r) = glyph row (Paired s r) ∷ []
step_glyphs before v row (Wake p) = went_on v.board (row - 1) p
step_glyphs before v row (WakeAny p i) = went_on v.board (row - 1) p
step_glyphs before v row Release = glyph row Released ∷ flat_map (went_on v.board row) (rank_numbers v.board)

abbrev pub led : (World → List Glyph) → Option World → List Glyph
led behind None = []
led behind (Some w) = behind w

-- what steps show from a world on, of a script with these lines, and the next row
abbrev pub glyphs_behind : List ℕ → World → ℕ → List Step → List Glyph
glyphs_behind lines w row [] = []
glyphs_behind lines w row (a ∷ steps) = led (λ v. step_glyphs (before_step lines w a) v row a ++ glyphs_behind lines v (row_behind (before_step lines w a) v row a) steps) (next w a)

-- what the steps of a run show
abbrev pub glyphs_of : Program → Mode → List Step → List Glyph
glyphs_of s mode steps = glyphs_behind s.lines (start s mode) 0 steps
