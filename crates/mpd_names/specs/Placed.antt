-- Where calls and ranks stand in a script.
use Rattle.std.specs.Prelude.{ℕ, List, Option, Some, None, slice_index_or}
use Rattle.mpd_model.specs.declared.step.CallId.{CallId}
use Rattle.mpd_model.specs.declared.call.Call.{Call}
use Rattle.mpd_names.specs.declared.place.PlacedCall.{PlacedCall}
use Rattle.mpd_model.specs.script.Program.{Program}
use Rattle.mpd_model.specs.steps.World.{RankWorld, Board, call_at, kind_at}
use Rattle.mpd_model.specs.steps.Outcomes.{first_number}

-- ---- lines of the script

-- the line of a statement, 0 where there is none
abbrev pub statement_line : List ℕ → Option ℕ → ℕ
statement_line lines None = 0
statement_line lines (Some number) = slice_index_or lines number 0

-- the line of the statement that issued a call
abbrev pub issue_line : List ℕ → Option Call → ℕ
issue_line lines None = 0
issue_line lines (Some c) = statement_line lines (Some c.statement)

-- the line of the statement that a rank has not got past
abbrev pub rank_line : List ℕ → Option RankWorld → ℕ
rank_line lines None = 0
rank_line lines (Some r) = statement_line lines (first_number r.rest)

-- ---- calls

-- a call, the line of the statement that issued it, and what it is
abbrev pub placed_call_of : Program → Board → CallId → PlacedCall
placed_call_of s b c = record { call = c; line = issue_line s.lines (call_at b c); kind = kind_at b c }
