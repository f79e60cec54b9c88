-- The breakpoints that an editor sets (docs/ADAPTER.md, "Breakpoints").
use Rattle.std.specs.Prelude.{ℕ, Bool, true, false, nat_lt, if◌then◌else◌, List, [], ◌∷◌, map, Option, Some, None, Result, Ok, Err}
use Rattle.std.specs.List.{range_with_len}
use Rattle.mpd_model.specs.declared.limits.TheConstants.{BREAKS_MAX}
use Rattle.mpd_model.specs.declared.breakpoint.Condition.{Condition}
use Rattle.mpd_model.specs.declared.breakpoint.Breakpoint.{Breakpoint}
use Rattle.mpd_model.specs.declared.breakpoint.Breakpoint.TheVariants as on
use Rattle.mpd_model.specs.script.Declaration.{Declared}
use Rattle.mpd_model.specs.script.Program.{Program}
use Rattle.mpd_model.specs.runs.Breakpoints.{break_at}
use Rattle.mpd_model.specs.texts.Words.{words}
use Rattle.mpd_session.specs.declared.request.Command.{Command}
use Rattle.mpd_session.specs.declared.request.Command.TheVariants as command
use Rattle.mpd_session.specs.declared.reply.Reply.{Reply}
use Rattle.mpd_session.specs.declared.reply.Reply.TheVariants as reply
use Rattle.mpd_session.specs.declared.reply.Answer.TheVariants as answer
use Rattle.mpd_session.specs.declared.reply.Refusal.TheVariants as refused
use Rattle.mpd_session.specs.Held.{Held}
use Rattle.mpd_session.specs.Respond.{respond}
use Rattle.mpd_vocabulary.specs.declared.word.When.{When}
use Rattle.mpd_vocabulary.specs.declared.word.WordFault.{WordFault}
use Rattle.mpd_vocabulary.specs.Conditions.{pieces_of, condition_in}
use Rattle.mpd_vocabulary.specs.Reading.{when_in}
use Rattle.mpd_console.specs.Says.{asking}
use Rattle.mpd_dap.specs.declared.ask.Wanted.{Wanted}
use Rattle.mpd_dap.specs.declared.listed.Mark.{Mark}
use Rattle.mpd_dap.specs.declared.listed.Mark.TheVariants.{Set, Unset}
use Rattle.mpd_dap.specs.declared.name.Trouble.TheVariants as trouble
use Rattle.mpd_adapter.specs.declared.marks.Plan.{Plan}
use Rattle.mpd_adapter.specs.declared.marks.Plan.TheVariants.{Fails, Sets}
use Rattle.mpd_adapter.specs.Numbers.{one_more}

-- what a session replies to a command, and what it holds then
abbrev pub replied : Held → Command → Reply
replied s c = (respond s (asking c)).0

abbrev pub asked : Held → Command → Held
asked s c = (respond s (asking c)).1

-- ---- those of kind `line` are removed

abbrev pub is_of_line : Option Breakpoint → Bool
is_of_line (Some (on.Line n of when)) = true
is_of_line other = false

-- the breakpoint of a number, if it is one of those
abbrev pub without : Held → ℕ → Held
without s n = if is_of_line (break_at s.breaks n) then asked s (command.Unbreak n) else s

abbrev pub without_all : Held → List ℕ → Held
without_all s [] = s
without_all s (n ∷ numbers) = without_all (without s n) numbers

abbrev pub without_lines : Held → Held
without_lines s = without_all s (range_with_len 0 BREAKS_MAX)

-- ---- the line

-- the lesser of two numbers, or the one that is there
abbrev pub nearest : Option ℕ → Option ℕ → Option ℕ
nearest None other = other
nearest (Some n) None = Some n
nearest (Some n) (Some k) = if nat_lt k n then Some k else Some n

-- a line, if it doesn't stand above another
abbrev pub from_on : ℕ → ℕ → Option ℕ
from_on from n = if nat_lt n from then None else Some n

-- the least of some lines from one on
abbrev pub line_from : ℕ → List ℕ → Option ℕ
line_from from [] = None
line_from from (n ∷ lines) = nearest (from_on from n) (line_from from lines)

-- ---- what must hold there

-- what is read after `if`
abbrev pub with_condition : Result Condition WordFault → Option When
with_condition (Err f) = None
with_condition (Ok c) = Some (record { of = None; condition = Some c })

abbrev pub or_condition : Result When WordFault → Result Condition WordFault → Option When
or_condition (Ok w) c = Some w
or_condition (Err f) c = with_condition c

-- A condition is read as it may stand after a line, and once more as it stands after `if`.
abbrev pub when_for : List Declared → Option (List ℕ) → Option When
when_for ds None = Some (record { of = None; condition = None })
when_for ds (Some z) = or_condition (when_in ds 0 (words z)) (condition_in ds 0 (pieces_of [] (words z)))

-- ---- what a breakpoint that is wanted comes to

abbrev pub plan_with : ℕ → ℕ → Option When → Plan
plan_with given n None = Fails given trouble.BadCondition
plan_with given n (Some w) = Sets given n w

abbrev pub plan_at : List Declared → Wanted → Option ℕ → Plan
plan_at ds w None = Fails w.line trouble.NoStatement
plan_at ds w (Some n) = plan_with w.line n (when_for ds w.condition)

abbrev pub plan_of : Program → Wanted → Plan
plan_of s w = plan_at s.decls w (line_from w.line s.lines)

-- ---- what becomes of it

-- by the reply to the request for it: a rank may not be there, and all places may be taken
abbrev pub mark_by : ℕ → ℕ → Reply → Mark
mark_by given n (reply.Done v (answer.Added k)) = Set (one_more k) n
mark_by given n (reply.Refused refused.BreaksFull) = Unset given trouble.Full
mark_by given n other = Unset given trouble.BadCondition

abbrev pub stop_at : ℕ → When → Breakpoint
stop_at n w = on.Line n w.of w.condition

abbrev pub mark_of : Held → Plan → Mark
mark_of s (Fails given why) = Unset given why
mark_of s (Sets given n w) = mark_by given n (replied s (command.Break (stop_at n w)))

abbrev pub held_after : Held → Plan → Held
held_after s (Fails given why) = s
held_after s (Sets given n w) = asked s (command.Break (stop_at n w))

-- one after another
abbrev pub marks_of : Held → List Plan → List Mark
marks_of s [] = []
marks_of s (p ∷ plans) = mark_of s p ∷ marks_of (held_after s p) plans

abbrev pub held_after_all : Held → List Plan → Held
held_after_all s [] = s
held_after_all s (p ∷ plans) = held_after_all (held_after s p) plans

-- ---- all of a message, by whether its path is the one of `launch`

abbrev pub plans_of : Held → List Wanted → List Plan
plans_of s ws = map (plan_of s.trail.program) ws

abbrev pub of_another : Wanted → Mark
of_another w = Unset w.line trouble.AnotherScript

abbrev pub marks_in : Bool → Held → List Wanted → List Mark
marks_in false s ws = map of_another ws
marks_in true s ws = marks_of (without_lines s) (plans_of s ws)

abbrev pub marked : Bool → Held → List Wanted → Held
marked false s ws = s
marked true s ws = held_after_all (without_lines s) (plans_of s ws)
