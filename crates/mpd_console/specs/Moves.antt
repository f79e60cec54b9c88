-- What words ask of the session, and what is known of them before.
use Rattle.std.specs.Prelude.{ℕ, ◌-◌, ◌==◌, Bool, true, false, ◌&&◌, not, nat_lt, nat_le, is_some, is_none, if◌then◌else◌, List, length, slice_get, Option, Some, None}
use Rattle.mpd_model.specs.declared.limits.TheConstants.{STEPS_MAX}
use Rattle.mpd_model.specs.declared.step.Step.{Step}
use Rattle.mpd_model.specs.declared.decision.Decision.{Decision}
use Rattle.mpd_model.specs.declared.decision.Decision.TheVariants.{Forced, Choice, Leaf}
use Rattle.mpd_model.specs.declared.breakpoint.Breakpoint.{Breakpoint}
use Rattle.mpd_model.specs.declared.breakpoint.Breakpoint.TheVariants as on
use Rattle.mpd_model.specs.steps.World.{World}
use Rattle.mpd_model.specs.steps.Next.{waits}
use Rattle.mpd_model.specs.runs.Decisions.{decision}
use Rattle.mpd_model.specs.runs.Trail.{Trail, step_eq}
use Rattle.mpd_session.specs.declared.request.Command.{Command}
use Rattle.mpd_session.specs.declared.request.Command.TheVariants as command
use Rattle.mpd_policy.specs.Single.{single, only_step}
use Rattle.mpd_runs.specs.declared.way.Way.TheVariants as way
use Rattle.mpd_vocabulary.specs.declared.word.Word.{Word}
use Rattle.mpd_vocabulary.specs.declared.word.Word.TheVariants as word
use Rattle.mpd_console.specs.declared.lead.Lead.{Lead}
use Rattle.mpd_console.specs.declared.moves.TheConstants.{NO_CANDIDATE}
use Rattle.mpd_console.specs.declared.moves.Doing.{Doing}
use Rattle.mpd_console.specs.declared.moves.Doing.TheVariants.{Asks, Goes, Undoes, Seeks, Follows, Blames, Looks}
use Rattle.mpd_console.specs.declared.along.Goal.{Goal}
use Rattle.mpd_console.specs.declared.along.Goal.TheVariants.{Steps, Hit, Freed}
use Rattle.mpd_console.specs.Along.{along_of}
use Rattle.mpd_console.specs.News.{known_for}
use Rattle.mpd_console.specs.Onward.{on_line, begins, is_line, steps_on, is_rank, depth_before, finish_rank}

-- ---- what a word asks for

-- People count candidates from 1; there is none of number 0.
abbrev pub from_one : ℕ → ℕ
from_one n = if n == 0 then NO_CANDIDATE else n - 1

-- whether `next` asks for the step that comes next, by what is decided: where there is one, a number asks for so many
abbrev pub asks_by : Decision → Word → Bool
asks_by d (word.Next None) = true
asks_by d (word.Next (Some n)) = is_none (single d)
asks_by d other = false

abbrev pub asks_next : World → Word → Bool
asks_next w x = asks_by (decision w) x

-- how many steps are undone
abbrev pub ahead_of : Trail → ℕ
ahead_of t = length t.steps - t.depth

-- a step that comes next is taken as the first candidate is, which is looked at where it is a candidate alone
abbrev pub next_alone : Bool → Command
next_alone comes = if comes then command.Next (Some 0) else command.Next None

-- the step that lies ahead, else the one that comes next
abbrev pub next_one : Trail → World → Command
next_one t w = if is_some (slice_get t.steps t.depth) then command.Redo 1 else next_alone (is_some (only_step w))

-- what goes on goes along the steps ahead, or where none is runs on
abbrev pub onward : Trail → World → List (Option Breakpoint) → Word → Goal → Doing
onward t w places x g = if is_some (slice_get t.steps t.depth) then Goes (along_of places x g t) else Asks (command.RunOn (steps_on t w g))

-- by so many steps; none, and more than are kept, are refused as a run on by so many is
abbrev pub run_doing : Trail → World → List (Option Breakpoint) → Word → ℕ → Doing
run_doing t w places x n = if nat_le 1 n && nat_le n STEPS_MAX then onward t w places x (Steps n) else Asks (command.RunOn n)

-- where a step comes next, a number asks for so many, and elsewhere for a candidate
abbrev pub next_doing : Trail → World → List (Option Breakpoint) → Option ℕ → Doing
next_doing t w places None = Asks (next_one t w)
next_doing t w places (Some n) = if is_some (only_step w) then run_doing t w places (word.Next (Some n)) n else Asks (command.Next (Some (from_one n)))

-- `redo` takes no more steps than lie ahead, where one does
abbrev pub redo_command : Trail → ℕ → Command
redo_command t n = if nat_lt 0 (ahead_of t) && nat_lt (ahead_of t) n then command.Redo (ahead_of t) else command.Redo n

-- `goto` goes back, or along the steps that lie ahead
abbrev pub goto_command : Trail → ℕ → Command
goto_command t n = if nat_lt t.depth n && nat_le (n - t.depth) (ahead_of t) then command.Redo (n - t.depth) else command.Goto n

-- to where a rank comes to a line; what is no line is refused as a breakpoint on it is, and where no statement begins at it nothing is done
abbrev pub until_line : Trail → World → List (Option Breakpoint) → ℕ → Doing
until_line t w places n = if begins t.program.lines n then onward t w places (word.Until n) (Hit (on_line n)) else Looks

abbrev pub until_doing : Trail → World → List (Option Breakpoint) → ℕ → Doing
until_doing t w places n = if is_line n then until_line t w places n else Asks (command.Break (on_line n))

-- to where a rank has gone on; one that isn't there is told of
abbrev pub until_rank_doing : Trail → World → List (Option Breakpoint) → ℕ → Doing
until_rank_doing t w places p = if is_rank w p then onward t w places (word.UntilRank p) (Hit (on.Rank p)) else Looks

-- back to before the last local step of a rank; one that isn't there is told of
abbrev pub back_rank_doing : Trail → World → ℕ → Doing
back_rank_doing t w p = if is_rank w p then Asks (command.Goto (depth_before p t.steps t.depth)) else Looks

-- to where a rank goes on that waits; one that doesn't wait is told of, as is that there is none
abbrev pub finish_doing : Trail → World → List (Option Breakpoint) → Option ℕ → Doing
finish_doing t w places None = Looks
finish_doing t w places (Some p) = if waits (slice_get w.ranks p) then onward t w places (word.Finish (Some p)) (Freed p) else Looks

-- what a word does with a session, given the breakpoints that are set: it asks for something that changes it, goes along steps ahead, goes back
-- to the last choice, lays a run ahead, the first that ends so or that of a number, goes to the step that decided, or changes nothing
abbrev pub doing_of : Trail → World → List (Option Breakpoint) → Word → Doing
doing_of t w places (word.Next n) = next_doing t w places n
doing_of t w places (word.Run n) = run_doing t w places (word.Run n) n
doing_of t w places (word.Until n) = until_doing t w places n
doing_of t w places (word.UntilRank p) = until_rank_doing t w places p
doing_of t w places (word.Finish p) = finish_doing t w places (finish_rank t p)
doing_of t w places (word.Back n) = Asks (command.Back n)
doing_of t w places (word.BackRank p) = back_rank_doing t w p
doing_of t w places word.RunBack = Asks command.RunBack
doing_of t w places word.UndoChoice = Undoes
doing_of t w places (word.Goto n) = Asks (goto_command t n)
doing_of t w places (word.Redo n) = Asks (redo_command t n)
doing_of t w places (word.Step a) = Asks (command.Step a)
doing_of t w places (word.Break b) = Asks (command.Break b)
doing_of t w places (word.Delete n) = Asks (command.Unbreak n)
doing_of t w places (word.Follow n) = Follows n
doing_of t w places word.Deadlock = Seeks way.Deadlock
doing_of t w places word.Trap = Seeks way.Trap
doing_of t w places word.Blame = Blames
doing_of t w places other = Looks

-- ---- the step that a word takes, told before it is taken

-- the candidate of this number, from 1, where there is a choice to make
abbrev pub candidate : ℕ → Decision → Option Step
candidate n (Forced a) = None
candidate n (Choice steps) = slice_get steps (from_one n)
candidate n (Leaf o) = None

abbrev pub picked_at : ℕ → Decision → Option Step → Option Step
picked_at n d None = candidate n d
picked_at n d (Some a) = None

-- the one step, or where there is none the other
abbrev pub or_else : Option Step → Option Step → Option Step
or_else None other = other
or_else (Some a) other = Some a

-- the step that `next` takes: the one that lies ahead, else the one that comes next, or the candidate of this number at a choice; where a step
-- comes next, a number is one of steps
abbrev pub picked : Option Step → Option ℕ → Decision → Option Step
picked ahead None d = or_else ahead (single d)
picked ahead (Some n) d = picked_at n d (single d)

-- the step that is taken again by a request for one
abbrev pub redone_step : Trail → Command → Option Step
redone_step t (command.Redo n) = if n == 1 then slice_get t.steps t.depth else None
redone_step t other = None

-- of a step by hand, `next`, and where one step is taken again by `redo`
abbrev pub step_for : Trail → World → Word → Option Step
step_for t w (word.Next n) = picked (slice_get t.steps t.depth) n (decision w)
step_for t w (word.Redo n) = redone_step t (redo_command t n)
step_for t w (word.Step a) = Some a
step_for t w other = None

-- ---- steps that lie ahead, and are gone by a word: it takes another step than the first of these

abbrev pub leaves_way : Option Step → Option Step → Bool
leaves_way (Some b) (Some a) = not (step_eq b a)
leaves_way (Some b) None = false
leaves_way None taken = false

abbrev pub gone_by : Trail → Option Step → ℕ
gone_by t taken = if leaves_way (slice_get t.steps t.depth) taken then ahead_of t else 0

-- a word, the step that it takes if it takes one that is known, and what is known before it
abbrev pub lead_of : Trail → World → Word → Lead
lead_of t w x = record { word = x; step = step_for t w x; known = known_for t w x (gone_by t (step_for t w x)) }
