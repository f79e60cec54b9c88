-- What a message comes to, by its command, its fields and whether a `launch` was answered (docs/ADAPTER.md).
use Rattle.std.specs.Prelude.{ℕ, Bool, true, false, if◌then◌else◌, Option, Some, None, option_map}
use Rattle.mpd_dap.specs.declared.command.Command.{Command}
use Rattle.mpd_dap.specs.declared.command.Command.TheVariants as command
use Rattle.mpd_dap.specs.declared.ask.Ask.{Ask}
use Rattle.mpd_dap.specs.declared.ask.Ask.TheVariants as ask
use Rattle.mpd_dap.specs.declared.ask.Manner.{Manner}
use Rattle.mpd_dap.specs.declared.ask.Manner.TheVariants as manner
use Rattle.mpd_dap.specs.declared.ask.Message.{Message}
use Rattle.mpd_dap.specs.declared.name.Refusal.{Refusal}
use Rattle.mpd_dap.specs.declared.name.Refusal.TheVariants as refusal
use Rattle.mpd_adapter.specs.declared.moves.Move.{Move}
use Rattle.mpd_adapter.specs.declared.moves.Move.TheVariants as move
use Rattle.mpd_adapter.specs.declared.task.Look.{Look}
use Rattle.mpd_adapter.specs.declared.task.Look.TheVariants as look
use Rattle.mpd_adapter.specs.declared.task.Task.{Task}
use Rattle.mpd_adapter.specs.declared.task.Task.TheVariants.{Refused, Looks, Launches, Begins, Ends, Marks, Moves, Types, Values}
use Rattle.mpd_adapter.specs.Numbers.{rank_of_thread, shelf_of}

-- ---- time

-- what is answered before a `launch` was
abbrev pub is_early : Command → Bool
is_early command.Initialize = true
is_early command.Launch = true
is_early command.Disconnect = true
is_early command.Terminate = true
is_early c = false

abbrev pub is_launch : Command → Bool
is_launch command.Launch = true
is_launch c = false

-- by whether a `launch` was answered
abbrev pub untimely : Bool → Command → Option Refusal
untimely false c = if is_early c then None else Some refusal.NotLaunched
untimely true c = if is_launch c then Some refusal.Launched else None

-- ---- numbers

abbrev pub looking : Option Look → Task
looking None = Refused refusal.BadNumber
looking (Some l) = Looks l

abbrev pub explaining : Option ℕ → Task
explaining None = Refused refusal.BadNumber
explaining (Some p) = Looks look.Exception

abbrev pub moving : Option Move → Task
moving None = Refused refusal.BadNumber
moving (Some m) = Moves m

abbrev pub stepping : Option ℕ → Option ℕ → Task
stepping None target = Refused refusal.BadNumber
stepping (Some p) target = Moves (move.StepIn p target)

-- a line of the console, or an expression of a rank or of all
abbrev pub valuing : Manner → Option ℕ → Task
valuing manner.Line p = Types
valuing manner.Value p = Values p

abbrev pub evaluating_of : Manner → Option ℕ → Task
evaluating_of m None = Refused refusal.BadNumber
evaluating_of m (Some p) = valuing m (Some p)

abbrev pub evaluating : ℕ → Manner → Option ℕ → Task
evaluating ranks m None = valuing m None
evaluating ranks m (Some f) = evaluating_of m (rank_of_thread f ranks)

-- ---- what is asked

abbrev pub asked_task : ℕ → Ask → Task
asked_task ranks ask.Initialize = Looks look.Capabilities
asked_task ranks (ask.Launch path) = Launches
asked_task ranks ask.ConfigurationDone = Begins
asked_task ranks ask.Disconnect = Ends
asked_task ranks ask.Terminate = Ends
asked_task ranks ask.Threads = Looks look.Threads
asked_task ranks (ask.StackTrace t) = looking (option_map look.Stack (rank_of_thread t ranks))
asked_task ranks (ask.Scopes f) = looking (option_map look.Scopes (rank_of_thread f ranks))
asked_task ranks (ask.Variables r) = looking (option_map look.Variables (shelf_of r ranks))
asked_task ranks (ask.StepInTargets f) = looking (option_map look.Targets (rank_of_thread f ranks))
asked_task ranks (ask.ExceptionInfo t) = explaining (rank_of_thread t ranks)
asked_task ranks ask.SetExceptionBreakpoints = Looks look.Nothing
asked_task ranks ask.Pause = Looks look.Nothing
asked_task ranks (ask.SetBreakpoints path wanted) = Marks
asked_task ranks (ask.Continue t) = moving (option_map move.Continue (rank_of_thread t ranks))
asked_task ranks (ask.Next t) = moving (option_map move.Next (rank_of_thread t ranks))
asked_task ranks (ask.StepIn t target) = stepping (rank_of_thread t ranks) target
asked_task ranks (ask.StepOut t) = moving (option_map move.StepOut (rank_of_thread t ranks))
asked_task ranks (ask.StepBack t) = moving (option_map move.StepBack (rank_of_thread t ranks))
asked_task ranks (ask.ReverseContinue t) = moving (option_map move.ReverseContinue (rank_of_thread t ranks))
asked_task ranks ask.Restart = Moves move.Restart
asked_task ranks (ask.Evaluate expression m frame) = evaluating ranks m frame

-- ---- the first refusal that holds, or what is asked

abbrev pub field_task : ℕ → Option Ask → Task
field_task ranks None = Refused refusal.BadField
field_task ranks (Some a) = asked_task ranks a

abbrev pub timely : Option Refusal → Task → Task
timely None t = t
timely (Some r) t = Refused r

abbrev pub task_by : ℕ → Bool → Option Command → Option Ask → Task
task_by ranks launched None a = Refused refusal.UnknownCommand
task_by ranks launched (Some c) a = timely (untimely launched c) (field_task ranks a)

abbrev pub task_of : ℕ → Bool → Message → Task
task_of ranks launched m = task_by ranks launched m.command m.ask
