-- What a message asks, by its command and its arguments.
use Rattle.std.specs.Prelude.{ℕ, List, [], ◌∷◌, length, codes, if◌then◌else◌, nat_le, Option, Some, None, option_map, option_and_then, bytes_eq}
use Rattle.serde_json.specs.Data.{Data, Items, no_items, item}
use Rattle.serde_json.specs.Find.{get, as_array, as_bool}
use Rattle.mpd_dap.specs.declared.command.Command.{Command}
use Rattle.mpd_dap.specs.declared.command.Command.TheVariants as command
use Rattle.mpd_dap.specs.declared.ask.Ask.{Ask}
use Rattle.mpd_dap.specs.declared.ask.Ask.TheVariants as ask
use Rattle.mpd_dap.specs.declared.ask.Manner.{Manner}
use Rattle.mpd_dap.specs.declared.ask.Manner.TheVariants as manner
use Rattle.mpd_dap.specs.declared.ask.Wanted.{Wanted}
use Rattle.mpd_dap.specs.Fields.{number_at, text_at, present, optional_number_at, optional_text_at}

-- ---- fields that several commands have

abbrev pub thread_at : Data → Option ℕ
thread_at d = number_at (codes "threadId") d

abbrev pub frame_at : Data → Option ℕ
frame_at d = number_at (codes "frameId") d

-- ---- the beginning

-- lines are counted from 1, if that is told
abbrev pub initialized_by : Option Data → Option Ask
initialized_by None = Some ask.Initialize
initialized_by (Some d) = option_and_then (λ b. if b then Some ask.Initialize else None) (as_bool d)

abbrev pub initialize_in : Data → Option Ask
initialize_in d = initialized_by (present (codes "linesStartAt1") d)

-- ---- breakpoints

abbrev pub wanted_with : Option ℕ → Option (Option (List ℕ)) → Option Wanted
wanted_with None condition = None
wanted_with (Some n) None = None
wanted_with (Some n) (Some condition) = Some (record { line = n; condition = condition })

abbrev pub wanted_of : Data → Option Wanted
wanted_of d = wanted_with (number_at (codes "line") d) (optional_text_at (codes "condition") d)

abbrev pub before : Option Wanted → Option (List Wanted) → Option (List Wanted)
before None ws = None
before (Some w) None = None
before (Some w) (Some ws) = Some (w ∷ ws)

-- each of a list, or none if one of them is no breakpoint
abbrev pub all_wanted : Items → Option (List Wanted)
all_wanted no_items = Some []
all_wanted (item d ds) = before (wanted_of d) (all_wanted ds)

-- a list that isn't there is empty
abbrev pub wanted_in : Option Data → Option (List Wanted)
wanted_in None = Some []
wanted_in (Some d) = option_and_then all_wanted (as_array d)

abbrev pub path_at : Data → Option (List ℕ)
path_at d = option_and_then (λ source. text_at (codes "path") source) (get (codes "source") d)

abbrev pub breakpoints_with : Option (List ℕ) → Option (List Wanted) → Option Ask
breakpoints_with None ws = None
breakpoints_with (Some path) None = None
breakpoints_with (Some path) (Some ws) = Some (ask.SetBreakpoints path ws)

abbrev pub set_breakpoints_in : Data → Option Ask
set_breakpoints_in d = breakpoints_with (path_at d) (wanted_in (present (codes "breakpoints") d))

-- ---- moves

abbrev pub step_in_with : Option ℕ → Option (Option ℕ) → Option Ask
step_in_with None target = None
step_in_with (Some n) None = None
step_in_with (Some n) (Some target) = Some (ask.StepIn n target)

-- ---- expressions

abbrev pub manner_of : Option (List ℕ) → Manner
manner_of None = manner.Value
manner_of (Some z) = if bytes_eq z (codes "repl") then manner.Line else manner.Value

abbrev pub EXPRESSION_MAX : ℕ
EXPRESSION_MAX = 4000

-- a text that isn't too long
abbrev pub expression_at : Data → Option (List ℕ)
expression_at d = option_and_then (λ z. if nat_le (length z) EXPRESSION_MAX then Some z else None) (text_at (codes "expression") d)

abbrev pub evaluate_with : Option (List ℕ) → Option (Option (List ℕ)) → Option (Option ℕ) → Option Ask
evaluate_with None context frame = None
evaluate_with (Some z) None frame = None
evaluate_with (Some z) (Some context) None = None
evaluate_with (Some z) (Some context) (Some frame) = Some (ask.Evaluate z (manner_of context) frame)

abbrev pub evaluate_in : Data → Option Ask
evaluate_in d = evaluate_with (expression_at d) (optional_text_at (codes "context") d) (optional_number_at (codes "frameId") d)

-- ---- all commands

-- what the arguments of a command ask whose fields are numbers; none of the others
unfoldable pub number_ask : Command → Data → Option Ask
number_ask command.Initialize d = initialize_in d
number_ask command.Launch d = None
number_ask command.ConfigurationDone d = Some ask.ConfigurationDone
number_ask command.Disconnect d = Some ask.Disconnect
number_ask command.Terminate d = Some ask.Terminate
number_ask command.Threads d = Some ask.Threads
number_ask command.StackTrace d = option_map ask.StackTrace (thread_at d)
number_ask command.Scopes d = option_map ask.Scopes (frame_at d)
number_ask command.Variables d = option_map ask.Variables (number_at (codes "variablesReference") d)
number_ask command.StepInTargets d = option_map ask.StepInTargets (frame_at d)
number_ask command.ExceptionInfo d = option_map ask.ExceptionInfo (thread_at d)
number_ask command.SetExceptionBreakpoints d = Some ask.SetExceptionBreakpoints
number_ask command.Pause d = Some ask.Pause
number_ask command.SetBreakpoints d = None
number_ask command.Continue d = option_map ask.Continue (thread_at d)
number_ask command.Next d = option_map ask.Next (thread_at d)
number_ask command.StepIn d = step_in_with (thread_at d) (optional_number_at (codes "targetId") d)
number_ask command.StepOut d = option_map ask.StepOut (thread_at d)
number_ask command.StepBack d = option_map ask.StepBack (thread_at d)
number_ask command.ReverseContinue d = option_map ask.ReverseContinue (thread_at d)
number_ask command.Restart d = Some ask.Restart
number_ask command.Evaluate d = None

-- what the arguments of a command ask, or none if a field isn't what it must be
unfoldable pub ask_in : Command → Data → Option Ask
ask_in command.Launch d = option_map ask.Launch (text_at (codes "program") d)
ask_in command.SetBreakpoints d = set_breakpoints_in d
ask_in command.Evaluate d = evaluate_in d
ask_in c d = number_ask c d
