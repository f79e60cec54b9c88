-- The commands that are answered, by their names.
use Rattle.std.specs.Prelude.{ℕ, List, [], ◌∷◌, codes, if◌then◌else◌, Option, Some, None, bytes_eq}
use Rattle.mpd_dap.specs.declared.command.Command.{Command}
use Rattle.mpd_dap.specs.declared.command.Command.TheVariants as command

-- what a table has by a name
abbrev pub found : List (List ℕ × Command) → List ℕ → Option Command
found [] z = None
found (row ∷ rows) z = if bytes_eq z row.0 then Some row.1 else found rows z

abbrev pub commands : List (List ℕ × Command)
commands =
    (codes "initialize", command.Initialize) ∷ (codes "launch", command.Launch) ∷ (codes "configurationDone", command.ConfigurationDone)
    ∷ (codes "disconnect", command.Disconnect) ∷ (codes "terminate", command.Terminate) ∷ (codes "threads", command.Threads)
    ∷ (codes "stackTrace", command.StackTrace) ∷ (codes "scopes", command.Scopes) ∷ (codes "variables", command.Variables)
    ∷ (codes "stepInTargets", command.StepInTargets) ∷ (codes "exceptionInfo", command.ExceptionInfo)
    ∷ (codes "setExceptionBreakpoints", command.SetExceptionBreakpoints) ∷ (codes "pause", command.Pause)
    ∷ (codes "setBreakpoints", command.SetBreakpoints) ∷ (codes "continue", command.Continue) ∷ (codes "next", command.Next)
    ∷ (codes "stepIn", command.StepIn) ∷ (codes "stepOut", command.StepOut) ∷ (codes "stepBack", command.StepBack)
    ∷ (codes "reverseContinue", command.ReverseContinue) ∷ (codes "restart", command.Restart) ∷ (codes "evaluate", command.Evaluate) ∷ []

unfoldable pub command_of : List ℕ → Option Command
command_of z = found commands z
