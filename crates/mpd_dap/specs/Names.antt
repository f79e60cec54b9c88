-- Names that are told.
use Rattle.std.specs.Prelude.{ℕ, List, codes}
use Rattle.mpd_dap.specs.declared.name.Refusal.{Refusal}
use Rattle.mpd_dap.specs.declared.name.Refusal.TheVariants as refusal
use Rattle.mpd_dap.specs.declared.name.Event.{Event}
use Rattle.mpd_dap.specs.declared.name.Event.TheVariants as event
use Rattle.mpd_dap.specs.declared.name.Reason.{Reason}
use Rattle.mpd_dap.specs.declared.name.Reason.TheVariants as reason
use Rattle.mpd_dap.specs.declared.name.Trouble.{Trouble}
use Rattle.mpd_dap.specs.declared.name.Trouble.TheVariants as trouble

abbrev pub refusal_name : Refusal → List ℕ
refusal_name refusal.UnknownCommand = codes "unknown-command"
refusal_name refusal.BadField = codes "bad-field"
refusal_name refusal.NotLaunched = codes "not-launched"
refusal_name refusal.Launched = codes "launched"
refusal_name refusal.BadNumber = codes "bad-number"
refusal_name refusal.NotEnded = codes "not-ended"
refusal_name refusal.NoValue = codes "no-value"
refusal_name refusal.NotRead = codes "not-read"

abbrev pub event_name : Event → List ℕ
event_name event.Initialized = codes "initialized"
event_name event.Thread = codes "thread"
event_name event.Output = codes "output"
event_name event.Stopped = codes "stopped"
event_name event.Terminated = codes "terminated"

abbrev pub reason_name : Reason → List ℕ
reason_name reason.Exception = codes "exception"
reason_name reason.End = codes "end"
reason_name reason.Choice = codes "choice"
reason_name reason.Entry = codes "entry"
reason_name reason.Breakpoint = codes "breakpoint"
reason_name reason.Step = codes "step"
reason_name reason.Goto = codes "goto"

-- why a breakpoint was not set
abbrev pub trouble_text : Trouble → List ℕ
trouble_text trouble.NoStatement = codes "no statement begins there or below"
trouble_text trouble.BadCondition = codes "bad condition"
trouble_text trouble.Full = codes "64 breakpoints are set"
trouble_text trouble.AnotherScript = codes "another script"
