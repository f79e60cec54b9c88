-- Why and where a session stands still, as the event `stopped` tells it (docs/ADAPTER.md, "Stops").
use Rattle.std.specs.Prelude.{ℕ, ◌==◌, Bool, if◌then◌else◌, List, [], ◌∷◌, ◌++◌, slice_get, Option, Some, None, is_some, codes}
use Rattle.std.specs.Fmt.{decimal}
use Rattle.mpd_model.specs.declared.step.Step.{Step}
use Rattle.mpd_model.specs.declared.decision.Decision.{Decision}
use Rattle.mpd_model.specs.declared.decision.Decision.TheVariants.{Forced, Choice, Leaf}
use Rattle.mpd_model.specs.declared.outcome.IssuedCall.{IssuedCall}
use Rattle.mpd_model.specs.declared.outcome.TrappedRank.{TrappedRank}
use Rattle.mpd_model.specs.declared.outcome.Outcome.{Outcome}
use Rattle.mpd_model.specs.declared.outcome.Outcome.TheVariants.{Done, Leftovers, Deadlock, Trap}
use Rattle.mpd_model.specs.runs.Trail.{Trail, world_of}
use Rattle.mpd_model.specs.runs.Decisions.{decision}
use Rattle.serde_json.specs.Data.{Data}
use Rattle.mpd_session.specs.Held.{Held}
use Rattle.mpd_dap.specs.declared.name.Reason.{Reason}
use Rattle.mpd_dap.specs.declared.name.Reason.TheVariants as why
use Rattle.mpd_dap.specs.Bodies.{stopped_data}
use Rattle.mpd_console.specs.Onward.{rank_of, rank_behind}
use Rattle.mpd_adapter.specs.declared.moves.After.{After}
use Rattle.mpd_adapter.specs.declared.moves.After.TheVariants.{Run, Step as Steps, Jump}
use Rattle.mpd_adapter.specs.declared.halt.Halt.{Halt}
use Rattle.mpd_adapter.specs.declared.halt.Halt.TheVariants as halt
use Rattle.mpd_adapter.specs.Numbers.{one_more}
use Rattle.mpd_adapter.specs.Seen.{seen}

-- ---- what is told of it

abbrev pub reason : Halt → Reason
reason (halt.Deadlock p) = why.Exception
reason (halt.Trap p) = why.Exception
reason halt.Done = why.End
reason halt.Leftovers = why.End
reason (halt.Choice p) = why.Choice
reason halt.Start = why.Entry
reason (halt.Breakpoint p) = why.Breakpoint
reason (halt.Step p) = why.Step
reason halt.Jumped = why.Goto

-- where so many steps are not undone
abbrev pub description : ℕ → Halt → List ℕ
description n (halt.Deadlock p) = codes "deadlock"
description n (halt.Trap p) = codes "trap"
description n halt.Done = codes "done"
description n halt.Leftovers = codes "leftovers"
description n (halt.Choice p) = codes "choice"
description n halt.Start = codes "start"
description n (halt.Breakpoint p) = codes "depth " ++ decimal n
description n (halt.Step p) = codes "depth " ++ decimal n
description n halt.Jumped = codes "depth " ++ decimal n

-- the rank that it is about; the first where it is about none
abbrev pub halt_rank : Halt → ℕ
halt_rank (halt.Deadlock p) = p
halt_rank (halt.Trap p) = p
halt_rank halt.Done = 0
halt_rank halt.Leftovers = 0
halt_rank (halt.Choice p) = p
halt_rank halt.Start = 0
halt_rank (halt.Breakpoint p) = p
halt_rank (halt.Step p) = p
halt_rank halt.Jumped = 0

-- ---- what it is

-- the first of the ranks that are blocked, or trapped
abbrev pub first_blocked : List IssuedCall → ℕ
first_blocked [] = 0
first_blocked (c ∷ cs) = c.id.rank

abbrev pub first_trapped : List TrappedRank → ℕ
first_trapped [] = 0
first_trapped (t ∷ ts) = t.rank

abbrev pub ended : Outcome → Halt
ended Done = halt.Done
ended (Leftovers calls) = halt.Leftovers
ended (Deadlock calls) = halt.Deadlock (first_blocked calls)
ended (Trap traps) = halt.Trap (first_trapped traps)

abbrev pub rank_or : ℕ → Option ℕ → ℕ
rank_or p None = p
rank_or p (Some q) = q

-- by the rank of the last step: after a run it is the last step's rank, that of its receive for a match, and after a release that of the message
abbrev pub moved : After → Option ℕ → Halt
moved (Run p) last = halt.Breakpoint (rank_or p last)
moved (Steps p) last = halt.Step p
moved Jump last = halt.Jumped

abbrev pub on_the_way : After → Trail → Halt
on_the_way a t = if t.depth == 0 then halt.Start else moved a (rank_behind t.steps t.depth)

-- A choice is open where it has two candidates or more, and no step lies ahead.
abbrev pub is_ahead : Trail → Bool
is_ahead t = is_some (slice_get t.steps t.depth)

abbrev pub chosen : After → Trail → List Step → Halt
chosen a t [] = on_the_way a t
chosen a t (x ∷ []) = on_the_way a t
chosen a t (x ∷ (y ∷ steps)) = if is_ahead t then on_the_way a t else halt.Choice (rank_or 0 (rank_of x))

abbrev pub halt_at : After → Trail → Decision → Halt
halt_at a t (Leaf o) = ended o
halt_at a t (Forced x) = on_the_way a t
halt_at a t (Choice steps) = chosen a t steps

-- where a session stands
abbrev pub halt_in : After → Held → Halt
halt_in a s = seen halt.Jumped (λ w. halt_at a s.trail (decision w)) (world_of s.trail)

-- ---- the event

abbrev pub stopped_by : Held → Halt → Data
stopped_by s h = stopped_data (reason h) (description s.trail.depth h) (one_more (halt_rank h))

-- the body of the event that tells where a session stands
abbrev pub stopped_in : After → Held → Data
stopped_in a s = stopped_by s (halt_in a s)
