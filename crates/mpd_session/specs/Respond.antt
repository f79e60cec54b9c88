-- What a session replies to a request, and what it holds then.
use Rattle.std.specs.Prelude.{◌≡◌, ℕ, ◌+◌, ◌==◌, Bool, true, false, if◌then◌else◌, List, Option, Some, None}
use Rattle.mpd_model.specs.declared.breakpoint.Breakpoint.{Breakpoint}
use Rattle.mpd_model.specs.steps.World.{World}
use Rattle.mpd_model.specs.runs.Decisions.{decision}
use Rattle.mpd_model.specs.declared.step.Step.{Step}
use Rattle.mpd_model.specs.runs.Trail.{Trail, world_of, with_steps}
use Rattle.mpd_session.specs.declared.request.Command.{Command}
use Rattle.mpd_session.specs.declared.request.Command.TheVariants as command
use Rattle.mpd_session.specs.declared.request.Request.{Request}
use Rattle.mpd_session.specs.declared.reply.Reply.{Reply}
use Rattle.mpd_session.specs.declared.reply.Reply.TheVariants as reply
use Rattle.mpd_session.specs.declared.reply.Refusal.TheVariants.{Stale, NotEnabled}
use Rattle.mpd_session.specs.declared.limits.TheConstants.{VERSION_MAX}
use Rattle.mpd_session.specs.declared.effect.Effect.{Effect}
use Rattle.mpd_session.specs.declared.effect.Effect.TheVariants.{Refused, Told, Changed}
use Rattle.mpd_session.specs.Held.{Held}
use Rattle.mpd_session.specs.Effects.{step_effect, next_effect, run_effect, run_on_effect, back_effect, redo_effect, goto_effect, run_back_effect, enabled_effect, state_effect, vars_effect, calls_effect, why_effect, break_effect, unbreak_effect, breaks_effect, hit_effect, explore_effect}
use Rattle.mpd_session.specs.Looks.{look_effect}

-- ---- what a command comes to, with what is changed

abbrev pub Carried : Type 0
Carried = Effect × (Trail × List (Option Breakpoint))

abbrev pub on_trail : List (Option Breakpoint) → Effect × Trail → Carried
on_trail places q = (q.0, (q.1, places))

abbrev pub on_breaks : Trail → Effect × List (Option Breakpoint) → Carried
on_breaks t q = (q.0, (t, q.1))

abbrev pub carried : Trail → List (Option Breakpoint) → World → Command → Carried
carried t places w (command.Step a) = on_trail places (step_effect t w a)
carried t places w (command.Next choice) = on_trail places (next_effect t w choice (decision w))
carried t places w (command.Run max) = on_trail places (run_effect t places w max)
carried t places w (command.RunOn max) = on_trail places (run_on_effect t places w max)
carried t places w (command.Back n) = on_trail places (back_effect t n)
carried t places w (command.Redo n) = on_trail places (redo_effect t n)
carried t places w (command.Goto n) = on_trail places (goto_effect t n)
carried t places w command.RunBack = on_trail places (run_back_effect t places)
carried t places w command.Enabled = (enabled_effect w, (t, places))
carried t places w command.State = (state_effect t w, (t, places))
carried t places w (command.Vars p) = (vars_effect w p, (t, places))
carried t places w (command.Calls p) = (calls_effect w p, (t, places))
carried t places w (command.Why c) = (why_effect w c, (t, places))
carried t places w (command.Break b) = on_breaks t (break_effect places w b)
carried t places w (command.Unbreak n) = on_breaks t (unbreak_effect places n)
carried t places w command.Breaks = (breaks_effect places, (t, places))
carried t places w command.Hit = (hit_effect places t, (t, places))
carried t places w (command.Explore runs fuel) = (explore_effect t w runs fuel, (t, places))
carried t places w (command.Look l) = (look_effect t w l, (t, places))

-- Memory may be wanted by what takes a step, by what has a list in its answer, and by a look at the last step, which is taken again; by nothing else.
abbrev pub may_want : Command → Bool
may_want (command.Back n) = false
may_want (command.Goto n) = false
may_want command.RunBack = false
may_want (command.Break b) = false
may_want (command.Unbreak n) = false
may_want (command.Step a) = true
may_want (command.Next choice) = true
may_want (command.Run max) = true
may_want (command.RunOn max) = true
may_want (command.Redo n) = true
may_want command.Enabled = true
may_want command.State = true
may_want (command.Vars p) = true
may_want (command.Calls p) = true
may_want (command.Why c) = true
may_want command.Breaks = true
may_want command.Hit = true
may_want (command.Explore runs fuel) = true
may_want (command.Look l) = true

-- ---- versions

-- what changes something raises the version, but for the last one
abbrev pub raised : ℕ → ℕ
raised v = if v == VERSION_MAX then v else v + 1

abbrev pub version_then : ℕ → Effect → ℕ
version_then v (Refused r) = v
version_then v (Told a) = v
version_then v (Changed a) = raised v

-- an answer has the version after it
abbrev pub reply_to : ℕ → Effect → Reply
reply_to v (Refused r) = reply.Refused r
reply_to v (Told a) = reply.Done v a
reply_to v (Changed a) = reply.Done (raised v) a

abbrev pub finished : ℕ → Carried → Reply × Held
finished v q = (reply_to v q.0, record { trail = q.1.0; breaks = q.1.1; version = version_then v q.0 })

-- ---- the reply to a request

-- a request that names a version is for no other
abbrev pub is_current : ℕ → Option ℕ → Bool
is_current v None = true
is_current v (Some at) = at == v

abbrev pub respond_in : Held → World → Request → Reply × Held
respond_in s w q = if is_current s.version q.at then finished s.version (carried s.trail s.breaks w q.command) else (reply.Refused (Stale s.version), s)

-- the world is where the trail leads; a session holds no trail that leads nowhere
abbrev pub respond_at : Held → Option World → Request → Reply × Held
respond_at s None q = (reply.Refused NotEnabled, s)
respond_at s (Some w) q = respond_in s w q

unfoldable pub respond : Held → Request → Reply × Held
respond s q = respond_at s (world_of s.trail) q

-- the session held s when it was asked q, has replied r, and holds t now
abbrev pub Responds : Held → Request → Reply → Held → Type 0
Responds s q r t = (r ≡ (respond s q).0) × (t ≡ (respond s q).1)

-- the same session with these steps, of which as many are not undone as were before: those after lie ahead, and the version is raised
abbrev pub laid : Held → List Step → Held
laid s steps = record { trail = with_steps s.trail steps; breaks = s.breaks; version = raised s.version }

-- a session by itself keeps no history, so it never says that this is full
abbrev pub KeepsNoHistory : Held → Type 0
KeepsNoHistory s = ⊥
