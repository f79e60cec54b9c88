-- What a request of the session came to, by its reply and the session after it.
use Rattle.std.specs.Prelude.{ℕ, Bool, false, if◌then◌else◌, not, List, Option, Some, None}
use Rattle.mpd_model.specs.declared.breakpoint.Breakpoint.{Breakpoint}
use Rattle.mpd_model.specs.declared.breakpoint.Breakpoint.TheVariants as on
use Rattle.mpd_model.specs.declared.breakpoint.Cause.{Cause}
use Rattle.mpd_model.specs.declared.breakpoint.Cause.TheVariants as for
use Rattle.mpd_model.specs.declared.breakpoint.Stop.{Stop}
use Rattle.mpd_model.specs.declared.step.Step.{Step}
use Rattle.mpd_model.specs.steps.World.{World}
use Rattle.mpd_model.specs.runs.Breakpoints.{break_at}
use Rattle.mpd_model.specs.runs.Trail.{Trail}
use Rattle.mpd_policy.specs.Last.{last_hit}
use Rattle.mpd_session.specs.declared.reply.Answer.{Answer}
use Rattle.mpd_session.specs.declared.reply.Answer.TheVariants as answer
use Rattle.mpd_session.specs.declared.reply.Refusal.{Refusal}
use Rattle.mpd_session.specs.declared.reply.Refusal.TheVariants as refusal
use Rattle.mpd_session.specs.declared.reply.Reply.{Reply}
use Rattle.mpd_session.specs.declared.reply.Reply.TheVariants as reply
use Rattle.mpd_vocabulary.specs.declared.word.Word.{Word}
use Rattle.mpd_vocabulary.specs.declared.word.Word.TheVariants as word
use Rattle.mpd_console.specs.declared.lead.Lead.{Lead}
use Rattle.mpd_console.specs.declared.told.Moved.{Moved}
use Rattle.mpd_console.specs.declared.told.Went.{Went}
use Rattle.mpd_console.specs.declared.told.Went.TheVariants as went
use Rattle.mpd_console.specs.declared.told.Stopped.{Stopped}
use Rattle.mpd_console.specs.declared.told.Stopped.TheVariants as stopped
use Rattle.mpd_console.specs.declared.told.Why.{Why}
use Rattle.mpd_console.specs.declared.told.Why.TheVariants as why
use Rattle.mpd_console.specs.declared.told.Carried.{Carried}
use Rattle.mpd_console.specs.declared.told.Carried.TheVariants as carried
use Rattle.mpd_console.specs.Along.{stopped_at, stopped_asked}
use Rattle.mpd_console.specs.Moves.{ahead_of, asks_next}
use Rattle.mpd_console.specs.News.{news_by}
use Rattle.mpd_console.specs.Onward.{begins, is_line}

-- ---- why a move went no further

-- a run back stops before the step that hits a breakpoint
abbrev pub stopped_before : ℕ → Option Breakpoint → Stopped
stopped_before n None = stopped.There
stopped_before n (Some b) = stopped.Before (record { number = n; stop = b })

-- after a step that is told: the lowest breakpoint that it hits
abbrev pub stopped_hit : List (Option Breakpoint) → Option ℕ → Stopped
stopped_hit places None = stopped.There
stopped_hit places (Some n) = stopped_at n (break_at places n)

abbrev pub stopped_step : Trail → List (Option Breakpoint) → Option Step → Stopped
stopped_step t places None = stopped.There
stopped_step t places (Some a) = stopped_hit places (last_hit places t)

abbrev pub stopped_break : Word → ℕ → Option Breakpoint → Stopped
stopped_break word.RunBack n b = stopped_before n b
stopped_break other n b = stopped_at n b

abbrev pub stopped_run : List (Option Breakpoint) → Word → Cause → Stopped
stopped_run places x for.Leaf = stopped.There
stopped_run places x for.Choice = stopped.There
stopped_run places x for.Max = stopped_asked x
stopped_run places x for.Full = stopped.Full
stopped_run places x for.Start = stopped.AtStart
stopped_run places x (for.Break n) = stopped_break x n (break_at places n)

-- ---- moves

abbrev pub went_by : Option Step → Went
went_by None = went.There
went_by (Some a) = went.One a

abbrev pub ran_by : Word → ℕ → Went
ran_by word.RunBack n = went.Back n
ran_by other n = went.On n

-- given how it went, the depth after it and why it went no further; with how many steps lie ahead then
abbrev pub moved : Trail → World → Lead → Went → ℕ → Stopped → Moved
moved t w l way depth stop = record { went = way; depth = depth; ahead = ahead_of t; news = news_by l.known t w; stopped = stop }

abbrev pub moved_of : Trail → World → List (Option Breakpoint) → Lead → ℕ → Moved
moved_of t w places l depth = moved t w l (went_by l.step) depth (stopped_step t places l.step)

abbrev pub ran_of : Trail → World → List (Option Breakpoint) → Lead → ℕ → Stop → Moved
ran_of t w places l depth stop = moved t w l (ran_by l.word stop.steps) depth (stopped_run places l.word stop.cause)

-- ---- breakpoints

-- no statement begins at the line of a breakpoint
abbrev pub is_idle : List ℕ → Breakpoint → Bool
is_idle lines (on.Line n of when) = not (begins lines n)
is_idle lines (on.Match n of) = not (begins lines n)
is_idle lines other = false

abbrev pub added_by : List ℕ → Word → ℕ → Carried
added_by lines (word.Break b) n = carried.Added (record { number = n; stop = b }) (is_idle lines b)
added_by lines other n = carried.Nothing

abbrev pub removed_by : Word → Carried
removed_by (word.Delete n) = carried.Removed n
removed_by other = carried.Nothing

-- ---- refusals

-- what isn't there, of a line and a rank: where the line may be, it is the rank
abbrev pub no_place : ℕ → Why
no_place n = if is_line n then why.NoRank else why.NoLine

abbrev pub no_break : Breakpoint → Why
no_break (on.Line n of when) = no_place n
no_break (on.Match n of) = no_place n
no_break other = why.NoRank

abbrev pub no_number : Word → Why
no_number (word.Break b) = no_break b
no_number (word.Until n) = why.NoLine
no_number other = why.NoCount

-- given whether `next` asks for the step that comes next
abbrev pub why_refused : Bool → Word → Refusal → Why
why_refused next x refusal.NotEnabled = if next then why.Standing else why.NotEnabled
why_refused next x refusal.Full = why.Full
why_refused next x refusal.AtStart = why.FewTaken
why_refused next x refusal.NotBefore = why.NotKept
why_refused next x refusal.NoRedo = why.NoneAhead
why_refused next x refusal.NoSuchBreak = why.NoBreak
why_refused next x refusal.BreaksFull = why.BreaksFull
why_refused next x refusal.BadNumber = if next then why.NoCandidate else no_number x
why_refused next x other = why.Standing

abbrev pub refused_by : Bool → Word → Refusal → Carried
refused_by next x r = carried.Refused (why_refused next x r) next

-- ---- by the reply, and the session after it

abbrev pub done_by : Trail → World → List (Option Breakpoint) → Lead → Answer → Carried
done_by t w places l (answer.Depth depth) = carried.Moved (moved_of t w places l depth)
done_by t w places l (answer.Stepped depth a) = carried.Moved (moved_of t w places l depth)
done_by t w places l (answer.Ran depth stop) = carried.Moved (ran_of t w places l depth stop)
done_by t w places l (answer.Added n) = added_by t.program.lines l.word n
done_by t w places l answer.Removed = removed_by l.word
done_by t w places l other = carried.Nothing

abbrev pub carried_by : Trail → World → List (Option Breakpoint) → Lead → Reply → Carried
carried_by t w places l (reply.Refused r) = refused_by (asks_next w l.word) l.word r
carried_by t w places l (reply.Done v a) = done_by t w places l a
