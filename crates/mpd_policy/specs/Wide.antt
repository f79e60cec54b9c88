-- What comes next along the wide walk, which has every end of every script: a step that no other can touch is forced, and where there is
-- none, every step that is enabled is a candidate. And what falls asleep along it: which steps conflict, and which sleep on.
use Rattle.std.specs.Prelude.{ℕ, Bool, true, false, ◌&&◌, ◌||◌, not, ◌==◌, nat_lt, List, Option, Some, None}
use Rattle.std.specs.List.{filter, list_any}
use Rattle.mpd_model.specs.declared.call.CallKind.{CallKind}
use Rattle.mpd_model.specs.declared.call.CallKind.TheVariants.{Send}
use Rattle.mpd_model.specs.declared.call.Mode.{Mode}
use Rattle.mpd_model.specs.declared.call.Mode.TheVariants.{Slots}
use Rattle.mpd_model.specs.declared.step.CallId.{CallId}
use Rattle.mpd_model.specs.declared.step.Step.{Step}
use Rattle.mpd_model.specs.declared.step.Step.TheVariants.{Local, Match, Wake, WakeAny}
use Rattle.mpd_model.specs.declared.decision.Decision.{Decision}
use Rattle.mpd_model.specs.declared.decision.Decision.TheVariants.{Forced}
use Rattle.mpd_model.specs.steps.World.{World, Board, id_eq, kind_of, kind_at, is_buffered, is_limited, slots_used}
use Rattle.mpd_model.specs.steps.Next.{Ran, local_at, enabled}
use Rattle.mpd_model.specs.runs.Trail.{step_eq}
use Rattle.mpd_model.specs.runs.Decisions.{names_source, is_local, first_enabled, chosen_from}

-- ---- slots

-- there are slots, and as many are held
abbrev pub is_full : Mode → ℕ → Bool
is_full (Slots count) held = nat_lt 0 count && not (nat_lt held count)
is_full mode held = false

-- a standard send, which gets a buffer where there is one
abbrev pub is_standard : Option CallKind → Bool
is_standard (Some (Send s)) = not s.synchronous
is_standard kind = false

-- a local step that issues one
abbrev pub issues_standard : Option Ran → Bool
issues_standard None = false
issues_standard (Some done) = is_standard (kind_of done.call)

-- All slots of this rank are held, and its local step issues a standard send: a match may give one back before.
abbrev pub lacks_slot : World → ℕ → Bool
lacks_slot w p = is_full w.board.mode (slots_used w.board p) && issues_standard (local_at w p)

-- a send that holds a slot until it is matched
abbrev pub frees_slot : Board → CallId → Bool
frees_slot b s = is_limited b.mode && is_buffered (kind_at b s)

-- this rank lacks the slot that the send holds
abbrev pub gives_slot : World → ℕ → CallId → Bool
gives_slot w p s = lacks_slot w p && (p == s.rank && is_buffered (kind_at w.board s))

-- ---- the decision

-- What no other step can touch: a local step that lacks no slot, a release, a wake, a match whose receive names its source and whose send
-- frees no slot.
abbrev pub is_quiet : World → Step → Bool
is_quiet w (Local p) = not (lacks_slot w p)
is_quiet w (Match s r) = names_source (kind_at w.board r) && not (frees_slot w.board s)
is_quiet w (WakeAny p i) = false
is_quiet w a = true

abbrev pub is_quiet_local : World → Step → Bool
is_quiet_local w a = is_local a && is_quiet w a

abbrev pub wide_decided : World → Option Step → Decision
wide_decided w (Some a) = Forced a
wide_decided w None = chosen_from w (enabled w)

-- the first quiet step that is enabled is forced; where there is none, all steps that are enabled are candidates
unfoldable pub wide_decision : World → Decision
wide_decision w = wide_decided w (first_enabled w (is_quiet w))

-- ---- steps that conflict

-- the rank whose step it is: none of a match, which is no rank's, and of a release, which is of all
abbrev pub mover : Step → Option ℕ
mover (Local p) = Some p
mover (Wake p) = Some p
mover (WakeAny p i) = Some p
mover a = None

abbrev pub of_one_rank : Option ℕ → Option ℕ → Bool
of_one_rank (Some p) (Some q) = p == q
of_one_rank one other = true

-- Two matches conflict where they share a call; a match and a local step where the one gives back a slot that the other lacks; a match
-- and no other step; and any other two where they are of one rank, as a release is of every rank.
abbrev pub conflict : World → Step → Step → Bool
conflict w (Match s r) (Match t q) = id_eq s t || id_eq r q
conflict w (Match s r) (Local p) = gives_slot w p s
conflict w (Local p) (Match s r) = gives_slot w p s
conflict w (Match s r) b = false
conflict w a (Match s r) = false
conflict w a b = of_one_rank (mover a) (mover b)

-- ---- steps that are asleep

abbrev pub is_asleep : List Step → Step → Bool
is_asleep asleep a = list_any (step_eq a) asleep

-- after a step, what conflicts with it is awake, and what else was asleep sleeps on
abbrev pub sleeps_on : World → Step → List Step → List Step
sleeps_on w a asleep = filter (λ z. not (conflict w a z)) asleep
