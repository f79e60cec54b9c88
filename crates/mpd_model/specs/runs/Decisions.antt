-- What comes next in a world: a selection from its enabled steps.
use Rattle.std.specs.Prelude.{◌≡◌, ◌<◌, ◌==◌, ℕ, option_and_then, Bool, true, false, is_some, is_none, List, [], ◌∷◌, length, Option, Some, None, IsSome}
use Rattle.std.specs.List.{filter, All}
use Rattle.mpd_model.specs.declared.call.CallKind.{CallKind}
use Rattle.mpd_model.specs.declared.call.CallKind.TheVariants.{Recv}
use Rattle.mpd_model.specs.declared.step.Step.{Step}
use Rattle.mpd_model.specs.declared.step.Step.TheVariants.{Local, Match, Wake, WakeAny, Release}
use Rattle.mpd_model.specs.declared.outcome.Outcome.{Outcome}
use Rattle.mpd_model.specs.declared.decision.Decision.{Decision}
use Rattle.mpd_model.specs.declared.decision.Decision.TheVariants.{Forced, Choice, Leaf}
use Rattle.mpd_model.specs.steps.World.{World, Board, kind_at}
use Rattle.mpd_model.specs.steps.Next.{next, enabled}
use Rattle.mpd_model.specs.steps.Why.{first_in, or_else}
use Rattle.mpd_model.specs.steps.Outcomes.{ending, outcome}

-- ---- kinds of steps

abbrev pub is_local : Step → Bool
is_local (Local p) = true
is_local a = false

abbrev pub is_release : Step → Bool
is_release Release = true
is_release a = false

abbrev pub is_wake : Step → Bool
is_wake (Wake p) = true
is_wake a = false

abbrev pub same_rank : ℕ → Option ℕ → Bool
same_rank p None = false
same_rank p (Some q) = p == q

-- the rank of a waitany's step
abbrev pub any_rank : Step → Option ℕ
any_rank (WakeAny p i) = Some p
any_rank a = None

-- a receive that names its source, and one of any source
abbrev pub names_source : Option CallKind → Bool
names_source (Some (Recv r)) = is_some r.from
names_source kind = false

abbrev pub takes_any : Option CallKind → Bool
takes_any (Some (Recv r)) = is_none r.from
takes_any kind = false

-- a match whose receive names its source, and one whose receive is of any source
abbrev pub is_named_match : Board → Step → Bool
is_named_match b (Match s r) = names_source (kind_at b r)
is_named_match b a = false

abbrev pub is_open_match : Board → Step → Bool
is_open_match b (Match s r) = takes_any (kind_at b r)
is_open_match b a = false

-- ---- the decision

-- the first of the enabled steps that pass a test
abbrev pub first_enabled : World → (Step → Bool) → Option Step
first_enabled w test = first_in (filter test (enabled w))

-- The step that nobody has to choose: a local step, else the release, else a wake, else a match whose receive names its source. The
-- enabled steps stand by rank, and matches by receiver and receive, so the first of a kind is that of the lowest.
abbrev pub forced_step : World → Option Step
forced_step w =
    or_else (first_enabled w is_local)
    (or_else (first_enabled w is_release)
    (or_else (first_enabled w is_wake)
    (first_enabled w (is_named_match w.board))))

-- the matches of receives of any source, by receiver, receive and sender
abbrev pub open_matches : World → List Step
open_matches w = filter (is_open_match w.board) (enabled w)

-- the steps of one rank's waitany
abbrev pub is_of : Option ℕ → Step → Bool
is_of None a = false
is_of (Some p) a = same_rank p (any_rank a)

-- those of the lowest rank that has one, by index
abbrev pub any_choices : World → List Step
any_choices w = filter (is_of (option_and_then any_rank (first_enabled w (λ a. is_some (any_rank a))))) (enabled w)

abbrev pub or_those : List Step → List Step → List Step
or_those [] others = others
or_those (a ∷ steps) others = a ∷ steps

-- A choice among the requests of a waitany stands before one among matches.
abbrev pub choices : World → List Step
choices w = or_those (any_choices w) (open_matches w)

abbrev pub chosen_from : World → List Step → Decision
chosen_from w [] = Leaf (ending w)
chosen_from w (a ∷ steps) = Choice (a ∷ steps)

abbrev pub decided : World → Option Step → Decision
decided w (Some a) = Forced a
decided w None = chosen_from w (choices w)

unfoldable pub decision : World → Decision
decision w = decided w (forced_step w)

-- What can be done with a decision: a forced step is enabled, and so are all candidates of a choice, of which there is one at least;
-- at a leaf no step is enabled, and the run has ended so.
abbrev pub CanFollow : World → Decision → Type 0
CanFollow w (Forced a) = IsSome (next w a)
CanFollow w (Choice steps) = (0 < length steps) × All (λ a. IsSome (next w a)) steps
CanFollow w (Leaf o) = (enabled w ≡ []) × (outcome w ≡ Some o)
