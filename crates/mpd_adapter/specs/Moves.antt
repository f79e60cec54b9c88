-- The words of the console that the moves of an editor stand for (docs/ADAPTER.md, "Moves").
use Rattle.std.specs.Prelude.{ℕ, ◌+◌, ◌==◌, Bool, false, ◌||◌, if◌then◌else◌, List, [], ◌∷◌, length, slice_get, Option, Some, None}
use Rattle.std.specs.List.{flat_map, range_with_len}
use Rattle.mpd_model.specs.declared.limits.TheConstants.{STEPS_MAX}
use Rattle.mpd_model.specs.declared.step.Step.{Step}
use Rattle.mpd_model.specs.declared.step.Step.TheVariants.{Local, Match, Wake, WakeAny, Release}
use Rattle.mpd_model.specs.declared.decision.Decision.{Decision}
use Rattle.mpd_model.specs.declared.decision.Decision.TheVariants.{Forced, Choice, Leaf}
use Rattle.mpd_model.specs.steps.World.{World}
use Rattle.mpd_model.specs.runs.Trail.{world_of}
use Rattle.mpd_model.specs.runs.Decisions.{decision}
use Rattle.mpd_runs.specs.LastChoice.{last_stop}
use Rattle.mpd_session.specs.Held.{Held}
use Rattle.mpd_vocabulary.specs.declared.word.Word.{Word}
use Rattle.mpd_vocabulary.specs.declared.word.Word.TheVariants as word
use Rattle.mpd_adapter.specs.declared.moves.After.{After}
use Rattle.mpd_adapter.specs.declared.moves.After.TheVariants as behind
use Rattle.mpd_adapter.specs.declared.moves.Move.{Move}
use Rattle.mpd_adapter.specs.Seen.{seen}
use Rattle.mpd_adapter.specs.declared.moves.Move.TheVariants.{Continue, Next, StepIn, StepOut, StepBack, ReverseContinue, Restart}

abbrev pub after : Move → After
after (Continue p) = behind.Run p
after (ReverseContinue p) = behind.Run p
after (Next p) = behind.Step p
after (StepIn p target) = behind.Step p
after (StepOut p) = behind.Step p
after (StepBack p) = behind.Step p
after Restart = behind.Jump

-- ---- candidates

-- a rank takes part in a match by its send or its receive, and in its own steps
abbrev pub takes_part : ℕ → Step → Bool
takes_part p (Local q) = q == p
takes_part p (Match c d) = (c.rank == p) || (d.rank == p)
takes_part p (Wake q) = q == p
takes_part p (WakeAny q i) = q == p
takes_part p Release = false

-- the number from 1 of the candidate at a place, if the rank takes part in it
abbrev pub own_if : ℕ → ℕ → Option Step → List ℕ
own_if p place None = []
own_if p place (Some a) = if takes_part p a then (place + 1) ∷ [] else []

abbrev pub own_at : ℕ → List Step → ℕ → List ℕ
own_at p steps place = own_if p place (slice_get steps place)

abbrev pub own_among : ℕ → List Step → List ℕ
own_among p steps = flat_map (own_at p steps) (range_with_len 0 (length steps))

-- A choice is open where it has two candidates or more.
abbrev pub open_among : Decision → List Step
open_among (Forced a) = []
open_among (Leaf o) = []
open_among (Choice []) = []
open_among (Choice (a ∷ [])) = []
open_among (Choice (a ∷ (b ∷ steps))) = a ∷ (b ∷ steps)

abbrev pub own_candidates : World → ℕ → List ℕ
own_candidates w p = own_among p (open_among (decision w))

-- ---- words

-- the only candidate in which the rank takes part, if there is one alone
abbrev pub step_alone : List ℕ → Word
step_alone [] = word.Next None
step_alone (n ∷ []) = word.Next (Some n)
step_alone (n ∷ (m ∷ more)) = word.Next None

abbrev pub step_in : World → ℕ → Option ℕ → Word
step_in w p (Some n) = word.Next (Some n)
step_in w p None = step_alone (own_candidates w p)

-- where a run would have stopped last before, or the start
abbrev pub stop_depth : Option ℕ → ℕ
stop_depth None = 0
stop_depth (Some n) = n

abbrev pub word_for : Held → World → Move → Word
word_for s w (Continue p) = word.Run STEPS_MAX
word_for s w (Next p) = word.UntilRank p
word_for s w (StepIn p target) = step_in w p target
word_for s w (StepOut p) = word.Finish (Some p)
word_for s w (StepBack p) = word.BackRank p
word_for s w (ReverseContinue p) = word.Goto (stop_depth (last_stop s.breaks s.trail))
word_for s w Restart = word.Goto 0

abbrev pub word_in : Held → Move → Word
word_in s m = seen (word.Next None) (λ w. word_for s w m) (world_of s.trail)
