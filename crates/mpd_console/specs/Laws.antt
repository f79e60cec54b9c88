-- What holds of moves along steps ahead (docs/CONSOLE.md, "How these words go along steps ahead").
use Rattle.std.specs.Prelude.{◌≡◌, ℕ, ◌<◌, ◌≤◌, true, false, List, length, Option, None}
use Rattle.mpd_model.specs.declared.limits.TheConstants.{STEPS_MAX}
use Rattle.mpd_model.specs.declared.breakpoint.Breakpoint.{Breakpoint}
use Rattle.mpd_model.specs.declared.breakpoint.Cause.TheVariants as for
use Rattle.mpd_model.specs.steps.World.{World}
use Rattle.mpd_model.specs.runs.Breakpoints.{break_at}
use Rattle.mpd_model.specs.runs.Running.{hit_at, ran_back}
use Rattle.mpd_model.specs.runs.Trail.{Trail}
use Rattle.mpd_session.specs.Effects.{run_back_effect}
use Rattle.mpd_vocabulary.specs.declared.word.Word.TheVariants as word
use Rattle.mpd_console.specs.declared.along.Goal.{Goal}
use Rattle.mpd_console.specs.declared.moves.Doing.TheVariants.{Goes}
use Rattle.mpd_console.specs.Along.{halts_at, end_along, stopped_at}
use Rattle.mpd_console.specs.Moves.{doing_of}

-- where a move along steps ahead ends: after one of them at least and not beyond them, it stops at no depth before, and there if not all are taken
pub record IsFirstStop (places : List (Option Breakpoint)) (g : Goal) (t : Trail) (n : ℕ) : Type 0 where
  pub more : t.depth < n
  pub within : n ≤ length t.steps
  pub before : (m : ℕ) → t.depth < m → m < n → halts_at places g t.depth t m ≡ false
  pub there : n < length t.steps → halts_at places g t.depth t n ≡ true

-- A move along steps ahead ends there.
abbrev pub MovesGoToTheFirstStop : Type 0
MovesGoToTheFirstStop = (places : List (Option Breakpoint)) (g : Goal) (t : Trail) → t.depth < length t.steps → IsFirstStop places g t (end_along places g t)

-- A run back for a breakpoint stands before the last step that hits one.
abbrev pub RunsBackToTheLast : Type 0
RunsBackToTheLast = (places : List (Option Breakpoint)) (t : Trail) (n m : ℕ) → (ran_back places t t.depth).cause ≡ for.Break n → (run_back_effect t places).1.depth < m → m < t.depth → hit_at places t m ≡ None

-- A run from there takes this step, and stops for the same breakpoint.
abbrev pub RunsOnAsItRanBack : Type 0
RunsOnAsItRanBack =
    (places : List (Option Breakpoint)) (t : Trail) (w : World) (n max : ℕ) → t.depth ≤ length t.steps → (ran_back places t t.depth).cause ≡ for.Break n → 1 ≤ max → max ≤ STEPS_MAX
    → doing_of (run_back_effect t places).1 w places (word.Run max) ≡ Goes (record { steps = 1; stopped = stopped_at n (break_at places n) })
