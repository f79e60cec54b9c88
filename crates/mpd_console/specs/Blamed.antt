-- The step that decided how the kept run ends, and how the other step is taken there.
use Rattle.std.specs.Prelude.{◌≡◌, ℕ, ◌+◌, ◌-◌, nat_lt, if◌then◌else◌, List, length, Option, Some, None}
use Rattle.std.specs.List.{position}
use Rattle.mpd_model.specs.declared.limits.TheConstants.{STEPS_MAX}
use Rattle.mpd_model.specs.declared.step.Step.{Step}
use Rattle.mpd_model.specs.declared.decision.Decision.{Decision}
use Rattle.mpd_model.specs.declared.decision.Decision.TheVariants.{Forced, Choice, Leaf}
use Rattle.mpd_model.specs.steps.World.{World, start}
use Rattle.mpd_model.specs.runs.Decisions.{decision}
use Rattle.mpd_model.specs.runs.Trail.{Trail, step_eq}
use Rattle.mpd_runs.specs.declared.listing.TheConstants.{FUEL}
use Rattle.mpd_runs.specs.declared.states.TheConstants.{STATES_VISITED}
use Rattle.mpd_blame.specs.declared.back.Blame.{Blame}
use Rattle.mpd_blame.specs.declared.back.Blame.TheVariants as blame_is
use Rattle.mpd_blame.specs.declared.told.PlacedBlame.{PlacedBlame}
use Rattle.mpd_blame.specs.Blame.{IsBlame, IsThere}
use Rattle.mpd_blame.specs.Told.{placed_blame}

-- how many steps a run has at most, from the start, where so many are kept
abbrev pub kept_limit : ℕ → ℕ
kept_limit n = if nat_lt (STEPS_MAX - n) FUEL then STEPS_MAX else n + FUEL

-- a trail on which all steps are taken that another one keeps
pub record IsWhole (t u : Trail) : Type 0 where
  pub program : u.program ≡ t.program
  pub mode : u.mode ≡ t.mode
  pub steps : u.steps ≡ t.steps
  pub depth : u.depth ≡ length t.steps

-- ---- how the other step is taken, which ends well

-- the place of a step among the candidates of a choice of two or more
abbrev pub place_among : Step → List Step → Option ℕ
place_among a steps = if nat_lt 1 (length steps) then position (λ b. step_eq b a) steps else None

-- candidates are counted from 1
abbrev pub number_at : Option ℕ → Option ℕ
number_at None = None
number_at (Some place) = Some (place + 1)

-- the number with which `next` takes a step, where it does
abbrev pub number_by : Step → Decision → Option ℕ
number_by a (Choice steps) = number_at (place_among a steps)
number_by a (Forced b) = None
number_by a (Leaf o) = None

-- where another step is known, the number of that
abbrev pub number_for : World → Blame → Option ℕ
number_for w (blame_is.At d) = number_by d.other (decision w)
number_for w b = None

-- ---- both

-- where it was decided how the kept run ends, with the step that did, and the number with which another way is taken there
pub record IsBlamed (t : Trail) (b : PlacedBlame) (n : Option ℕ) : Type 0 where
  pub is : IsBlame STATES_VISITED (kept_limit (length t.steps)) (start t.program t.mode) t.steps b.blame
  pub world : World
  pub there : IsThere (start t.program t.mode) t.steps b.blame world
  pub placed : b ≡ placed_blame t.program world b.blame
  pub number : n ≡ number_for world b.blame
