-- A trail: steps, of which the first so many are not undone, and the world that these lead to.
use Rattle.std.specs.Prelude.{◌≡◌, ℕ, ◌+◌, ◌-◌, ◌≤◌, length, Bool, true, false, ◌&&◌, ◌==◌, if◌then◌else◌, List, [], ◌∷◌, ◌++◌, take, slice_get, Option, Some, None, IsSome, refl}
use Rattle.std.specs.Coded.{Coded, code_by, coded×, coded_ℕ, coded_list}
use Rattle.mpd_model.specs.declared.limits.TheConstants.{STEPS_MAX}
use Rattle.mpd_model.specs.declared.step.Step.{Step}
use Rattle.mpd_model.specs.declared.step.Step.TheVariants.{Local, Match, Wake, WakeAny, Release}
use Rattle.mpd_model.specs.declared.call.Mode.{Mode}
use Rattle.mpd_model.specs.contracts.step.Step as step_row
use Rattle.mpd_model.specs.contracts.call.Mode as mode_row
use Rattle.mpd_model.specs.script.Program.{Program, program_code}
use Rattle.mpd_model.specs.steps.World.{World, world_code, start, id_eq}
use Rattle.mpd_model.specs.steps.Next.{fold}

pub record Trail : Type 0 where
  pub program : Program
  pub mode : Mode
  -- all steps kept, undone ones included, and how many of them are not undone
  pub steps : List Step
  pub depth : ℕ

abbrev pub opening : Program → Mode → Trail
opening s mode = record { program = s; mode = mode; steps = []; depth = 0 }

-- the steps not undone, and where they lead
abbrev pub done_steps : Trail → List Step
done_steps t = take t.depth t.steps

abbrev pub world_of : Trail → Option World
world_of t = fold (start t.program t.mode) (done_steps t)

abbrev pub step_eq : Step → Step → Bool
step_eq (Local p) (Local q) = p == q
step_eq (Match s r) (Match u v) = id_eq s u && id_eq r v
step_eq (Wake p) (Wake q) = p == q
step_eq (WakeAny p i) (WakeAny q j) = (p == q) && (i == j)
step_eq Release Release = true
step_eq a b = false

abbrev pub is_step : Option Step → Step → Bool
is_step None a = false
is_step (Some b) a = step_eq b a

-- A step that stands there already is taken again, and those after it stay; another drops them all.
abbrev pub noted : List Step → ℕ → Step → List Step
noted steps depth a = if is_step (slice_get steps depth) a then steps else take depth steps ++ a ∷ []

abbrev pub applied : Trail → Step → Trail
applied t a = record t { steps = noted t.steps t.depth a; depth = t.depth + 1 }

abbrev pub taken_back : Trail → Trail
taken_back t = record t { depth = t.depth - 1 }

-- The step at the depth is taken again.
abbrev pub redone : Trail → Trail
redone t = record t { depth = t.depth + 1 }

-- Steps are taken back until so many are left.
abbrev pub gone_back : Trail → ℕ → Trail
gone_back t depth = record t { depth = depth }

-- without the steps that are undone
abbrev pub forgotten : Trail → Trail
forgotten t = record t { steps = done_steps t }

-- with other steps
abbrev pub with_steps : Trail → List Step → Trail
with_steps t steps = record t { steps = steps }

-- where a debugger stands: its trail, and the world of that trail
pub record Standing : Type 0 where
  pub trail : Trail
  pub world : World

-- The steps lead somewhere from the first world, so each is enabled where it stands, and they are not too many.
pub record IsRun (s : Program) (mode : Mode) (steps : List Step) : Type 0 where
  pub leads : IsSome (fold (start s mode) steps)
  pub few : length steps ≤ STEPS_MAX

-- The world is where the steps not undone lead, and so many steps there are. The undone ones lead on from there.
pub record IsReached (s : Standing) : Type 0 where
  pub world : world_of s.trail ≡ Some s.world
  pub within : s.trail.depth ≤ length s.trail.steps
  pub run : IsRun s.trail.program s.trail.mode s.trail.steps

abbrev pub first_standing : Program → Mode → Standing
first_standing s mode = record { trail = opening s mode; world = start s mode }

abbrev pub trail_code : Coded Trail
trail_code =
    code_by (Program × (Mode × (List Step × ℕ))) (coded× program_code (coded× mode_row.the_row.coded (coded× (coded_list step_row.the_row.coded) coded_ℕ)))
    (λ t. (t.program, (t.mode, (t.steps, t.depth)))) (λ q. record { program = q.0; mode = q.1.0; steps = q.1.1.0; depth = q.1.1.1 }) (λ _. refl)

abbrev pub standing_code : Coded Standing
standing_code = code_by (Trail × World) (coded× trail_code world_code) (λ s. (s.trail, s.world)) (λ q. record { trail = q.0; world = q.1 }) (λ _. refl)
