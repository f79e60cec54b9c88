-- Which step one is with what it is about.
use Rattle.std.proofs.Common.{◌≡◌, refl}
use Rattle.mpd_model.specs.declared.step.Step.{Step}
use Rattle.mpd_model.specs.declared.step.Step.TheVariants.{Local, Match, Wake, WakeAny, Release}
use Rattle.mpd_model.specs.script.Program.{Program}
use Rattle.mpd_model.specs.steps.World.{World}
use Rattle.mpd_explain.specs.Steps.{placed_step_of, step_of}

pub step_placed : (s : Program) (w : World) (a : Step) → step_of (placed_step_of s w a) ≡ a
step_placed s w (Local p) = refl
step_placed s w (Match c d) = refl
step_placed s w (Wake p) = refl
step_placed s w (WakeAny p i) = refl
step_placed s w Release = refl
