-- Steps, told apart by whether they are local.
use Rattle.mpd_model.specs.declared.step.Step.{Step}
use Rattle.mpd_model.specs.declared.step.Step.TheVariants as step
use Rattle.mpd_core.specs.declared.step.OtherStep.{OtherStep}
use Rattle.mpd_core.specs.declared.step.OtherStep.TheVariants.{Match, Wake, WakeAny, Release}
use Rattle.mpd_core.specs.declared.step.AnyStep.{AnyStep}
use Rattle.mpd_core.specs.declared.step.AnyStep.TheVariants.{Local, Other}

abbrev pub other_step : OtherStep → Step
other_step (Match s r) = step.Match s r
other_step (Wake p) = step.Wake p
other_step (WakeAny p i) = step.WakeAny p i
other_step Release = step.Release

abbrev pub any_step : AnyStep → Step
any_step (Local p) = step.Local p
any_step (Other a) = other_step a
