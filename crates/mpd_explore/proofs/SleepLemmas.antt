-- What is asleep after some choices, as the code notes it.
use Rattle.std.proofs.Common.{◌≡◌, Bool, true, false, if◌then◌else◌, List, [], Some, None, sym, ap, ◌∙◌}
use Rattle.mpd_model.specs.declared.step.Step.{Step}
use Rattle.mpd_explore.specs.Slept.{asleep_there}
use Rattle.mpd_explore.specs.declared.sleep.Sleep.{Sleep}

-- ---- what is asleep

pub none_there : (s : Sleep) → s.steps ≡ [] → s.is_passed ≡ false → asleep_there s ≡ Some []
none_there s none awake = ap (λ (b : Bool). if b then None else Some s.steps) awake ∙ ap Some none

pub passed_there : (s : Sleep) (b : Bool) → b ≡ s.is_passed → b ≡ true → asleep_there s ≡ None
passed_there s b is passed = ap (λ (x : Bool). if x then None else Some s.steps) (sym is ∙ passed)

pub awake_there : (s : Sleep) (b : Bool) (now : List Step) → b ≡ s.is_passed → b ≡ false → now ≡ s.steps → asleep_there s ≡ Some now
awake_there s b now is awake same = ap (λ (x : Bool). if x then None else Some s.steps) (sym is ∙ awake) ∙ ap Some (sym same)
