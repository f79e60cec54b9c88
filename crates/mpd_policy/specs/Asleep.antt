-- Which steps are asleep where the decisions are as they are defined.
use Rattle.std.specs.Prelude.{Bool, false, ◌&&◌, List}
use Rattle.mpd_model.specs.declared.step.Step.{Step}
use Rattle.mpd_model.specs.declared.step.Step.TheVariants.{Match}
use Rattle.mpd_model.specs.steps.World.{World, id_eq}

-- only matches are asleep: two steps are one match
abbrev pub same_match : Step → Step → Bool
same_match (Match s r) (Match t q) = id_eq s t && id_eq r q
same_match a b = false

-- No step wakes another: where one is taken that shares a call with a match that is asleep, that match is never enabled again.
abbrev pub nothing_wakes : World → Step → List Step → List Step
nothing_wakes w a asleep = asleep
