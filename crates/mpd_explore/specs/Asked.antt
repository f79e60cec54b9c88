-- Of which leaves the witnesses are asked for.
use Rattle.std.specs.Prelude.{ℕ, Bool, true, false, if◌then◌else◌, List, []}
use Rattle.mpd_model.specs.declared.outcome.Outcome.TheVariants as outcome_is
use Rattle.mpd_policy.specs.declared.ending.Ending.{Ending}
use Rattle.mpd_policy.specs.declared.ending.Ending.TheVariants.{Ended}
use Rattle.mpd_explore.specs.declared.report.Witnesses.{Witnesses}
use Rattle.mpd_explore.specs.declared.report.Witnesses.TheVariants.{OfNone, OfDeadlocks, OfAll}

-- whether those of any are
abbrev pub are_asked : Witnesses → Bool
are_asked OfNone = false
are_asked OfDeadlocks = true
are_asked OfAll = true

abbrev pub is_deadlock : Ending → Bool
is_deadlock (Ended (outcome_is.Deadlock calls)) = true
is_deadlock e = false

-- whether that of a run is which ends so
abbrev pub asks : Witnesses → Ending → Bool
asks OfNone e = false
asks OfDeadlocks e = is_deadlock e
asks OfAll e = true

-- what is told of the witness of a run that ends so: nothing where it isn't asked for
abbrev pub asked_text : Witnesses → Ending → List ℕ → List ℕ
asked_text asked e text = if asks asked e then text else []
