-- How many writes a step takes at most, and so does taking it back.
use Rattle.std.specs.Prelude.{ℕ, ◌+◌, ◌*◌}
use Rattle.mpd_model.specs.declared.step.Step.{Step}
use Rattle.mpd_model.specs.declared.step.Step.TheVariants.{Release}
use Rattle.mpd_core.specs.declared.record.OtherRecord.TheVariants.{Released}
use Rattle.mpd_core.specs.declared.record.Record.{Record}
use Rattle.mpd_core.specs.declared.record.Record.TheVariants.{Other}

-- of so many ranks: a release writes on each of them
abbrev pub most_writes : ℕ → Step → ℕ
most_writes ranks Release = 16 + 2 * ranks
most_writes ranks a = 16

-- taking back, told by the record
abbrev pub most_writes_back : ℕ → Record → ℕ
most_writes_back ranks (Other Released) = 16 + 2 * ranks
most_writes_back ranks done = 16
