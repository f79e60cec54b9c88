-- Worked rows of what is said of a mode.
use Rattle.std.specs.Prelude.{◌≡◌, true, false, codes, refl}
use Rattle.std.specs.Fmt.{digits}
use Rattle.mpd_model.specs.declared.call.Mode.TheVariants.{Rendezvous, Buffered, Slots}
use Rattle.mpd_check.specs.declared.counts.Tally.{Tally}
use Rattle.mpd_check.specs.declared.modes.Listed.TheVariants.{Leaves, Outcomes}
use Rattle.mpd_check.specs.ModeText.{mode_line}

abbrev one_hangs : Tally
one_hangs = record { runs = 2; leftovers = 1; deadlocks = 1; traps = 0; cut = 0; more = false }

abbrev many : Tally
many = record { runs = 120; leftovers = 31; deadlocks = 13; traps = 7; cut = 20; more = true }

pub row_outcomes : mode_line Outcomes Rendezvous one_hangs ≡ codes "rendezvous outcomes 2 deadlocks 1 traps 0 leftovers 1 cut 0 more no\n"
unfolding digits
row_outcomes = refl

pub row_leaves : mode_line Leaves Buffered one_hangs ≡ codes "buffered leaves 2 deadlocks 1 traps 0 leftovers 1 cut 0 more no\n"
unfolding digits
row_leaves = refl

pub row_many : mode_line Outcomes (Slots 12) many ≡ codes "slots:12 outcomes 120 deadlocks 13 traps 7 leftovers 31 cut 20 more yes\n"
unfolding digits
row_many = refl
