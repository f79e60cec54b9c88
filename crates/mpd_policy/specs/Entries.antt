-- How many entries a decision lists: nothing is kept in memory for one that lists none.
use Rattle.std.specs.Prelude.{ℕ, length}
use Rattle.mpd_model.specs.declared.decision.Decision.{Decision}
use Rattle.mpd_model.specs.declared.decision.Decision.TheVariants.{Forced, Choice, Leaf}
use Rattle.mpd_core.specs.Listed.{listed_by}

abbrev pub entries_of : Decision → ℕ
entries_of (Forced a) = 0
entries_of (Choice steps) = length steps
entries_of (Leaf o) = listed_by o
