-- How many ranks or calls an outcome lists: nothing is kept in memory for one that lists none.
use Rattle.std.specs.Prelude.{ℕ, length, Option, Some, None}
use Rattle.mpd_model.specs.declared.outcome.Outcome.{Outcome}
use Rattle.mpd_model.specs.declared.outcome.Outcome.TheVariants.{Done, Leftovers, Deadlock, Trap}

abbrev pub listed_by : Outcome → ℕ
listed_by Done = 0
listed_by (Leftovers calls) = length calls
listed_by (Deadlock calls) = length calls
listed_by (Trap ranks) = length ranks

abbrev pub listed : Option Outcome → ℕ
listed None = 0
listed (Some o) = listed_by o
