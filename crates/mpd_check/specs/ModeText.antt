-- What is said of each mode that is tried, and of all of them.
use Rattle.std.specs.Prelude.{ℕ, ◌++◌, ◌||◌, ◌&&◌, Bool, List, Option, Some, None, codes, if◌then◌else◌}
use Rattle.std.specs.Fmt.{decimal}
use Rattle.mpd_model.specs.declared.call.Mode.{Mode}
use Rattle.mpd_model.specs.texts.Modes.{mode_word}
use Rattle.mpd_model.specs.texts.Texts.{line}
use Rattle.mpd_check.specs.declared.counts.Tally.{Tally}
use Rattle.mpd_check.specs.declared.modes.Listed.{Listed}
use Rattle.mpd_check.specs.declared.modes.Listed.TheVariants.{Leaves, Outcomes}
use Rattle.mpd_check.specs.declared.modes.Tried.{Tried}
use Rattle.mpd_check.specs.Tally.{is_bad, is_whole}

abbrev pub yes_or_no : Bool → List ℕ
yes_or_no b = if b then codes "yes" else codes "no"

-- what a report lists
abbrev pub listed_word : Listed → List ℕ
listed_word Leaves = codes "leaves"
listed_word Outcomes = codes "outcomes"

-- how many of these a report lists, and how many of them are deadlocks and traps
abbrev pub counts_text : Listed → Tally → List ℕ
counts_text listed t = codes " " ++ listed_word listed ++ codes " " ++ decimal t.runs ++ codes " deadlocks " ++ decimal t.deadlocks ++ codes " traps " ++ decimal t.traps

-- how many leave messages over, and how many are cut
abbrev pub left_text : Tally → List ℕ
left_text t = codes " leftovers " ++ decimal t.leftovers ++ codes " cut " ++ decimal t.cut

-- what the report of a mode tells: `slots:2 leaves 12 deadlocks 3 traps 0 leftovers 1 cut 0 more no`
abbrev pub mode_line : Listed → Mode → Tally → List ℕ
mode_line listed mode t = line (mode_word mode ++ counts_text listed t ++ left_text t ++ codes " more " ++ yes_or_no t.more)

-- the first mode that was tried in which no deadlock and no trap is listed
abbrev pub least_line : Option Mode → List ℕ
least_line None = line (codes "least none")
least_line (Some mode) = line (codes "least " ++ mode_word mode)

-- ---- modes one after another

-- the first of them stays
abbrev pub first_good : Option Mode → Mode → Tally → Option Mode
first_good None mode t = if is_bad t then None else Some mode
first_good (Some first) mode t = Some first

-- with one mode more
abbrev pub tried_more : Tried → Mode → Tally → Tried
tried_more tried mode t = record { is_bad = tried.is_bad || is_bad t; are_whole = tried.are_whole && is_whole t; least = first_good tried.least mode t }
