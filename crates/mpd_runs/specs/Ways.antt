-- How runs end, in a word.
use Rattle.std.specs.Prelude.{ℕ, Bool, true, false, if◌then◌else◌, List, [], ◌∷◌, count_by, Option, Some, None}
use Rattle.mpd_model.specs.declared.outcome.Outcome.TheVariants as outcome
use Rattle.mpd_policy.specs.declared.ending.Ending.{Ending}
use Rattle.mpd_policy.specs.declared.ending.Ending.TheVariants as ending
use Rattle.mpd_explore.specs.declared.report.SearchLeaf.{SearchLeaf}
use Rattle.mpd_runs.specs.declared.way.Way.{Way}
use Rattle.mpd_runs.specs.declared.way.Way.TheVariants.{Done, Leftovers, Deadlock, Trap, Cut}

abbrev pub way_of : Ending → Way
way_of ending.Cut = Cut
way_of (ending.Ended outcome.Done) = Done
way_of (ending.Ended (outcome.Leftovers calls)) = Leftovers
way_of (ending.Ended (outcome.Deadlock calls)) = Deadlock
way_of (ending.Ended (outcome.Trap ranks)) = Trap

abbrev pub same_way : Way → Way → Bool
same_way Done Done = true
same_way Leftovers Leftovers = true
same_way Deadlock Deadlock = true
same_way Trap Trap = true
same_way Cut Cut = true
same_way x y = false

-- whether a run ends so
abbrev pub ends_in : Way → SearchLeaf → Bool
ends_in x l = same_way x (way_of l.ending)

abbrev pub count_in : Way → List SearchLeaf → ℕ
count_in x leaves = count_by (ends_in x) leaves

-- the first run that ends so
abbrev pub first_in : Way → List SearchLeaf → Option SearchLeaf
first_in x [] = None
first_in x (l ∷ ls) = if ends_in x l then Some l else first_in x ls
