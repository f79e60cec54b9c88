-- The runs from where a trail stands. They are those of the wide walk that takes two steps which do not conflict in one order alone, so they have
-- every end (docs/DEFINITIONS.md, "What a walk says of all runs").
use Rattle.std.specs.Prelude.{ℕ, ◌-◌, ◌==◌, Bool, true, false, ◌&&◌, ◌||◌, not, nat_lt, if◌then◌else◌, List, length, map, take}
use Rattle.mpd_model.specs.declared.limits.TheConstants.{STEPS_MAX, RUNS_MAX}
use Rattle.mpd_model.specs.steps.World.{World}
use Rattle.mpd_explore.specs.declared.report.SearchLeaf.{SearchLeaf}
use Rattle.mpd_explore.specs.Sleeping.{walk_by}
use Rattle.mpd_explore.specs.Report.{shown}
use Rattle.mpd_runs.specs.declared.counts.WayCounts.{WayCounts}
use Rattle.mpd_runs.specs.declared.listing.TheConstants.{FUEL}
use Rattle.mpd_runs.specs.Counts.{is_count}

-- how many steps a run may have after so many
abbrev pub fuel_at : ℕ → ℕ
fuel_at depth = if nat_lt (STEPS_MAX - depth) FUEL then STEPS_MAX - depth else FUEL

-- all runs from a world with so much fuel, in the order of their choices
abbrev pub all_runs : ℕ → World → List SearchLeaf
all_runs fuel w = map shown (walk_by true fuel w)

-- the first so many of them, and whether there are more
abbrev pub first_runs : ℕ → ℕ → World → List SearchLeaf
first_runs n fuel w = take n (all_runs fuel w)

abbrev pub are_more : ℕ → ℕ → World → Bool
are_more n fuel w = nat_lt n (length (all_runs fuel w))

-- how many runs may be asked for, and which may be
abbrev pub is_number : ℕ → Bool
is_number n = if (n == 0) || nat_lt RUNS_MAX n then false else true

-- whether some runs have all ways to end: there are no more, and none is cut
abbrev pub sees_all : WayCounts → Bool
sees_all counts = not counts.more && is_count 0 counts.cut
