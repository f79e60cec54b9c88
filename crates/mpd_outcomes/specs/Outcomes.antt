-- What is told of the ways that runs end.
use Rattle.std.specs.Prelude.{◌≡◌, ◌≤◌, ℕ, ◌^◌, ◌+◌, if◌then◌else◌, nat_lt, take, List, length, map}
use Rattle.mpd_model.specs.steps.World.{World}
use Rattle.mpd_policy.specs.Walk.{wide_walk}
use Rattle.mpd_explore.specs.declared.report.SearchLeaf.{SearchLeaf}
use Rattle.mpd_explore.specs.Report.{shown}
use Rattle.mpd_explore.specs.Ends.{firsts, times}
use Rattle.mpd_outcomes.specs.declared.report.Count.{Count}
use Rattle.mpd_outcomes.specs.declared.report.Count.TheVariants.{Exactly, More}
use Rattle.mpd_outcomes.specs.declared.report.Outcomes.{Outcomes}

-- ---- counts

-- a count, exact where it is below 2^64
abbrev pub counted : ℕ → Count
counted n = if nat_lt n (2 ^ 64) then Exactly n else More

abbrev pub plus : Count → Count → Count
plus (Exactly a) (Exactly b) = counted (a + b)
plus c d = More

-- ---- what is told of the leaves of runs

-- the leaves of the wide walk from a state with so much fuel
abbrev pub leaves_from : ℕ → World → List SearchLeaf
leaves_from fuel w = map shown (wide_walk fuel w)

-- Of the runs of the wide walk some were come to, the first ones. The first run of each way that these end is shown, and how many of them
-- end so; there are more exactly where some were not come to.
pub record TellsRuns (fuel : ℕ) (w : World) (o : Outcomes) : Type 0 where
  pub runs : ℕ
  pub few : runs ≤ length (wide_walk fuel w)
  pub firsts_are : o.firsts.leaves.items ≡ firsts (take runs (leaves_from fuel w))
  pub counts_are : o.counts.items ≡ map (λ l. counted (times (take runs (leaves_from fuel w)) l)) (firsts (take runs (leaves_from fuel w)))
  pub total_is : o.total ≡ counted runs
  pub more_is : o.firsts.more ≡ nat_lt runs (length (wide_walk fuel w))
