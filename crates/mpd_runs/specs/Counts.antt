-- How many runs end in each way.
use Rattle.std.specs.Prelude.{ℕ, ◌==◌, Bool, false, List, [], ◌∷◌, length, if◌then◌else◌}
use Rattle.mpd_explore.specs.declared.report.SearchLeaf.{SearchLeaf}
use Rattle.mpd_outcomes.specs.declared.report.Count.{Count}
use Rattle.mpd_outcomes.specs.declared.report.Count.TheVariants.{Exactly, More}
use Rattle.mpd_outcomes.specs.declared.report.Outcomes.{Outcomes}
use Rattle.mpd_outcomes.specs.Outcomes.{counted, plus}
use Rattle.mpd_runs.specs.declared.counts.WayCounts.{WayCounts}
use Rattle.mpd_runs.specs.declared.way.Way.{Way}
use Rattle.mpd_runs.specs.declared.way.Way.TheVariants.{Done, Leftovers, Deadlock, Trap, Cut}
use Rattle.mpd_runs.specs.Ways.{count_in, ends_in}

-- of some runs, beside which there may be more
abbrev pub counts_of : List SearchLeaf → Bool → WayCounts
counts_of leaves more = record {
  done = counted (count_in Done leaves);
  leftovers = counted (count_in Leftovers leaves);
  deadlock = counted (count_in Deadlock leaves);
  trap = counted (count_in Trap leaves);
  cut = counted (count_in Cut leaves);
  total = counted (length leaves);
  more = more;
}

abbrev pub count_of : WayCounts → Way → Count
count_of c Done = c.done
count_of c Leftovers = c.leftovers
count_of c Deadlock = c.deadlock
count_of c Trap = c.trap
count_of c Cut = c.cut

-- whether it is exactly so many
abbrev pub is_count : ℕ → Count → Bool
is_count n (Exactly k) = k == n
is_count n More = false

-- Runs are told by the first of each end and how many end so: what those that end in a way come to, added to a count.
abbrev pub with_told : Way → Count → List SearchLeaf → List Count → Count
with_told x sum [] cs = sum
with_told x sum (l ∷ ls) [] = sum
with_told x sum (l ∷ ls) (c ∷ cs) = with_told x (if ends_in x l then plus sum c else sum) ls cs

-- what is told of all runs by those of each end
abbrev pub told_counts : Outcomes → WayCounts
told_counts o = record {
  done = with_told Done (Exactly 0) o.firsts.leaves.items o.counts.items;
  leftovers = with_told Leftovers (Exactly 0) o.firsts.leaves.items o.counts.items;
  deadlock = with_told Deadlock (Exactly 0) o.firsts.leaves.items o.counts.items;
  trap = with_told Trap (Exactly 0) o.firsts.leaves.items o.counts.items;
  cut = with_told Cut (Exactly 0) o.firsts.leaves.items o.counts.items;
  total = o.total;
  more = o.firsts.more;
}
