-- What is told of leaves, put together from parts: counts by the numbers of ways.
use Rattle.std.specs.Prelude.{◌≡◌, ◌≤◌, ℕ, Bool, true, List, [], ◌∷◌, ◌++◌, length, replicate, slice_get, slice_index_or, Some}
use Rattle.std.specs.List.{list_all}
use Rattle.mpd_policy.specs.declared.ending.Ending.{Ending}
use Rattle.mpd_explore.specs.declared.report.SearchLeaf.{SearchLeaf}
use Rattle.mpd_outcomes.specs.declared.report.Count.{Count}
use Rattle.mpd_outcomes.specs.declared.report.Count.TheVariants.{Exactly}
use Rattle.mpd_outcomes.specs.declared.sums.Tally.{Tally}
use Rattle.mpd_explore.specs.Ends.{ending_eq, has_end, times}
use Rattle.mpd_outcomes.specs.Outcomes.{plus, counted}

-- each count to the one of its number
abbrev pub added : List Count → List Count → List Count
added [] ds = ds
added (c ∷ cs) [] = c ∷ cs
added (c ∷ cs) (d ∷ ds) = plus c d ∷ added cs ds

-- one, of the way of a number
abbrev pub one_at : ℕ → List Count
one_at k = replicate k (Exactly 0) ++ Exactly 1 ∷ []

-- a leaf of that number ends so
abbrev pub IsWay : List SearchLeaf → Ending → ℕ → Type 0
IsWay ls e k = (l : SearchLeaf) × (slice_get ls k ≡ Some l) × (ending_eq l.ending e ≡ true)

-- the count of a number, 0 where there is none
abbrev pub count_at : List Count → ℕ → Count
count_at cs k = slice_index_or cs k (Exactly 0)

-- These are the counts of some leaves, each of which ends in one of these ways, and so many there are.
pub record TellsCounts (ways : List SearchLeaf) (cs : List Count) (total : Count) (ls : List SearchLeaf) : Type 0 where
  pub few : length cs ≤ length ways
  pub counts : (k : ℕ) (l : SearchLeaf) → slice_get ways k ≡ Some l → count_at cs k ≡ counted (times ls l)
  pub within : list_all (λ m. has_end ways m.ending) ls ≡ true
  pub total_is : total ≡ counted (length ls)

abbrev pub Tells : List SearchLeaf → Tally → List SearchLeaf → Type 0
Tells ways t ls = TellsCounts ways t.counts.items t.total ls
