-- Which leaves of a report are shown where those that end in the same way are told together, and what is told of each group.
use Rattle.std.specs.Prelude.{Bool, true, false, List, [], map}
use Rattle.mpd_explore.specs.declared.report.SearchLeaf.{SearchLeaf}
use Rattle.mpd_explore.specs.Ends.{before, firsts, times}
use Rattle.mpd_check.specs.declared.groups.Group.{Group}

-- all leaves, or those that end as none before them does
abbrev pub shown_of : Bool → List SearchLeaf → List SearchLeaf
shown_of false leaves = leaves
shown_of true leaves = firsts leaves

-- the number of the first that ends as a leaf does, and how many do
abbrev pub group_of : List SearchLeaf → SearchLeaf → Group
group_of leaves l = record { first = before leaves l; count = times leaves l }

-- that of each leaf that is shown, where leaves are grouped
abbrev pub groups_of : Bool → List SearchLeaf → List Group
groups_of false leaves = []
groups_of true leaves = map (group_of leaves) (firsts leaves)
