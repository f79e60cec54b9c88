-- What a report shows of runs.
use Rattle.std.specs.Prelude.{Bool, true, false, if◌then◌else◌, nat_lt, List, [], ◌∷◌, length, take}
use Rattle.std.specs.List.{list_any}
use Rattle.mpd_model.specs.declared.outcome.Outcome.TheVariants.{Done, Leftovers, Deadlock, Trap}
use Rattle.mpd_policy.specs.declared.ending.Ending.{Ending}
use Rattle.mpd_policy.specs.declared.ending.Ending.TheVariants.{Ended, Cut}
use Rattle.mpd_explore.specs.declared.report.SearchLeaf.{SearchLeaf}
use Rattle.mpd_explore.specs.declared.report.SearchLimits.{SearchLimits}
use Rattle.mpd_policy.specs.Walk.{Run}

-- a run as a leaf of a report, which has no steps: they follow from the choices
abbrev pub shown : Run → SearchLeaf
shown r = record { choices = r.choices; ending = r.ending }

-- a deadlock or a trap
abbrev pub is_bad : Ending → Bool
is_bad Cut = false
is_bad (Ended Done) = false
is_bad (Ended (Leftovers calls)) = false
is_bad (Ended (Deadlock blocked)) = true
is_bad (Ended (Trap ranks)) = true

abbrev pub any_bad : List SearchLeaf → Bool
any_bad leaves = list_any (λ l. is_bad l.ending) leaves

-- leaves up to the first bad one, and with it
abbrev pub up_to_bad : List SearchLeaf → List SearchLeaf
up_to_bad [] = []
up_to_bad (l ∷ ls) = l ∷ (if is_bad l.ending then [] else up_to_bad ls)

-- the same where a list ends with the first bad leaf
abbrev pub ended_by : Bool → List SearchLeaf → List SearchLeaf
ended_by false leaves = leaves
ended_by true leaves = up_to_bad leaves

-- what is listed of the leaves of all runs
abbrev pub listed : SearchLimits → List SearchLeaf → List SearchLeaf
listed l leaves = ended_by l.until_bad (take l.runs leaves)

-- whether there are others
abbrev pub left_out : SearchLimits → List SearchLeaf → Bool
left_out l leaves = if l.until_bad then nat_lt (length (listed l leaves)) (length leaves) else nat_lt l.runs (length leaves)
