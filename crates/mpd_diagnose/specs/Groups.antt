-- Ends that are told together, since they are of the same kind and stand at the same lines.
use Rattle.std.specs.Prelude.{ℕ, Bool, true, false, not, nat_lt, ◌&&◌, if◌then◌else◌, List, [], ◌∷◌, ◌++◌, Option, Some, None, length, map, slice_get, slice_index_or}
use Rattle.std.specs.List.{filter, list_any, range_with_len}
use Rattle.mpd_outcomes.specs.declared.report.Count.{Count}
use Rattle.mpd_outcomes.specs.declared.report.Count.TheVariants.{Exactly}
use Rattle.mpd_outcomes.specs.Outcomes.{plus}
use Rattle.mpd_diagnose.specs.declared.along.LeafEnd.{LeafEnd}
use Rattle.mpd_diagnose.specs.declared.cause.EndKind.{EndKind}
use Rattle.mpd_diagnose.specs.declared.cause.EndKind.TheVariants as kind
use Rattle.mpd_diagnose.specs.declared.groups.Group.{Group}
use Rattle.mpd_diagnose.specs.Causes.{is_bad, same_cause, exceeds}

-- ---- ends that are alike

abbrev pub same_of : Option LeafEnd → Option LeafEnd → Bool
same_of (Some e) (Some f) = same_cause e.cause f.cause
same_of e f = false

-- the ends of two numbers
abbrev pub same_at : List LeafEnd → ℕ → ℕ → Bool
same_at ends n m = same_of (slice_get ends n) (slice_get ends m)

-- no end before the one of that number is as it is
abbrev pub is_first : List LeafEnd → ℕ → Bool
is_first ends n = not (list_any (same_at ends n) (range_with_len 0 n))

-- the numbers of those that are as none before them
abbrev pub firsts : List LeafEnd → List ℕ
firsts ends = filter (is_first ends) (range_with_len 0 (length ends))

-- the numbers of those that are as that of a number
abbrev pub members : List LeafEnd → ℕ → List ℕ
members ends n = filter (same_at ends n) (range_with_len 0 (length ends))

-- the count of that number, 0 where there is none
abbrev pub count_at : List Count → ℕ → Count
count_at counts n = slice_index_or counts n (Exactly 0)

-- the counts of some numbers, added to one
abbrev pub with_counts : List Count → Count → List ℕ → Count
with_counts counts sum [] = sum
with_counts counts sum (n ∷ ns) = with_counts counts (plus sum (count_at counts n)) ns

-- the second number where its run has fewer steps, else the first
abbrev pub steps_in : Option LeafEnd → ℕ
steps_in None = 0
steps_in (Some e) = e.steps

abbrev pub steps_at : List LeafEnd → ℕ → ℕ
steps_at ends n = steps_in (slice_get ends n)

abbrev pub shorter : List LeafEnd → ℕ → ℕ → ℕ
shorter ends n m = if nat_lt (steps_at ends m) (steps_at ends n) then m else n

-- of a number and others the one whose run has the fewest steps, and of several such the first
abbrev pub shortest : List LeafEnd → ℕ → List ℕ → ℕ
shortest ends n [] = n
shortest ends n (m ∷ ms) = shortest ends (shorter ends n m) ms

-- what is told together with the end of number n, the first of its kind
abbrev pub group_of : List LeafEnd → List Count → ℕ → Group
group_of ends counts n = record { first = n; count = with_counts counts (Exactly 0) (members ends n); shown = shortest ends n (members ends n) }

-- whether an end is anything but that a run is done
abbrev pub is_more : EndKind → Bool
is_more kind.Done = false
is_more other = true

abbrev pub is_told_of : Option LeafEnd → Bool
is_told_of None = false
is_told_of (Some e) = is_more e.cause.kind

abbrev pub is_told : List LeafEnd → ℕ → Bool
is_told ends n = is_told_of (slice_get ends n)

-- the ends of which this is so, in the order of the first of each kind
abbrev pub groups : List LeafEnd → List Count → List Group
groups ends counts = map (group_of ends counts) (filter (is_told ends) (firsts ends))

-- ---- their order

abbrev pub is_bad_end : Option LeafEnd → Bool
is_bad_end None = false
is_bad_end (Some e) = is_bad e.cause.kind

-- whether ends that are told together are deadlocks or traps
abbrev pub is_bad_at : List LeafEnd → Group → Bool
is_bad_at ends g = is_bad_end (slice_get ends g.first)

abbrev pub exceeds_of : Option LeafEnd → Option LeafEnd → Bool
exceeds_of (Some e) (Some f) = exceeds e.cause f.cause
exceeds_of e f = false

-- whether ends stand at all lines of others of their kind, and at more
abbrev pub exceeds_at : List LeafEnd → Group → Group → Bool
exceeds_at ends g h = exceeds_of (slice_get ends g.first) (slice_get ends h.first)

-- whether they do so of any of those that are told
abbrev pub is_wide : List LeafEnd → List Group → Group → Bool
is_wide ends gs g = list_any (exceeds_at ends g) gs

-- whether something is so, or whether it isn't
abbrev pub is_so : Bool → Bool → Bool
is_so true b = b
is_so false b = not b

-- whether they are deadlocks or traps or neither, and whether they stand at all lines of others and
-- at more or not
abbrev pub is_of : Bool → Bool → List LeafEnd → List Group → Group → Bool
is_of bad wide ends gs g = is_so bad (is_bad_at ends g) && is_so wide (is_wide ends gs g)

-- deadlocks and traps, and then others; of each those that stand at all lines of others and at more
-- come last
abbrev pub bad_first : List LeafEnd → List Group → List Group
bad_first ends gs = filter (is_of true false ends gs) gs ++ filter (is_of true true ends gs) gs ++ filter (is_of false false ends gs) gs ++ filter (is_of false true ends gs) gs

abbrev pub groups_of : List LeafEnd → List Count → List Group
groups_of ends counts = bad_first ends (groups ends counts)
