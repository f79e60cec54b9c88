-- What kind of end a run comes to, and the lines of the script at which it stands.
use Rattle.std.specs.Prelude.{ℕ, Bool, true, false, not, ◌&&◌, ◌==◌, if◌then◌else◌, List, [], ◌∷◌, Option, Some, None, length, map, slice_get}
use Rattle.std.specs.List.{list_all, list_any, range_with_len}
use Rattle.std.specs.Option.{unwrap_or}
use Rattle.std.specs.Ordering.{nat_cmp}
use Rattle.std.specs.BTreeSet.{insert_key}
use Rattle.mpd_model.specs.declared.outcome.IssuedCall.{IssuedCall}
use Rattle.mpd_model.specs.declared.outcome.TrappedRank.{TrappedRank}
use Rattle.mpd_model.specs.declared.outcome.Outcome.TheVariants.{Done, Leftovers, Deadlock, Trap}
use Rattle.mpd_model.specs.script.Program.{Program}
use Rattle.mpd_model.specs.steps.World.{World, Board, call_at}
use Rattle.mpd_model.specs.steps.Next.{fold}
use Rattle.mpd_names.specs.Placed.{issue_line, rank_line}
use Rattle.mpd_names.specs.Stand.{line_at}
use Rattle.mpd_policy.specs.Wide.{wide_decision}
use Rattle.mpd_policy.specs.Walk.{run_by, steps_by}
use Rattle.mpd_policy.specs.declared.ending.Ending.{Ending}
use Rattle.mpd_policy.specs.declared.ending.Ending.TheVariants.{Ended, Cut}
use Rattle.mpd_explore.specs.declared.report.SearchLeaf.{SearchLeaf}
use Rattle.mpd_explain.specs.Explanations.{end_at}
use Rattle.mpd_diagnose.specs.declared.cause.EndKind.{EndKind}
use Rattle.mpd_diagnose.specs.declared.cause.EndKind.TheVariants as kind
use Rattle.mpd_diagnose.specs.declared.cause.Cause.{Cause}
use Rattle.mpd_diagnose.specs.declared.along.LeafEnd.{LeafEnd}

-- ---- lines

-- numbers that are added to some that rise: each stands there once, the least first
abbrev pub with_numbers : List ℕ → List ℕ → List ℕ
with_numbers ks [] = ks
with_numbers ks (n ∷ ns) = with_numbers (insert_key nat_cmp ks n) ns

-- where calls were issued
abbrev pub call_lines : Program → Board → List IssuedCall → List ℕ
call_lines s b cs = with_numbers [] (map (λ (c : IssuedCall). issue_line s.lines (call_at b c.id)) cs)

-- where trapped ranks stand
abbrev pub trap_lines : Program → World → List TrappedRank → List ℕ
trap_lines s w ts = with_numbers [] (map (λ t. rank_line s.lines (slice_get w.ranks t.rank)) ts)

-- a number that is added to some, but for 0
abbrev pub with_some : List ℕ → ℕ → List ℕ
with_some ks n = if n == 0 then ks else insert_key nat_cmp ks n

-- the line where a rank stands, 0 where it has ended
abbrev pub standing_line : Program → World → ℕ → ℕ
standing_line s w p = unwrap_or (line_at s.lines w.board p (slice_get w.ranks p)) 0

-- the lines where some ranks stand
abbrev pub with_standing : Program → World → List ℕ → List ℕ → List ℕ
with_standing s w ks [] = ks
with_standing s w ks (p ∷ ps) = with_standing s w (with_some ks (standing_line s w p)) ps

-- where all ranks stand
abbrev pub standing_lines : Program → World → List ℕ
standing_lines s w = with_standing s w [] (range_with_len 0 (length w.ranks))

-- ---- ends

-- the lines at which an end stands; none where a run ends well
abbrev pub lines_in : Program → World → Ending → List ℕ
lines_in s w Cut = standing_lines s w
lines_in s w (Ended Done) = []
lines_in s w (Ended (Leftovers cs)) = call_lines s w.board cs
lines_in s w (Ended (Deadlock cs)) = call_lines s w.board cs
lines_in s w (Ended (Trap ts)) = trap_lines s w ts

abbrev pub kind_of : Ending → EndKind
kind_of Cut = kind.Cut
kind_of (Ended Done) = kind.Done
kind_of (Ended (Leftovers cs)) = kind.Leftovers
kind_of (Ended (Deadlock cs)) = kind.Deadlock
kind_of (Ended (Trap ts)) = kind.Trap

abbrev pub cause_of : Program → World → Ending → Cause
cause_of s w e = record { kind = kind_of e; lines = lines_in s w e }

abbrev pub is_bad : EndKind → Bool
is_bad kind.Deadlock = true
is_bad kind.Trap = true
is_bad other = false

-- ---- ends that are alike

abbrev pub same_kind : EndKind → EndKind → Bool
same_kind kind.Done kind.Done = true
same_kind kind.Leftovers kind.Leftovers = true
same_kind kind.Deadlock kind.Deadlock = true
same_kind kind.Trap kind.Trap = true
same_kind kind.Cut kind.Cut = true
same_kind k l = false

abbrev pub is_one_of : List ℕ → ℕ → Bool
is_one_of ls wanted = list_any (λ l. l == wanted) ls

abbrev pub are_among : List ℕ → List ℕ → Bool
are_among many few = list_all (is_one_of many) few

-- whether some lines are all among others, and not all of those among them
abbrev pub is_less : List ℕ → List ℕ → Bool
is_less few many = are_among many few && not (are_among few many)

-- two of one kind, at the same lines
abbrev pub same_cause : Cause → Cause → Bool
same_cause c d = same_kind c.kind d.kind && (are_among c.lines d.lines && are_among d.lines c.lines)

-- two of one kind, of which this one stands at all lines of the other, and at more
abbrev pub exceeds : Cause → Cause → Bool
exceeds c d = same_kind c.kind d.kind && is_less d.lines c.lines

-- ---- the ends of leaves

abbrev pub cause_at : Program → Option World → Ending → Cause
cause_at s None e = record { kind = kind_of e; lines = [] }
cause_at s (Some w) e = cause_of s w e

-- the steps of the run of a leaf of the wide walk
abbrev pub steps_to : ℕ → World → SearchLeaf → ℕ
steps_to fuel w l = length (steps_by (run_by wide_decision fuel l.choices w))

abbrev pub leaf_end_at : Program → Option World → ℕ → Ending → LeafEnd
leaf_end_at s o steps e = record { cause = cause_at s o e; steps = steps; end = end_at s o e }

-- the end of the run of a leaf
abbrev pub leaf_end : Program → ℕ → World → SearchLeaf → LeafEnd
leaf_end s fuel w l = leaf_end_at s (fold w (steps_by (run_by wide_decision fuel l.choices w))) (steps_to fuel w l) l.ending
