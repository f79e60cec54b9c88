-- Worked rows of diagnoses. What is wanted was worked out by hand.
use Rattle.std.specs.Prelude.{◌≡◌, ℕ, true, false, map, List, [], ◌∷◌, ◌++◌, Some, None, refl}
use Rattle.mpd_model.specs.declared.call.Mode.TheVariants.{Rendezvous, Buffered, Slots}
use Rattle.mpd_lines.specs.declared.verdict.Verdict.TheVariants.{Good, Bad, NotWhole}
use Rattle.mpd_outcomes.specs.declared.report.Count.TheVariants.{Exactly, More}
use Rattle.mpd_runs.specs.declared.counts.WayCounts.{WayCounts}
use Rattle.mpd_explain.specs.declared.ends.End.TheVariants as the_end
use Rattle.mpd_diagnose.specs.declared.along.LeafEnd.{LeafEnd}
use Rattle.mpd_diagnose.specs.declared.cause.EndKind.{EndKind}
use Rattle.mpd_diagnose.specs.declared.cause.EndKind.TheVariants as kind
use Rattle.mpd_diagnose.specs.declared.groups.Group.{Group}
use Rattle.mpd_diagnose.specs.Causes.{with_numbers, with_some}
use Rattle.mpd_diagnose.specs.Groups.{firsts, groups, groups_of, shortest}
use Rattle.mpd_diagnose.specs.Modes.{modes_up_to, worst, noticed}
use Rattle.mpd_diagnose.specs.Verdicts.{always_hangs, always_traps, fails_both, is_drawn, draws, never_fails, verdict_of}

-- each line once, the least first
pub row_lines : with_numbers [] (15 ∷ 11 ∷ 15 ∷ 9 ∷ 11 ∷ []) ≡ 9 ∷ 11 ∷ 15 ∷ []
row_lines = refl

-- an end of a kind at these lines, of a run of so many steps
abbrev end : EndKind → List ℕ → ℕ → LeafEnd
end k lines steps = record { cause = record { kind = k; lines = lines }; steps = steps; end = the_end.Done }

-- of runs of 7, 5, 5 and 6 steps the first of those of 5
pub row_shortest : shortest (end kind.Trap [] 7 ∷ end kind.Trap [] 5 ∷ end kind.Trap [] 5 ∷ end kind.Trap [] 6 ∷ []) 0 (0 ∷ 1 ∷ 2 ∷ 3 ∷ []) ≡ 1
row_shortest = refl

-- a deadlock at lines 4 and 8, a run that is done, a trap at line 4, the same deadlock, and one at
-- line 4 alone: those that are alike are told together, of 3 + 4 runs, and the last of them has the
-- fewest steps
abbrev five : List LeafEnd
five = end kind.Deadlock (4 ∷ 8 ∷ []) 8 ∷ end kind.Done [] 1 ∷ end kind.Trap (4 ∷ []) 6 ∷ end kind.Deadlock (4 ∷ 8 ∷ []) 7 ∷ end kind.Deadlock (4 ∷ []) 9 ∷ []

pub row_firsts : firsts five ≡ 0 ∷ 1 ∷ 2 ∷ 4 ∷ []
row_firsts = refl

abbrev wide : Group
wide = record { first = 0; count = Exactly 7; shown = 3 }

abbrev trap : Group
trap = record { first = 2; count = Exactly 1; shown = 2 }

abbrev narrow : Group
narrow = record { first = 4; count = Exactly 5; shown = 4 }

pub row_groups : groups five (Exactly 3 ∷ Exactly 2 ∷ Exactly 1 ∷ Exactly 4 ∷ Exactly 5 ∷ []) ≡ wide ∷ trap ∷ narrow ∷ []
row_groups = refl

-- the deadlock that stands at the lines of another, and at more, comes last; the trap stands at a
-- line of it, and is of another kind
pub row_order : groups_of five (Exactly 3 ∷ Exactly 2 ∷ Exactly 1 ∷ Exactly 4 ∷ Exactly 5 ∷ []) ≡ trap ∷ narrow ∷ wide ∷ []
row_order = refl

-- what is left over comes after deadlocks and traps, and what is cut, too
pub row_bad_first : map {B = ℕ} (λ (g : Group). g.first) (groups_of (end kind.Cut (3 ∷ []) 9 ∷ end kind.Leftovers (3 ∷ 8 ∷ []) 9 ∷ end kind.Leftovers (8 ∷ []) 9 ∷ end kind.Trap (8 ∷ []) 9 ∷ []) (Exactly 1 ∷ Exactly 1 ∷ Exactly 1 ∷ Exactly 1 ∷ [])) ≡ 3 ∷ 0 ∷ 2 ∷ 1 ∷ []
row_bad_first = refl

-- more runs than can be counted
pub row_many : groups_of (end kind.Trap (8 ∷ []) 9 ∷ end kind.Trap (8 ∷ []) 9 ∷ []) (Exactly 1 ∷ More ∷ []) ≡ record { first = 0; count = More; shown = 0 } ∷ []
row_many = refl

-- three runs each: all are done; one leaves calls over; one traps; one is cut; and there are more
abbrev tidy : WayCounts
tidy = record { done = Exactly 3; leftovers = Exactly 0; deadlock = Exactly 0; trap = Exactly 0; cut = Exactly 0; total = Exactly 3; more = false }

abbrev untidy : WayCounts
untidy = record { done = Exactly 2; leftovers = Exactly 1; deadlock = Exactly 0; trap = Exactly 0; cut = Exactly 0; total = Exactly 3; more = false }

abbrev trapped : WayCounts
trapped = record { done = Exactly 2; leftovers = Exactly 0; deadlock = Exactly 0; trap = Exactly 1; cut = Exactly 0; total = Exactly 3; more = false }

-- all hang
abbrev stuck : WayCounts
stuck = record { done = Exactly 0; leftovers = Exactly 0; deadlock = Exactly 3; trap = Exactly 0; cut = Exactly 0; total = Exactly 3; more = false }

-- two hang, and one traps
abbrev both : WayCounts
both = record { done = Exactly 0; leftovers = Exactly 0; deadlock = Exactly 2; trap = Exactly 1; cut = Exactly 0; total = Exactly 3; more = false }

-- and one is done, there are more, or one is cut
abbrev one_well : WayCounts
one_well = record both { done = Exactly 1; total = Exactly 4 }

abbrev both_and_more : WayCounts
both_and_more = record both { more = true }

abbrev both_and_cut : WayCounts
both_and_cut = record both { cut = Exactly 1; total = Exactly 4 }

-- all that were come to trap, and there are more
abbrev trapping : WayCounts
trapping = record { done = Exactly 0; leftovers = Exactly 0; deadlock = Exactly 0; trap = Exactly 3; cut = Exactly 0; total = Exactly 3; more = true }

-- and there are none
abbrev trapping_all : WayCounts
trapping_all = record { done = Exactly 0; leftovers = Exactly 0; deadlock = Exactly 0; trap = Exactly 3; cut = Exactly 0; total = Exactly 3; more = false }

abbrev cut_short : WayCounts
cut_short = record { done = Exactly 2; leftovers = Exactly 0; deadlock = Exactly 0; trap = Exactly 0; cut = Exactly 1; total = Exactly 3; more = false }

abbrev stopped : WayCounts
stopped = record { done = Exactly 3; leftovers = Exactly 0; deadlock = Exactly 0; trap = Exactly 0; cut = Exactly 0; total = Exactly 3; more = true }

pub row_verdicts : verdict_of true tidy None ∷ verdict_of false untidy None ∷ verdict_of true untidy None ∷ verdict_of false trapped None ∷ verdict_of false cut_short None ∷ verdict_of false stopped (Some tidy) ∷ verdict_of false stopped (Some trapped) ∷ []
    ≡ Good ∷ Good ∷ Bad ∷ Bad ∷ NotWhole ∷ NotWhole ∷ Bad ∷ []
row_verdicts = refl

-- runs are drawn only where there are more, and none of these hangs or traps
pub row_draws : draws tidy ∷ draws trapped ∷ draws cut_short ∷ draws stopped ∷ [] ≡ false ∷ false ∷ false ∷ true ∷ []
row_draws = refl

-- every run hangs, or traps, only where none ends otherwise and there are no more
pub row_always_hangs : always_hangs stuck ∷ always_hangs both ∷ always_hangs trapped ∷ always_hangs tidy ∷ [] ≡ true ∷ false ∷ false ∷ false ∷ []
row_always_hangs = refl

pub row_always_traps : always_traps trapping ∷ always_traps trapping_all ∷ always_traps both ∷ always_traps trapped ∷ [] ≡ false ∷ true ∷ false ∷ false ∷ []
row_always_traps = refl

-- every run hangs or traps, and some do each, only where none ends otherwise and there are no more
pub row_fails_both : fails_both both ∷ fails_both stuck ∷ fails_both trapping_all ∷ fails_both one_well ∷ fails_both both_and_more ∷ fails_both both_and_cut ∷ [] ≡ true ∷ false ∷ false ∷ false ∷ false ∷ false ∷ []
row_fails_both = refl

-- a run of 1,000 steps is drawn, and one of 1,001 isn't
pub row_drawn : is_drawn 0 ∷ is_drawn 1000 ∷ is_drawn 1001 ∷ is_drawn 100000 ∷ [] ≡ true ∷ true ∷ false ∷ false ∷ []
row_drawn = refl

-- where ranks stand, of which one has ended
pub row_standing : with_some (with_some (with_some [] 9) 0) 5 ≡ 5 ∷ 9 ∷ []
row_standing = refl

pub row_never : never_fails tidy ∷ never_fails untidy ∷ never_fails trapped ∷ never_fails cut_short ∷ never_fails stopped ∷ [] ≡ true ∷ true ∷ false ∷ false ∷ false ∷ []
row_never = refl

pub row_modes : modes_up_to 0 ∷ modes_up_to 2 ∷ [] ≡ (Rendezvous ∷ Buffered ∷ []) ∷ (Rendezvous ∷ Slots 1 ∷ Slots 2 ∷ Buffered ∷ []) ∷ []
row_modes = refl

-- bad where one is, else not whole where one is
pub row_worst : worst [] ∷ worst (Good ∷ Good ∷ []) ∷ worst (Good ∷ NotWhole ∷ Good ∷ []) ∷ worst (NotWhole ∷ Good ∷ Bad ∷ []) ∷ [] ≡ Good ∷ Good ∷ NotWhole ∷ Bad ∷ []
row_worst = refl

-- where all are good, those that leave calls over are told; else those whose verdict is the worst
pub row_noticed : noticed Good (modes_up_to 1) (Good ∷ Good ∷ Good ∷ []) (false ∷ true ∷ true ∷ []) ∷ noticed NotWhole (modes_up_to 2) (Good ∷ NotWhole ∷ NotWhole ∷ Good ∷ []) (true ∷ false ∷ false ∷ false ∷ []) ∷ noticed Bad (modes_up_to 1) (NotWhole ∷ Good ∷ Bad ∷ []) (true ∷ true ∷ false ∷ []) ∷ []
    ≡ (Slots 1 ∷ Buffered ∷ []) ∷ (Slots 1 ∷ Slots 2 ∷ []) ∷ (Buffered ∷ []) ∷ []
row_noticed = refl
