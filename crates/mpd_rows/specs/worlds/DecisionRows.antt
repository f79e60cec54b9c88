-- Worked rows of decisions, breakpoints and runs. What is wanted was worked out by hand.
use Rattle.std.specs.Prelude.{◌≡◌, ℕ, ℤ, pos, negsuc, Bool, true, false, map, List, [], ◌∷◌, ◌++◌, length, replicate, slice_set, Option, Some, None, codes, refl}
use Rattle.std.specs.Option.{option_map, option_and_then}
use Rattle.mpd_model.specs.declared.limits.TheConstants.{STEPS_MAX}
use Rattle.mpd_model.specs.declared.place.Place.{Place}
use Rattle.mpd_model.specs.declared.step.Step.{Step}
use Rattle.mpd_model.specs.declared.step.Step.TheVariants.{Local, Match, Wake, Release}
use Rattle.mpd_model.specs.declared.call.Mode.TheVariants.{Rendezvous}
use Rattle.mpd_model.specs.declared.outcome.Outcome.TheVariants as o
use Rattle.mpd_model.specs.declared.decision.Decision.{Decision}
use Rattle.mpd_model.specs.declared.decision.Decision.TheVariants.{Forced, Choice, Leaf}
use Rattle.mpd_model.specs.declared.breakpoint.Condition.{Condition}
use Rattle.mpd_model.specs.declared.comparison.Comparison.{Comparison}
use Rattle.mpd_model.specs.declared.comparison.Comparison.TheVariants.{Equal, NotEqual, Less, AtMost, Greater, AtLeast}
use Rattle.mpd_model.specs.declared.breakpoint.Breakpoint.{Breakpoint}
use Rattle.mpd_model.specs.declared.breakpoint.Breakpoint.TheVariants as on
use Rattle.mpd_model.specs.declared.breakpoint.Cause.TheVariants as for
use Rattle.mpd_model.specs.declared.breakpoint.Stop.{Stop}
use Rattle.mpd_model.specs.script.Declaration.{Declared}
use Rattle.mpd_model.specs.script.Term.{own_rank}
use Rattle.mpd_model.specs.script.Tree.{no_more, then_more}
use Rattle.mpd_model.specs.script.Program.{Program}
use Rattle.mpd_model.specs.steps.World.{call_id}
use Rattle.mpd_model.specs.steps.Next.{next}
use Rattle.mpd_model.specs.steps.Outcomes.{issued_by}
use Rattle.mpd_model.specs.runs.Decisions.{decision}
use Rattle.mpd_model.specs.runs.Breakpoints.{is_hit, no_breaks, lowest_free}
use Rattle.mpd_model.specs.runs.Running.{Ran, ran, ran_back}
use Rattle.mpd_model.specs.runs.Trail.{Trail}
use Rattle.mpd_rows.specs.worlds.Statements.{print, send, assign, barrier, recv_any, irecv, irecv_any, wait}
use Rattle.mpd_rows.specs.calls.RequestRows.{n, whole, x, variable, request, script, two_parts, after}

abbrev y : Place
y = record { declaration = 1; first = 1; cells = 1 }

abbrev two : List Declared
two = variable (codes "x") ∷ variable (codes "y") ∷ []

-- ---- a race: two sends of which a receive of any source takes either

-- if rank == 0 { recv x from any tag any; recv y from 2 tag any; } else { send rank to 0 tag 0; }
abbrev racing : Program
racing = script 3 two
    (two_parts
    (then_more (recv_any (whole x) None None None) (then_more (recv_any (whole y) (Some (n 2)) None None) no_more))
    (then_more (send own_rank (n 0) (n 0)) no_more))

abbrev posted_all : List Step
posted_all = Local 0 ∷ Local 0 ∷ Local 1 ∷ Local 1 ∷ Local 2 ∷ Local 2 ∷ []

abbrev of_one : List Step
of_one = posted_all ++ Match (call_id 1 0) (call_id 0 0) ∷ []

abbrev of_two : List Step
of_two = posted_all ++ Match (call_id 2 0) (call_id 0 0) ∷ []

abbrev decided_behind : Program → List Step → Option Decision
decided_behind s steps = option_map decision (after s steps)

-- the lowest rank first; a local step before a wake, a wake before a match; the match of a receive that names its source by itself
pub row_race : map {B = Option Decision} (decided_behind racing)
    ([] ∷ (Local 0 ∷ []) ∷ (Local 0 ∷ Local 0 ∷ []) ∷ (Local 2 ∷ Local 1 ∷ []) ∷ posted_all ∷ of_one ∷ (of_one ++ Wake 0 ∷ []) ∷ (of_one ++ Wake 1 ∷ []) ∷ (of_one ++ Wake 0 ∷ Local 0 ∷ [])
    ∷ (of_one ++ Wake 0 ∷ Local 0 ∷ Wake 1 ∷ []) ∷ (of_two ++ Wake 0 ∷ Local 0 ∷ []) ∷ (of_two ++ Wake 0 ∷ Local 0 ∷ Wake 2 ∷ []) ∷ [])
    ≡ Some (Forced (Local 0)) ∷ Some (Forced (Local 0)) ∷ Some (Forced (Local 1)) ∷ Some (Forced (Local 0))
    ∷ Some (Choice (Match (call_id 1 0) (call_id 0 0) ∷ Match (call_id 2 0) (call_id 0 0) ∷ [])) ∷ Some (Forced (Wake 0)) ∷ Some (Forced (Local 0)) ∷ Some (Forced (Wake 0)) ∷ Some (Forced (Wake 1))
    ∷ Some (Forced (Match (call_id 2 0) (call_id 0 1))) ∷ Some (Forced (Wake 2)) ∷ Some (Leaf (o.Deadlock (issued_by 2 (call_id 0 1) ∷ issued_by 3 (call_id 1 0) ∷ []))) ∷ []
unfolding decision
row_race = refl

-- if rank == 0 { irecv h x from 2 tag 0; irecv h y from any tag any; } else { send rank to 0 tag 0; }
abbrev handle : Place
handle = record { declaration = 2; first = 0; cells = 1 }

abbrev naming : Program
naming = script 3 (two ++ request (codes "h") None ∷ [])
    (two_parts
    (then_more (irecv (whole handle) (whole x) (n 2) (n 0)) (then_more (irecv_any (whole handle) (whole y) None None None) no_more))
    (then_more (send own_rank (n 0) (n 0)) no_more))

abbrev all_there : List Step
all_there = Local 0 ∷ Local 0 ∷ Local 0 ∷ Local 1 ∷ Local 1 ∷ Local 2 ∷ Local 2 ∷ []

-- a receive that names its source comes before one of any, whichever was issued first; one candidate is a choice, too
pub row_naming : map {B = Option Decision} (decided_behind naming)
    (all_there ∷ (all_there ++ Match (call_id 2 0) (call_id 0 0) ∷ []) ∷ (all_there ++ Match (call_id 2 0) (call_id 0 0) ∷ Wake 2 ∷ []) ∷ (all_there ++ Match (call_id 1 0) (call_id 0 1) ∷ Wake 1 ∷ []) ∷ [])
    ≡ Some (Forced (Match (call_id 2 0) (call_id 0 0))) ∷ Some (Forced (Wake 2)) ∷ Some (Choice (Match (call_id 1 0) (call_id 0 1) ∷ [])) ∷ Some (Forced (Match (call_id 2 0) (call_id 0 0))) ∷ []
unfolding decision
row_naming = refl

-- barrier; print 1;
abbrev meeting : Program
meeting = record (script 2 [] (barrier ∷ print (n 1) ∷ [])) { lines = 2 ∷ 3 ∷ [] }

pub row_meeting : map {B = Option Decision} (decided_behind meeting)
    ((Local 0 ∷ []) ∷ (Local 0 ∷ Local 1 ∷ []) ∷ (Local 0 ∷ Local 1 ∷ Release ∷ []) ∷ (Local 0 ∷ Local 1 ∷ Release ∷ Local 1 ∷ Local 0 ∷ []) ∷ [])
    ≡ Some (Forced (Local 1)) ∷ Some (Forced Release) ∷ Some (Forced (Local 0)) ∷ Some (Leaf o.Done) ∷ []
unfolding decision
row_meeting = refl

-- ---- what is is_hit

abbrev hits : Program → Breakpoint → List Step → Step → Option Bool
hits s b steps a = option_and_then (λ w. option_map (is_hit s b w a) (next w a)) (after s steps)

-- x = 9; if rank == 0 { send 7 to 1 tag 3; } else { recv x from any tag any status x x; }
abbrev telling : Program
telling = record (script 2 (variable (codes "x") ∷ [])
    (assign (whole x) (n 9) ∷ two_parts
    (then_more (send (n 7) (n 1) (n 3)) no_more)
    (then_more (recv_any (whole x) None None (Some (whole x, whole x))) no_more))) { lines = 2 ∷ 3 ∷ 3 ∷ 4 ∷ [] }

abbrev both_there : List Step
both_there = Local 0 ∷ Local 0 ∷ Local 0 ∷ Local 1 ∷ Local 1 ∷ Local 1 ∷ []

abbrev paired : Step
paired = Match (call_id 0 0) (call_id 1 0)

-- a rank that comes to a line, also where it was there before; one that blocks comes to none; no match comes to a line
pub row_lines : map {B = Option Bool} (λ (r : Breakpoint × List Step × Step). hits telling r.0 r.1 r.2)
    ((on.Line 3 None None, [], Local 0) ∷ (on.Line 2 None None, [], Local 0) ∷ (on.Line 3 None None, Local 0 ∷ [], Local 0) ∷ (on.Line 3 None None, Local 0 ∷ Local 0 ∷ [], Local 0) ∷ (on.Line 4 None None, Local 1 ∷ [], Local 1) ∷ (on.Line 3 None None, both_there, paired) ∷ [])
    ≡ Some true ∷ Some false ∷ Some true ∷ Some false ∷ Some true ∷ Some false ∷ []
row_lines = refl

-- a release comes to the line of any rank, a wake to that of its rank
pub row_released : map {B = Option Bool} (λ b. hits meeting b (Local 0 ∷ Local 1 ∷ []) Release) (on.Line 3 None None ∷ on.Line 2 None None ∷ on.Match 2 None ∷ on.Change 0 0 ∷ []) ≡ Some true ∷ Some false ∷ Some false ∷ Some false ∷ []
row_released = refl

-- a match of a call that was issued on a line: of its send, or of its receive
pub row_matches : map {B = Option Bool} (λ b. hits telling b both_there paired) (on.Match 3 None ∷ on.Match 4 None ∷ on.Match 2 None ∷ on.Change 1 0 ∷ []) ≡ Some true ∷ Some true ∷ Some false ∷ Some false ∷ []
row_matches = refl

-- a line of one rank, and a match of a call that one rank has issued
pub row_of_one : map {B = Option Bool} (λ (r : Breakpoint × List Step × Step). hits telling r.0 r.1 r.2)
    ((on.Line 3 (Some 0) None, [], Local 0) ∷ (on.Line 3 (Some 1) None, [], Local 0) ∷ (on.Line 3 (Some 1) None, [], Local 1) ∷ (on.Match 3 (Some 0), both_there, paired) ∷ (on.Match 3 (Some 1), both_there, paired)
    ∷ (on.Match 4 (Some 1), both_there, paired) ∷ (on.Match 4 (Some 0), both_there, paired) ∷ [])
    ≡ Some true ∷ Some false ∷ Some true ∷ Some true ∷ Some false ∷ Some true ∷ Some false ∷ []
row_of_one = refl

pub row_released_of_one : map {B = Option Bool} (λ b. hits meeting b (Local 0 ∷ Local 1 ∷ []) Release) (on.Line 3 (Some 1) None ∷ on.Line 3 (Some 2) None ∷ on.Rank 0 ∷ on.Rank 1 ∷ on.Rank 2 ∷ [])
    ≡ Some true ∷ Some false ∷ Some true ∷ Some true ∷ Some false ∷ []
row_released_of_one = refl

-- x is 9 as a rank comes to line 3; there is no second cell
abbrev at_three : ℕ → Comparison → ℤ → Breakpoint
at_three c comparison value = on.Line 3 None (Some (record { cell = c; comparison = comparison; value = value }))

pub row_conditions : map {B = Option Bool} (λ b. hits telling b [] (Local 1))
    (at_three 0 Equal (pos 9) ∷ at_three 0 Equal (pos 8) ∷ at_three 0 NotEqual (pos 9) ∷ at_three 0 NotEqual (negsuc 8) ∷ at_three 0 Less (pos 9) ∷ at_three 0 Less (pos 10) ∷ at_three 0 AtMost (pos 9) ∷ at_three 0 AtMost (pos 8)
    ∷ at_three 0 Greater (pos 9) ∷ at_three 0 Greater (negsuc 8) ∷ at_three 0 AtLeast (pos 9) ∷ at_three 0 AtLeast (pos 10) ∷ at_three 1 Equal (pos 0) ∷ [])
    ≡ Some true ∷ Some false ∷ Some false ∷ Some true ∷ Some false ∷ Some true ∷ Some true ∷ Some false ∷ Some false ∷ Some true ∷ Some true ∷ Some false ∷ Some false ∷ []
row_conditions = refl

-- a rank is hit by its own step after which it isn't blocked, and by no match
pub row_ranks : map {B = Option Bool} (λ (r : Breakpoint × List Step × Step). hits telling r.0 r.1 r.2)
    ((on.Rank 0, [], Local 0) ∷ (on.Rank 1, [], Local 0) ∷ (on.Rank 0, Local 0 ∷ Local 0 ∷ [], Local 0) ∷ (on.Rank 0, both_there, paired) ∷ (on.Rank 0, both_there ++ paired ∷ [], Wake 0) ∷ (on.Rank 1, both_there ++ paired ∷ [], Wake 0) ∷ [])
    ≡ Some true ∷ Some false ∷ Some false ∷ Some false ∷ Some true ∷ Some false ∷ []
row_ranks = refl

-- a cell that holds another value than before: 0 and then 9, and 9 and then the tag, 3
pub row_changes : map {B = Option Bool} (λ (r : Breakpoint × List Step × Step). hits telling r.0 r.1 r.2)
    ((on.Change 1 0, [], Local 1) ∷ (on.Change 1 0, [], Local 0) ∷ (on.Change 0 0, [], Local 1) ∷ (on.Change 1 0, both_there ++ paired ∷ [], Wake 1) ∷ (on.Change 1 0, both_there ++ paired ∷ [], Wake 0) ∷ (on.Change 1 1, [], Local 1) ∷ (on.Change 2 0, [], Local 1) ∷ [])
    ≡ Some true ∷ Some false ∷ Some false ∷ Some true ∷ Some false ∷ Some false ∷ Some false ∷ []
row_changes = refl

-- if rank == 0 { irecv h x from 1 tag 1; irecv h y from any tag any; wait h; } else { send rank to 0 tag 0; }
abbrev holding : Program
holding = script 2 (two ++ request (codes "h") None ∷ [])
    (two_parts
    (then_more (irecv (whole handle) (whole x) (n 1) (n 1)) (then_more (irecv_any (whole handle) (whole y) None None None) (then_more (wait (whole handle)) no_more)))
    (then_more (send own_rank (n 0) (n 0)) no_more))

abbrev waited : List Step
waited = Local 0 ∷ Local 0 ∷ Local 0 ∷ Local 0 ∷ Local 1 ∷ Local 1 ∷ []

abbrev taken_second : Step
taken_second = Match (call_id 1 0) (call_id 0 1)

-- a handle that holds a call where it held none, or another, or none any more; no match changes one, and one that isn't there holds none
pub row_handles : map {B = Option Bool} (λ (r : Breakpoint × List Step × Step). hits holding r.0 r.1 r.2)
    ((on.Handle 0 0, [], Local 0) ∷ (on.Handle 0 0, Local 0 ∷ [], Local 0) ∷ (on.Handle 0 0, Local 0 ∷ Local 0 ∷ [], Local 0) ∷ (on.Handle 0 0, Local 0 ∷ Local 0 ∷ Local 0 ∷ [], Local 0)
    ∷ (on.Handle 0 0, waited, taken_second) ∷ (on.Handle 0 0, waited ++ taken_second ∷ [], Wake 0) ∷ (on.Handle 1 0, Local 0 ∷ [], Local 0) ∷ (on.Handle 0 1, Local 0 ∷ [], Local 0)
    ∷ (on.Handle 2 0, Local 0 ∷ [], Local 0) ∷ (on.Change 0 0, Local 0 ∷ [], Local 0) ∷ [])
    ≡ Some false ∷ Some true ∷ Some true ∷ Some false ∷ Some false ∷ Some true ∷ Some false ∷ Some false ∷ Some false ∷ Some false ∷ []
row_handles = refl

-- ---- places

pub row_places : map {B = Option ℕ} lowest_free
    (no_breaks ∷ slice_set no_breaks 0 (Some (on.Line 2 None None)) ∷ slice_set no_breaks 1 (Some (on.Line 2 None None)) ∷ slice_set (replicate 64 (Some (on.Match 4 None))) 63 None ∷ replicate 64 (Some (on.Match 4 None)) ∷ [])
    ≡ Some 0 ∷ Some 1 ∷ Some 0 ∷ Some 63 ∷ None ∷ []
row_places = refl

-- ---- runs

abbrev watching : List (Option Breakpoint)
watching = slice_set no_breaks 0 (Some (on.Change 1 0))

abbrev runs : List (Option Breakpoint) → ℕ → List Step → Option Ran
runs places max steps = option_map (ran telling places max (length steps)) (after telling steps)

pub row_runs : map {B = Option Ran} (λ (r : List (Option Breakpoint) × ℕ × List Step). runs r.0 r.1 r.2)
    ((watching, 10, []) ∷ (watching, 4, []) ∷ (watching, 3, []) ∷ (watching, 0, []) ∷ (watching, 10, Local 0 ∷ Local 0 ∷ Local 0 ∷ Local 1 ∷ []) ∷ (watching, 0, both_there)
    ∷ (watching, 10, both_there ++ paired ∷ []) ∷ (no_breaks, 10, both_there ++ paired ∷ []) ∷ (no_breaks, 2, both_there ++ paired ∷ []) ∷ [])
    ≡ Some (record { steps = Local 0 ∷ Local 0 ∷ Local 0 ∷ Local 1 ∷ []; cause = for.Break 0 }) ∷ Some (record { steps = Local 0 ∷ Local 0 ∷ Local 0 ∷ Local 1 ∷ []; cause = for.Break 0 })
    ∷ Some (record { steps = Local 0 ∷ Local 0 ∷ Local 0 ∷ []; cause = for.Max }) ∷ Some (record { steps = []; cause = for.Max }) ∷ Some (record { steps = Local 1 ∷ Local 1 ∷ []; cause = for.Choice })
    ∷ Some (record { steps = []; cause = for.Choice }) ∷ Some (record { steps = Wake 0 ∷ Wake 1 ∷ []; cause = for.Break 0 }) ∷ Some (record { steps = Wake 0 ∷ Wake 1 ∷ []; cause = for.Leaf })
    ∷ Some (record { steps = Wake 0 ∷ Wake 1 ∷ []; cause = for.Leaf }) ∷ []
unfolding decision
row_runs = refl

-- with 1,000,000 steps not undone: a leaf and a choice come first
pub row_full : map {B = Option Ran} (λ steps. option_map (ran telling no_breaks 5 STEPS_MAX) (after telling steps)) ([] ∷ both_there ∷ (both_there ++ paired ∷ Wake 0 ∷ Wake 1 ∷ []) ∷ [])
    ≡ Some (record { steps = []; cause = for.Full }) ∷ Some (record { steps = []; cause = for.Choice }) ∷ Some (record { steps = []; cause = for.Leaf }) ∷ []
unfolding decision
row_full = refl

-- back: the is_hit step is undone, too
abbrev whole_trail : Trail
whole_trail = record { program = telling; mode = Rendezvous; steps = both_there ++ paired ∷ Wake 0 ∷ Wake 1 ∷ []; depth = 9 }

pub row_back : map {B = Stop} (ran_back watching whole_trail) (9 ∷ 8 ∷ 3 ∷ 4 ∷ 0 ∷ [])
    ≡ record { steps = 1; cause = for.Break 0 } ∷ record { steps = 5; cause = for.Break 0 } ∷ record { steps = 3; cause = for.Start } ∷ record { steps = 1; cause = for.Break 0 } ∷ record { steps = 0; cause = for.Start } ∷ []
row_back = refl
