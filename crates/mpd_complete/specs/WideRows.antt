-- Worked rows of wide walks: they have the ends that the walk leaves out, where a match gives back
-- a slot or a waitany takes what is complete. What is wanted was worked out by hand.
use Rattle.std.specs.Prelude.{◌≡◌, ℕ, Bool, true, false, map, List, [], ◌∷◌, refl}
use Rattle.mpd_model.specs.declared.step.Step.{Step}
use Rattle.mpd_model.specs.declared.step.Step.TheVariants.{Local, Match, Wake, WakeAny, Release}
use Rattle.mpd_model.specs.declared.call.Mode.{Mode}
use Rattle.mpd_model.specs.declared.call.Mode.TheVariants.{Rendezvous, Buffered, Slots}
use Rattle.mpd_model.specs.declared.call.Trap.TheVariants.{Assertion}
use Rattle.mpd_model.specs.declared.outcome.Outcome.TheVariants as o
use Rattle.mpd_model.specs.steps.World.{call_id, start}
use Rattle.mpd_model.specs.steps.Outcomes.{issued_by}
use Rattle.mpd_model.specs.runs.Decisions.{decision}
use Rattle.mpd_policy.specs.Wide.{is_full, conflict, is_quiet, sleeps_on, wide_decision}
use Rattle.mpd_policy.specs.declared.ending.Ending.{Ending}
use Rattle.mpd_policy.specs.declared.ending.Ending.TheVariants.{Ended}
use Rattle.mpd_policy.specs.Walk.{Run, walk, wide_walk}
use Rattle.mpd_explore.specs.declared.report.SearchLeaf.{SearchLeaf}
use Rattle.mpd_explore.specs.declared.report.Witnesses.TheVariants.{OfNone}
use Rattle.mpd_explore.specs.declared.report.SearchLimits.{SearchLimits}
use Rattle.mpd_explore.specs.Sleeping.{awake_by, sleeping_wide_walk}
use Rattle.mpd_explore.specs.Report.{left_out}
use Rattle.mpd_complete.specs.SlotsRows.{ending_there, both_there, first_pair, behind}
use Rattle.mpd_complete.specs.WaitanyRows.{asserting, answering, answered}
use Rattle.mpd_complete.specs.Reported.{all_leaves, reported}

abbrev ended : List Run → List (List ℕ × Ending)
ended runs = map (λ r. (r.choices, r.ending)) runs

-- ---- a send that takes the slot that a match gives back

-- with one slot it matters which is first, the second send or the match of the first one: each has
-- its end
abbrev both_ends : List (List ℕ × Ending)
both_ends = (0 ∷ 0 ∷ [], Ended (o.Deadlock (issued_by 3 (call_id 0 2) ∷ []))) ∷ (1 ∷ [], Ended (o.Leftovers (issued_by 2 (call_id 0 1) ∷ []))) ∷ []

pub row_one_slot : ended (wide_walk 9 (start ending_there (Slots 1))) ≡ both_ends
unfolding wide_walk wide_decision
row_one_slot = refl

-- the second send is asleep below the match, and wakes as it is taken
pub row_one_slot_asleep : ended (sleeping_wide_walk 9 (start ending_there (Slots 1))) ≡ both_ends
unfolding awake_by wide_decision
row_one_slot_asleep = refl

-- in the other modes, with no slot and with two, nothing is to be chosen but, with two slots, the
-- match of a buffered send
pub row_other_modes : map {B = List (List ℕ × Ending)} (λ (mode : Mode). ended (wide_walk 9 (start ending_there mode))) (Rendezvous ∷ Buffered ∷ Slots 0 ∷ Slots 2 ∷ [])
    ≡ (([], Ended (o.Deadlock (issued_by 3 (call_id 0 2) ∷ []))) ∷ []) ∷ (([], Ended (o.Leftovers (issued_by 2 (call_id 0 1) ∷ []))) ∷ []) ∷ (([], Ended (o.Deadlock (issued_by 3 (call_id 0 2) ∷ []))) ∷ []) ∷ ((0 ∷ [], Ended (o.Leftovers (issued_by 2 (call_id 0 1) ∷ []))) ∷ []) ∷ []
unfolding wide_walk wide_decision
row_other_modes = refl

-- where the choice is made neither candidate is quiet
pub row_none_quiet : map {B = Bool} (is_quiet (behind both_there)) (Local 0 ∷ first_pair ∷ []) ≡ false ∷ false ∷ []
row_none_quiet = refl

-- which steps conflict there
pub row_conflicts : map {B = Bool} (λ (s : Step × Step). conflict (behind both_there) s.0 s.1)
    ((Local 0, first_pair) ∷ (first_pair, Local 0) ∷ (Local 1, first_pair) ∷ (first_pair, Match (call_id 0 0) (call_id 1 1)) ∷ (first_pair, Match (call_id 2 0) (call_id 1 0)) ∷ (first_pair, Match (call_id 2 0) (call_id 1 1)) ∷ (WakeAny 1 0, WakeAny 1 1) ∷ (WakeAny 1 0, WakeAny 2 0) ∷ (Wake 1, WakeAny 1 0) ∷ (Wake 1, first_pair) ∷ (Release, Wake 1) ∷ [])
    ≡ true ∷ true ∷ false ∷ true ∷ true ∷ false ∷ true ∷ false ∷ true ∷ false ∷ true ∷ []
row_conflicts = refl

pub row_sleeps_on : sleeps_on (behind both_there) first_pair (Local 0 ∷ Local 1 ∷ first_pair ∷ Wake 0 ∷ []) ≡ Local 1 ∷ Wake 0 ∷ []
row_sleeps_on = refl

-- a rank that holds so many of so many slots
pub row_full : map {B = Bool} (λ (s : Mode × ℕ). is_full s.0 s.1) ((Slots 0, 0) ∷ (Slots 1, 0) ∷ (Slots 1, 1) ∷ (Slots 2, 1) ∷ (Slots 2, 2) ∷ (Buffered, 7) ∷ (Rendezvous, 0) ∷ []) ≡ false ∷ false ∷ true ∷ false ∷ true ∷ false ∷ false ∷ []
row_full = refl

-- ---- a waitany takes what is complete by then

-- the buffered send is complete at once, and the waitany is answered before the match or after it
pub row_waitany : ended (wide_walk 6 (start asserting Buffered)) ≡ (0 ∷ 0 ∷ [], Ended o.Done) ∷ (1 ∷ 0 ∷ [], Ended o.Done) ∷ (1 ∷ 1 ∷ [], Ended (o.Trap (record { rank = 0; statement = 3; trap = Assertion } ∷ []))) ∷ []
unfolding wide_walk wide_decision
row_waitany = refl

-- after the match the request that was tried before it is asleep, and the other one is not
pub row_waitany_asleep : ended (sleeping_wide_walk 6 (start asserting Buffered)) ≡ (0 ∷ 0 ∷ [], Ended o.Done) ∷ (1 ∷ 1 ∷ [], Ended (o.Trap (record { rank = 0; statement = 3; trap = Assertion } ∷ []))) ∷ []
unfolding awake_by wide_decision
row_waitany_asleep = refl

-- ---- one end twice: two waitany are answered in either order

pub row_twice : map (λ (r : Run). r.steps) (sleeping_wide_walk 8 (start answering Rendezvous)) ≡ answered 0 1 ∷ answered 1 0 ∷ []
unfolding awake_by wide_decision
row_twice = refl

-- ---- a report of each end once, and one of every order

abbrev asked : Bool → SearchLimits
asked ends = record { runs = 9; fuel = 6; witnesses = OfNone; until_bad = false; ends = ends }

-- both say that there are no more, and none is cut, but the one of every order lacks the trap
pub row_reported : map {B = Bool × List Ending} (λ (ends : Bool). (left_out (asked ends) (all_leaves (asked ends) (start asserting Buffered)), map (λ (x : SearchLeaf). x.ending) (reported (asked ends) (start asserting Buffered)))) (true ∷ false ∷ [])
    ≡ (false, Ended o.Done ∷ Ended (o.Trap (record { rank = 0; statement = 3; trap = Assertion } ∷ [])) ∷ []) ∷ (false, Ended o.Done ∷ []) ∷ []
unfolding walk awake_by decision wide_decision
row_reported = refl
