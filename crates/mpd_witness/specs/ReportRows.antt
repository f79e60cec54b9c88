-- Texts of reports and what is read of them, worked by hand.
use Rattle.std.specs.Prelude.{◌≡◌, ℕ, List, [], ◌∷◌, map, Some, None, Result, Ok, Err, codes, refl}
use Rattle.mpd_model.specs.declared.call.Trap.TheVariants.{Overflow, Assertion}
use Rattle.mpd_model.specs.declared.step.CallId.{CallId}
use Rattle.mpd_model.specs.declared.step.Step.{Step}
use Rattle.mpd_model.specs.declared.step.Step.TheVariants.{Local, Wake}
use Rattle.mpd_model.specs.steps.World.{call_id}
use Rattle.mpd_explore.specs.declared.report.RankTrap.{RankTrap}
use Rattle.mpd_explore.specs.declared.report.WitnessEnd.TheVariants as end_is
use Rattle.mpd_explore.specs.declared.report.EndWitness.{EndWitness}
use Rattle.mpd_witness.specs.declared.report_text.ReportFault.{ReportFault}
use Rattle.mpd_witness.specs.declared.report_text.ReportFault.TheVariants.{BadLine, NoWitness, SeveralWitnesses, NoSuchLeaf, NoDeadlock}
use Rattle.mpd_witness.specs.declared.report_lines.LineKind.TheVariants.{Passed, OfLeaf, OfWitness, Wrong}
use Rattle.mpd_witness.specs.ReadBack.{kind_of, witness_of_report}

abbrev read : List Step → List CallId → Result EndWitness ReportFault
read steps blocked = Ok (record { steps = steps; end = end_is.Deadlock blocked })

abbrev read_traps : List Step → List RankTrap → Result EndWitness ReportFault
read_traps steps ranks = Ok (record { steps = steps; end = end_is.Trap ranks })

abbrev refused : ReportFault → Result EndWitness ReportFault
refused fault = Err fault

abbrev wrong : ℕ → Result EndWitness ReportFault
wrong n = Err (BadLine n)

-- ---- what a line is

pub row_passed : map kind_of ([] ∷ codes "  rank 0, line 9, waits in 0.1 recv from 1 tag 2: for a send of rank 1 with tag 2" ∷ codes "  " ∷ codes "leaves 3 more no" ∷ codes "leaves 65536" ∷ codes "outcomes 2 runs 4 more no" ∷ codes "outcomes 0" ∷ []) ≡ Passed ∷ Passed ∷ Passed ∷ Passed ∷ Passed ∷ Passed ∷ Passed ∷ []
row_passed = refl

pub row_named : map kind_of (codes "leaf 0 [] done" ∷ codes "leaf 12 [0 2] deadlock 0.1" ∷ codes "witness 12: local 0, local 1" ∷ codes "witness 0:" ∷ codes "leaf 7" ∷ codes "outcome 5 runs at least 18446744073709551615 first [0 2] deadlock 0.1" ∷ codes "outcome 8" ∷ []) ≡ OfLeaf 0 ∷ OfLeaf 12 ∷ OfWitness 12 ∷ OfWitness 0 ∷ OfLeaf 7 ∷ OfLeaf 5 ∷ OfLeaf 8 ∷ []
row_named = refl

-- of those that end in one way the first leaf is meant, whatever stands after its number
pub row_grouped : map kind_of (codes "end 0 leaves 1 first 0 done" ∷ codes "end 1 leaves 65536 first 3 deadlock 0.1 2.0" ∷ codes "end 5 leaves 4 first 3" ∷ codes "end 007 leaves 012 first 08 cut" ∷ []) ≡ OfLeaf 0 ∷ OfLeaf 3 ∷ OfLeaf 3 ∷ OfLeaf 8 ∷ []
row_grouped = refl

pub row_wrong : map kind_of (codes " " ∷ codes " leaf 0 [] done" ∷ codes "leaf" ∷ codes "leaf  0 [] done" ∷ codes "leaf x [] done" ∷ codes "leaf 0123456789 [] done" ∷ codes "witness 3" ∷ codes "witness: local 0" ∷ codes "deadlock 0.1" ∷ codes "local 0" ∷ codes "leaves" ∷ codes "outcome" ∷ codes "outcome x runs 1 first [] done" ∷ codes "outcomes" ∷ codes "outcomes more no" ∷ codes "end" ∷ codes "end 4" ∷ codes "end 0 leaves 1" ∷ codes "end 0 leaves 1 first" ∷ codes "end 0 leaves 1 first x done" ∷ codes "end 0 leaves x first 1 done" ∷ codes "end x leaves 1 first 1 done" ∷ codes "end 0 first 1 done" ∷ codes "end 0 leaves 1 3 first 1 done" ∷ codes "end 0 leaves 1  first 1 done" ∷ codes "ends 0 leaves 1 first 0 done" ∷ codes "first 1 done" ∷ [])
    ≡ Wrong ∷ Wrong ∷ Wrong ∷ Wrong ∷ Wrong ∷ Wrong ∷ Wrong ∷ Wrong ∷ Wrong ∷ Wrong ∷ Wrong ∷ Wrong ∷ Wrong ∷ Wrong ∷ Wrong ∷ Wrong ∷ Wrong ∷ Wrong ∷ Wrong ∷ Wrong ∷ Wrong ∷ Wrong ∷ Wrong ∷ Wrong ∷ Wrong ∷ Wrong ∷ Wrong ∷ []
row_wrong = refl

-- ---- two lines alone, as ever

abbrev alone : List ℕ → Result EndWitness ReportFault
alone z = witness_of_report None z

pub row_two : map alone (
    codes "leaf 1 [1] deadlock 0.1 1.0\nwitness 1: local 0, wake 1\n"
    ∷ codes "deadlock 0.1\r\nlocal 0\r\n\n"
    ∷ codes "leaf 7 [0 2 1] deadlock 0.1\nwitness 3: local 0"
    ∷ []) ≡ read (Local 0 ∷ Wake 1 ∷ []) (call_id 0 1 ∷ call_id 1 0 ∷ []) ∷ read (Local 0 ∷ []) (call_id 0 1 ∷ []) ∷ read (Local 0 ∷ []) (call_id 0 1 ∷ []) ∷ []
row_two = refl

pub row_two_wrong : map alone ([] ∷ codes "done\nlocal 0\n" ∷ codes "\ndeadlock 0.1\nlocal 0\n" ∷ codes "leaf 0 [] done\nleaves 1 more no\n" ∷ codes "deadlock 0.1\n" ∷ codes "deadlock 0.1\n\nlocal 0\n" ∷ codes "deadlock 0.1\nback\n" ∷ [])
    ≡ wrong 1 ∷ wrong 1 ∷ wrong 1 ∷ wrong 1 ∷ wrong 2 ∷ wrong 2 ∷ wrong 2 ∷ []
row_two_wrong = refl

-- ---- a report

abbrev one : List ℕ
one = codes "leaf 0 [0] done\nleaf 1 [1] deadlock 0.1 1.0\nwitness 1: local 0, wake 1\n  rank 0, line 2: waits\nleaf 2 [2] trap 1 overflow\n  rank 1, line 7: trap overflow\nleaves 3 more no\n"

abbrev two : List ℕ
two = codes "leaf 0 [0] deadlock 1.0\r\nwitness 0: local 1\r\nleaf 1 [1] deadlock 0.1\r\nwitness 1: local 0\r\nleaf 2 [2] deadlock 0.1\r\nleaves 3 more yes\r\n"

abbrev first_of_two : Result EndWitness ReportFault
first_of_two = read (Local 1 ∷ []) (call_id 1 0 ∷ [])

abbrev second_of_two : Result EndWitness ReportFault
second_of_two = read (Local 0 ∷ []) (call_id 0 1 ∷ [])

-- the ways to end in the place of leaves
abbrev ways : List ℕ
ways = codes "outcome 0 runs 3 first [0] done\noutcome 1 runs 1 first [1] deadlock 0.1 1.0\nwitness 1: local 0, wake 1\n  rank 0, line 2: waits\noutcomes 2 runs 4 more no\n"

pub row_ways : map (λ leaf. witness_of_report leaf ways) (None ∷ Some 1 ∷ Some 0 ∷ Some 2 ∷ [])
    ≡ read (Local 0 ∷ Wake 1 ∷ []) (call_id 0 1 ∷ call_id 1 0 ∷ []) ∷ read (Local 0 ∷ Wake 1 ∷ []) (call_id 0 1 ∷ call_id 1 0 ∷ []) ∷ refused NoDeadlock ∷ refused NoSuchLeaf ∷ []
row_ways = refl

-- those that end in one way in the place of leaves: three leaves are done, two are one deadlock, and the first of these is leaf 3
abbrev groups : List ℕ
groups = codes "end 0 leaves 3 first 0 done\nend 1 leaves 2 first 3 deadlock 0.1 1.0\nwitness 3: local 0, wake 1\n  rank 0, line 2: waits\nend 2 leaves 1 first 5 cut\nleaves 6 more no\n"

pub row_groups : map (λ leaf. witness_of_report leaf groups) (None ∷ Some 3 ∷ Some 1 ∷ Some 0 ∷ Some 5 ∷ Some 4 ∷ Some 2 ∷ [])
    ≡ read (Local 0 ∷ Wake 1 ∷ []) (call_id 0 1 ∷ call_id 1 0 ∷ []) ∷ read (Local 0 ∷ Wake 1 ∷ []) (call_id 0 1 ∷ call_id 1 0 ∷ []) ∷ refused NoSuchLeaf ∷ refused NoDeadlock ∷ refused NoDeadlock ∷ refused NoSuchLeaf ∷ refused NoSuchLeaf ∷ []
row_groups = refl

-- a witness by the number of the end, and not of its first leaf; no witness; and none after a deadlock that is asked for
pub row_groups_wrong : map alone (
    codes "end 0 leaves 3 first 1 deadlock 0.1\nwitness 0: local 0\nleaves 3 more no\n"
    ∷ codes "end 0 leaves 3 first 1 deadlock 0.1\nend 1 leaves 1 first 3 done\nleaves 4 more no\n"
    ∷ [])
    ≡ wrong 2 ∷ refused NoWitness ∷ []
row_groups_wrong = refl

-- leaf 2 is a trap, and has no witness
pub row_one : map (λ leaf. witness_of_report leaf one) (None ∷ Some 1 ∷ Some 0 ∷ Some 2 ∷ Some 3 ∷ [])
    ≡ read (Local 0 ∷ Wake 1 ∷ []) (call_id 0 1 ∷ call_id 1 0 ∷ []) ∷ read (Local 0 ∷ Wake 1 ∷ []) (call_id 0 1 ∷ call_id 1 0 ∷ []) ∷ refused NoDeadlock ∷ refused NoWitness ∷ refused NoSuchLeaf ∷ []
row_one = refl

-- the last deadlock has no witness
pub row_several : map (λ leaf. witness_of_report leaf two) (None ∷ Some 0 ∷ Some 1 ∷ Some 2 ∷ Some 3 ∷ []) ≡ refused SeveralWitnesses ∷ first_of_two ∷ second_of_two ∷ refused NoWitness ∷ refused NoSuchLeaf ∷ []
row_several = refl

-- no witness; one that isn't right after its leaf, or is of another; another line; and what is wrong with the lines of the witness itself
pub row_none : map alone (
    codes "leaf 0 [0] deadlock 0.1\nleaf 1 [1] done\nleaves 2 more no\n"
    ∷ codes "leaf 0 [0] deadlock 0.1\n\nwitness 0: local 0\nleaves 1 more no\n"
    ∷ codes "leaf 0 [0] deadlock 0.1\nwitness 1: local 0\nleaves 1 more no\n"
    ∷ codes "leaf 0 [0] deadlock 0.1\nwitness 0: local 0\nwitness 0: local 0\n"
    ∷ codes "witness 0: local 0\nleaf 0 [0] deadlock 0.1\nleaves 1 more no\n"
    ∷ codes "leaf 0 [0] deadlock 0.1\nwitness 0: local 0\nleaves 1 more no\nx\n"
    ∷ codes "leaf 0 [0] leftovers 0.0\nwitness 0: local 0\nleaves 1 more no\n"
    ∷ codes "leaf 0 [0] deadlock 0.1\nwitness 0: back\nleaves 1 more no\n"
    ∷ codes "deadlock 0.1\nlocal 0\nleaf 1 [1] done\n"
    ∷ [])
    ≡ refused NoWitness ∷ wrong 3 ∷ wrong 2 ∷ wrong 3 ∷ wrong 1 ∷ wrong 4 ∷ wrong 1 ∷ wrong 2 ∷ wrong 1 ∷ []
row_none = refl

-- the witnesses of traps, of leaves, of ways to end and of those that end in one way
abbrev traps : List ℕ
traps = codes "leaf 0 [0] trap 0 overflow\nwitness 0: local 1, local 0\nleaf 1 [1] deadlock 0.1\nwitness 1: local 0\nleaf 2 [2] trap 1 assert 3 overflow\nleaves 3 more no\n"

pub row_traps : map (λ leaf. witness_of_report leaf traps) (None ∷ Some 0 ∷ Some 1 ∷ Some 2 ∷ [])
    ≡ refused SeveralWitnesses ∷ read_traps (Local 1 ∷ Local 0 ∷ []) (record { rank = 0; trap = Overflow } ∷ []) ∷ read (Local 0 ∷ []) (call_id 0 1 ∷ []) ∷ refused NoWitness ∷ []
row_traps = refl

pub row_traps_told : map alone (
    codes "outcome 0 runs 3 first [0] done\noutcome 1 runs 2 first [1] trap 1 assert 3 overflow\nwitness 1: wake 1\noutcomes 2 runs 5 more no\n"
    ∷ codes "end 0 leaves 3 first 0 done\nend 1 leaves 1 first 3 trap 1 assert 3 overflow\nwitness 3: wake 1\nleaves 4 more no\n"
    ∷ codes "leaf 0 [0] trap 1\nwitness 0: wake 1\nleaves 1 more no\n"
    ∷ [])
    ≡ read_traps (Wake 1 ∷ []) (record { rank = 1; trap = Assertion } ∷ record { rank = 3; trap = Overflow } ∷ [])
    ∷ read_traps (Wake 1 ∷ []) (record { rank = 1; trap = Assertion } ∷ record { rank = 3; trap = Overflow } ∷ []) ∷ wrong 1 ∷ []
row_traps_told = refl

-- with the number of a leaf, two lines alone are a report too
pub row_asked : map (λ q. witness_of_report (Some 3) q) (codes "leaf 3 [0] deadlock 0.1\nwitness 3: local 0\n" ∷ codes "leaf 4 [0] deadlock 0.1\nwitness 4: local 0\n" ∷ codes "deadlock 0.1\nlocal 0\n" ∷ codes "leaf 3 [0] deadlock 0.1\nlocal 0\n" ∷ [] ∷ [])
    ≡ read (Local 0 ∷ []) (call_id 0 1 ∷ []) ∷ refused NoSuchLeaf ∷ wrong 1 ∷ wrong 2 ∷ refused NoSuchLeaf ∷ []
row_asked = refl
