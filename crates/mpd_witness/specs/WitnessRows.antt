-- Texts of witnesses and what is read of them, worked by hand.
use Rattle.std.specs.Prelude.{◌≡◌, ℕ, List, [], ◌∷◌, map, Result, Ok, Err, codes, refl}
use Rattle.mpd_model.specs.declared.call.Trap.{Trap}
use Rattle.mpd_model.specs.declared.call.Trap.TheVariants.{Overflow, ZeroDivisor, BadRank, BadTag, BadIndex, Assertion}
use Rattle.mpd_model.specs.declared.step.CallId.{CallId}
use Rattle.mpd_model.specs.declared.step.Step.{Step}
use Rattle.mpd_model.specs.declared.step.Step.TheVariants.{Local, Match, Wake, WakeAny, Release}
use Rattle.mpd_model.specs.steps.World.{call_id}
use Rattle.mpd_explore.specs.declared.report.RankTrap.{RankTrap}
use Rattle.mpd_explore.specs.declared.report.WitnessEnd.TheVariants as end_is
use Rattle.mpd_explore.specs.declared.report.EndWitness.{EndWitness}
use Rattle.mpd_witness.specs.WitnessText.{witness_of}

abbrev read : List Step → List CallId → Result EndWitness ℕ
read steps blocked = Ok (record { steps = steps; end = end_is.Deadlock blocked })

abbrev trapped : ℕ → Trap → RankTrap
trapped p t = record { rank = p; trap = t }

abbrev read_traps : List Step → List RankTrap → Result EndWitness ℕ
read_traps steps ranks = Ok (record { steps = steps; end = end_is.Trap ranks })

abbrev wrong : ℕ → Result EndWitness ℕ
wrong n = Err n

abbrev short : Result EndWitness ℕ
short = read (Local 0 ∷ Wake 1 ∷ []) (call_id 0 1 ∷ [])

-- what `check` writes, and the same without what may be left out
as_written :
    witness_of (codes "leaf 1 [1] deadlock 0.1 1.0\nwitness 1: local 0, local 0, local 1, match 2.0 0.0, wake 0\n")
    ≡ read (Local 0 ∷ Local 0 ∷ Local 1 ∷ Match (call_id 2 0) (call_id 0 0) ∷ Wake 0 ∷ []) (call_id 0 1 ∷ call_id 1 0 ∷ [])
as_written = refl

no_choice : witness_of (codes "leaf 0 [] deadlock 0.1\nwitness 3: local 0, release\n") ≡ read (Local 0 ∷ Release ∷ []) (call_id 0 1 ∷ [])
no_choice = refl

chosen_request : witness_of (codes "leaf 1 [1] deadlock 0.3\nwitness 1: local 0, wakeany 0 1, wakeany 12 30\n") ≡ read (Local 0 ∷ WakeAny 0 1 ∷ WakeAny 12 30 ∷ []) (call_id 0 3 ∷ [])
chosen_request = refl

-- line feeds and carriage returns
shortest : map witness_of (
    codes "deadlock 0.1\nlocal 0, wake 1"
    ∷ codes "deadlock 0.1\nlocal 0, wake 1\n"
    ∷ codes "deadlock 0.1\nlocal 0, wake 1\n\n\n"
    ∷ codes "deadlock 0.1\r\nlocal 0, wake 1\r\n"
    ∷ codes "leaf 7 [0 2 1] deadlock 0.1\nlocal 0,wake 1\n"
    ∷ codes "deadlock 0.1\nwitness 1:local  0 , wake 1\n"
    ∷ []) ≡ short ∷ short ∷ short ∷ short ∷ short ∷ short ∷ []
shortest = refl

-- the first line is wrong
first_wrong : map witness_of (
    []
    ∷ codes "\n"
    ∷ codes "done\nlocal 0\n"
    ∷ codes "deadlock\nlocal 0\n"
    ∷ codes "deadlock 0.1 \nlocal 0\n"
    ∷ codes "deadlock  0.1\nlocal 0\n"
    ∷ codes "deadlock 0\nlocal 0\n"
    ∷ codes "deadlocked 0.1\nlocal 0\n"
    ∷ codes "trap 0 deadlock\nlocal 0\n"
    ∷ codes "\ndeadlock 0.1\nlocal 0\n"
    ∷ codes "deadlock 0.1000000000\nlocal 0\n"
    ∷ []) ≡ wrong 1 ∷ wrong 1 ∷ wrong 1 ∷ wrong 1 ∷ wrong 1 ∷ wrong 1 ∷ wrong 1 ∷ wrong 1 ∷ wrong 1 ∷ wrong 1 ∷ wrong 1 ∷ []
first_wrong = refl

-- what a trap's witness leads to: ranks and names as a report has them
trap_as_written : map witness_of (
    codes "leaf 1 [1] trap 0 overflow\nwitness 1: local 1, local 0\n"
    ∷ codes "outcome 3 runs 2 first [0 1] trap 0 assert 2 zero-divisor\nwitness 3: local 0\n"
    ∷ codes "trap 1 bad-rank 2 bad-tag 12 bad-index\nlocal 0\n"
    ∷ []) ≡ read_traps (Local 1 ∷ Local 0 ∷ []) (trapped 0 Overflow ∷ []) ∷ read_traps (Local 0 ∷ []) (trapped 0 Assertion ∷ trapped 2 ZeroDivisor ∷ [])
    ∷ read_traps (Local 0 ∷ []) (trapped 1 BadRank ∷ trapped 2 BadTag ∷ trapped 12 BadIndex ∷ []) ∷ []
trap_as_written = refl

-- where `deadlock` stands too, it is the word that counts, wherever it stands
trap_before_deadlock : map witness_of (codes "trap 0 assert deadlock 0.1\nlocal 0\n" ∷ codes "deadlock 0.1 trap\nlocal 0\n" ∷ []) ≡ read (Local 0 ∷ []) (call_id 0 1 ∷ []) ∷ wrong 1 ∷ []
trap_before_deadlock = refl

-- no rank, no trap, a trap that is none, a rank alone, a rank that is none, or too many blanks
trap_wrong : map witness_of (
    codes "trap\nlocal 0\n"
    ∷ codes "trap 0\nlocal 0\n"
    ∷ codes "trap 0 overflows\nlocal 0\n"
    ∷ codes "trap 0 Overflow\nlocal 0\n"
    ∷ codes "trap 0 overflow 1\nlocal 0\n"
    ∷ codes "trap overflow 0\nlocal 0\n"
    ∷ codes "trap 0.1 overflow\nlocal 0\n"
    ∷ codes "trap  0 overflow\nlocal 0\n"
    ∷ codes "trap 0 overflow \nlocal 0\n"
    ∷ codes "traps 0 overflow\nlocal 0\n"
    ∷ codes "trap 1000000000 overflow\nlocal 0\n"
    ∷ []) ≡ wrong 1 ∷ wrong 1 ∷ wrong 1 ∷ wrong 1 ∷ wrong 1 ∷ wrong 1 ∷ wrong 1 ∷ wrong 1 ∷ wrong 1 ∷ wrong 1 ∷ wrong 1 ∷ []
trap_wrong = refl

-- the second is, or something stands after it
second_wrong : map witness_of (
    codes "deadlock 0.1"
    ∷ codes "deadlock 0.1\n"
    ∷ codes "deadlock 0.1\n\nlocal 0\n"
    ∷ codes "deadlock 0.1\nwitness 1:\n"
    ∷ codes "deadlock 0.1\nlocal 0,\n"
    ∷ codes "deadlock 0.1\nlocal 0, back\n"
    ∷ codes "deadlock 0.1\nlocal 0 wake 1\n"
    ∷ codes "deadlock 0.1\nlocal 0, wakeany 1\n"
    ∷ codes "deadlock 0.1\nlocal 0, wakeany 1 0 0\n"
    ∷ codes "deadlock 0.1\nwitness: 1: local 0\n"
    ∷ codes "deadlock 0.1\nlocal 0\nleaf 1 [1] done\n"
    ∷ codes "deadlock 0.1\nlocal 0\n \n"
    ∷ []) ≡ wrong 2 ∷ wrong 2 ∷ wrong 2 ∷ wrong 2 ∷ wrong 2 ∷ wrong 2 ∷ wrong 2 ∷ wrong 2 ∷ wrong 2 ∷ wrong 2 ∷ wrong 2 ∷ wrong 2 ∷ []
second_wrong = refl
