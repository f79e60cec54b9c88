-- The text of a whole report, and which of its witnesses is read.
use Rattle.std.specs.Prelude.{◌≡◌, ℕ, suc, ◌-◌, Bool, true, false, not, ◌&&◌, ◌||◌, ◌==◌, nat_le, bytes_eq, if◌then◌else◌, List, [], ◌∷◌, length, drop, filter, Option, Some, None, is_some, Result, Ok, Err, codes}
use Rattle.mpd_model.specs.declared.step.Step.{Step}
use Rattle.mpd_model.specs.texts.Lines.{is_none}
use Rattle.mpd_model.specs.texts.Words.{number_of}
use Rattle.mpd_explore.specs.declared.report.WitnessEnd.{WitnessEnd}
use Rattle.mpd_explore.specs.declared.report.EndWitness.{EndWitness}
use Rattle.mpd_lines.specs.declared.engine.EngineFault.TheVariants as engine
use Rattle.mpd_witness.specs.declared.report_lines.LineKind.{LineKind}
use Rattle.mpd_witness.specs.declared.report_lines.LineKind.TheVariants.{Passed, OfLeaf, OfWitness, Wrong}
use Rattle.mpd_witness.specs.declared.report_text.ReportFault.{ReportFault}
use Rattle.mpd_witness.specs.declared.report_text.ReportFault.TheVariants.{BadLine, NoWitness, SeveralWitnesses, NoSuchLeaf, NoDeadlock, Engine}
use Rattle.mpd_witness.specs.WitnessText.{parts_at, cut_at, behind_word, end_read, steps_of, line_of, witness_in}

-- ---- what a line is

-- the number after a word, where the line begins with that word, a space, and that number
abbrev pub second_number : List (List ℕ) → Option ℕ
second_number [] = None
second_number (z ∷ zs) = number_of z

abbrev pub number_behind : List ℕ → List (List ℕ) → Option ℕ
number_behind word [] = None
number_behind word (z ∷ zs) = if bytes_eq z word then second_number zs else None

abbrev pub numbered : List ℕ → List ℕ → Option ℕ
numbered word l = number_behind word (parts_at 32 l)

-- the number after one word, or else after another
abbrev pub number_or : Option ℕ → Option ℕ → Option ℕ
number_or None other = other
number_or (Some n) other = Some n

abbrev pub numbered_either : List ℕ → List ℕ → List ℕ → Option ℕ
numbered_either word other l = number_or (numbered word l) (numbered other l)

-- the second, where the first is a number
abbrev pub number_and : Option ℕ → Option ℕ → Option ℕ
number_and None other = None
number_and (Some n) other = other

-- the number of the first leaf of those that end in one way, `end 0 leaves 3 first 5 ..`: after three words each with a number, the last
abbrev pub first_in : List (List ℕ) → Option ℕ
first_in ps = number_and (number_behind (codes "end") ps) (number_and (number_behind (codes "leaves") (drop 2 ps)) (number_behind (codes "first") (drop 4 ps)))

abbrev pub group_first : List ℕ → Option ℕ
group_first l = first_in (parts_at 32 l)

-- the leaf whose line it is, or that its line names first
abbrev pub leaf_of : List ℕ → Option ℕ
leaf_of l = number_or (numbered_either (codes "leaf") (codes "outcome") l) (group_first l)

-- what stands before the first colon, where there is one
abbrev pub before_cut : Option (List ℕ × List ℕ) → List ℕ
before_cut None = []
before_cut (Some q) = q.0

-- what an explanation begins with
abbrev pub is_indented : List ℕ → Bool
is_indented [] = false
is_indented (b ∷ []) = false
is_indented (b ∷ c ∷ l) = b == 32 && c == 32

-- empty, an explanation, or the line that says how many leaves, or ways to end, there are
abbrev pub is_passed : List ℕ → Bool
is_passed l = is_none l || (is_indented l || is_some (numbered_either (codes "leaves") (codes "outcomes") l))

abbrev pub as_witness : Option ℕ → LineKind
as_witness None = Wrong
as_witness (Some n) = OfWitness n

abbrev pub as_leaf : Option ℕ → List ℕ → LineKind
as_leaf None l = as_witness (numbered (codes "witness") (before_cut (cut_at 58 l)))
as_leaf (Some n) l = OfLeaf n

-- `leaf 3 [0 1] deadlock 0.1`, `outcome 3 runs 5 first [0 1] deadlock 0.1` or `end 1 leaves 5 first 3 deadlock 0.1`, `witness 3: local 0`,
-- what is passed over, or nothing that a report has
abbrev pub kind_of : List ℕ → LineKind
kind_of l = if is_passed l then Passed else as_leaf (leaf_of l) l

-- ---- the first line that is wrong

abbrev pub is_number : Option ℕ → ℕ → Bool
is_number None n = false
is_number (Some m) n = m == n

-- a witness stands right after the leaf of its number
abbrev pub may_follow : Option ℕ → LineKind → Bool
may_follow before Passed = true
may_follow before (OfLeaf n) = true
may_follow before (OfWitness n) = is_number before n
may_follow before Wrong = false

abbrev pub leaf_number : LineKind → Option ℕ
leaf_number Passed = None
leaf_number (OfLeaf n) = Some n
leaf_number (OfWitness n) = None
leaf_number Wrong = None

-- the first of some lines that is wrong, where the first is number i and this is the number of a leaf whose line stands before it
abbrev pub wrong_line : ℕ → Option ℕ → List (List ℕ) → Option ℕ
wrong_line i before [] = None
wrong_line i before (l ∷ ls) = if may_follow before (kind_of (line_of l)) then wrong_line (suc i) (leaf_number (kind_of (line_of l))) ls else Some i

-- ---- the leaf whose witness is wanted, by its place: how many lines stand before it

abbrev pub is_witness : LineKind → Bool
is_witness Passed = false
is_witness (OfLeaf n) = false
is_witness (OfWitness n) = true
is_witness Wrong = false

abbrev pub is_leaf : ℕ → LineKind → Bool
is_leaf n Passed = false
is_leaf n (OfLeaf m) = m == n
is_leaf n (OfWitness m) = false
is_leaf n Wrong = false

-- the place of the first of some lines that is a witness, where the first has place i, and the lines after it
abbrev pub witness_from : ℕ → List (List ℕ) → Option (ℕ × List (List ℕ))
witness_from i [] = None
witness_from i (l ∷ ls) = if is_witness (kind_of (line_of l)) then Some (i, ls) else witness_from (suc i) ls

-- The leaf's line stands right before it.
abbrev pub unless_other : ℕ → Option (ℕ × List (List ℕ)) → Result ℕ ReportFault
unless_other i None = Ok (i - 1)
unless_other i (Some q) = Err SeveralWitnesses

abbrev pub sole_from : Option (ℕ × List (List ℕ)) → Result ℕ ReportFault
sole_from None = Err NoWitness
sole_from (Some q) = unless_other q.0 (witness_from (suc q.0) q.1)

-- the leaf of the only witness
abbrev pub sole_leaf : List (List ℕ) → Result ℕ ReportFault
sole_leaf ls = sole_from (witness_from 0 ls)

-- the place of the first of some lines that is of the leaf of this number, where the first has place i, and the lines from it on
abbrev pub leaf_from : ℕ → ℕ → List (List ℕ) → Option (ℕ × List (List ℕ))
leaf_from n i [] = None
leaf_from n i (l ∷ ls) = if is_leaf n (kind_of (line_of l)) then Some (i, l ∷ ls) else leaf_from n (suc i) ls

-- a piece of it is this word
abbrev pub has_word : List ℕ → List ℕ → Bool
has_word word l = is_some (behind_word word (parts_at 32 l))

-- what is wrong with a leaf's line without a witness after it: that it has none, where it is a deadlock or a trap, or that it is neither
abbrev pub unwitnessed : List ℕ → ReportFault
unwitnessed l = if has_word (codes "deadlock") l || has_word (codes "trap") l then NoWitness else NoDeadlock

abbrev pub witnessed : ℕ → List (List ℕ) → Result ℕ ReportFault
witnessed i [] = Err NoSuchLeaf
witnessed i (l ∷ []) = Err (unwitnessed (line_of l))
witnessed i (l ∷ m ∷ ls) = if is_witness (kind_of (line_of m)) then Ok i else Err (unwitnessed (line_of l))

abbrev pub named_from : Option (ℕ × List (List ℕ)) → Result ℕ ReportFault
named_from None = Err NoSuchLeaf
named_from (Some q) = witnessed q.0 q.1

-- the leaf of this number, which has a witness
abbrev pub named_leaf : ℕ → List (List ℕ) → Result ℕ ReportFault
named_leaf n ls = named_from (leaf_from n 0 ls)

abbrev pub leaf_wanted : Option ℕ → List (List ℕ) → Result ℕ ReportFault
leaf_wanted None ls = sole_leaf ls
leaf_wanted (Some n) ls = named_leaf n ls

-- ---- the witness

abbrev pub with_both : ℕ → Option WitnessEnd → Option (List Step) → Result EndWitness ReportFault
with_both i None steps = Err (BadLine (suc i))
with_both i (Some end) None = Err (BadLine (suc (suc i)))
with_both i (Some end) (Some steps) = Ok (record { steps = steps; end = end })

-- the witness whose leaf has so many lines before it
abbrev pub witness_at : ℕ → List (List ℕ) → Result EndWitness ReportFault
witness_at i [] = Err NoSuchLeaf
witness_at i (l ∷ []) = Err NoWitness
witness_at i (l ∷ m ∷ ls) = with_both i (end_read (line_of l)) (steps_of (line_of m))

abbrev pub witness_of_leaf : Result ℕ ReportFault → List (List ℕ) → Result EndWitness ReportFault
witness_of_leaf (Err fault) ls = Err fault
witness_of_leaf (Ok i) ls = witness_at i (drop i ls)

abbrev pub unless_wrong : Option ℕ → Option ℕ → List (List ℕ) → Result EndWitness ReportFault
unless_wrong (Some i) leaf ls = Err (BadLine i)
unless_wrong None leaf ls = witness_of_leaf (leaf_wanted leaf ls) ls

-- at most two lines are not empty
abbrev pub is_filled : List ℕ → Bool
is_filled l = not (is_none (line_of l))

abbrev pub are_two : List (List ℕ) → Bool
are_two ls = nat_le (length (filter is_filled ls)) 2

abbrev pub as_two : Result EndWitness ℕ → Result EndWitness ReportFault
as_two (Ok x) = Ok x
as_two (Err n) = Err (BadLine n)

-- where no leaf is asked for
abbrev pub are_alone : Option ℕ → List (List ℕ) → Bool
are_alone None ls = are_two ls
are_alone (Some n) ls = false

-- Where no leaf is asked for, two lines alone are a witness, whatever stands before the first's word and the second's colon. Else the text
-- is a report, no line of which may be wrong, and the witness is the only one that it has, or that of the leaf of this number.
abbrev pub witness_in_report : Option ℕ → List (List ℕ) → Result EndWitness ReportFault
witness_in_report leaf ls = if are_alone leaf ls then as_two (witness_in ls) else unless_wrong (wrong_line 1 None ls) leaf ls

-- the same of a text
abbrev pub witness_of_report : Option ℕ → List ℕ → Result EndWitness ReportFault
witness_of_report leaf z = witness_in_report leaf (parts_at 10 z)

-- ---- what is answered

-- what was read of a report, where memory was not refused
abbrev pub ReadsReport : Result EndWitness ReportFault → Result EndWitness ReportFault → Type 0
ReadsReport read (Ok x) = read ≡ Ok x
ReadsReport read (Err (BadLine n)) = read ≡ Err (BadLine n)
ReadsReport read (Err NoWitness) = read ≡ Err NoWitness
ReadsReport read (Err SeveralWitnesses) = read ≡ Err SeveralWitnesses
ReadsReport read (Err NoSuchLeaf) = read ≡ Err NoSuchLeaf
ReadsReport read (Err NoDeadlock) = read ≡ Err NoDeadlock
ReadsReport read (Err (Engine engine.Memory)) = Unit {0}
ReadsReport read (Err (Engine engine.ReadFailed)) = ⊥
ReadsReport read (Err (Engine engine.WriteFailed)) = ⊥
ReadsReport read (Err (Engine engine.TooManyTurns)) = ⊥

-- which line is found, and which lines are left after it
abbrev pub FindsWitness : ℕ → List (List ℕ) → List (List ℕ) → Option ℕ → Type 0
FindsWitness i old new None = witness_from i old ≡ None
FindsWitness i old new (Some place) = witness_from i old ≡ Some (place, new)
