-- The text of a witness: what its first line says that its steps lead to, and which steps its second line has.
use Rattle.std.specs.Prelude.{◌≡◌, ℕ, Bool, true, false, ◌==◌, bytes_eq, if◌then◌else◌, List, [], ◌∷◌, ◌++◌, Option, Some, None, option_map, Result, Ok, Err, codes}
use Rattle.std.specs.List.{list_all, slice_split}
use Rattle.mpd_model.specs.declared.call.Trap.{Trap}
use Rattle.mpd_model.specs.declared.call.Trap.TheVariants.{Overflow, ZeroDivisor, BadRank, BadTag, BadIndex, Assertion}
use Rattle.mpd_model.specs.declared.step.Step.{Step}
use Rattle.mpd_model.specs.texts.Lines.{bare, is_none}
use Rattle.mpd_model.specs.texts.Texts.{trap_name}
use Rattle.mpd_model.specs.texts.Words.{number_of, call_of, step_of}
use Rattle.mpd_explore.specs.declared.report.RankTrap.{RankTrap}
use Rattle.mpd_explore.specs.declared.report.WitnessEnd.{WitnessEnd}
use Rattle.mpd_explore.specs.declared.report.WitnessEnd.TheVariants as end_is
use Rattle.mpd_explore.specs.declared.report.EndWitness.{EndWitness}
use Rattle.mpd_witness.specs.declared.witness_text.WitnessTextFault.{WitnessTextFault}
use Rattle.mpd_witness.specs.declared.witness_text.WitnessTextFault.TheVariants.{BadLine, Memory}

-- ---- pieces

-- the pieces before, between and after the bytes of one kind
abbrev pub parts_at : ℕ → List ℕ → List (List ℕ)
parts_at c z = slice_split (λ b. b == c) z

-- what stands before the first such byte, and what stands after it
abbrev pub cut_at : ℕ → List ℕ → Option (List ℕ × List ℕ)
cut_at c [] = None
cut_at c (b ∷ z) = if b == c then Some ([], z) else option_map (λ q. (b ∷ q.0, q.1)) (cut_at c z)

abbrev pub put_first : {A : Type 0} → Option A → Option (List A) → Option (List A)
put_first None xs = None
put_first (Some x) None = None
put_first (Some x) (Some xs) = Some (x ∷ xs)

-- what is read of each, where each can be read
abbrev pub each_read : {A : Type 0} → (List ℕ → Option A) → List (List ℕ) → Option (List A)
each_read read [] = Some []
each_read read (z ∷ zs) = put_first (read z) (each_read read zs)

-- ---- a rank and its trap: `1 overflow`

-- the first of some traps that has this name
abbrev pub trap_among : List Trap → List ℕ → Option Trap
trap_among [] z = None
trap_among (t ∷ ts) z = if bytes_eq z (trap_name t) then Some t else trap_among ts z

abbrev pub trap_of : List ℕ → Option Trap
trap_of z = trap_among (Overflow ∷ ZeroDivisor ∷ BadRank ∷ BadTag ∷ BadIndex ∷ Assertion ∷ []) z

abbrev pub rank_trap_with : Option ℕ → Option Trap → Option RankTrap
rank_trap_with None t = None
rank_trap_with (Some p) None = None
rank_trap_with (Some p) (Some t) = Some (record { rank = p; trap = t })

abbrev pub rank_trap_of : List ℕ → List ℕ → Option RankTrap
rank_trap_of rank trap = rank_trap_with (number_of rank) (trap_of trap)

-- what is read of each two pieces, where each two can be read
abbrev pub pairs_read : {A : Type 0} → (List ℕ → List ℕ → Option A) → List (List ℕ) → Option (List A)
pairs_read read [] = Some []
pairs_read read (y ∷ []) = None
pairs_read read (y ∷ z ∷ zs) = put_first (read y z) (pairs_read read zs)

-- ---- the first line: `leaf 1 [1] deadlock 0.1 1.0`, `leaf 2 [0] trap 1 overflow`

-- the pieces after the first that is this word
abbrev pub behind_word : List ℕ → List (List ℕ) → Option (List (List ℕ))
behind_word word [] = None
behind_word word (z ∷ zs) = if bytes_eq z word then Some zs else behind_word word zs

-- what is read of some pieces, of which there is one at least
abbrev pub some_of : {A : Type 0} → (List (List ℕ) → Option (List A)) → List (List ℕ) → Option (List A)
some_of read [] = None
some_of read (z ∷ zs) = read (z ∷ zs)

-- by what stands after `deadlock`, and what after `trap`: where the line has the first word, the second isn't looked for
abbrev pub end_with : Option (List (List ℕ)) → Option (List (List ℕ)) → Option WitnessEnd
end_with (Some ps) traps = option_map end_is.Deadlock (some_of (each_read call_of) ps)
end_with None (Some ps) = option_map end_is.Trap (some_of (pairs_read rank_trap_of) ps)
end_with None None = None

-- what the line says that the steps lead to, each call, rank and trap after a space: what stands in front of the word isn't looked at
abbrev pub end_read : List ℕ → Option WitnessEnd
end_read l = end_with (behind_word (codes "deadlock") (parts_at 32 l)) (behind_word (codes "trap") (parts_at 32 l))

-- ---- the second line: `witness 1: local 0, local 1`

-- what stands after the first colon; all, where there is none
abbrev pub behind_cut : List ℕ → Option (List ℕ × List ℕ) → List ℕ
behind_cut z None = z
behind_cut z (Some q) = q.1

-- the steps, with a comma between two: what stands in front of a colon isn't looked at
abbrev pub steps_of : List ℕ → Option (List Step)
steps_of l = each_read step_of (parts_at 44 (behind_cut l (cut_at 58 l)))

-- ---- the lines

-- a line without one carriage return at its end
abbrev pub line_of : List ℕ → List ℕ
line_of l = bare (l ++ 10 ∷ [])

abbrev pub all_empty : List (List ℕ) → Bool
all_empty ls = list_all (λ l. is_none (line_of l)) ls

-- The witness, or the line that is wrong. Behind the second line stand empty ones alone.
abbrev pub with_steps : WitnessEnd → Option (List Step) → Bool → Result EndWitness ℕ
with_steps end None over = Err 2
with_steps end (Some steps) false = Err 2
with_steps end (Some steps) true = Ok (record { steps = steps; end = end })

abbrev pub with_end : Option WitnessEnd → List (List ℕ) → Result EndWitness ℕ
with_end None ls = Err 1
with_end (Some end) [] = Err 2
with_end (Some end) (l ∷ ls) = with_steps end (steps_of (line_of l)) (all_empty ls)

abbrev pub witness_in : List (List ℕ) → Result EndWitness ℕ
witness_in [] = Err 1
witness_in (l ∷ ls) = with_end (end_read (line_of l)) ls

abbrev pub witness_of : List ℕ → Result EndWitness ℕ
witness_of z = witness_in (parts_at 10 z)

-- ---- what is answered

-- whether there are pieces after a word, and which are left
abbrev pub Skipped : Option (List (List ℕ)) → List (List ℕ) → Bool → Type 0
Skipped behind left true = behind ≡ Some left
Skipped behind left false = behind ≡ None

-- what is read of the next piece, after one that was taken, and which pieces are left
abbrev pub PairRead : {A : Type 0} → (List ℕ → List ℕ → Option A) → List ℕ → List (List ℕ) → List (List ℕ) → Option A → Type 0
PairRead read one old new None = pairs_read read (one ∷ old) ≡ None
PairRead read one old new (Some x) = pairs_read read (one ∷ old) ≡ put_first (Some x) (pairs_read read new)

-- what was read of a line of this number
abbrev pub ReadsLine : {A : Type 0} → ℕ → Option A → Result A WitnessTextFault → Type 0
ReadsLine n read (Ok x) = read ≡ Some x
ReadsLine n read (Err (BadLine k)) = (read ≡ None) × (k ≡ n)
ReadsLine n read (Err Memory) = Unit {0}

-- what was read of a text
abbrev pub ReadsText : Result EndWitness ℕ → Result EndWitness WitnessTextFault → Type 0
ReadsText read (Ok x) = read ≡ Ok x
ReadsText read (Err (BadLine n)) = read ≡ Err n
ReadsText read (Err Memory) = Unit {0}
