-- A text that gives choices.
use Rattle.std.specs.Prelude.{◌≡◌, ℕ, ◌==◌, List, [], ◌∷◌, ◌++◌, Option, Some, None, filter, option_map, Result, Ok, Err}
use Rattle.std.specs.List.{slice_split}
use Rattle.mpd_model.specs.texts.Words.{has_some, number_of}
use Rattle.mpd_runs.specs.declared.fault.ChoicesFault.{ChoicesFault}
use Rattle.mpd_runs.specs.declared.fault.ChoicesFault.TheVariants.{NotANumber, Memory}

-- what stands before, between and after spaces
abbrev pub cut_at_spaces : List ℕ → List (List ℕ)
cut_at_spaces z = slice_split (λ b. b == 32) z

-- that which is not empty
abbrev pub words_in : List (List ℕ) → List (List ℕ)
words_in parts = filter (has_some {A = ℕ}) parts

abbrev pub put_first : Option ℕ → Option (List ℕ) → Option (List ℕ)
put_first None cs = None
put_first (Some c) None = None
put_first (Some c) (Some cs) = Some (c ∷ cs)

-- each is a number of 1 to 9 digits
abbrev pub numbers_of : List (List ℕ) → Option (List ℕ)
numbers_of [] = Some []
numbers_of (z ∷ zs) = put_first (number_of z) (numbers_of zs)

-- `0 1 0`: numbers with one space or more between two
abbrev pub choices_of : List ℕ → Option (List ℕ)
choices_of z = numbers_of (words_in (cut_at_spaces z))

-- choices that were read, and those of parts that are still to be read
abbrev pub read_on : List ℕ → List (List ℕ) → Option (List ℕ)
read_on so_far parts = option_map (λ cs. so_far ++ cs) (numbers_of (words_in parts))

-- what is answered
abbrev pub ReadsChoices : Option (List ℕ) → Result (List ℕ) ChoicesFault → Type 0
ReadsChoices read (Ok choices) = read ≡ Some choices
ReadsChoices read (Err NotANumber) = read ≡ None
ReadsChoices read (Err Memory) = Unit {0}
