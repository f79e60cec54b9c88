-- What a line of the console asks for (docs/CONSOLE.md, "Words").
use Rattle.std.specs.Prelude.{ℕ, ◌+◌, ◌==◌, Bool, true, false, bytes_eq, not, is_some, if◌then◌else◌, List, [], ◌∷◌, drop, Option, Some, None, option_map, Result, Ok, Err, codes}
use Rattle.std.specs.List.{position}
use Rattle.mpd_model.specs.declared.limits.TheConstants.{STEPS_MAX}
use Rattle.mpd_model.specs.declared.breakpoint.Condition.{Condition}
use Rattle.mpd_model.specs.declared.breakpoint.Breakpoint.{Breakpoint}
use Rattle.mpd_model.specs.declared.breakpoint.Breakpoint.TheVariants as on
use Rattle.mpd_model.specs.declared.place.DeclKind.{DeclKind}
use Rattle.mpd_model.specs.declared.place.DeclKind.TheVariants.{Variable, Handle}
use Rattle.mpd_model.specs.declared.words.TraceWord.{TraceWord}
use Rattle.mpd_model.specs.declared.words.TraceWord.TheVariants as trace_word
use Rattle.mpd_model.specs.declared.step.CallId.{CallId}
use Rattle.mpd_model.specs.script.Declaration.{Declared}
use Rattle.mpd_model.specs.texts.Words.{words, has_some, number_of, call_of, trace_word_of, is_blank, is_no_blank}
use Rattle.mpd_names.specs.declared.name.Named.{Named}
use Rattle.mpd_names.specs.declared.name.NameFault.{NameFault}
use Rattle.mpd_names.specs.declared.name.NameFault.TheVariants as name
use Rattle.mpd_names.specs.Names.{named}
use Rattle.mpd_vocabulary.specs.declared.topic.Topic.{Topic}
use Rattle.mpd_vocabulary.specs.declared.topic.Topic.TheVariants as topic
use Rattle.mpd_vocabulary.specs.declared.word.Word.{Word}
use Rattle.mpd_vocabulary.specs.declared.word.Word.TheVariants as word
use Rattle.mpd_vocabulary.specs.declared.word.HelpOn.TheVariants as help_on
use Rattle.mpd_vocabulary.specs.declared.word.When.{When}
use Rattle.mpd_vocabulary.specs.declared.word.WordFault.{WordFault}
use Rattle.mpd_vocabulary.specs.declared.word.WordFault.TheVariants.{Unknown, Usage, NoName, NoSuchIndex, NoIndex}
use Rattle.mpd_vocabulary.specs.declared.read.Line.{Line}
use Rattle.mpd_vocabulary.specs.declared.read.Line.TheVariants.{Blank, Comment, Says, Evaluates, Reloads, Sources, Wrong}
use Rattle.mpd_vocabulary.specs.Topics.{topic_of}
use Rattle.mpd_vocabulary.specs.Conditions.{pieces_of, condition_in}

-- ---- what stands after a word: some words

abbrev pub only_word : List (List ℕ) → Option (List ℕ)
only_word [] = None
only_word (a ∷ []) = Some a
only_word (a ∷ b ∷ more) = None

abbrev pub number_in : Option (List ℕ) → Option ℕ
number_in None = None
number_in (Some a) = number_of a

abbrev pub only_number : List (List ℕ) → Option ℕ
only_number rest = number_in (only_word rest)

-- a number, or nothing
abbrev pub optional_number : List (List ℕ) → Option (Option ℕ)
optional_number [] = Some None
optional_number (a ∷ more) = option_map Some (only_number (a ∷ more))

abbrev pub or_usual : ℕ → Option ℕ → ℕ
or_usual usual None = usual
or_usual usual (Some n) = n

abbrev pub number_or : ℕ → List (List ℕ) → Option ℕ
number_or usual rest = option_map (or_usual usual) (optional_number rest)

abbrev pub is_all : Option (List ℕ) → Bool
is_all None = false
is_all (Some a) = bytes_eq a (codes "all")

-- a number, or one; or `all`, which is as many as there can be
abbrev pub redo_in : List (List ℕ) → Option ℕ
redo_in rest = if is_all (only_word rest) then Some STEPS_MAX else number_or 1 rest

abbrev pub alone : Word → List (List ℕ) → Option Word
alone w [] = Some w
alone w (a ∷ more) = None

abbrev pub fitting : Topic → Option Word → Result Word WordFault
fitting t None = Err (Usage t)
fitting t (Some w) = Ok w

-- ---- steps

abbrev pub step_by : Option TraceWord → Option Word
step_by (Some (trace_word.Step a)) = Some (word.Step a)
step_by c = None

-- the step that a whole line is, as a trace word
abbrev pub step_in : List ℕ → Option Word
step_in z = step_by (trace_word_of z)

-- ---- breakpoints

abbrev pub break_on : ℕ → DeclKind → ℕ → Breakpoint
break_on p Variable c = on.Change p c
break_on p Handle h = on.Handle p h

-- on what a name stands for, which is the word of this number of its line
abbrev pub change_of : ℕ → ℕ → Result Named NameFault → Result Word WordFault
change_of p place (Ok n) = if n.cells == 1 then Ok (word.Break (break_on p n.kind n.first)) else Err NoIndex
change_of p place (Err name.Unknown) = Err (NoName place)
change_of p place (Err name.NoSuchCell) = Err NoSuchIndex

abbrev pub change_at : Topic → Option ℕ → ℕ → Result Named NameFault → Result Word WordFault
change_at t None place n = Err (Usage t)
change_at t (Some p) place n = change_of p place n

-- a rank, and one of its variables or requests
abbrev pub change_in : List Declared → List (List ℕ) → Result Word WordFault
change_in ds [] = Err (Usage topic.Break)
change_in ds (a ∷ []) = Err (Usage topic.Break)
change_in ds (a ∷ b ∷ []) = change_at topic.Break (number_of a) 3 (named ds b)
change_in ds (a ∷ b ∷ c ∷ more) = Err (Usage topic.Break)

-- one of these, and a rank
abbrev pub watch_in : List Declared → List (List ℕ) → Result Word WordFault
watch_in ds [] = Err (Usage topic.Watch)
watch_in ds (a ∷ []) = Err (Usage topic.Watch)
watch_in ds (a ∷ b ∷ []) = change_at topic.Watch (number_of b) 1 (named ds a)
watch_in ds (a ∷ b ∷ c ∷ more) = Err (Usage topic.Watch)

-- of a rank or of any, with what must hold
abbrev pub with_condition : Option ℕ → Result Condition WordFault → Result When WordFault
with_condition of (Err f) = Err f
with_condition of (Ok c) = Ok (record { of = of; condition = Some c })

-- what stands after that: `if` and a condition, or nothing; the first word has this number in its line
abbrev pub conditioned : List Declared → Option ℕ → ℕ → List (List ℕ) → Result When WordFault
conditioned ds of place [] = Ok (record { of = of; condition = None })
conditioned ds of place (a ∷ rest) = if bytes_eq a (codes "if") then with_condition of (condition_in ds (place + 1) (pieces_of [] rest)) else Err (Usage topic.Break)

abbrev pub ranked_by : List Declared → ℕ → Option ℕ → List (List ℕ) → Result When WordFault
ranked_by ds place None rest = Err (Usage topic.Break)
ranked_by ds place (Some p) rest = conditioned ds (Some p) (place + 1) rest

abbrev pub ranked : List Declared → ℕ → List (List ℕ) → Result When WordFault
ranked ds place [] = Err (Usage topic.Break)
ranked ds place (a ∷ rest) = ranked_by ds place (number_of a) rest

-- what stands after a line: a rank, or none, and what must hold
abbrev pub when_in : List Declared → ℕ → List (List ℕ) → Result When WordFault
when_in ds place [] = conditioned ds None place []
when_in ds place (a ∷ rest) = if bytes_eq a (codes "rank") then ranked ds (place + 1) rest else conditioned ds None place (a ∷ rest)

abbrev pub on_line : ℕ → Result When WordFault → Result Word WordFault
on_line n (Err f) = Err f
on_line n (Ok w) = Ok (word.Break (on.Line n w.of w.condition))

abbrev pub line_by_number : List Declared → ℕ → Option ℕ → List (List ℕ) → Result Word WordFault
line_by_number ds place None rest = Err (Usage topic.Break)
line_by_number ds place (Some n) rest = on_line n (when_in ds (place + 1) rest)

abbrev pub line_in : List Declared → ℕ → List (List ℕ) → Result Word WordFault
line_in ds place [] = Err (Usage topic.Break)
line_in ds place (a ∷ rest) = line_by_number ds place (number_of a) rest

-- `rank` and a rank, or nothing
abbrev pub meant_in : List (List ℕ) → Option (Option ℕ)
meant_in [] = Some None
meant_in (a ∷ rest) = if bytes_eq a (codes "rank") then option_map Some (only_number rest) else None

abbrev pub match_of : Option ℕ → Option (Option ℕ) → Option Word
match_of None of = None
match_of (Some n) None = None
match_of (Some n) (Some of) = Some (word.Break (on.Match n of))

abbrev pub match_in : List (List ℕ) → Option Word
match_in [] = None
match_in (a ∷ rest) = match_of (number_of a) (meant_in rest)

abbrev pub rank_in : List (List ℕ) → Option Word
rank_in rest = option_map (λ p. word.Break (on.Rank p)) (only_number rest)

-- a line may have its word before it, or not
abbrev pub break_in : List Declared → List (List ℕ) → Result Word WordFault
break_in ds [] = Err (Usage topic.Break)
break_in ds (kind ∷ rest) =
    if bytes_eq kind (codes "line") then line_in ds 2 rest
    else (if bytes_eq kind (codes "match") then fitting topic.Break (match_in rest)
    else (if bytes_eq kind (codes "rank") then fitting topic.Break (rank_in rest)
    else (if bytes_eq kind (codes "change") then change_in ds rest else line_in ds 1 (kind ∷ rest))))

-- ---- names, calls and words

abbrev pub name_of : Result Named NameFault → Option Named
name_of (Ok n) = Some n
name_of (Err f) = None

abbrev pub named_at : List Declared → Option (List ℕ) → Option Named
named_at ds None = None
named_at ds (Some a) = name_of (named ds a)

-- a name alone
abbrev pub named_in : List Declared → List (List ℕ) → Option Named
named_in ds rest = named_at ds (only_word rest)

abbrev pub print_of : Result Named NameFault → Option ℕ → Result Word WordFault
print_of (Ok n) rank = Ok (word.Print n rank)
print_of (Err name.Unknown) rank = Err (NoName 1)
print_of (Err name.NoSuchCell) rank = Err NoSuchIndex

abbrev pub print_at : Result Named NameFault → Option (Option ℕ) → Result Word WordFault
print_at n None = Err (Usage topic.Print)
print_at n (Some rank) = print_of n rank

abbrev pub print_in : List Declared → List (List ℕ) → Result Word WordFault
print_in ds [] = Err (Usage topic.Print)
print_in ds (a ∷ rest) = print_at (named ds a) (optional_number rest)

abbrev pub why_rank : List ℕ → Option Word
why_rank a = option_map (λ p. word.WhyRank (Some p)) (number_of a)

abbrev pub why_by : List ℕ → Option CallId → Option Word
why_by a (Some c) = Some (word.WhyCall c)
why_by a None = why_rank a

abbrev pub why_at : Option (List ℕ) → Option Word
why_at None = None
why_at (Some a) = why_by a (call_of a)

-- a call, or a rank, or nothing
abbrev pub why_in : List (List ℕ) → Option Word
why_in [] = Some (word.WhyRank None)
why_in (a ∷ more) = why_at (only_word (a ∷ more))

-- what `info` lists
abbrev pub info_by : Option (List ℕ) → Option Word
info_by None = None
info_by (Some a) =
    if bytes_eq a (codes "breakpoints") then Some word.Breaks
    else (if bytes_eq a (codes "ranks") then Some word.Ranks else None)

abbrev pub info_in : List (List ℕ) → Option Word
info_in rest = info_by (only_word rest)

abbrev pub help_of : Option Topic → Result Word WordFault
help_of None = Err (Unknown 1)
help_of (Some t) = Ok (word.Help (help_on.Word t))

-- all words, what a choice is, or a word
abbrev pub help_with : List ℕ → Result Word WordFault
help_with a =
    if bytes_eq a (codes "all") then Ok (word.Help help_on.All)
    else (if bytes_eq a (codes "choice") then Ok (word.Help help_on.Choice) else help_of (topic_of a))

abbrev pub help_in : List (List ℕ) → Result Word WordFault
help_in [] = Ok (word.Help help_on.First)
help_in (a ∷ []) = help_with a
help_in (a ∷ b ∷ more) = Err (Usage topic.Help)

-- ---- how far to go on, and back

-- a line, or `rank` and a rank
abbrev pub until_in : List (List ℕ) → Option Word
until_in [] = None
until_in (a ∷ rest) = if bytes_eq a (codes "rank") then option_map word.UntilRank (only_number rest) else option_map word.Until (only_number (a ∷ rest))

-- so many steps, one where no word is left, or `rank` and a rank
abbrev pub back_in : List (List ℕ) → Option Word
back_in [] = Some (word.Back 1)
back_in (a ∷ rest) = if bytes_eq a (codes "rank") then option_map word.BackRank (only_number rest) else option_map word.Back (only_number (a ∷ rest))

-- ---- a word by its name, the line that it stands in, and what stands after it

abbrev pub word_with : List Declared → Topic → List ℕ → List (List ℕ) → Result Word WordFault
word_with ds topic.Break z rest = break_in ds rest
word_with ds topic.Watch z rest = watch_in ds rest
word_with ds topic.Print z rest = print_in ds rest
word_with ds topic.Help z rest = help_in rest
word_with ds topic.Next z rest = fitting topic.Next (option_map word.Next (optional_number rest))
word_with ds topic.Run z rest = fitting topic.Run (option_map word.Run (number_or STEPS_MAX rest))
word_with ds topic.Until z rest = fitting topic.Until (until_in rest)
word_with ds topic.Finish z rest = fitting topic.Finish (option_map word.Finish (optional_number rest))
word_with ds topic.Back z rest = fitting topic.Back (back_in rest)
word_with ds topic.RunBack z rest = fitting topic.RunBack (alone word.RunBack rest)
word_with ds topic.UndoChoice z rest = fitting topic.UndoChoice (alone word.UndoChoice rest)
word_with ds topic.Goto z rest = fitting topic.Goto (option_map word.Goto (only_number rest))
word_with ds topic.Restart z rest = fitting topic.Restart (alone (word.Goto 0) rest)
word_with ds topic.Reload z rest = Err (Usage topic.Reload)
word_with ds topic.Source z rest = Err (Usage topic.Source)
word_with ds topic.Redo z rest = fitting topic.Redo (option_map word.Redo (redo_in rest))
word_with ds topic.Local z rest = fitting topic.Local (step_in z)
word_with ds topic.Match z rest = fitting topic.Match (step_in z)
word_with ds topic.Wake z rest = fitting topic.Wake (step_in z)
word_with ds topic.WakeAny z rest = fitting topic.WakeAny (step_in z)
word_with ds topic.Release z rest = fitting topic.Release (step_in z)
word_with ds topic.Delete z rest = fitting topic.Delete (option_map word.Delete (only_number rest))
word_with ds topic.Breaks z rest = fitting topic.Breaks (alone word.Breaks rest)
word_with ds topic.Info z rest = fitting topic.Info (info_in rest)
word_with ds topic.List z rest = fitting topic.List (option_map word.List (optional_number rest))
word_with ds topic.Vars z rest = fitting topic.Vars (option_map word.Vars (optional_number rest))
word_with ds topic.Ranks z rest = fitting topic.Ranks (alone word.Ranks rest)
word_with ds topic.Calls z rest = fitting topic.Calls (option_map word.Calls (optional_number rest))
word_with ds topic.Queues z rest = fitting topic.Queues (alone word.Queues rest)
word_with ds topic.Why z rest = fitting topic.Why (why_in rest)
word_with ds topic.History z rest = fitting topic.History (option_map word.History (number_or 10 rest))
word_with ds topic.Picture z rest = fitting topic.Picture (alone word.Picture rest)
word_with ds topic.Check z rest = fitting topic.Check (option_map word.Check (number_or 1000 rest))
word_with ds topic.Follow z rest = fitting topic.Follow (option_map word.Follow (only_number rest))
word_with ds topic.Deadlock z rest = fitting topic.Deadlock (alone word.Deadlock rest)
word_with ds topic.Trap z rest = fitting topic.Trap (alone word.Trap rest)
word_with ds topic.Blame z rest = fitting topic.Blame (alone word.Blame rest)
word_with ds topic.Words z rest = fitting topic.Words (alone word.Words rest)
word_with ds topic.Enabled z rest = fitting topic.Enabled (alone word.Enabled rest)
word_with ds topic.Show z rest = fitting topic.Show (alone word.Show rest)
word_with ds topic.Quit z rest = fitting topic.Quit (alone word.Quit rest)

abbrev pub word_by : List Declared → Option Topic → List ℕ → List (List ℕ) → Result Word WordFault
word_by ds None z rest = Err (Unknown 0)
word_by ds (Some t) z rest = word_with ds t z rest

abbrev pub word_named : List Declared → List ℕ → List ℕ → List (List ℕ) → Result Word WordFault
word_named ds z a rest = word_by ds (topic_of a) z rest

-- ---- expressions: what stands after `print` and is no name with the number of a rank or none

abbrev pub names_nothing : Result Named NameFault → Bool
names_nothing (Ok n) = false
names_nothing (Err name.Unknown) = true
names_nothing (Err name.NoSuchCell) = false

abbrev pub is_value_by : Result Named NameFault → Option (Option ℕ) → Bool
is_value_by n None = true
is_value_by n (Some rank) = names_nothing n

abbrev pub is_value : List Declared → List (List ℕ) → Bool
is_value ds [] = false
is_value ds (a ∷ rest) = is_value_by (named ds a) (optional_number rest)

abbrev pub asks_value : List Declared → Option Topic → List (List ℕ) → Bool
asks_value ds (Some topic.Print) rest = is_value ds rest
asks_value ds other rest = false

-- what stands from the first byte on that passes a test
abbrev pub from_place : Option ℕ → List ℕ → List ℕ
from_place None z = []
from_place (Some n) z = drop n z

abbrev pub from_first : (ℕ → Bool) → List ℕ → List ℕ
from_first test z = from_place (position test z) z

-- what stands after the first word of a line
abbrev pub behind_word : List ℕ → List ℕ
behind_word z = from_first is_blank (from_first is_no_blank z)

-- ---- the script once more: `reload` alone

abbrev pub asks_reload : Option Topic → List (List ℕ) → Bool
asks_reload (Some topic.Reload) rest = not (has_some rest)
asks_reload other rest = false

-- ---- the words of a file: `source`, and its name

abbrev pub asks_source : Option Topic → List (List ℕ) → Bool
asks_source (Some topic.Source) rest = is_some (only_word rest)
asks_source other rest = false

-- ---- lines

abbrev pub says : Result Word WordFault → Line
says (Ok w) = Says w
says (Err f) = Wrong f

-- a word that begins with `#` begins a comment
abbrev pub begins_comment : List ℕ → Bool
begins_comment [] = false
begins_comment (b ∷ a) = b == 35

abbrev pub line_by : List Declared → List ℕ → List (List ℕ) → Line
line_by ds z [] = Blank
line_by ds z (a ∷ rest) = if begins_comment a then Comment else (if asks_value ds (topic_of a) rest then Evaluates else (if asks_reload (topic_of a) rest then Reloads else (if asks_source (topic_of a) rest then Sources else says (word_named ds z a rest))))

abbrev pub line_of : List Declared → List ℕ → Line
line_of ds z = line_by ds z (words z)
