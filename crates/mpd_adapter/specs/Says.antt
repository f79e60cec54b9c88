-- What a message is answered, and where that leaves the adapter (docs/ADAPTER.md).
use Rattle.std.specs.Prelude.{◌≡◌, ◌⊎◌, ◌==◌, ◌-◌, ℕ, Bool, true, false, not, if◌then◌else◌, List, [], ◌∷◌, ◌++◌, map, take, length, bytes_eq, Result, Ok, Err, Option, Some, None, is_some, refl}
use Rattle.std.specs.List.{range_with_len}
use Rattle.std.specs.Coded.{Coded, code_by, coded×, coded_ℕ, coded_bool, coded_list, coded_option}
use Rattle.serde_json.specs.Data.{Data}
use Rattle.mpd_session.specs.Held.{Held}
use Rattle.mpd_vocabulary.specs.declared.word.Word.{Word}
use Rattle.mpd_console.specs.Says.{Console, console_code, WordSays, ConsoleSays}
use Rattle.mpd_dap.specs.declared.ask.Ask.{Ask}
use Rattle.mpd_dap.specs.declared.ask.Ask.TheVariants as ask
use Rattle.mpd_dap.specs.declared.ask.Message.{Message}
use Rattle.mpd_dap.specs.declared.ask.Wanted.{Wanted}
use Rattle.mpd_dap.specs.declared.listed.Mark.{Mark}
use Rattle.mpd_dap.specs.declared.name.Event.{Event}
use Rattle.mpd_dap.specs.declared.name.Event.TheVariants as event
use Rattle.mpd_dap.specs.declared.name.Refusal.{Refusal}
use Rattle.mpd_dap.specs.declared.name.Refusal.TheVariants as refusal
use Rattle.mpd_dap.specs.Shown.{shown_byte}
use Rattle.mpd_dap.specs.Bodies.{nothing_data, continued_data, started_data, output_data, evaluated_data, marks_data}
use Rattle.mpd_dap.specs.Told.{memory_text}
use Rattle.mpd_dap.specs.Messages.{message_in}
use Rattle.mpd_adapter.specs.declared.moves.After.TheVariants as behind
use Rattle.mpd_adapter.specs.declared.moves.Move.{Move}
use Rattle.mpd_adapter.specs.declared.moves.Move.TheVariants as move
use Rattle.mpd_adapter.specs.declared.task.Look.{Look}
use Rattle.mpd_adapter.specs.declared.task.Task.{Task}
use Rattle.mpd_adapter.specs.declared.task.Task.TheVariants.{Refused, Looks, Launches, Begins, Ends, Marks, Moves, Types, Values}
use Rattle.mpd_adapter.specs.Numbers.{one_more}
use Rattle.mpd_adapter.specs.Moves.{after, word_in}
use Rattle.mpd_adapter.specs.Halts.{stopped_in}
use Rattle.mpd_adapter.specs.Looks.{IsBodyIn}
use Rattle.mpd_adapter.specs.Marks.{marks_in, marked}
use Rattle.mpd_adapter.specs.Tasks.{task_of}
use Rattle.mpd_adapter.specs.declared.worth.RankWorth.{RankWorth}
use Rattle.mpd_adapter.specs.Worths.{worths_in, IsWorth}
use Rattle.mpd_adapter.specs.Answers.{Heard, Answer, IsSheet, frames_of, number_after}

-- what the adapter holds: a console, the number of the next frame, the path of the script where a `launch` was answered, and whether
-- the session is over
pub record Adapter : Type 0 where
  pub console : Console
  pub number : ℕ
  pub path : Option (List ℕ)
  pub is_over : Bool

abbrev pub adapter_code : Coded Adapter
adapter_code =
    code_by (Console × (ℕ × (Option (List ℕ) × Bool))) (coded× console_code (coded× coded_ℕ (coded× (coded_option (coded_list coded_ℕ)) coded_bool)))
    (λ d. (d.console, (d.number, (d.path, d.is_over)))) (λ q. record { console = q.0; number = q.1.0; path = q.1.1.0; is_over = q.1.1.1 }) (λ _. refl)

-- ---- what a message comes to

abbrev pub task_in : Adapter → Message → Task
task_in d m = task_of d.console.session.trail.program.ranks (is_some d.path) m

-- the words of the console that it stands for
abbrev pub stands_for : Held → Task → List Word
stands_for s (Moves m) = word_in s m ∷ []
stands_for s other = []

-- A console is said some words, one after another, and is e then.
abbrev pub WordsSay : Console → List Word → Console → Type 0
WordsSay d [] e = e ≡ d
WordsSay d (x ∷ xs) e = (c : Console) × WordSays d x c × WordsSay c xs e

-- the expression of a message
abbrev pub expression_of : Option Ask → List ℕ
expression_of (Some (ask.Evaluate z m f)) = z
expression_of other = []

abbrev pub path_or : Option (List ℕ) → List ℕ
path_or None = []
path_or (Some path) = path

-- the path of the source of a message, and the breakpoints that are wanted in it
abbrev pub source_of : Option Ask → List ℕ
source_of (Some (ask.SetBreakpoints path ws)) = path
source_of other = []

abbrev pub wanted_of : Option Ask → List Wanted
wanted_of (Some (ask.SetBreakpoints path ws)) = ws
wanted_of other = []

-- whether that source is the script
abbrev pub is_own : Option (List ℕ) → Option Ask → Bool
is_own path a = bytes_eq (path_or path) (source_of a)

-- what the session holds once the breakpoints of a message are set, and what becomes of each
abbrev pub marked_by : Adapter → Message → Held
marked_by d m = marked (is_own d.path m.ask) d.console.session (wanted_of m.ask)

abbrev pub marks_by : Adapter → Message → List Mark
marks_by d m = marks_in (is_own d.path m.ask) d.console.session (wanted_of m.ask)

-- What a message stands for is said to the console, which answers by a text, of which nothing is told here, and is e then. Breakpoints are set by the session
-- itself, without a word.
abbrev pub Spoken : Adapter → Task → Message → List ℕ → Console → Type 0
Spoken d Types m said e = ConsoleSays d.console (expression_of m.ask) said e
Spoken d Marks m said e = (said ≡ []) × (e ≡ record d.console { session = marked_by d m })
Spoken d t m said e = WordsSay d.console (stands_for d.console.session t) e

-- ---- what is told of it

abbrev pub ends_in_feed : List ℕ → Bool
ends_in_feed [] = false
ends_in_feed (b ∷ []) = b == 10
ends_in_feed (b ∷ (c ∷ z)) = ends_in_feed (c ∷ z)

-- a text without its last line feed
abbrev pub without_feed : List ℕ → List ℕ
without_feed z = if ends_in_feed z then take (length z - 1) z else z

-- where the session stands, if it has another version than before
abbrev pub has_changed : Held → Held → Bool
has_changed s t = not (t.version == s.version)

abbrev pub stop_if : Bool → Held → List Heard
stop_if false s = []
stop_if true s = (event.Stopped, stopped_in behind.Jump s) ∷ []

abbrev pub evaluated_body : List ℕ → Data
evaluated_body text = evaluated_data (map shown_byte (without_feed text))

abbrev pub evaluated_answer : Bool → List ℕ → Held → Result Answer Refusal
evaluated_answer changed text s = Ok (evaluated_body text, stop_if changed s)

abbrev pub move_body : Move → Data
move_body (move.Continue p) = continued_data
move_body other = nothing_data

-- each rank has started
abbrev pub started : ℕ → Heard
started p = (event.Thread, started_data (one_more p))

abbrev pub all_started : ℕ → List Heard
all_started ranks = map started (range_with_len 0 ranks)

abbrev pub begun_in : Held → List Heard
begun_in s = all_started s.trail.program.ranks ++ (event.Stopped, stopped_in behind.Jump s) ∷ []

-- what the console has said
abbrev pub said_body : List ℕ → Data
said_body text = output_data (map shown_byte text)

-- `exceptionInfo` is refused if the run isn't at an end
abbrev pub looked : Option Data → Result Answer Refusal
looked None = Err refusal.NotEnded
looked (Some body) = Ok (body, [])

-- an expression is refused if it comes to nothing
abbrev pub valued : Option Data → Result Answer Refusal
valued None = Err refusal.NoValue
valued (Some body) = Ok (body, [])

-- what the expression of a message comes to, for the ranks that are meant
abbrev pub worths_for : Adapter → Option Ask → Option ℕ → List RankWorth
worths_for d a p = worths_in d.console.session (expression_of a) p

-- what is shown by a look and of an expression; by another task nothing
abbrev pub Shows : Adapter → Task → Message → Option Data → Type 0
Shows d (Looks l) m shown = IsBodyIn d.console.session (path_or d.path) l shown
Shows d (Values p) m shown = IsWorth (worths_for d m.ask p) shown
Shows d other m shown = shown ≡ None

abbrev pub announced : Event → Result Answer Refusal
announced e = Ok (nothing_data, (e, nothing_data) ∷ [])

abbrev pub begun_answer : Held → Result Answer Refusal
begun_answer s = Ok (nothing_data, begun_in s)

-- given what the console has said, and what its session is then
abbrev pub moved_answer : Move → List ℕ → Held → Result Answer Refusal
moved_answer m text s = Ok (move_body m, (event.Output, said_body text) ∷ ((event.Stopped, stopped_in (after m) s) ∷ []))

-- no event follows
abbrev pub marked_answer : List Mark → Result Answer Refusal
marked_answer marks = Ok (marks_data marks, [])

-- given what the console has said, what is shown, and what the console is then
abbrev pub answer_of : Adapter → Task → Message → List ℕ → Option Data → Console → Result Answer Refusal
answer_of d (Refused r) m text shown e = Err r
answer_of d (Looks l) m text shown e = looked shown
answer_of d Launches m text shown e = announced event.Initialized
answer_of d Begins m text shown e = begun_answer d.console.session
answer_of d Ends m text shown e = announced event.Terminated
answer_of d Marks m text shown e = marked_answer (marks_by d m)
answer_of d (Moves asked) m text shown e = moved_answer asked text e.session
answer_of d Types m text shown e = evaluated_answer (has_changed d.console.session e.session) text e.session
answer_of d (Values p) m text shown e = valued shown

-- ---- what changes besides the console

-- the path that a `launch` gives
abbrev pub program_of : Option Ask → Option (List ℕ)
program_of (Some (ask.Launch path)) = Some path
program_of other = None

abbrev pub path_then : Option (List ℕ) → Task → Option Ask → Option (List ℕ)
path_then path Launches a = program_of a
path_then path other a = path

abbrev pub over_then : Bool → Task → Bool
over_then over Ends = true
over_then over other = over

-- what leaves all as it is
abbrev pub changes_none : Task → Bool
changes_none (Refused r) = true
changes_none (Looks l) = true
changes_none (Values p) = true
changes_none Begins = true
changes_none other = false

-- ---- the answer to a message

-- This is written of a look.
abbrev pub Looked : ℕ → Message → Held → List ℕ → Look → List ℕ → ℕ → Type 0
Looked n m s path l text number = (shown : Option Data) × IsBodyIn s path l shown × IsSheet n (frames_of n m (looked shown)) text number

-- This is written of what an expression comes to.
abbrev pub Valued : ℕ → Message → List RankWorth → List ℕ → ℕ → Type 0
Valued n m list text number = (shown : Option Data) × IsWorth list shown × IsSheet n (frames_of n m (valued shown)) text number

-- The words are done, and this is written of them.
abbrev pub Wrote : Adapter → Task → Message → Console → List ℕ → ℕ → Type 0
Wrote d t m e text number = (said : List ℕ) × (shown : Option Data) × Spoken d t m said e × Shows d t m shown × IsSheet d.number (frames_of d.number m (answer_of d t m said shown e)) text number

-- the same, frame by frame
abbrev pub Told : Adapter → Task → Message → List (List ℕ) → Adapter → Type 0
Told d t m frames e =
    (said : List ℕ) × (shown : Option Data) × Spoken d t m said e.console × Shows d t m shown × (frames ≡ frames_of d.number m (answer_of d t m said shown e.console)) × (e.number ≡ number_after d.number frames)
    × (e.path ≡ path_then d.path t m.ask) × (e.is_over ≡ over_then d.is_over t)

-- The console is as before, or its words are done.
abbrev pub Kept : Adapter → Task → Message → Console → Type 0
Kept d t m e = (e ≡ d.console) ⊎ ((said : List ℕ) × Spoken d t m said e)

-- one frame says that memory was refused
abbrev pub memory_frames : Adapter → List (List ℕ)
memory_frames d = memory_text d.number ∷ []

abbrev pub next_number : Adapter → ℕ
next_number d = one_more d.number

abbrev pub Unheard : Adapter → List (List ℕ) → Adapter → Type 0
Unheard d frames e = (frames ≡ memory_frames d) × (e ≡ record d { console = e.console; number = next_number d })

abbrev pub Heeds : Adapter → Task → Message → List (List ℕ) → Adapter → Type 0
Heeds d t m frames e = Told d t m frames e ⊎ (Unheard d frames e × Kept d t m e.console)

abbrev pub SaysBy : Adapter → Option Message → List (List ℕ) → Adapter → Type 0
SaysBy d None frames e = ((frames ≡ []) × (e ≡ d)) ⊎ (Unheard d frames e × (e.console ≡ d.console))
SaysBy d (Some m) frames e = Heeds d (task_in d m) m frames e

-- An adapter d answers a body by these frames, and is e then.
abbrev pub Says : Adapter → List ℕ → List (List ℕ) → Adapter → Type 0
Says d body frames e = SaysBy d (message_in body) frames e
