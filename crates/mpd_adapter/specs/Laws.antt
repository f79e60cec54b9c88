-- What the laws of the adapter say.
use Rattle.std.specs.Prelude.{◌≡◌, ◌⊎◌, ℕ, false, List, [], ◌∷◌, Option, Some}
use Rattle.serde_json.specs.Data.{Data}
use Rattle.mpd_model.specs.declared.breakpoint.Breakpoint.{Breakpoint}
use Rattle.mpd_model.specs.runs.Breakpoints.{break_at}
use Rattle.mpd_session.specs.Held.{Held}
use Rattle.mpd_dap.specs.declared.ask.Message.{Message}
use Rattle.mpd_dap.specs.declared.name.Refusal.{Refusal}
use Rattle.mpd_dap.specs.declared.name.Event.TheVariants as event
use Rattle.mpd_dap.specs.Told.{response_text, refusal_text, event_text}
use Rattle.mpd_adapter.specs.Numbers.{one_more}
use Rattle.mpd_adapter.specs.declared.moves.Move.{Move}
use Rattle.mpd_adapter.specs.Moves.{after}
use Rattle.mpd_adapter.specs.Halts.{stopped_in}
use Rattle.mpd_adapter.specs.Answers.{Heard, event_texts, number_after}
use Rattle.mpd_adapter.specs.Marks.{is_of_line}
use Rattle.mpd_adapter.specs.Says.{Adapter, Unheard, memory_frames, move_body, said_body}

-- a frame is a response of this number to a message, by its number and its command
abbrev pub IsResponse : ℕ → Message → List ℕ → Type 0
IsResponse n m first = ((body : Data) × (first ≡ response_text n m.seq m.name body)) ⊎ ((why : Refusal) × (first ≡ refusal_text n m.seq m.name why))

-- the first frame is a response, and all others are events, numbered from there on
abbrev pub IsHeaded : ℕ → Message → List (List ℕ) → Type 0
IsHeaded n m frames = (first : List ℕ) × (events : List Heard) × (frames ≡ first ∷ event_texts (one_more n) events) × IsResponse n m first

-- so it is, or one frame tells that memory was refused; and the next number is the one after all frames
abbrev pub IsAnswered : Adapter → Message → List (List ℕ) → Adapter → Type 0
IsAnswered d m frames e = (IsHeaded d.number m frames ⊎ (frames ≡ memory_frames d)) × (e.number ≡ number_after d.number frames)

-- the console is as it was, and so is what is known of the editor
abbrev pub IsQuiet : Adapter → Adapter → Type 0
IsQuiet d e = (e.console ≡ d.console) × (e.path ≡ d.path) × (e.is_over ≡ d.is_over)

-- three frames, numbered one after another: the response, what the console has said, and where the session stands
abbrev pub move_frames : ℕ → Message → Move → List ℕ → Held → List (List ℕ)
move_frames n m asked said s =
    response_text n m.seq m.name (move_body asked) ∷ (event_text (one_more n) event.Output (said_body said) ∷ (event_text (one_more (one_more n)) event.Stopped (stopped_in (after asked) s) ∷ []))

abbrev pub StopsLast : Adapter → Message → Move → List (List ℕ) → Adapter → Type 0
StopsLast d m asked frames e = ((said : List ℕ) × (frames ≡ move_frames d.number m asked said e.console.session)) ⊎ (frames ≡ memory_frames d)

-- nothing is told, and nothing changes; or one frame tells that memory was refused, and the console is as it was
abbrev pub SaysNothing : Adapter → List (List ℕ) → Adapter → Type 0
SaysNothing d frames e = ((frames ≡ []) × (e ≡ d)) ⊎ (Unheard d frames e × (e.console ≡ d.console))

-- each breakpoint of another kind than `line` has the number that it had
abbrev pub KeepsOthers : List (Option Breakpoint) → List (Option Breakpoint) → Type 0
KeepsOthers old new = (n : ℕ) (b : Breakpoint) → break_at old n ≡ Some b → is_of_line (Some b) ≡ false → break_at new n ≡ Some b

-- so it is of a session, whose steps are what they were
abbrev pub KeepsRest : Held → Held → Type 0
KeepsRest s t = (t.trail ≡ s.trail) × KeepsOthers s.breaks t.breaks
