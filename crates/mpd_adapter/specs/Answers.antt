-- What a message is answered with, and what is written of that (docs/ADAPTER.md, "Frames and messages").
use Rattle.std.specs.Prelude.{◌≡◌, ℕ, List, [], ◌∷◌, ◌++◌, Result, Ok, Err}
use Rattle.std.specs.List.{flat_map}
use Rattle.serde_json.specs.Data.{Data}
use Rattle.mpd_frames.specs.Frame.{frame_text}
use Rattle.mpd_dap.specs.declared.ask.Message.{Message}
use Rattle.mpd_dap.specs.declared.name.Event.{Event}
use Rattle.mpd_dap.specs.declared.name.Refusal.{Refusal}
use Rattle.mpd_dap.specs.Told.{response_text, refusal_text, event_text}
use Rattle.mpd_adapter.specs.Numbers.{one_more}

-- an event, and its body
abbrev pub Heard : Type 0
Heard = Event × Data

-- the body of a response, and the events after it
abbrev pub Answer : Type 0
Answer = Data × List Heard

-- events, the first with this number
abbrev pub event_texts : ℕ → List Heard → List (List ℕ)
event_texts n [] = []
event_texts n (e ∷ es) = event_text n e.0 e.1 ∷ event_texts (one_more n) es

-- What is told of a message: one response, and then events.
abbrev pub frames_of : ℕ → Message → Result Answer Refusal → List (List ℕ)
frames_of n m (Err r) = refusal_text n m.seq m.name r ∷ []
frames_of n m (Ok a) = response_text n m.seq m.name a.0 ∷ event_texts (one_more n) a.1

-- the number after those of so many frames
abbrev pub number_after : ℕ → List (List ℕ) → ℕ
number_after n [] = n
number_after n (f ∷ fs) = number_after (one_more n) fs

-- some text is these frames, the first of which has the number n, and this number is the next
pub record IsSheet (n : ℕ) (frames : List (List ℕ)) (text : List ℕ) (number : ℕ) : Type 0 where
  pub text_is : text ≡ flat_map frame_text frames
  pub number_is : number ≡ number_after n frames

-- ---- the same, of events that are added to a text

abbrev pub events_written : ℕ → List Heard → List ℕ
events_written n es = flat_map frame_text (event_texts n es)

abbrev pub number_behind : ℕ → List Heard → ℕ
number_behind n es = number_after n (event_texts n es)

-- these events are added, whatever is added after them
pub record Tells (old : List ℕ) (n : ℕ) (new : List ℕ) (k : ℕ) (es : List Heard) : Type 0 where
  pub text_is : (more : List Heard) → new ++ events_written k more ≡ old ++ events_written n (es ++ more)
  pub number_is : (more : List Heard) → number_behind k more ≡ number_behind n (es ++ more)
