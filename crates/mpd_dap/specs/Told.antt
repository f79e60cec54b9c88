-- What is written: responses and events.
use Rattle.std.specs.Prelude.{ℕ, List, [], ◌∷◌, codes, true, false}
use Rattle.serde_json.specs.Data.{Data, boolean, string}
use Rattle.serde_json.specs.Written.{compact_text}
use Rattle.mpd_dap.specs.declared.name.Refusal.{Refusal}
use Rattle.mpd_dap.specs.declared.name.Event.{Event}
use Rattle.mpd_dap.specs.declared.name.Event.TheVariants as event
use Rattle.mpd_dap.specs.Names.{refusal_name, event_name}
use Rattle.mpd_dap.specs.Bodies.{natural, fields, said_data}

-- the response with this number to the request of that number and command
unfoldable pub response_data : ℕ → ℕ → List ℕ → Data → Data
response_data seq request command body =
    fields ((codes "body", body) ∷ (codes "command", string command) ∷ (codes "request_seq", natural request) ∷ (codes "seq", natural seq)
    ∷ (codes "success", boolean true) ∷ (codes "type", string (codes "response")) ∷ [])

unfoldable pub refusal_data : ℕ → ℕ → List ℕ → Refusal → Data
refusal_data seq request command refusal =
    fields ((codes "command", string command) ∷ (codes "message", string (refusal_name refusal)) ∷ (codes "request_seq", natural request) ∷ (codes "seq", natural seq)
    ∷ (codes "success", boolean false) ∷ (codes "type", string (codes "response")) ∷ [])

-- the same with what a person is told of it
abbrev pub error_data : List ℕ → Data
error_data told = fields ((codes "error", fields ((codes "format", string told) ∷ (codes "id", natural 1) ∷ (codes "showUser", boolean true) ∷ [])) ∷ [])

unfoldable pub failure_data : ℕ → ℕ → List ℕ → Refusal → List ℕ → Data
failure_data seq request command refusal told =
    fields ((codes "body", error_data told) ∷ (codes "command", string command) ∷ (codes "message", string (refusal_name refusal)) ∷ (codes "request_seq", natural request)
    ∷ (codes "seq", natural seq) ∷ (codes "success", boolean false) ∷ (codes "type", string (codes "response")) ∷ [])

unfoldable pub event_data : ℕ → Event → Data → Data
event_data seq event body =
    fields ((codes "body", body) ∷ (codes "event", string (event_name event)) ∷ (codes "seq", natural seq) ∷ (codes "type", string (codes "event")) ∷ [])

-- their texts
abbrev pub response_text : ℕ → ℕ → List ℕ → Data → List ℕ
response_text seq request command body = compact_text (response_data seq request command body)

abbrev pub refusal_text : ℕ → ℕ → List ℕ → Refusal → List ℕ
refusal_text seq request command refusal = compact_text (refusal_data seq request command refusal)

abbrev pub failure_text : ℕ → ℕ → List ℕ → Refusal → List ℕ → List ℕ
failure_text seq request command refusal told = compact_text (failure_data seq request command refusal told)

abbrev pub event_text : ℕ → Event → Data → List ℕ
event_text seq event body = compact_text (event_data seq event body)

-- the event that tells that memory was refused
unfoldable pub memory_text : ℕ → List ℕ
memory_text seq = event_text seq event.Output (said_data (codes "important") (codes "refused: memory\n"))
