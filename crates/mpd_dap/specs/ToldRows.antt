-- Worked rows: what is written, by computing. What is wanted was worked out by hand.
use Rattle.std.specs.Prelude.{◌≡◌, [], ◌∷◌, map, codes, refl}
use Rattle.std.specs.Fmt.{digits}
use Rattle.serde_json.proofs.OnLiterals.{serde_json_on_literals}
use Rattle.serde_json.specs.Written.{compact_text}
use Rattle.mpd_dap.specs.declared.name.Refusal.TheVariants as refusal
use Rattle.mpd_dap.specs.declared.name.Event.TheVariants as event
use Rattle.mpd_dap.specs.declared.name.Reason.TheVariants as reason
use Rattle.mpd_dap.specs.declared.name.Trouble.TheVariants as trouble
use Rattle.mpd_dap.specs.declared.listed.Mark.TheVariants as mark
use Rattle.mpd_dap.specs.Shown.{shown_byte}
use Rattle.mpd_dap.specs.Bodies.{nothing_data, threads_data, standing_data, ended_data, scopes_data, variables_data, targets_data, exception_data, marks_data, continued_data, evaluated_data, started_data, output_data, stopped_data}
use Rattle.mpd_dap.specs.Told.{response_data, refusal_data, failure_data, event_data, response_text, refusal_text, failure_text, event_text, memory_text}

pub row_shown : map shown_byte (0 ∷ 9 ∷ 10 ∷ 13 ∷ 31 ∷ 32 ∷ 126 ∷ 127 ∷ 255 ∷ []) ≡ 63 ∷ 9 ∷ 10 ∷ 63 ∷ 63 ∷ 32 ∷ 126 ∷ 63 ∷ 63 ∷ []
row_shown = refl

pub row_told : response_text 2 7 (codes "pause") nothing_data ∷ refusal_text 3 7 (codes "a\"b") refusal.UnknownCommand ∷ event_text 4 event.Initialized nothing_data ∷ memory_text 5 ∷ []
    ≡ codes "{\"body\":{},\"command\":\"pause\",\"request_seq\":7,\"seq\":2,\"success\":true,\"type\":\"response\"}"
    ∷ codes "{\"command\":\"a\\\"b\",\"message\":\"unknown-command\",\"request_seq\":7,\"seq\":3,\"success\":false,\"type\":\"response\"}"
    ∷ codes "{\"body\":{},\"event\":\"initialized\",\"seq\":4,\"type\":\"event\"}"
    ∷ codes "{\"body\":{\"category\":\"important\",\"output\":\"refused: memory\\n\"},\"event\":\"output\",\"seq\":5,\"type\":\"event\"}" ∷ []
unfolding response_data refusal_data event_data memory_text nothing_data digits serde_json_on_literals
row_told = refl

pub row_failure : failure_text 2 7 (codes "launch") refusal.NotRead (codes "no { here")
    ≡ codes "{\"body\":{\"error\":{\"format\":\"no { here\",\"id\":1,\"showUser\":true}},\"command\":\"launch\",\"message\":\"not-read\",\"request_seq\":7,\"seq\":2,\"success\":false,\"type\":\"response\"}"
unfolding failure_data digits serde_json_on_literals
row_failure = refl

pub row_looks : map compact_text (threads_data (record { id = 1; name = codes "a" } ∷ record { id = 2; name = codes "b" } ∷ []) ∷ standing_data 2 9 (codes "n") (codes "p") ∷ ended_data 2 (codes "n")
    ∷ variables_data (record { name = codes "x"; value = codes "3" } ∷ []) ∷ targets_data (record { id = 1; label = codes "t" } ∷ []) ∷ exception_data (codes "trap") (codes "d") ∷ [])
    ≡ codes "{\"threads\":[{\"id\":1,\"name\":\"a\"},{\"id\":2,\"name\":\"b\"}]}"
    ∷ codes "{\"stackFrames\":[{\"column\":1,\"id\":2,\"line\":9,\"name\":\"n\",\"source\":{\"path\":\"p\"}}],\"totalFrames\":1}"
    ∷ codes "{\"stackFrames\":[{\"column\":1,\"id\":2,\"line\":0,\"name\":\"n\",\"presentationHint\":\"label\"}],\"totalFrames\":1}"
    ∷ codes "{\"variables\":[{\"name\":\"x\",\"value\":\"3\",\"variablesReference\":0}]}"
    ∷ codes "{\"targets\":[{\"id\":1,\"label\":\"t\"}]}"
    ∷ codes "{\"breakMode\":\"always\",\"description\":\"d\",\"exceptionId\":\"trap\"}" ∷ []
unfolding threads_data standing_data ended_data variables_data targets_data exception_data digits serde_json_on_literals
row_looks = refl

pub row_scopes : compact_text (scopes_data 5)
    ≡ codes "{\"scopes\":[{\"expensive\":false,\"name\":\"Variables\",\"variablesReference\":5},{\"expensive\":false,\"name\":\"Requests\",\"variablesReference\":6},{\"expensive\":false,\"name\":\"Calls\",\"variablesReference\":7},{\"expensive\":false,\"name\":\"Printed\",\"variablesReference\":8}]}"
unfolding scopes_data digits serde_json_on_literals
row_scopes = refl

pub row_marks : compact_text (marks_data (mark.Set 1 4 ∷ mark.Unset 5 trouble.Full ∷ []))
    ≡ codes "{\"breakpoints\":[{\"id\":1,\"line\":4,\"verified\":true},{\"line\":5,\"message\":\"64 breakpoints are set\",\"verified\":false}]}"
unfolding marks_data digits serde_json_on_literals
row_marks = refl

pub row_moves : map compact_text (continued_data ∷ evaluated_data (codes "x = 3") ∷ started_data 1 ∷ output_data (codes "a\n") ∷ stopped_data reason.Step (codes "depth 3") 2 ∷ [])
    ≡ codes "{\"allThreadsContinued\":true}"
    ∷ codes "{\"result\":\"x = 3\",\"variablesReference\":0}"
    ∷ codes "{\"reason\":\"started\",\"threadId\":1}"
    ∷ codes "{\"category\":\"stdout\",\"output\":\"a\\n\"}"
    ∷ codes "{\"allThreadsStopped\":true,\"description\":\"depth 3\",\"reason\":\"step\",\"threadId\":2}" ∷ []
unfolding continued_data evaluated_data started_data output_data stopped_data digits serde_json_on_literals
row_moves = refl
