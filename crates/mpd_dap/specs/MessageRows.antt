-- Worked rows: what some bodies are read as, by computing.
use Rattle.std.specs.Prelude.{◌≡◌, ℕ, List, [], ◌∷◌, ◌++◌, map, replicate, codes, Option, Some, None, refl}
use Rattle.std.specs.Str.{chars, is_utf8}
use Rattle.serde_json.proofs.OnLiterals.{serde_json_on_literals}
use Rattle.mpd_dap.specs.declared.command.Command.{Command}
use Rattle.mpd_dap.specs.declared.command.Command.TheVariants as command
use Rattle.mpd_dap.specs.declared.ask.Ask.{Ask}
use Rattle.mpd_dap.specs.declared.ask.Ask.TheVariants as ask
use Rattle.mpd_dap.specs.declared.ask.Manner.TheVariants as manner
use Rattle.mpd_dap.specs.declared.ask.Message.{Message}
use Rattle.mpd_dap.specs.Commands.{command_of}
use Rattle.mpd_dap.specs.Asks.{number_ask, ask_in}
use Rattle.mpd_dap.specs.Messages.{json_of, message_from, message_in}

-- a request with this number, of this command and with these arguments
abbrev request : List ℕ → List ℕ → List ℕ
request name arguments = codes "{\"type\":\"request\",\"seq\":7,\"command\":\"" ++ name ++ codes "\",\"arguments\":{" ++ arguments ++ codes "}}"

-- what it is read as
abbrev asked : List ℕ → Command → Option Ask → Option Message
asked name c a = Some (record { seq = 7; name = name; command = Some c; ask = a })

-- no JSON, no object, no request; no number, one below 0, one that is a float; no command
pub row_passed_over : map {B = Option Message} message_in
    ([] ∷ codes "[]" ∷ codes "{\"type\":\"response\",\"seq\":7,\"command\":\"threads\"}" ∷ codes "{\"type\":\"request\",\"command\":\"threads\"}"
    ∷ codes "{\"type\":\"request\",\"seq\":-1,\"command\":\"threads\"}" ∷ codes "{\"type\":\"request\",\"seq\":7.0,\"command\":\"threads\"}"
    ∷ codes "{\"type\":\"request\",\"seq\":7}" ∷ [])
    ≡ replicate 7 None
unfolding is_utf8 chars serde_json_on_literals command_of number_ask ask_in json_of message_from
row_passed_over = refl

-- arguments that are no object have no field
pub row_other_arguments : map {B = Option Message} (λ a. message_in (codes "{\"type\":\"request\",\"seq\":7,\"command\":\"threads\",\"arguments\":" ++ a ++ codes "}")) (codes "null" ∷ codes "[1]" ∷ codes "\"x\"" ∷ [])
    ≡ replicate 3 (asked (codes "threads") command.Threads (Some ask.Threads))
unfolding is_utf8 chars serde_json_on_literals command_of number_ask ask_in json_of message_from
row_other_arguments = refl

-- no arguments stand for an empty object; of a key that stands twice the last value counts; what isn't asked for is passed over
pub row_no_arguments : message_in (codes " { \"seq\" : 6 , \"command\" : \"threads\" , \"seq\" : 18446744073709551615 , \"type\" : \"\\u0072equest\" , \"x\" : [] } ")
    ≡ Some (record { seq = 18446744073709551615; name = codes "threads"; command = Some command.Threads; ask = Some ask.Threads })
unfolding is_utf8 chars serde_json_on_literals command_of number_ask ask_in json_of message_from
row_no_arguments = refl

-- a command that is none, with its letters; one in other letters
pub row_unknown : map {B = Option Message} message_in (request (codes "a\\\"b") [] ∷ request (codes "Threads") [] ∷ [])
    ≡ Some (record { seq = 7; name = codes "a\"b"; command = None; ask = None }) ∷ Some (record { seq = 7; name = codes "Threads"; command = None; ask = None }) ∷ []
unfolding is_utf8 chars serde_json_on_literals command_of number_ask ask_in json_of message_from
row_unknown = refl

pub row_initialize : map {B = Option Message} (λ a. message_in (request (codes "initialize") a)) ([] ∷ codes "\"linesStartAt1\":true" ∷ codes "\"linesStartAt1\":false" ∷ codes "\"linesStartAt1\":null" ∷ [])
    ≡ map (asked (codes "initialize") command.Initialize) (Some ask.Initialize ∷ Some ask.Initialize ∷ None ∷ Some ask.Initialize ∷ [])
unfolding is_utf8 chars serde_json_on_literals command_of number_ask ask_in json_of message_from
row_initialize = refl

pub row_launch : map {B = Option Message} (λ a. message_in (request (codes "launch") a)) (codes "\"program\":\"a b\"" ∷ [] ∷ codes "\"program\":1" ∷ [])
    ≡ map (asked (codes "launch") command.Launch) (Some (ask.Launch (codes "a b")) ∷ None ∷ None ∷ [])
unfolding is_utf8 chars serde_json_on_literals command_of number_ask ask_in json_of message_from
row_launch = refl

pub row_step_in : map {B = Option Message} (λ a. message_in (request (codes "stepIn") a)) (codes "\"threadId\":3" ∷ codes "\"targetId\":2,\"threadId\":0" ∷ codes "\"targetId\":null,\"threadId\":0" ∷ codes "\"threadId\":3,\"targetId\":\"2\"" ∷ codes "\"targetId\":2" ∷ [])
    ≡ map (asked (codes "stepIn") command.StepIn) (Some (ask.StepIn 3 None) ∷ Some (ask.StepIn 0 (Some 2)) ∷ Some (ask.StepIn 0 None) ∷ None ∷ None ∷ [])
unfolding is_utf8 chars serde_json_on_literals command_of number_ask ask_in json_of message_from
row_step_in = refl

pub row_evaluate : map {B = Option Message} (λ a. message_in (request (codes "evaluate") a))
    (codes "\"expression\":\"x\"" ∷ codes "\"expression\":\"x\",\"context\":\"hover\",\"frameId\":2" ∷ codes "\"expression\":\"x\",\"context\":\"watch\"" ∷ codes "\"expression\":\"x\",\"context\":\"repl\""
    ∷ codes "\"expression\":\"x\",\"context\":1" ∷ codes "\"expression\":\"x\",\"frameId\":\"\"" ∷ [])
    ≡ map (asked (codes "evaluate") command.Evaluate)
    (Some (ask.Evaluate (codes "x") manner.Value None) ∷ Some (ask.Evaluate (codes "x") manner.Value (Some 2)) ∷ Some (ask.Evaluate (codes "x") manner.Value None) ∷ Some (ask.Evaluate (codes "x") manner.Line None)
    ∷ None ∷ None ∷ [])
unfolding is_utf8 chars serde_json_on_literals command_of number_ask ask_in json_of message_from
row_evaluate = refl

pub row_breakpoints : map {B = Option Message} (λ a. message_in (request (codes "setBreakpoints") a))
    (codes "\"source\":{\"path\":\"p\"}" ∷ codes "\"source\":{\"path\":\"p\"},\"breakpoints\":[{\"line\":9,\"condition\":\"rank 1\"},{\"line\":0}]"
    ∷ codes "\"source\":{\"path\":\"p\"},\"breakpoints\":null" ∷ codes "\"source\":{\"path\":\"p\"},\"breakpoints\":[{\"line\":9,\"condition\":null}]" ∷ codes "\"source\":{\"path\":\"p\"},\"breakpoints\":[{\"line\":9},{}]" ∷ codes "\"source\":{\"path\":\"p\"},\"breakpoints\":{}" ∷ codes "\"source\":\"p\"" ∷ [])
    ≡ map (asked (codes "setBreakpoints") command.SetBreakpoints)
    (Some (ask.SetBreakpoints (codes "p") []) ∷ Some (ask.SetBreakpoints (codes "p") (record { line = 9; condition = Some (codes "rank 1") } ∷ record { line = 0; condition = None } ∷ []))
    ∷ Some (ask.SetBreakpoints (codes "p") []) ∷ Some (ask.SetBreakpoints (codes "p") (record { line = 9; condition = None } ∷ []))
    ∷ None ∷ None ∷ None ∷ [])
unfolding is_utf8 chars serde_json_on_literals command_of number_ask ask_in json_of message_from
row_breakpoints = refl
