-- The message that a body is.
use Rattle.std.specs.Prelude.{ℕ, List, codes, Bool, false, if◌then◌else◌, Option, Some, None, option_and_then, bytes_eq}
use Rattle.std.specs.Str.{is_utf8}
use Rattle.serde_json.specs.Data.{Data, null}
use Rattle.serde_json.specs.Find.{get}
use Rattle.serde_json.specs.Read.{read}
use Rattle.mpd_dap.specs.declared.command.Command.{Command}
use Rattle.mpd_dap.specs.declared.ask.Message.{Message}
use Rattle.mpd_dap.specs.Commands.{command_of}
use Rattle.mpd_dap.specs.Fields.{number_at, text_at}
use Rattle.mpd_dap.specs.Asks.{ask_in}

-- the JSON value that some bytes are
unfoldable pub json_of : List ℕ → Option Data
json_of body = if is_utf8 body then read body else None

-- arguments that are no object have no field, and so have none at all
abbrev pub arguments_or : Option Data → Data
arguments_or None = null
arguments_or (Some d) = d

abbrev pub arguments_of : Data → Data
arguments_of d = arguments_or (get (codes "arguments") d)

abbrev pub is_of_kind : Option (List ℕ) → Bool
is_of_kind None = false
is_of_kind (Some z) = bytes_eq z (codes "request")

-- an object whose type is that of a request
abbrev pub is_request : Data → Bool
is_request d = is_of_kind (text_at (codes "type") d)

abbrev pub message_with : ℕ → List ℕ → Option Command → Data → Message
message_with seq name command d = record { seq = seq; name = name; command = command; ask = option_and_then (λ c. ask_in c d) command }

abbrev pub message_by : Option ℕ → Option (List ℕ) → Data → Option Message
message_by None name d = None
message_by (Some seq) None d = None
message_by (Some seq) (Some name) d = Some (message_with seq name (command_of name) (arguments_of d))

-- the message that a JSON value is; none if it is passed over
unfoldable pub message_from : Data → Option Message
message_from d = if is_request d then message_by (number_at (codes "seq") d) (text_at (codes "command") d) d else None

abbrev pub message_in : List ℕ → Option Message
message_in body = option_and_then message_from (json_of body)
