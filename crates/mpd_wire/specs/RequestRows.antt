-- Worked rows: what some lines are read as, by computing.
use Rattle.std.specs.Prelude.{◌≡◌, negsuc, [], ◌∷◌, codes, Some, None, Result, Ok, Err, refl}
use Rattle.std.specs.Str.{chars, is_utf8}
use Rattle.serde_json.proofs.OnLiterals.{serde_json_on_literals}
use Rattle.mpd_model.specs.declared.comparison.Comparison.TheVariants.{AtMost}
use Rattle.mpd_model.specs.declared.breakpoint.Breakpoint.TheVariants as on
use Rattle.mpd_model.specs.steps.World.{call_id}
use Rattle.mpd_session.specs.declared.request.Command.{Command}
use Rattle.mpd_session.specs.declared.request.Command.TheVariants as command
use Rattle.mpd_session.specs.declared.request.Look.TheVariants as look
use Rattle.mpd_session.specs.declared.request.Request.{Request}
use Rattle.mpd_wire.specs.declared.fault.WireFault.{WireFault}
use Rattle.mpd_wire.specs.declared.fault.WireFault.TheVariants.{NotJson, BadField, UnknownCommand}
use Rattle.mpd_wire.specs.Requests.{wide_kind, wide_command, break_shape, shape_of, is_own, command_in, asked, json_of, request_in, wide_request_in}

-- a request for whatever version there is
abbrev plain : Command → Result Request WireFault
plain c = Ok (record { command = c; at = None })

-- of a key that stands twice the last value counts
pub row_doubled_key : request_in (codes "{\"cmd\":\"back\",\"count\":1,\"count\":2}") ≡ plain (command.Back 2)
unfolding is_utf8 chars serde_json_on_literals wide_kind wide_command break_shape shape_of is_own command_in asked json_of
row_doubled_key = refl

pub row_version : request_in (codes " { \"at\" : 7 , \"cmd\" : \"state\" } ") ≡ Ok (record { command = command.State; at = Some 7 })
unfolding is_utf8 chars serde_json_on_literals wide_kind wide_command break_shape shape_of is_own command_in asked json_of
row_version = refl

pub row_escape : request_in (codes "{\"cmd\":\"\\u0073tate\"}") ≡ plain command.State
unfolding is_utf8 chars serde_json_on_literals wide_kind wide_command break_shape shape_of is_own command_in asked json_of
row_escape = refl

pub row_change : request_in (codes "{\"cmd\":\"break\",\"kind\":\"change\",\"rank\":0,\"cell\":3}") ≡ plain (command.Break (on.Change 0 3))
unfolding is_utf8 chars serde_json_on_literals wide_kind wide_command break_shape shape_of is_own command_in asked json_of
row_change = refl

pub row_handle : wide_request_in (codes "{\"cmd\":\"break\",\"kind\":\"handle\",\"rank\":2,\"handle\":1}") ≡ plain (command.Break (on.Handle 2 1))
unfolding is_utf8 chars serde_json_on_literals wide_kind wide_command break_shape shape_of is_own command_in asked json_of
row_handle = refl

-- a line of one rank, with a condition, and a rank; of a condition all three fields stand, or none
pub row_line : request_in (codes "{\"cmd\":\"break\",\"kind\":\"line\",\"line\":9}") ≡ plain (command.Break (on.Line 9 None None))
unfolding is_utf8 chars serde_json_on_literals wide_kind wide_command break_shape shape_of is_own command_in asked json_of
row_line = refl

pub row_line_of_a_rank : wide_request_in (codes "{\"cmd\":\"break\",\"kind\":\"line\",\"line\":9,\"rank\":1}") ≡ plain (command.Break (on.Line 9 (Some 1) None))
unfolding is_utf8 chars serde_json_on_literals wide_kind wide_command break_shape shape_of is_own command_in asked json_of
row_line_of_a_rank = refl

pub row_condition : wide_request_in (codes "{\"cell\":2,\"cmd\":\"break\",\"is\":\"<=\",\"kind\":\"line\",\"line\":9,\"value\":-12}") ≡ plain (command.Break (on.Line 9 None (Some (record { cell = 2; comparison = AtMost; value = negsuc 11 }))))
unfolding is_utf8 chars serde_json_on_literals wide_kind wide_command break_shape shape_of is_own command_in asked json_of
row_condition = refl

pub row_no_value : wide_request_in (codes "{\"cell\":2,\"cmd\":\"break\",\"is\":\"<=\",\"kind\":\"line\",\"line\":9}") ≡ Err BadField
unfolding is_utf8 chars serde_json_on_literals wide_kind wide_command break_shape shape_of is_own command_in asked json_of
row_no_value = refl

pub row_no_operator : wide_request_in (codes "{\"cell\":2,\"cmd\":\"break\",\"is\":\"=\",\"kind\":\"line\",\"line\":9,\"value\":1}") ≡ Err BadField
unfolding is_utf8 chars serde_json_on_literals wide_kind wide_command break_shape shape_of is_own command_in asked json_of
row_no_operator = refl

pub row_match_of_a_rank : wide_request_in (codes "{\"cmd\":\"break\",\"kind\":\"match\",\"line\":8,\"rank\":0}") ≡ plain (command.Break (on.Match 8 (Some 0)))
unfolding is_utf8 chars serde_json_on_literals wide_kind wide_command break_shape shape_of is_own command_in asked json_of
row_match_of_a_rank = refl

pub row_condition_of_a_match : wide_request_in (codes "{\"cell\":0,\"cmd\":\"break\",\"is\":\"==\",\"kind\":\"match\",\"line\":8,\"value\":1}") ≡ Err BadField
unfolding is_utf8 chars serde_json_on_literals wide_kind wide_command break_shape shape_of is_own command_in asked json_of
row_condition_of_a_match = refl

pub row_rank : wide_request_in (codes "{\"cmd\":\"break\",\"kind\":\"rank\",\"rank\":3}") ≡ plain (command.Break (on.Rank 3))
unfolding is_utf8 chars serde_json_on_literals wide_kind wide_command break_shape shape_of is_own command_in asked json_of
row_rank = refl

pub row_run_on : wide_request_in (codes "{\"cmd\":\"run-on\",\"max\":9}") ≡ plain (command.RunOn 9)
unfolding is_utf8 chars serde_json_on_literals wide_kind wide_command break_shape shape_of is_own command_in asked json_of
row_run_on = refl

pub row_why : request_in (codes "{\"call\":4,\"cmd\":\"why\",\"rank\":2}") ≡ plain (command.Why (call_id 2 4))
unfolding is_utf8 chars serde_json_on_literals wide_kind wide_command break_shape shape_of is_own command_in asked json_of
row_why = refl

-- numbers are whole, and fit 64 bits
pub row_float : request_in (codes "{\"cmd\":\"back\",\"count\":1.0}") ≡ Err BadField
unfolding is_utf8 chars serde_json_on_literals wide_kind wide_command break_shape shape_of is_own command_in asked json_of
row_float = refl

pub row_exponent : request_in (codes "{\"cmd\":\"back\",\"count\":1e0}") ≡ Err BadField
unfolding is_utf8 chars serde_json_on_literals wide_kind wide_command break_shape shape_of is_own command_in asked json_of
row_exponent = refl

pub row_negative : request_in (codes "{\"cmd\":\"goto\",\"depth\":-1}") ≡ Err BadField
unfolding is_utf8 chars serde_json_on_literals wide_kind wide_command break_shape shape_of is_own command_in asked json_of
row_negative = refl

-- a field is there or isn't: null is no absent field
pub row_null : request_in (codes "{\"choice\":null,\"cmd\":\"next\"}") ≡ Err BadField
unfolding is_utf8 chars serde_json_on_literals wide_kind wide_command break_shape shape_of is_own command_in asked json_of
row_null = refl

pub row_absent : request_in (codes "{\"cmd\":\"next\"}") ≡ plain (command.Next None)
unfolding is_utf8 chars serde_json_on_literals wide_kind wide_command break_shape shape_of is_own command_in asked json_of
row_absent = refl

pub row_too_many : request_in (codes "{\"cmd\":\"state\",\"id\":1}") ≡ Err BadField
unfolding is_utf8 chars serde_json_on_literals wide_kind wide_command break_shape shape_of is_own command_in asked json_of
row_too_many = refl

pub row_no_object : request_in (codes "[\"state\"]") ≡ Err BadField
unfolding is_utf8 chars serde_json_on_literals wide_kind wide_command break_shape shape_of is_own command_in asked json_of
row_no_object = refl

pub row_steps : wide_request_in (codes "{\"cmd\":\"steps\",\"count\":2,\"from\":1}") ≡ plain (command.Look (look.Steps 1 2))
unfolding is_utf8 chars serde_json_on_literals wide_kind wide_command break_shape shape_of is_own command_in asked json_of
row_steps = refl

-- a command that there is not is told before its fields
pub row_unknown : request_in (codes "{\"cmd\":\"halt\",\"id\":null}") ≡ Err UnknownCommand
unfolding is_utf8 chars serde_json_on_literals wide_kind wide_command break_shape shape_of is_own command_in asked json_of
row_unknown = refl

pub row_not_json : request_in (codes "{\"cmd\":\"state\",}") ≡ Err NotJson
unfolding is_utf8 chars serde_json_on_literals wide_kind wide_command break_shape shape_of is_own command_in asked json_of
row_not_json = refl

pub row_not_utf8 : request_in (34 ∷ 255 ∷ 34 ∷ []) ≡ Err NotJson
unfolding is_utf8 chars serde_json_on_literals wide_kind wide_command break_shape shape_of is_own command_in asked json_of
row_not_utf8 = refl

-- ---- what is read with `wide` alone

-- a command is one that there is not, whatever its fields; a kind, and a field of a breakpoint, is one that there can't be
pub closed_run_on : request_in (codes "{\"cmd\":\"run-on\",\"max\":9}") ≡ Err UnknownCommand
unfolding is_utf8 chars serde_json_on_literals wide_kind wide_command break_shape shape_of is_own command_in asked json_of
closed_run_on = refl

pub closed_hit : request_in (codes "{\"cmd\":\"hit\"}") ≡ Err UnknownCommand
unfolding is_utf8 chars serde_json_on_literals wide_kind wide_command break_shape shape_of is_own command_in asked json_of
closed_hit = refl

pub closed_script : request_in (codes "{\"cmd\":\"script\"}") ≡ Err UnknownCommand
unfolding is_utf8 chars serde_json_on_literals wide_kind wide_command break_shape shape_of is_own command_in asked json_of
closed_script = refl

pub closed_where : request_in (codes "{\"cmd\":\"where\"}") ≡ Err UnknownCommand
unfolding is_utf8 chars serde_json_on_literals wide_kind wide_command break_shape shape_of is_own command_in asked json_of
closed_where = refl

pub closed_all : request_in (codes "{\"cmd\":\"all\"}") ≡ Err UnknownCommand
unfolding is_utf8 chars serde_json_on_literals wide_kind wide_command break_shape shape_of is_own command_in asked json_of
closed_all = refl

pub closed_decision : request_in (codes "{\"cmd\":\"decision\"}") ≡ Err UnknownCommand
unfolding is_utf8 chars serde_json_on_literals wide_kind wide_command break_shape shape_of is_own command_in asked json_of
closed_decision = refl

pub closed_steps : request_in (codes "{\"cmd\":\"steps\",\"from\":1,\"count\":2}") ≡ Err UnknownCommand
unfolding is_utf8 chars serde_json_on_literals wide_kind wide_command break_shape shape_of is_own command_in asked json_of
closed_steps = refl

pub closed_lines : request_in (codes "{\"cmd\":\"lines\",\"rank\":0}") ≡ Err UnknownCommand
unfolding is_utf8 chars serde_json_on_literals wide_kind wide_command break_shape shape_of is_own command_in asked json_of
closed_lines = refl

pub closed_explain : request_in (codes "{\"cmd\":\"explain\"}") ≡ Err UnknownCommand
unfolding is_utf8 chars serde_json_on_literals wide_kind wide_command break_shape shape_of is_own command_in asked json_of
closed_explain = refl

pub closed_with_a_field_too_many : request_in (codes "{\"cmd\":\"hit\",\"id\":null}") ≡ Err UnknownCommand
unfolding is_utf8 chars serde_json_on_literals wide_kind wide_command break_shape shape_of is_own command_in asked json_of
closed_with_a_field_too_many = refl

pub closed_handle : request_in (codes "{\"cmd\":\"break\",\"kind\":\"handle\",\"rank\":2,\"handle\":1}") ≡ Err BadField
unfolding is_utf8 chars serde_json_on_literals wide_kind wide_command break_shape shape_of is_own command_in asked json_of
closed_handle = refl

pub closed_rank : request_in (codes "{\"cmd\":\"break\",\"kind\":\"rank\",\"rank\":3}") ≡ Err BadField
unfolding is_utf8 chars serde_json_on_literals wide_kind wide_command break_shape shape_of is_own command_in asked json_of
closed_rank = refl

pub closed_line_of_a_rank : request_in (codes "{\"cmd\":\"break\",\"kind\":\"line\",\"line\":9,\"rank\":1}") ≡ Err BadField
unfolding is_utf8 chars serde_json_on_literals wide_kind wide_command break_shape shape_of is_own command_in asked json_of
closed_line_of_a_rank = refl

pub closed_cell : request_in (codes "{\"cmd\":\"break\",\"kind\":\"line\",\"line\":9,\"cell\":2}") ≡ Err BadField
unfolding is_utf8 chars serde_json_on_literals wide_kind wide_command break_shape shape_of is_own command_in asked json_of
closed_cell = refl

pub closed_operator : request_in (codes "{\"cmd\":\"break\",\"kind\":\"line\",\"line\":9,\"is\":\"<=\"}") ≡ Err BadField
unfolding is_utf8 chars serde_json_on_literals wide_kind wide_command break_shape shape_of is_own command_in asked json_of
closed_operator = refl

pub closed_value : request_in (codes "{\"cmd\":\"break\",\"kind\":\"line\",\"line\":9,\"value\":1}") ≡ Err BadField
unfolding is_utf8 chars serde_json_on_literals wide_kind wide_command break_shape shape_of is_own command_in asked json_of
closed_value = refl

pub closed_condition : request_in (codes "{\"cell\":2,\"cmd\":\"break\",\"is\":\"<=\",\"kind\":\"line\",\"line\":9,\"value\":-12}") ≡ Err BadField
unfolding is_utf8 chars serde_json_on_literals wide_kind wide_command break_shape shape_of is_own command_in asked json_of
closed_condition = refl

pub closed_match_of_a_rank : request_in (codes "{\"cmd\":\"break\",\"kind\":\"match\",\"line\":8,\"rank\":0}") ≡ Err BadField
unfolding is_utf8 chars serde_json_on_literals wide_kind wide_command break_shape shape_of is_own command_in asked json_of
closed_match_of_a_rank = refl

-- with `wide` all that is read without it is read, too
pub wide_match : wide_request_in (codes "{\"cmd\":\"break\",\"kind\":\"match\",\"line\":8}") ≡ plain (command.Break (on.Match 8 None))
unfolding is_utf8 chars serde_json_on_literals wide_kind wide_command break_shape shape_of is_own command_in asked json_of
wide_match = refl

pub wide_state : wide_request_in (codes "{\"cmd\":\"state\"}") ≡ plain command.State
unfolding is_utf8 chars serde_json_on_literals wide_kind wide_command break_shape shape_of is_own command_in asked json_of
wide_state = refl

pub wide_unknown : wide_request_in (codes "{\"cmd\":\"halt\",\"id\":null}") ≡ Err UnknownCommand
unfolding is_utf8 chars serde_json_on_literals wide_kind wide_command break_shape shape_of is_own command_in asked json_of
wide_unknown = refl

pub wide_unknown_kind : wide_request_in (codes "{\"cmd\":\"break\",\"kind\":\"call\",\"line\":9}") ≡ Err BadField
unfolding is_utf8 chars serde_json_on_literals wide_kind wide_command break_shape shape_of is_own command_in asked json_of
wide_unknown_kind = refl
