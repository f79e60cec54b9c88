use Rattle.std.proofs.Common.{◌≡◌, map, take}
use Rattle.serde_json.specs.View.{view}
use Rattle.mpd_wire.specs.Replies.{call_or_null}
use Rattle.mpd_wire.proofs.look_values.partner_values.Given as goal

abbrev pub invariant-loop-partner : goal.invariant-loop-partner
invariant-loop-partner l = map view l.values.items ≡ map call_or_null (take l.partner-index l.partners)
