use Rattle.std.proofs.Common.{◌≡◌, map, take}
use Rattle.serde_json.specs.View.{view}
use Rattle.mpd_wire.specs.Replies.{natural}
use Rattle.mpd_wire.proofs.look_values.numbers_value.Given as goal

abbrev pub invariant-loop-number : goal.invariant-loop-number
invariant-loop-number l = map view l.values.items ≡ map natural (take l.number-index l.numbers)
