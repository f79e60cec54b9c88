use Rattle.std.proofs.Common.{◌≡◌, map, take}
use Rattle.serde_json.specs.View.{view}
use Rattle.mpd_wire.specs.Replies.{or_null}
use Rattle.mpd_wire.proofs.printer.handles_value.Given as goal

abbrev pub invariant-loop-handle : goal.invariant-loop-handle
invariant-loop-handle l = map view l.values.items ≡ map or_null (take l.handle-index l.handles)
