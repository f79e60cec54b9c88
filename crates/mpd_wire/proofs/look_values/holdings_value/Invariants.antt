use Rattle.std.proofs.Common.{◌≡◌, map, take}
use Rattle.serde_json.specs.View.{view}
use Rattle.mpd_wire.specs.Replies.{holding}
use Rattle.mpd_wire.proofs.look_values.holdings_value.Given as goal

abbrev pub invariant-loop-held : goal.invariant-loop-held
invariant-loop-held l = map view l.values.items ≡ map holding (take l.held-index l.holdings)
