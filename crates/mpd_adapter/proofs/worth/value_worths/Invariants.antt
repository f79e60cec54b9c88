use Rattle.std.proofs.Common.{◌≡◌, ◌++◌, drop}
use Rattle.std.specs.List.{flat_map}
use Rattle.mpd_adapter.specs.Worths.{value_worth}
use Rattle.mpd_adapter.proofs.worth.value_worths.Given as goal

abbrev pub invariant-loop-value : goal.invariant-loop-value
invariant-loop-value l = l.list.items ++ flat_map (value_worth l.meant) (drop l.value-index l.values) ≡ flat_map (value_worth l.meant) l.values
