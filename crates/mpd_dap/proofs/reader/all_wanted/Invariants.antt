use Rattle.std.proofs.Common.{◌≡◌, drop}
use Rattle.serde_json.specs.View.{items_view}
use Rattle.mpd_dap.specs.Asks.{all_wanted}
use Rattle.mpd_dap.proofs.WantLemmas.{and_rest}
use Rattle.mpd_dap.proofs.reader.all_wanted.Given as goal

abbrev pub invariant-loop-value : goal.invariant-loop-value
invariant-loop-value l = and_rest l.items.items (all_wanted (items_view (drop l.value-index l.values))) ≡ all_wanted (items_view l.values)
