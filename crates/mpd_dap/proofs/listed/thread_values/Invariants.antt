use Rattle.std.proofs.Common.{◌≡◌, map, take}
use Rattle.serde_json.specs.View.{view}
use Rattle.mpd_dap.specs.Bodies.{thread_data}
use Rattle.mpd_dap.proofs.listed.thread_values.Given as goal

abbrev pub invariant-loop-thread : goal.invariant-loop-thread
invariant-loop-thread l = map view l.values.items ≡ map thread_data (take l.thread-index l.threads)
