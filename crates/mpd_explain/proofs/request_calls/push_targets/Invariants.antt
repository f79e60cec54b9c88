use Rattle.std.proofs.Common.{◌≡◌, ◌++◌, drop}
use Rattle.std.specs.List.{flat_map}
use Rattle.mpd_explain.specs.Requests.{call_of}
use Rattle.mpd_explain.proofs.request_calls.push_targets.Given as goal

abbrev pub invariant-loop-handle : goal.invariant-loop-handle
invariant-loop-handle l = l.calls.items ++ flat_map (call_of l.rank) (drop l.handle-index l.handles) ≡ l.fn.calls.items ++ flat_map (call_of l.rank) l.handles
