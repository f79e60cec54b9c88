use Rattle.std.proofs.Common.{◌+◌, drop}
use Rattle.std.proofs.lemmas.List.{drop_more}
use Rattle.mpd_explain.specs.Requests.{call_of}
use Rattle.mpd_names.proofs.JoinLemmas.{joined_more}
use Rattle.mpd_explain.proofs.request_calls.push_targets.Goals as goal

pub loop-handle-preserved : goal.loop-handle-preserved
loop-handle-preserved c =
    let handles = c.args.handles.now in
    joined_more (call_of c.args.rank) (drop c.loop-handle.handle-index handles) (drop (c.loop-handle.handle-index + 1) handles) _ c.loop-handle.calls.items _ _ (drop_more handles c.loop-handle.handle-index _ c.loop-handle-test.true) c.loop-handle.invariant c.in_ok-push_target.ensures
