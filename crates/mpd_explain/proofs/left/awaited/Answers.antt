use Rattle.std.proofs.Common.{◌+◌, drop}
use Rattle.std.proofs.lemmas.List.{drop_more}
use Rattle.mpd_explain.specs.Left.{awaited_by}
use Rattle.mpd_names.proofs.JoinLemmas.{joined_more}
use Rattle.mpd_explain.proofs.left.awaited.Goals as goal

pub loop-call-preserved : goal.loop-call-preserved
loop-call-preserved c =
    let calls = c.args.blocked.now in
    joined_more (awaited_by c.args.core.now.world) (drop c.loop-call.call-index calls) (drop (c.loop-call.call-index + 1) calls) _ c.loop-call.calls.items _ _ (drop_more calls c.loop-call.call-index _ c.loop-call-test.true) c.loop-call.invariant c.in_ok-push_awaited.ensures
