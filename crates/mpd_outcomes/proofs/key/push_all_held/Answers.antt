use Rattle.std.proofs.Common.{◌+◌, drop}
use Rattle.std.proofs.lemmas.List.{drop_more}
use Rattle.mpd_outcomes.specs.Keys.{held_words}
use Rattle.mpd_outcomes.proofs.PushLemmas.{joined_more}
use Rattle.mpd_outcomes.proofs.key.push_all_held.Goals as goal

pub loop-handle-preserved : goal.loop-handle-preserved
loop-handle-preserved c =
    let handles = c.args.handles.now in
    joined_more (held_words c.args.board.now.board c.args.rank) (drop c.loop-handle.handle-index handles) (drop (c.loop-handle.handle-index + 1) handles) _ c.loop-handle.words.items _ _
    (drop_more handles c.loop-handle.handle-index _ c.loop-handle-test.true) c.loop-handle.invariant c.in_ok-push_held.ensures
