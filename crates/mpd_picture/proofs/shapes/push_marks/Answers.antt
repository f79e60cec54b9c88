use Rattle.std.proofs.Common.{◌+◌, drop}
use Rattle.std.proofs.lemmas.List.{drop_more}
use Rattle.mpd_picture.specs.Shapes.{mark_shapes}
use Rattle.mpd_names.proofs.JoinLemmas.{joined_more}
use Rattle.mpd_picture.proofs.shapes.push_marks.Goals as goal

pub loop-mark-preserved : goal.loop-mark-preserved
loop-mark-preserved c =
    let list = c.args.list.now in
    joined_more (mark_shapes c.args.core.now.program c.args.core.now.world.board c.args.marks.now c.args.rows) (drop c.loop-mark.mark-index list) (drop (c.loop-mark.mark-index + 1) list) _ c.loop-mark.shapes.items _ _ (drop_more list c.loop-mark.mark-index _ c.loop-mark-test.true) c.loop-mark.invariant c.in_ok-push_mark.ensures
