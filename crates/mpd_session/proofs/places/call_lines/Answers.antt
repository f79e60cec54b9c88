use Rattle.mpd_model.specs.steps.World.{call_id, call_at}
use Rattle.mpd_names.specs.Placed.{issue_line}
use Rattle.mpd_session.proofs.LookLemmas.{mapped_more}
use Rattle.mpd_session.proofs.places.call_lines.Goals as goal

pub loop-index-preserved : goal.loop-index-preserved
loop-index-preserved c =
    mapped_more (λ i. issue_line c.args.core.now.program.lines (call_at c.args.core.now.world.board (call_id c.args.rank i))) c.loop-index.index c.call_count-count.result c.loop-index.items.items _ _ c.issue_line.result
    c.loop-index-test.true c.loop-index.invariant c.in_ok-push.ensures.items c.issue_line.ensures
