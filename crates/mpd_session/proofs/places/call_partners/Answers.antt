use Rattle.std.proofs.Common.{ap, ◌∙◌}
use Rattle.mpd_model.specs.steps.World.{Board, call_id, partner}
use Rattle.mpd_session.proofs.LookLemmas.{mapped_more}
use Rattle.mpd_session.proofs.places.call_partners.Goals as goal

pub loop-index-preserved : goal.loop-index-preserved
loop-index-preserved c =
    mapped_more (λ i. partner c.args.core.now.world.board.sets (call_id c.args.rank i)) c.loop-index.index c.call_count-count.result c.loop-index.items.items _ _ c.partner.result
    c.loop-index-test.true c.loop-index.invariant c.in_ok-push.ensures.items
    (c.partner.ensures ∙ ap (λ (b : Board). partner b.sets (call_id c.args.rank c.loop-index.index)) c.board-in-loop-index.ensures)
