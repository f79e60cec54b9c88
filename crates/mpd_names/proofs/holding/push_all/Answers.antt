use Rattle.std.proofs.Common.{length, slice_get, true}
use Rattle.mpd_core.proofs.RangeLemmas.{given_more}
use Rattle.mpd_names.specs.Held.{holding_if}
use Rattle.mpd_names.proofs.holding.push_all.Goals as goal

pub loop-number-preserved : goal.loop-number-preserved
loop-number-preserved c =
    let core = c.args.core.now in
    let r = slice_get core.world.ranks c.args.rank in
    let before = c.loop-number.holdings.items in
    given_more (λ i. holding_if core.program r true i) c.loop-number.number (length c.decls-count.result.now) before _ _ c.loop-number-test.true c.loop-number.invariant
    (c.in_ok-push_if.ensures)
