use Rattle.std.proofs.Common.{arith}
use Rattle.mpd_session.proofs.PlaceLemmas.{held_more}
use Rattle.mpd_session.proofs.places.holdings.Goals as goal

pub loop-rank-preserved : goal.loop-rank-preserved
loop-rank-preserved c = held_more c.args.core.now.world.ranks c.loop-rank.rank c.loop-rank.items.items c.push.new.self.items c.in_ok-holding.field-0 (omega (arith, c.loop-rank-test.true, c.rank_count-count.ensures.value)) c.loop-rank.invariant c.in_ok-holding.ensures c.in_ok-push.ensures.items
