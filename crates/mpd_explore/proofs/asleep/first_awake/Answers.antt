use Rattle.mpd_explore.proofs.AsleepLemmas.{passes_tested, skips_tested}
use Rattle.mpd_explore.proofs.asleep.first_awake.Goals as goal

pub returns-then-not-dozes : goal.returns-then-not-dozes
returns-then-not-dozes g c = skips_tested g.S.Schedule.same c.args.sleeps c.args.asleep.now c.args.candidates.now _ c.args.from c.loop-index.index _ c.dozes.result c.loop-index.invariant c.loop-index-test.true c.split_at.ensures.front c.dozes.ensures c.if-not-dozes.true

pub loop-index-preserved : goal.loop-index-preserved
loop-index-preserved g c = passes_tested g.S.Schedule.same c.args.sleeps c.args.asleep.now c.args.candidates.now _ c.args.from c.loop-index.index _ c.dozes.result c.loop-index.invariant c.loop-index-test.true c.split_at.ensures.front c.dozes.ensures c.if-not-dozes.false
