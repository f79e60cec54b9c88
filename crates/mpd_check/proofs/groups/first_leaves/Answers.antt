use Rattle.mpd_check.proofs.GroupLemmas.{first_more}
use Rattle.mpd_check.proofs.groups.first_leaves.Goals as goal

pub loop-leaf-preserved : goal.loop-leaf-preserved
loop-leaf-preserved c = record { found = first_more c.args.leaves.now c.loop-leaf.leaf-index c.leaf-item.result c.loop-leaf.found.items _ c.loop-leaf-test.true c.leaf-item.is c.loop-leaf.invariant.found c.in_ok-push_new.ensures }
