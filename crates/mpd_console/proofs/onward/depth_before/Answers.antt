use Rattle.std.proofs.Common.{rules, refl, ◌-◌}
use Rattle.mpd_console.proofs.OnwardLemmas.{local_more}
use Rattle.mpd_console.proofs.onward.depth_before.Goals as goal

pub loop-undone-preserved : goal.loop-undone-preserved
loop-undone-preserved c =
    local_more c.args.rank c.args.steps.now c.args.depth c.loop-undone.undone (c.args.depth - c.loop-undone.undone - 1) _ c.is_local_of.result c.loop-undone-test.true c.requires refl (search rules) c.is_local_of.ensures c.if-is_local_of.false
    c.loop-undone.invariant
