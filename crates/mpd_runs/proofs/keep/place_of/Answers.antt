use Rattle.std.proofs.Common.{refl}
use Rattle.mpd_runs.proofs.KeepLemmas.{boxed_first, boxed_then}
use Rattle.mpd_runs.proofs.keep.place_of.Goals as goal

pub loop-low-init : goal.loop-low-init
loop-low-init c = boxed_first c.args.choices.now c.args.leaves.now _ refl

pub loop-low-preserved : goal.loop-low-preserved
loop-low-preserved c =
    boxed_then c.args.choices.now c.args.leaves.now c.loop-low.low c.loop-low.high _ _ _ c.index-leaves-middle.result _ c.comes_before-is_before.result c.requires.rises c.loop-low.invariant c.loop-low-test.true refl c.index-leaves-middle.is c.deref.ensures c.comes_before-is_before.ensures c.either-low.ensures c.either-high.ensures
