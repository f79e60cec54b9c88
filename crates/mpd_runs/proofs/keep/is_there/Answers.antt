use Rattle.std.proofs.Common.{arith}
use Rattle.mpd_runs.proofs.KeepLemmas.{boxed_begins}
use Rattle.mpd_runs.proofs.keep.is_there.Goals as goal

pub returns : goal.returns
returns c =
    boxed_begins c.args.choices.now c.args.leaves.now c.args.place c.index-leaves-place.result _ c.has_choices.result (omega (arith, c.requires, c.if-place-leaves.false)) c.index-leaves-place.is c.deref.ensures c.has_choices.ensures
