use Rattle.std.proofs.Common.{◌<◌, length, refl, arith}
use Rattle.mpd_explore.specs.Sleeping.{decides_by}
use Rattle.mpd_explore.proofs.SplitLemmas.{reached_at}
use Rattle.mpd_explore.proofs.by_pieces.have_run.Goals as goal

pub has_run-requires-clause-clean : goal.has_run-requires-clause-clean
has_run-requires-clause-clean c = rw c.loop-place.invariant.trail c.requires.clean

pub has_run-requires-clause-fits : goal.has_run-requires-clause-fits
has_run-requires-clause-fits c = rw c.loop-place.invariant.trail c.requires.fits

pub has_run-requires-clause-reaches : goal.has_run-requires-clause-reaches
has_run-requires-clause-reaches c =
    let i = c.loop-place.invariant in
    let within : c.loop-place.place < length c.args.pieces.now = omega (arith, c.loop-place-test.true) in
    reached_at (decides_by c.args.limits.ends) c.args.limits.fuel c.args.debugger.now.world c.loop-place.debugger.world c.args.pieces.now c.loop-place.place c.index-pieces-place.result c.index-pieces-place.result.choices within c.index-pieces-place.is refl i.world c.requires.reaches
