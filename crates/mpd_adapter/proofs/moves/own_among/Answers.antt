use Rattle.std.proofs.Common.{length}
use Rattle.mpd_core.proofs.RangeLemmas.{given_more}
use Rattle.mpd_adapter.specs.Moves.{own_at}
use Rattle.mpd_adapter.proofs.moves.own_among.Goals as goal

pub loop-place-preserved : goal.loop-place-preserved
loop-place-preserved c =
    given_more (own_at c.args.rank c.args.candidates.now) c.loop-place.place (length c.args.candidates.now) c.loop-place.numbers.items _ _ c.loop-place-test.true c.loop-place.invariant c.in_ok-push_own.ensures
