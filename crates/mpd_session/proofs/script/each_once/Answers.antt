use Rattle.std.proofs.Common.{◌+◌, arith}
use Rattle.mpd_core.proofs.RangeLemmas.{given_more}
use Rattle.mpd_session.specs.Looks.{if_among}
use Rattle.mpd_session.proofs.script.each_once.Goals as goal

pub loop-number-preserved : goal.loop-number-preserved
loop-number-preserved c = record {
  gathered = given_more (if_among c.args.lines.now) c.loop-number.number (c.highest-most.result + 1) c.loop-number.items.items _ _ (omega (arith, c.loop-number-test.true)) c.loop-number.invariant.gathered c.in_ok-push_if_among.ensures;
  within = omega (arith, c.loop-number-test.true);
}
