use Rattle.std.proofs.Common.{arith, rules}
use Rattle.mpd_names.proofs.EqualLemmas.{items_at}
use Rattle.mpd_explain.proofs.equal.same_losses.Goals as goal

pub returns-then-not-same_loss : goal.returns-then-not-same_loss
returns-then-not-same_loss c = items_at c.args.one.now c.args.other.now c.loop-number.number _ _ c.same_loss.result (omega arith) (search rules) c.same_loss.ensures (search rules)
