use Rattle.std.proofs.Common.{arith, rules}
use Rattle.mpd_names.proofs.EqualLemmas.{items_at}
use Rattle.mpd_explain.proofs.equal.same_absences.Goals as goal

pub returns-then-not-same_absence : goal.returns-then-not-same_absence
returns-then-not-same_absence c = items_at c.args.one.now c.args.other.now c.loop-number.number _ _ c.same_absence.result (omega arith) (search rules) c.same_absence.ensures (search rules)
