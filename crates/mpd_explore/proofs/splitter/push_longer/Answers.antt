use Rattle.std.proofs.Common.{arith}
use Rattle.mpd_core.proofs.RangeLemmas.{on_ok}
use Rattle.mpd_explore.proofs.SplitLemmas.{longer_each, counted_long}
use Rattle.mpd_explore.proofs.splitter.push_longer.Goals as goal

pub returns-then-count-gt0-clause-ok : goal.returns-then-count-gt0-clause-ok
returns-then-count-gt0-clause-ok c = on_ok c.push_each.result (longer_each c.args.made.now.items c.push_each.new.made.items c.args.choices.now c.args.count c.if-count-gt0.true) c.push_each.ensures.ok

pub returns-then-count-gt0-clause-many : goal.returns-then-count-gt0-clause-many
returns-then-count-gt0-clause-many c = λ h. let n = counted_long c.args.count c.if-count-gt0.true in omega (arith, c.push_each.ensures.many h, n)
