use Rattle.std.proofs.Common.{arith}
use Rattle.mpd_explore.proofs.SplitLemmas.{each_more, each_many}
use Rattle.mpd_explore.proofs.splitter.push_each.Goals as goal

pub returns-in-Err-clause-many : goal.returns-in-Err-clause-many
returns-in-Err-clause-many c = let i = c.loop-choice.invariant in λ h. omega (arith, c.in-Err.ensures.many h, each_many c.args.made.now.items c.loop-choice.made.items c.args.choices.now c.loop-choice.choice i.adds)

pub loop-choice-preserved : goal.loop-choice-preserved
loop-choice-preserved c =
    let i = c.loop-choice.invariant in
    record {
      adds = each_more c.args.made.now.items c.loop-choice.made.items c.push_piece.new.made.items c.args.choices.now c.in_ok-longer.longer c.loop-choice.choice i.adds c.in_ok-longer.ensures c.in_default.ensures.ok;
      few = c.in_default.ensures.few;
    }
