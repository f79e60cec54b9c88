use Rattle.std.proofs.Common.{◌++◌}
use Rattle.mpd_lines.specs.Folding.{folded_at}
use Rattle.mpd_lines.proofs.FoldLemmas.{folded_more, folded_last}
use Rattle.mpd_lines.proofs.fold.push_folded_at.Goals as goal

pub loop-line-preserved : goal.loop-line-preserved
loop-line-preserved c =
    folded_more c.args.width c.loop-line.rest.now c.in-Some.line.now c.in-Some.behind.now c.loop-line.out.items c.push_line.new.out.items c.push.new.self.items (c.args.out.now.items ++ folded_at c.args.width c.args.text.now)
    c.in-Some.ensures.parts c.in_ok-push_line.ensures c.in_ok-push.ensures.items c.loop-line.invariant

pub returns : goal.returns
returns c =
    folded_last c.args.width c.push_line-2.result c.loop-line.rest.now c.loop-line.out.items c.push_line-2.new.out.items (c.args.out.now.items ++ folded_at c.args.width c.args.text.now) c.in_default.ensures.parts c.push_line-2.ensures c.loop-line.invariant
