use Rattle.std.proofs.Common.{◌++◌}
use Rattle.mpd_lines.specs.Folding.{folded_line}
use Rattle.mpd_lines.proofs.FoldLemmas.{laid_more}
use Rattle.mpd_lines.proofs.fold.push_line.Goals as goal

pub loop-place-preserved : goal.loop-place-preserved
loop-place-preserved c = laid_more c.args.width c.loop-place.left c.saturating_sub-left.result c.in-Some.place c.loop-place.rest.now c.parted.result.0.now c.parted.result.1.now c.loop-place.out.items c.extend_from_slice.new.self.items c.extend_from_slice-in-Some.new.self.items
    (c.args.out.now.items ++ folded_line c.args.width c.args.line.now) c.saturating_sub-left.ensures c.in-Some.ensures.value c.in-Some.ensures.within c.parted.ensures.before c.parted.ensures.behind c.in_ok-extend_from_slice.ensures.items
    c.in_ok-extend_from_slice-2.ensures.items c.loop-place.invariant
