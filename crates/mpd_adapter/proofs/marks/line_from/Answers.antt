use Rattle.std.proofs.Common.{ap, ◌∙◌}
use Rattle.mpd_adapter.specs.Marks.{nearest}
use Rattle.mpd_adapter.proofs.MarkLemmas.{line_more, line_all}
use Rattle.mpd_adapter.proofs.marks.line_from.Goals as goal

pub loop-line-preserved : goal.loop-line-preserved
loop-line-preserved c = line_more c.args.from c.loop-line.line-index _ c.args.lines.now c.loop-line.found _ _ c.loop-line-test.true c.loop-line.invariant (c.nearest-found.ensures ∙ ap (nearest c.loop-line.found) c.from_on.ensures)

pub returns : goal.returns
returns c = line_all c.args.from c.loop-line.line-index c.args.lines.now c.loop-line.found _ c.loop-line-test.false c.loop-line.invariant
