use Rattle.std.proofs.Common.{ap, ◌∙◌}
use Rattle.mpd_diagnose.specs.Causes.{with_some}
use Rattle.mpd_diagnose.proofs.StandLemmas.{standing_more}
use Rattle.mpd_diagnose.proofs.cause.standing_lines.Goals as goal

pub loop-rank-preserved : goal.loop-rank-preserved
loop-rank-preserved c =
    standing_more c.args.core.now.program c.args.core.now.world c.loop-rank.rank _ c.loop-rank.lines.keys _ _ c.loop-rank-test.true c.loop-rank.invariant (c.in_ok-insert_some.ensures ∙ ap (with_some c.loop-rank.lines.keys) c.standing_line.ensures)
