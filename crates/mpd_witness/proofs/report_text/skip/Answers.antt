use Rattle.std.proofs.Common.{◌+◌, refl}
use Rattle.mpd_witness.proofs.ReportLemmas.{past_one, past_none_left}
use Rattle.mpd_witness.proofs.report_text.skip.Goals as goal

pub unreachable-requires : goal.unreachable-requires
unreachable-requires c = past_none_left c.loop-turn.turn c.args.count c.loop-turn.lines c.args.lines.now c.loop-turn.invariant c.in-None.ensures c.loop-turn-test.true c.requires

pub loop-turn-preserved : goal.loop-turn-preserved
loop-turn-preserved c = past_one c.loop-turn.turn (c.loop-turn.turn + 1) c.loop-turn.lines c.next.new.self c.args.lines.now c.in-Some.field-0.now c.loop-turn.invariant c.in-Some.ensures refl
