use Rattle.mpd_model.specs.declared.limits.TheConstants.{BREAKS_MAX}
use Rattle.mpd_adapter.proofs.MarkLemmas.{still, cleared_more, cleared_all}
use Rattle.mpd_adapter.proofs.marks.remove_lines.Goals as goal

pub loop-number-preserved : goal.loop-number-preserved
loop-number-preserved c = record {
  all = cleared_more c.loop-number.console c.remove.new.console c.loop-number.number BREAKS_MAX _ c.loop-number-test.true c.loop-number.invariant.all c.remove.ensures;
  held = still c.args.console.now c.loop-number.console c.remove.new.console _ c.loop-number.invariant.held c.remove.ensures;
}

pub returns : goal.returns
returns c = cleared_all c.args.console.now c.loop-number.console c.loop-number.number BREAKS_MAX _ c.loop-number-test.false c.loop-number.invariant.all c.loop-number.invariant.held
