use Rattle.std.proofs.Common.{ap, arith}
use Rattle.mpd_console.specs.Says.{Console}
use Rattle.mpd_adapter.proofs.MarkLemmas.{still, marks_more, after_more}
use Rattle.mpd_adapter.proofs.marks.set_all.Goals as goal

pub loop-plan-preserved : goal.loop-plan-preserved
loop-plan-preserved c =
    let held = ap (λ (x : Console). x.session) c.set-mark.ensures.held in record {
      marks =
          marks_more c.loop-plan.console.session c.set-mark.new.console.session c.args.plans.now c.loop-plan.plan-index _ c.set-mark.result c.loop-plan.marks.items _ _ c.loop-plan-test.true c.loop-plan.invariant.marks
          c.set-mark.ensures.mark held c.put.ensures.items;
      all = after_more c.loop-plan.console.session c.set-mark.new.console.session c.args.plans.now c.loop-plan.plan-index _ _ c.loop-plan-test.true c.loop-plan.invariant.all held;
      held = still c.args.console.now c.loop-plan.console c.set-mark.new.console _ c.loop-plan.invariant.held c.set-mark.ensures.held;
      room = omega (arith, c.loop-plan-test.true, c.loop-plan.invariant.room, c.put.ensures.len, c.put.ensures.capacity);
    }
