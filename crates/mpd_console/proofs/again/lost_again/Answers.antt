use Rattle.mpd_core.proofs.RangeLemmas.{given_more}
use Rattle.mpd_model.specs.runs.Breakpoints.{break_at}
use Rattle.mpd_console.specs.Again.{lost_at}
use Rattle.mpd_console.proofs.again.lost_again.Goals as goal

pub loop-number-preserved : goal.loop-number-preserved
loop-number-preserved c =
    given_more (λ n. lost_at c.args.old.now.program.decls c.args.new.now.program n (break_at c.args.breaks.now n)) c.loop-number.number 64 c.loop-number.list.items _ _ c.loop-number-test.true c.loop-number.invariant c.in_ok-push_lost.ensures
