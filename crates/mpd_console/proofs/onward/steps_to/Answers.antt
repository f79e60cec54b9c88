use Rattle.mpd_console.proofs.OnwardLemmas.{stop_is}
use Rattle.mpd_console.proofs.onward.steps_to.Goals as goal

pub returns-in-Ok : goal.returns-in-Ok
returns-in-Ok c =
    let k = c.in_ok-copy.copy in
    stop_is c.args.debugger.now.trail k.trail c.args.debugger.now.world k.world _ c.args.stop _ c.in-Ok.stop c.in_ok-copy.ensures.trail c.in_ok-copy.ensures.world c.alone.ensures c.in-Ok.ensures.stop c.steps_by.ensures
