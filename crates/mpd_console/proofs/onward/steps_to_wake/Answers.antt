use Rattle.std.proofs.Common.{ap, sym}
use Rattle.mpd_model.specs.declared.limits.TheConstants.{STEPS_MAX}
use Rattle.mpd_policy.specs.Single.{ran_on}
use Rattle.mpd_console.proofs.OnwardLemmas.{is_there, wake_is}
use Rattle.mpd_console.proofs.onward.steps_to_wake.Goals as goal

pub steps_since-requires : goal.steps_since-requires
steps_since-requires c =
    let k = c.in_ok-copy.copy in
    is_there k.trail c.run_on.new.debugger.trail c.args.debugger.now.trail.depth (ran_on k.trail.program c.new.result STEPS_MAX k.trail.depth k.world).steps (sym (ap (λ t. t.depth) c.in_ok-copy.ensures.trail)) c.in-Ok.ensures.trail c.run_on.ensures.reached.within

pub returns-in-Ok : goal.returns-in-Ok
returns-in-Ok c =
    let k = c.in_ok-copy.copy in
    wake_is c.args.debugger.now.trail k.trail c.run_on.new.debugger.trail c.args.debugger.now.world k.world _ c.args.rank _ _ c.in_ok-copy.ensures.trail c.in_ok-copy.ensures.world c.new.ensures c.in-Ok.ensures.trail c.steps_since.ensures c.count_to_wake-count.ensures
