use Rattle.mpd_core.proofs.RangeLemmas.{refused_with}
use Rattle.mpd_policy.proofs.RunLemmas.{sees_full, sees_step, sees_leaf, sees_choice, sees_lists}
use Rattle.mpd_policy.proofs.runs.look_ahead.Goals as goal

pub returns-in_err-next-clause-lists : goal.returns-in_err-next-clause-lists
returns-in_err-next-clause-lists c =
    refused_with _ (sees_lists c.args.taking c.core-core.result.now.world c.args.debugger.now.world c.core-core.ensures.world c.in_err-next.ensures.lists)

pub returns-then-depth-ge-STEPS_MAX-clause-ahead : goal.returns-then-depth-ge-STEPS_MAX-clause-ahead
returns-then-depth-ge-STEPS_MAX-clause-ahead c =
    sees_full c.args.taking c.core-core.result.now.world c.args.debugger.now.world c.in_ok-next.next c.in-Some.step c.depth-depth.result c.args.debugger.now.trail.depth
    c.core-core.ensures.world c.depth-depth.ensures.value c.in_ok-next.ensures.step c.in-Some.is c.depth-depth.ensures.small c.if-depth-ge-STEPS_MAX.true

pub returns-in-Some-clause-ahead : goal.returns-in-Some-clause-ahead
returns-in-Some-clause-ahead c =
    sees_step c.args.taking c.core-core.result.now.world c.args.debugger.now.world c.in_ok-next.next c.in-Some.step c.depth-depth.result c.args.debugger.now.trail.depth
    c.core-core.ensures.world c.depth-depth.ensures.value c.in_ok-next.ensures.step c.in-Some.is c.if-depth-ge-STEPS_MAX.false

pub returns-then-is_stuck-clause-ahead : goal.returns-then-is_stuck-clause-ahead
returns-then-is_stuck-clause-ahead c =
    sees_leaf c.args.taking c.core-core.result.now.world c.args.debugger.now.world c.is_stuck.result c.args.debugger.now.trail.depth
    c.core-core.ensures.world c.is_stuck.ensures c.if-is_stuck.true

pub returns-clause-ahead : goal.returns-clause-ahead
returns-clause-ahead c =
    sees_choice c.args.taking c.core-core.result.now.world c.args.debugger.now.world c.in_ok-next.next c.is_stuck.result c.args.debugger.now.trail.depth
    c.core-core.ensures.world c.in_ok-next.ensures.step c.in_default.is c.is_stuck.ensures c.if-is_stuck.false
