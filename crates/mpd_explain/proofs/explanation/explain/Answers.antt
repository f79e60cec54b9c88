use Rattle.std.proofs.Common.{◌∙◌, arith}
use Rattle.mpd_core.proofs.RangeLemmas.{if_ok}
use Rattle.mpd_model.specs.runs.Trail.{done_steps}
use Rattle.mpd_trail.specs.DebuggerViews.{standing_of}
use Rattle.mpd_policy.specs.Walk.{run_by, steps_by}
use Rattle.mpd_policy.proofs.WalkLemmas.{beyond_depth}
use Rattle.mpd_explain.proofs.TellLemmas.{end_behind}
use Rattle.mpd_explain.proofs.explanation.explain.Goals as goal

pub returns-clause-end : goal.returns-clause-end
returns-clause-end g c =
    let d = c.args.debugger.now in
    let l = c.args.leaf.now in
    if_ok c.end_there-end.result (λ t h. h ∙ end_behind d.trail.program d.trail.mode (done_steps d.trail) (steps_by (run_by g.S.Schedule.decides c.args.fuel l.choices d.world)) d.world l.ending c.state_is_reached.ensures.reached.world) c.end_there-end.ensures.end

pub put_back-requires : goal.put_back-requires
put_back-requires g c = omega (arith, c.depth-base.ensures.value, beyond_depth (standing_of c.args.debugger.now) (standing_of c.end_there-end.new.debugger) c.state_is_reached.ensures.reached c.end_there-end.ensures.beyond)

pub returns-clause-as_found : goal.returns-clause-as_found
returns-clause-as_found g c = c.put_back.ensures.found (standing_of c.args.debugger.now) c.state_is_reached.ensures.reached c.requires.clean c.depth-base.ensures.value c.end_there-end.ensures.beyond
