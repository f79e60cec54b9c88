use Rattle.std.proofs.Common.{ap, sym, ◌∙◌}
use Rattle.mpd_model.specs.runs.Trail.{world_of}
use Rattle.mpd_console.specs.Along.{stopped_by}
use Rattle.mpd_console.proofs.AlongLemmas.{told_so}
use Rattle.mpd_console.proofs.along.stopped_here.Goals as goal

pub returns-clause-stopped : goal.returns-clause-stopped
returns-clause-stopped c =
    let f = c.last_hit.ensures.as_found in
    let h = c.is_asked.ensures.as_found in
    told_so c.args.breaks.now c.args.word c.args.goal c.args.begun c.args.debugger.now.trail c.last_hit.new.debugger.trail c.is_asked.new.debugger.world c.core.result.now.world c.in_ok-hit.hit c.in_ok-asked.asked c.in_ok-only.only _
    c.in_ok-hit.ensures.hit f.trail c.in_ok-asked.ensures.asked (ap world_of (sym (h.trail ∙ f.trail)) ∙ h.reached.world) c.core.ensures.world c.in_ok-only.ensures.ok (c.stopped_by.ensures ∙ ap (stopped_by c.args.breaks.now c.in_ok-hit.hit) c.stopped_short.ensures)
