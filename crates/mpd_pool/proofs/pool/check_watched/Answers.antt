use Rattle.std.proofs.Common.{◌∙◌, sym}
use Rattle.mpd_trail.specs.DebuggerViews.{standing_of}
use Rattle.mpd_pool.specs.Parts.{IsReport}
use Rattle.mpd_pool.proofs.Joined.{can_explore, report_same, leaves_are, others_are}
use Rattle.mpd_pool.proofs.pool.check_watched.Goals as goal

pub explore_pieces-requires-clause-can : goal.explore_pieces-requires-clause-can
explore_pieces-requires-clause-can g c κs within =
    can_explore (standing_of c.args.debugger.now) (standing_of c.cut.new.debugger) c.args.plan.limits c.args.plan.split c.deref.result.now (c.requires.clean, c.requires.fits) c.cut.ensures.same (c.deref.ensures.value ∙ c.in-Ok.ensures.ok)

pub returns-in-Ok-explore_pieces-clause-leaves : goal.returns-in-Ok-explore_pieces-clause-leaves
returns-in-Ok-explore_pieces-clause-leaves g c =
    let d = standing_of c.args.debugger.now in
    let whole : IsReport d c.args.plan.limits c.deref.result.now c.in-Ok-explore_pieces.report = report_same d (standing_of c.cut.new.debugger) c.args.plan.limits c.deref.result.now c.in-Ok-explore_pieces.report (sym c.cut.ensures.same) c.in-Ok-explore_pieces.ensures.report in
    leaves_are d c.args.plan.limits c.args.plan.split c.deref.result.now c.in-Ok-explore_pieces.report (c.deref.ensures.value ∙ c.in-Ok.ensures.ok) whole

pub returns-in-Ok-explore_pieces-clause-more : goal.returns-in-Ok-explore_pieces-clause-more
returns-in-Ok-explore_pieces-clause-more g c =
    let d = standing_of c.args.debugger.now in
    let whole : IsReport d c.args.plan.limits c.deref.result.now c.in-Ok-explore_pieces.report = report_same d (standing_of c.cut.new.debugger) c.args.plan.limits c.deref.result.now c.in-Ok-explore_pieces.report (sym c.cut.ensures.same) c.in-Ok-explore_pieces.ensures.report in
    others_are d c.args.plan.limits c.args.plan.split c.deref.result.now c.in-Ok-explore_pieces.report (c.deref.ensures.value ∙ c.in-Ok.ensures.ok) whole

pub returns-in-Ok-explore_pieces-clause-witnesses : goal.returns-in-Ok-explore_pieces-clause-witnesses
returns-in-Ok-explore_pieces-clause-witnesses g c =
    let d = standing_of c.args.debugger.now in
    let whole : IsReport d c.args.plan.limits c.deref.result.now c.in-Ok-explore_pieces.report = report_same d (standing_of c.cut.new.debugger) c.args.plan.limits c.deref.result.now c.in-Ok-explore_pieces.report (sym c.cut.ensures.same) c.in-Ok-explore_pieces.ensures.report in
    whole.witnesses

pub returns-in-Ok-explore_pieces-clause-texts : goal.returns-in-Ok-explore_pieces-clause-texts
returns-in-Ok-explore_pieces-clause-texts g c =
    let d = standing_of c.args.debugger.now in
    let whole : IsReport d c.args.plan.limits c.deref.result.now c.in-Ok-explore_pieces.report = report_same d (standing_of c.cut.new.debugger) c.args.plan.limits c.deref.result.now c.in-Ok-explore_pieces.report (sym c.cut.ensures.same) c.in-Ok-explore_pieces.ensures.report in
    whole.texts_are
