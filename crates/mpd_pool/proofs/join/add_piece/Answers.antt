use Rattle.std.proofs.Common.{◌≡◌, ◌+◌, ap, ◌∙◌, drop, map, string_bytes}
use Rattle.mpd_trail.specs.DebuggerViews.{standing_of}
use Rattle.mpd_model.specs.runs.Trail.{Standing}
use Rattle.mpd_explore.specs.Along.{have_run}
use Rattle.mpd_pool.proofs.Joined.{joined_on, joined_last, texts_at, can_same}
use Rattle.mpd_pool.proofs.join.add_piece.Goals as goal

pub returns-then-not-is_last-clause-added : goal.returns-then-not-is_last-clause-added
returns-then-not-is_last-clause-added g c =
    let d = standing_of c.args.debugger.now in
    let r = c.in_ok-report.report in
    joined_on d c.args.task.limits c.args.task.pieces.now c.args.number c.args.all.now c.add.new.all r _ _ (map string_bytes r.witnesses.items) c.ends_with_report-is_last.result c.requires.within c.in_ok-report.ensures.part c.requires.joined
    (texts_at d c.args.task.limits c.args.task.pieces.now c.args.number r c.requires.within c.in_ok-report.ensures.part) c.in_ok-add.ensures.leaves c.in_ok-add.ensures.more c.in_ok-add.ensures.texts c.ends_with_report-is_last.ensures c.if-not-is_last.true

pub is_left-requires-clause-clean : goal.is_left-requires-clause-clean
is_left-requires-clause-clean g c =
    (can_same (standing_of c.args.debugger.now) (standing_of c.report_of.new.debugger) c.args.task.limits c.args.task.pieces.now c.in_ok-report.ensures.same c.requires.can).0.0

pub is_left-requires-clause-fits : goal.is_left-requires-clause-fits
is_left-requires-clause-fits g c =
    (can_same (standing_of c.args.debugger.now) (standing_of c.report_of.new.debugger) c.args.task.limits c.args.task.pieces.now c.in_ok-report.ensures.same c.requires.can).0.1

pub is_left-requires-clause-reaches : goal.is_left-requires-clause-reaches
is_left-requires-clause-reaches g c =
    (can_same (standing_of c.args.debugger.now) (standing_of c.report_of.new.debugger) c.args.task.limits c.args.task.pieces.now c.in_ok-report.ensures.same c.requires.can).1

pub returns-clause-added : goal.returns-clause-added
returns-clause-added g c =
    let d = standing_of c.args.debugger.now in
    let r = c.in_ok-report.report in
    let left : c.in_ok-others.others ≡ have_run c.args.task.limits d.world (drop (c.args.number + 1) c.args.task.pieces.now) =
    c.in_ok-others.ensures.left ∙ ap (λ (s : Standing). have_run c.args.task.limits s.world (drop (c.args.number + 1) c.args.task.pieces.now)) c.in_ok-report.ensures.same in
    joined_last d c.args.task.limits c.args.task.pieces.now c.args.number c.args.all.now c.add.new.all r _ _ (map string_bytes r.witnesses.items) c.ends_with_report-is_last.result c.in_ok-others.others c.is_more-all.result c.requires.within c.in_ok-report.ensures.part c.requires.joined
    (texts_at d c.args.task.limits c.args.task.pieces.now c.args.number r c.requires.within c.in_ok-report.ensures.part) c.in_ok-add.ensures.leaves c.in_ok-add.ensures.more c.in_ok-add.ensures.texts c.ends_with_report-is_last.ensures c.if-not-is_last.false left c.is_more-all.ensures
