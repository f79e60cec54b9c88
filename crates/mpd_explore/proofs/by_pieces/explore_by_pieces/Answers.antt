use Rattle.std.proofs.Common.{◌≡◌, ◌∙◌}
use Rattle.mpd_explore.specs.Sleeping.{decides_by}
use Rattle.mpd_explore.specs.Along.{report_of, more_of}
use Rattle.mpd_explore.proofs.SplitLemmas.{level_reached}
use Rattle.mpd_explore.proofs.ReportLemmas.{parts_are, more_is}
use Rattle.mpd_explore.proofs.by_pieces.explore_by_pieces.Goals as goal

pub explore_pieces-requires-clause-reaches : goal.explore_pieces-requires-clause-reaches
explore_pieces-requires-clause-reaches g c =
    rw c.in-Ok.ensures.as_found.world (level_reached (decides_by c.args.limits.ends) c.args.limits.fuel c.args.choices c.args.debugger.now.world c.deref.result.now (c.deref.ensures.value ∙ c.in-Ok.ensures.ok))

pub returns-in_ok-report-in-Ok-clause-leaves : goal.returns-in_ok-report-in-Ok-clause-leaves
returns-in_ok-report-in-Ok-clause-leaves g c =
    let w = c.args.debugger.now.world in
    let found : c.in_ok-report-in-Ok.report.leaves.items ≡ report_of c.args.limits w c.deref.result.now = rw c.in-Ok.ensures.as_found.world at c.in_ok-report-in-Ok.ensures.leaves in
    found ∙ parts_are c.args.choices c.args.limits w c.deref.result.now (c.deref.ensures.value ∙ c.in-Ok.ensures.ok)

pub returns-in_ok-report-in-Ok-clause-more : goal.returns-in_ok-report-in-Ok-clause-more
returns-in_ok-report-in-Ok-clause-more g c =
    let w = c.args.debugger.now.world in
    let found : c.in_ok-report-in-Ok.report.more ≡ more_of c.args.limits w c.deref.result.now = rw c.in-Ok.ensures.as_found.world at c.in_ok-report-in-Ok.ensures.more in
    found ∙ more_is c.args.choices c.args.limits w c.deref.result.now (c.deref.ensures.value ∙ c.in-Ok.ensures.ok)
