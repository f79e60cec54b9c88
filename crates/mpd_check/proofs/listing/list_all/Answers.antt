use Rattle.std.proofs.Common.{ap, ◌∙◌, if◌then◌else◌}
use Rattle.mpd_explore.specs.declared.report.Witnesses.TheVariants.{OfNone}
use Rattle.mpd_explore.specs.Sleeping.{decides_by}
use Rattle.mpd_model.specs.runs.Trail.{Standing, first_standing}
use Rattle.mpd_trail.specs.DebuggerViews.{standing_of}
use Rattle.mpd_check.specs.Checked.{leaves_of, more_of}
use Rattle.mpd_check.proofs.ListingLemmas.{listing_moved, leaves_same, more_same}
use Rattle.mpd_check.proofs.OutcomesLemmas.{same_standing}
use Rattle.mpd_check.proofs.listing.list_all.Goals as goal

pub returns-in-Ok-listing-clause-listing : goal.returns-in-Ok-listing-clause-listing
returns-in-Ok-listing-clause-listing g c =
    let plan = c.args.wanted.plan in
    let telling = c.args.wanted.telling in
    let s = c.args.subject.code.now.program in
    let mode = c.args.subject.mode in
    let found = c.in-Ok-check_watched.report in
    let asked = if telling.group then OfNone else plan.limits.witnesses in
    let at = ap (λ (d : Standing). d.world) c.in-Ok.ensures.standing in
    let stands = same_standing c.check_watched.new.debugger c.in-Ok.debugger c.check_watched.ensures.as_found.trail c.check_watched.ensures.as_found.world ∙ c.in-Ok.ensures.standing in
    listing_moved (decides_by plan.limits.ends) telling plan.limits (standing_of c.check_watched.new.debugger) (first_standing s mode) found.leaves.items (leaves_of s mode plan) found.more (more_of s mode plan) c.in-Ok-listing.listing stands
    (leaves_same s mode plan c.limits_for.result asked c.in-Ok.debugger.world c.limits_for.ensures at found.leaves.items c.in-Ok-check_watched.ensures.leaves)
    (more_same s mode plan c.limits_for.result asked c.in-Ok.debugger.world c.limits_for.ensures at found.more c.in-Ok-check_watched.ensures.more) c.in-Ok-listing.ensures
