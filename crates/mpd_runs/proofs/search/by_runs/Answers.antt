use Rattle.std.proofs.Common.{ap, ◌∙◌}
use Rattle.std.specs.Option.{option_map}
use Rattle.mpd_model.specs.runs.Trail.{done_steps}
use Rattle.mpd_runs.specs.Ways.{first_in}
use Rattle.mpd_runs.specs.Counts.{counts_of}
use Rattle.mpd_runs.specs.Seek.{whole_run}
use Rattle.mpd_runs.proofs.StateLemmas.{found_after}
use Rattle.mpd_runs.proofs.SeekLemmas.{listed_none}
use Rattle.mpd_runs.proofs.search.by_runs.Goals as goal

pub returns-clause-sought : goal.returns-clause-sought
returns-clause-sought c =
    let u = c.look.new.copy in
    let leaves = c.in_ok-report.report.leaves.items in
    listed_none c.args.way (done_steps c.args.copy.now.trail) c.args.fuel c.args.copy.now.world leaves c.in_ok-report.report.more c.in_ok-found.found c.counts_of.result c.in_ok-report.ensures.looked
    (found_after c.args.way c.args.copy.now.trail u.trail c.args.fuel u.world c.args.copy.now.world leaves c.in_ok-found.found c.in_ok-report.ensures.as_found.trail c.in_ok-report.ensures.as_found.world
    (c.in_ok-found.ensures.value ∙ ap (λ ls. option_map (whole_run (done_steps u.trail) c.args.fuel u.world) (first_in c.args.way ls)) c.deref.ensures.value))
    c.in-None.is (c.counts_of.ensures ∙ ap (λ ls. counts_of ls c.in_ok-report.report.more) c.deref-in-None.ensures.value)
