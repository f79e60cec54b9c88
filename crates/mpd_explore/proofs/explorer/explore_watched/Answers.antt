use Rattle.std.proofs.Common.{map, ap, ◌∙◌}
use Rattle.mpd_explore.specs.declared.report.SearchReport as report
use Rattle.mpd_explore.specs.Report.{shown, listed, left_out}
use Rattle.mpd_explore.proofs.AwakeLemmas.{plain_walk_is}
use Rattle.mpd_explore.proofs.WitnessLemmas.{on_ok}
use Rattle.mpd_explore.proofs.explorer.explore_watched.Goals as goal

pub returns-clause-leaves : goal.returns-clause-leaves
returns-clause-leaves g c =
    let l = c.args.limits in
    on_ok c.explore_with-2.result _ _ (λ (r : report.SearchReport) h. h ∙ ap (λ rs. listed l (map shown rs)) (plain_walk_is l.ends l.fuel c.args.debugger.now.world c.if-limits.false)) c.explore_with-2.ensures.leaves

pub returns-clause-more : goal.returns-clause-more
returns-clause-more g c =
    let l = c.args.limits in
    on_ok c.explore_with-2.result _ _ (λ (r : report.SearchReport) h. h ∙ ap (λ rs. left_out l (map shown rs)) (plain_walk_is l.ends l.fuel c.args.debugger.now.world c.if-limits.false)) c.explore_with-2.ensures.more
