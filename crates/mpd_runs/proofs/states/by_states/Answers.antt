use Rattle.std.proofs.Common.{ap, ◌∙◌}
use Rattle.std.specs.Option.{option_map}
use Rattle.mpd_model.specs.runs.Trail.{done_steps}
use Rattle.mpd_runs.specs.Ways.{first_in}
use Rattle.mpd_runs.specs.Seek.{whole_run}
use Rattle.mpd_runs.proofs.StateLemmas.{states_tell, found_after}
use Rattle.mpd_runs.proofs.states.by_states.Goals as goal

pub returns-in-Ok-clause-told : goal.returns-in-Ok-clause-told
returns-in-Ok-clause-told c =
    let u = c.explore_outcomes.new.debugger in
    states_tell c.args.way (done_steps c.args.copy.now.trail) c.args.fuel c.args.copy.now.world c.goal_of.result c.in_ok-outcomes.outcomes c.in-Ok.found c.counts_told-counts.result c.in_ok-outcomes.ensures.last
    c.goal_of.ensures c.in_ok-outcomes.ensures.limit
    (found_after c.args.way c.args.copy.now.trail u.trail c.args.fuel u.world c.args.copy.now.world c.in_ok-outcomes.outcomes.firsts.leaves.items c.in-Ok.found c.in_ok-outcomes.ensures.as_found.trail c.in_ok-outcomes.ensures.as_found.world
    (c.in-Ok.ensures.value ∙ ap (λ ls. option_map (whole_run (done_steps u.trail) c.args.fuel u.world) (first_in c.args.way ls)) c.deref.ensures.value))
    c.counts_told-counts.ensures.counts
