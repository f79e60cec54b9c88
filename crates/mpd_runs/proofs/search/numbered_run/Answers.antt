use Rattle.std.proofs.Common.{rules, ◌≡◌, ◌-◌, true, false, sym, ap, ◌∙◌, slice_get}
use Rattle.std.specs.Option.{option_map}
use Rattle.mpd_model.specs.runs.Trail.{done_steps}
use Rattle.mpd_explore.specs.Report.{ended_by}
use Rattle.mpd_runs.specs.Runs.{fuel_at, first_runs, is_number}
use Rattle.mpd_runs.specs.Seek.{whole_run}
use Rattle.mpd_runs.proofs.SeekLemmas.{numbered_is}
use Rattle.mpd_runs.proofs.search.numbered_run.Goals as goal

pub returns-clause-value : goal.returns-clause-value
returns-clause-value c =
    let u = c.first_runs.new.debugger in
    let number : is_number c.args.number ≡ true = search rules in
    numbered_is c.args.number c.args.debugger.now.trail u.trail u.world c.args.debugger.now.world c.fuel_at-fuel.result c.in_ok-report.report.leaves.items c.in_ok-found.found number
    (ap done_steps c.in_ok-report.ensures.as_found.trail ∙ c.in_ok-copy.ensures.steps) (c.in_ok-report.ensures.as_found.world ∙ c.in_ok-copy.ensures.world) (c.fuel_at-fuel.ensures.value ∙ ap fuel_at c.depth.ensures.value)
    (c.in_ok-report.ensures.leaves ∙ ap (λ z. ended_by false (first_runs c.args.number c.fuel_at-fuel.result z)) (sym c.in_ok-report.ensures.as_found.world))
    (c.in_ok-found.ensures.value ∙ ap (λ ls. option_map (whole_run (done_steps u.trail) c.fuel_at-fuel.result u.world) (slice_get ls (c.args.number - 1))) c.deref.ensures.value)
