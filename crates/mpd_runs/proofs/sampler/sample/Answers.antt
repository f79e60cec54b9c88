use Rattle.std.proofs.Common.{◌≡◌, List, ℕ, length, nat_lt, sym, ap, ◌∙◌, subst, arith}
use Rattle.std.specs.List.{AllByRecursion}
use Rattle.mpd_model.specs.steps.World.{World}
use Rattle.mpd_model.specs.runs.Trail.{done_steps}
use Rattle.mpd_trail.specs.DebuggerViews.{standing_of}
use Rattle.mpd_policy.specs.Walk.{wide_walk}
use Rattle.mpd_policy.specs.Wide.{wide_decision}
use Rattle.mpd_explore.specs.Report.{ended_by}
use Rattle.mpd_explore.specs.Witness.{HasWitness}
use Rattle.mpd_runs.specs.Order.{Rises}
use Rattle.mpd_runs.specs.Drawn.{seeded, draws}
use Rattle.mpd_runs.proofs.SampleLemmas.{sample_rises, sample_has_all, more_told, sample_witnessed}
use Rattle.mpd_runs.proofs.UntilLemmas.{rises_ended, all_ended, ended_all, few_ended, some_ended}
use Rattle.mpd_runs.proofs.sampler.sample.Goals as goal

pub returns-in-Ok-clause-rises : goal.returns-in-Ok-clause-rises
returns-in-Ok-clause-rises g c =
    let w : World = c.args.debugger.now.world in
    let lists : List (List ℕ) = draws c.args.limits.until_bad c.args.limits.fuel c.args.limits.runs w (seeded c.args.seed) in
    let all = c.in_ok-report.report.leaves.items in
    subst Rises (sym c.end_at_bad.ensures.leaves) (rises_ended c.args.limits.until_bad all (sample_rises lists c.args.limits.fuel w all c.in_ok-report.ensures.samples.leaves_are))

pub returns-in-Ok-clause-all : goal.returns-in-Ok-clause-all
returns-in-Ok-clause-all g c =
    let w : World = c.args.debugger.now.world in
    let lists : List (List ℕ) = draws c.args.limits.until_bad c.args.limits.fuel c.args.limits.runs w (seeded c.args.seed) in
    let leaves = c.end_at_bad.new.report.leaves.items in
    let told : c.in-Ok.more ≡ nat_lt (length leaves) (length (wide_walk c.args.limits.fuel w)) =
    more_told _ (length leaves) c.args.limits.fuel w _ c.in-Ok.more c.in-Ok.ensures.more c.in_ok-report.ensures.as_found.world (omega (arith, c.end_at_bad.new.report.leaves.ok)) in
    ended_all c.args.limits.until_bad lists c.args.limits.fuel w leaves c.in-Ok.more (c.end_at_bad.ensures.leaves ∙ ap (ended_by c.args.limits.until_bad) c.in_ok-report.ensures.samples.leaves_are) told

pub returns-in-Ok-clause-witnesses : goal.returns-in-Ok-clause-witnesses
returns-in-Ok-clause-witnesses g c =
    let d = standing_of c.args.debugger.now in
    let lists : List (List ℕ) = draws c.args.limits.until_bad c.args.limits.fuel c.args.limits.runs d.world (seeded c.args.seed) in
    let all = c.in_ok-report.report.leaves.items in
    let has = HasWitness wide_decision d.trail.program d.trail.mode (done_steps d.trail) c.args.limits.fuel d.world in
    subst (AllByRecursion has) (sym c.end_at_bad.ensures.leaves)
    (all_ended has c.args.limits.until_bad all (sample_witnessed d.trail.program d.trail.mode (done_steps d.trail) c.args.limits.fuel d.world lists all c.wide_decisions_can_be_followed.ensures c.state_is_reached.ensures.reached.world c.in_ok-report.ensures.samples.leaves_are))

pub returns-in-Ok-clause-drawn : goal.returns-in-Ok-clause-drawn
returns-in-Ok-clause-drawn g c off =
    let w : World = c.args.debugger.now.world in
    let lists : List (List ℕ) = draws c.args.limits.until_bad c.args.limits.fuel c.args.limits.runs w (seeded c.args.seed) in
    let all = c.in_ok-report.report.leaves.items in
    let same : c.end_at_bad.new.report.leaves.items ≡ all = c.end_at_bad.ensures.leaves ∙ ap (λ b. ended_by b all) off in
    sample_has_all lists c.args.limits.fuel w c.end_at_bad.new.report.leaves.items (same ∙ c.in_ok-report.ensures.samples.leaves_are) c.in_ok-report.ensures.samples.runs_are

pub returns-in-Ok-clause-few : goal.returns-in-Ok-clause-few
returns-in-Ok-clause-few g c = omega (arith, ap length c.end_at_bad.ensures.leaves, few_ended c.args.limits.until_bad c.in_ok-report.report.leaves.items, c.in_ok-report.ensures.samples.few)

pub returns-in-Ok-clause-some : goal.returns-in-Ok-clause-some
returns-in-Ok-clause-some g c h =
    let some = some_ended c.args.limits.until_bad c.in_ok-report.report.leaves.items (c.in_ok-report.ensures.samples.some h) in
    omega (arith, ap length c.end_at_bad.ensures.leaves, some)
