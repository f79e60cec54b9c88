use Rattle.std.proofs.Common.{◌≡◌, ◌≤◌, ◌-◌, ℕ, ap, subst, ◌∙◌}
use Rattle.mpd_outcomes.specs.declared.report.StateLimits.{StateLimits}
use Rattle.mpd_outcomes.specs.Outcomes.{leaves_from}
use Rattle.mpd_outcomes.specs.Goals.{states_along}
use Rattle.mpd_blame.proofs.SightLemmas.{few_of_all}
use Rattle.mpd_blame.proofs.sight.look.Goals as goal

pub returns-in-Ok-clause-few : goal.returns-in-Ok-clause-few
returns-in-Ok-clause-few c =
    let asked = c.limits_at-asked.result in
    let o = c.in_ok-outcomes.outcomes in
    let w = c.args.debugger.now.world in
    let fuel : asked.fuel ≡ c.args.limits.fuel - c.args.debugger.now.trail.depth = ap (λ (l : StateLimits). l.fuel) c.limits_at-asked.ensures ∙ ap (λ (n : ℕ). c.args.limits.fuel - n) c.depth.ensures.value in
    subst (λ (n : ℕ). o.visited ≤ states_along (leaves_from n w)) fuel (few_of_all asked.until asked.fuel w o c.in_ok-outcomes.ensures.last)
