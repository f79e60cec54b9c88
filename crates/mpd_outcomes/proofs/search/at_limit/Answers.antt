use Rattle.std.proofs.Common.{◌≡◌, ◌-◌, sym, ap, ◌∙◌}
use Rattle.mpd_model.specs.declared.decision.Decision.TheVariants.{Forced, Choice, Leaf}
use Rattle.mpd_policy.specs.Wide.{wide_decision}
use Rattle.mpd_outcomes.proofs.EndLemmas.{ends_so, forced_at, choice_at}
use Rattle.mpd_outcomes.proofs.search.at_limit.Goals as goal

pub returns-in-Leaf : goal.returns-in-Leaf
returns-in-Leaf c =
    let d : wide_decision c.args.debugger.now.world ≡ Leaf c.in-Leaf.outcome = ap wide_decision (sym c.core.ensures.world) ∙ sym c.in_ok-outcome.ensures.ok ∙ c.in-Leaf.is in
    λ limit at. ends_so (limit - c.args.debugger.now.trail.depth) c.args.debugger.now.world c.in-Leaf.outcome d

pub returns-in-Forced : goal.returns-in-Forced
returns-in-Forced c =
    let d : wide_decision c.args.debugger.now.world ≡ Forced c.in-Forced.field-0 = ap wide_decision (sym c.core.ensures.world) ∙ sym c.in_ok-outcome.ensures.ok ∙ c.in-Forced.is in
    λ limit at. forced_at limit c.args.debugger.now.trail.depth c.args.debugger.now.world c.in-Forced.field-0 at d

pub returns : goal.returns
returns c =
    let d : wide_decision c.args.debugger.now.world ≡ Choice c.in-Choice.field-0 = ap wide_decision (sym c.core.ensures.world) ∙ sym c.in_ok-outcome.ensures.ok ∙ c.in-Choice.is in
    λ limit at. choice_at limit c.args.debugger.now.trail.depth c.args.debugger.now.world c.in-Choice.field-0 at d
