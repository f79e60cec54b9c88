use Rattle.std.proofs.Common.{rules, ◌≡◌, sym, subst}
use Rattle.std.proofs.lemmas.Fn.{filter_same}
use Rattle.mpd_model.specs.declared.step.Step.{Step}
use Rattle.mpd_policy.specs.Wide.{sleeps_on}
use Rattle.mpd_policy.proofs.wide.leave_others.Goals as goal

pub returns-in-Match : goal.returns-in-Match
returns-in-Match c =
    subst (λ (a : Step). c.retain.new.self.items ≡ sleeps_on c.args.core.now.world a c.args.others.now.items) (sym c.in-Match.is)
    (filter_same _ _ _ (λ x b f' k. search rules) _ _ c.retain.ensures.filtered)

pub returns-in_default : goal.returns-in_default
returns-in_default c = filter_same _ _ _ (λ x b f' k. search rules) _ _ c.retain-in_default.ensures.filtered
