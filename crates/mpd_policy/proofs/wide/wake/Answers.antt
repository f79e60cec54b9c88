use Rattle.std.proofs.Common.{sym, ap, ◌∙◌}
use Rattle.std.specs.List.{list_any}
use Rattle.mpd_policy.specs.Wide.{conflict}
use Rattle.mpd_policy.proofs.WideLemmas.{all_sleep}
use Rattle.mpd_policy.proofs.wide.wake.Goals as goal

pub returns-else-conflicts_with_any : goal.returns-else-conflicts_with_any
returns-else-conflicts_with_any c =
    let conflicts = conflict c.args.core.now.world c.args.step in
    all_sleep conflicts c.args.asleep.now.items (ap (list_any conflicts) (sym c.deref.ensures.value) ∙ sym c.conflicts_with_any.ensures ∙ c.if-conflicts_with_any.false)
