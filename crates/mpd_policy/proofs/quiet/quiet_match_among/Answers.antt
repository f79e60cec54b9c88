use Rattle.std.proofs.Common.{rules, sym, ap, ◌∙◌}
use Rattle.mpd_model.specs.steps.World.{World}
use Rattle.mpd_model.specs.steps.Why.{first_in}
use Rattle.mpd_match.proofs.Picked.{first_on, first_now}
use Rattle.mpd_policy.proofs.QuietLemmas.{quiet_at, on_all, none_left}
use Rattle.mpd_policy.proofs.quiet.quiet_match_among.Goals as goal

pub loop-receiver-preserved : goal.loop-receiver-preserved
loop-receiver-preserved c =
    let w : World = c.args.core.now.world in
    first_on (quiet_at w) c.loop-receiver.receiver c.rank_count-count.result _ c.quiet_match_at-found.result c.loop-receiver-test.true c.loop-receiver.invariant c.quiet_match_at-found.ensures (sym c.is_some.ensures ∙ c.if-is_some.false)

pub returns-then-is_some : goal.returns-then-is_some
returns-then-is_some c =
    let w : World = c.args.core.now.world in
    first_now (quiet_at w) c.loop-receiver.receiver c.rank_count-count.result _ c.quiet_match_at-found.result c.loop-receiver-test.true c.loop-receiver.invariant c.quiet_match_at-found.ensures (sym c.is_some.ensures ∙ c.if-is_some.true) ∙ ap first_in (on_all w)

pub returns : goal.returns
returns c =
    let w : World = c.args.core.now.world in
    none_left (quiet_at w) c.loop-receiver.receiver c.rank_count-count.result _ (search rules) c.loop-receiver.invariant ∙ ap first_in (on_all w)
