use Rattle.std.proofs.Common.{rules, sym, ap, ◌∙◌}
use Rattle.mpd_model.specs.steps.World.{World}
use Rattle.mpd_model.specs.steps.Why.{first_in}
use Rattle.mpd_match.proofs.Picked.{first_on, first_now}
use Rattle.mpd_policy.proofs.QuietLemmas.{quiet_from, with_all, none_left}
use Rattle.mpd_policy.proofs.quiet.quiet_match_with.Goals as goal

pub loop-sender-preserved : goal.loop-sender-preserved
loop-sender-preserved c =
    let w : World = c.args.core.now.world in
    first_on (quiet_from w c.args.recv) c.loop-sender.sender c.rank_count-count.result _ c.quiet_match_from-found.result c.loop-sender-test.true c.loop-sender.invariant c.quiet_match_from-found.ensures (sym c.is_some.ensures ∙ c.if-is_some.false)

pub returns-then-is_some : goal.returns-then-is_some
returns-then-is_some c =
    let w : World = c.args.core.now.world in
    first_now (quiet_from w c.args.recv) c.loop-sender.sender c.rank_count-count.result _ c.quiet_match_from-found.result c.loop-sender-test.true c.loop-sender.invariant c.quiet_match_from-found.ensures (sym c.is_some.ensures ∙ c.if-is_some.true) ∙ ap first_in (with_all w c.args.recv)

pub returns : goal.returns
returns c =
    let w : World = c.args.core.now.world in
    none_left (quiet_from w c.args.recv) c.loop-sender.sender c.rank_count-count.result _ (search rules) c.loop-sender.invariant ∙ ap first_in (with_all w c.args.recv)
