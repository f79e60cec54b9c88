use Rattle.std.proofs.Common.{◌∙◌, ◌==◌, ap, sym}
use Rattle.mpd_session.proofs.PlaceLemmas.{any_goes}
use Rattle.mpd_session.proofs.places.can_go_on.Goals as goal

pub returns : goal.returns
returns c =
    any_goes c.args.core.now.world c.args.rank c.new-steps.result.items c.push_any_wakes_of.new.out.items c.is_empty.result (sym c.is_enabled.ensures ∙ c.if-is_enabled.false) (sym c.is_enabled-2.ensures ∙ c.if-is_enabled-2.false)
    c.new-steps.ensures.items c.in_ok-push_any_wakes_of.ensures.ok (c.is_empty.ensures ∙ ap (λ n. n == 0) c.push_any_wakes_of.new.out.ok.0)
