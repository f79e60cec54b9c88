use Rattle.std.proofs.Common.{◌≡◌, ◌∷◌, [], codes, IfOk, subst, ◌∙◌}
use Rattle.serde_json.specs.View.{members_view}
use Rattle.mpd_wire.specs.Replies.{members, holding, listed}
use Rattle.mpd_wire.proofs.look_values.held_fields.Goals as goal

pub returns-in-None : goal.returns-in-None
returns-in-None c = rw c.in-None.is c.no_fields.ensures

pub returns-in-Some : goal.returns-in-Some
returns-in-Some c =
    rw c.in-Some.is
    (subst (λ hs. IfOk c.with_made.result (λ f. members_view f.entries ≡ members ((codes "held", listed holding hs) ∷ []))) (c.deref.ensures.value ∙ c.held.view_is) (c.with_made.ensures _ _ c.no_fields-in-Some.ensures c.holdings_value-holdings.ensures))
