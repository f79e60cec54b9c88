use Rattle.std.proofs.Common.{◌≡◌, ◌∷◌, [], codes, IfOk, subst, ◌∙◌}
use Rattle.serde_json.specs.Data.{string}
use Rattle.serde_json.specs.View.{members_view}
use Rattle.mpd_wire.specs.Replies.{members, natural, is_ok}
use Rattle.mpd_wire.proofs.printer.state_fields.Goals as goal

pub returns-in-None : goal.returns-in-None
returns-in-None c = rw c.in-None.is (c.with_depth-fields.ensures _ c.no_fields.ensures)

pub returns-in-Some : goal.returns-in-Some
returns-in-Some c =
    rw c.in-Some.is
    (subst (λ t. IfOk c.with_text.result (λ f. members_view f.entries ≡ members ((codes "depth", natural c.args.depth) ∷ is_ok ∷ (codes "outcome", string t) ∷ []))) (c.as_str.ensures.value ∙ c.outcome.view_is)
    (c.with_text.ensures _ (c.with_depth-fields.ensures _ c.no_fields.ensures)))
