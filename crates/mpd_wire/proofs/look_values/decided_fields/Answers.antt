use Rattle.std.proofs.Common.{◌≡◌, ◌∷◌, [], codes, IfOk, subst, ◌∙◌}
use Rattle.serde_json.specs.Data.{string}
use Rattle.serde_json.specs.View.{members_view}
use Rattle.mpd_wire.specs.Replies.{members, coming_name, is_ok}
use Rattle.mpd_wire.proofs.look_values.decided_fields.Goals as goal

pub returns-in-None : goal.returns-in-None
returns-in-None c =
    rw c.in-None.is
    (subst (λ n. IfOk c.with_flag-fields.result (λ f. members_view f.entries ≡ members ((codes "decision", string n) ∷ is_ok ∷ []))) c.coming_name.ensures (c.with_flag-fields.ensures _ (c.with_text-fields.ensures _ c.no_fields.ensures)))

pub returns-in-Some : goal.returns-in-Some
returns-in-Some c =
    rw c.in-Some.is
    (subst (λ t. IfOk c.with_text.result (λ f. members_view f.entries ≡ members ((codes "decision", string (coming_name c.args.coming)) ∷ is_ok ∷ (codes "outcome", string t) ∷ []))) (c.as_str.ensures.value ∙ c.outcome.view_is)
    (subst (λ n. IfOk c.with_text.result (λ f. members_view f.entries ≡ members ((codes "decision", string n) ∷ is_ok ∷ (codes "outcome", string c.as_str.result.now) ∷ []))) c.coming_name.ensures
    (c.with_text.ensures _ (c.with_flag-fields.ensures _ (c.with_text-fields.ensures _ c.no_fields.ensures)))))
