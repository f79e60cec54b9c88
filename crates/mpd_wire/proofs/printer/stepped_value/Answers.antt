use Rattle.std.proofs.Common.{◌≡◌, ◌∷◌, [], codes, IfOk, subst, ◌∙◌}
use Rattle.serde_json.specs.Data.{object, string}
use Rattle.serde_json.specs.View.{view}
use Rattle.mpd_wire.specs.Replies.{members, natural, is_ok}
use Rattle.mpd_wire.proofs.printer.stepped_value.Goals as goal

pub returns : goal.returns
returns c =
    subst (λ t. IfOk c.with_version.result (λ v. view v ≡ object (members ((codes "depth", natural c.args.depth) ∷ is_ok ∷ (codes "step", string t) ∷ (codes "version", natural c.args.version) ∷ [])))) (c.as_str.ensures.value ∙ c.in_ok-text.ensures)
    (c.with_version.ensures _ (c.with_text-fields.ensures _ (c.with_depth-fields.ensures _ c.no_fields.ensures)))
