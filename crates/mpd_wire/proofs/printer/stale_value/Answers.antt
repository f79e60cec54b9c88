use Rattle.std.proofs.Common.{◌≡◌, ◌∷◌, [], codes, false, IfOk, subst}
use Rattle.serde_json.specs.Data.{object, boolean, string}
use Rattle.serde_json.specs.View.{view}
use Rattle.mpd_wire.specs.Replies.{members}
use Rattle.mpd_wire.proofs.printer.stale_value.Goals as goal

pub returns : goal.returns
returns c =
    subst (λ d. IfOk c.object_of.result (λ v. view v ≡ object (members ((codes "error", string (codes "stale")) ∷ (codes "now", d) ∷ (codes "ok", boolean false) ∷ [])))) c.from.ensures
    (c.object_of.ensures _ (c.with_flag.ensures _ (c.with_field-fields.ensures _ (c.with_text-fields.ensures _ c.no_fields.ensures))))
