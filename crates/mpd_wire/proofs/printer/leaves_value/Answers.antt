use Rattle.std.proofs.Common.{◌≡◌, ◌∷◌, [], codes, IfOk, subst}
use Rattle.serde_json.specs.Data.{object, boolean}
use Rattle.serde_json.specs.View.{view}
use Rattle.mpd_wire.specs.Replies.{members, natural, is_ok}
use Rattle.mpd_wire.proofs.printer.leaves_value.Goals as goal

pub returns : goal.returns
returns c =
    subst (λ d. IfOk c.with_version.result (λ v. view v ≡ object (members ((codes "leaves", d) ∷ (codes "more", boolean c.args.more) ∷ is_ok ∷ (codes "version", natural c.args.version) ∷ [])))) c.in_ok-leaves.ensures
    (c.with_version.ensures _ (c.with_flag-fields-2.ensures _ (c.with_flag-fields.ensures _ (c.with_field-fields.ensures _ c.no_fields.ensures))))
