use Rattle.std.proofs.Common.{◌≡◌, ℕ, List, ◌++◌, ◌∷◌, [], codes, Option, Some, None, IfOk, refl, subst, true}
use Rattle.serde_json.specs.Data.{Data, object, boolean, put}
use Rattle.serde_json.specs.View.{view}
use Rattle.mpd_session.specs.declared.reply.Holding.{Holding}
use Rattle.mpd_wire.specs.Replies.{natural, holding, listed, members, maybe, is_ok}
use Rattle.mpd_wire.proofs.look_values.where_value.Goals as goal

-- the fields of where ranks stand, by what they hold, if that is told
fields_are : (o : Option (List Holding)) (lines ranks ready : Data) (version : ℕ)
    → put (codes "version") (natural version) (put (codes "ready") ready (put (codes "ranks") ranks (put (codes "ok") (boolean true) (put (codes "lines") lines (members (maybe (codes "held") (listed holding) o))))))
    ≡ members ((maybe (codes "held") (listed holding) o ++ ((codes "lines", lines) ∷ is_ok ∷ (codes "ranks", ranks) ∷ (codes "ready", ready) ∷ [])) ++ (codes "version", natural version) ∷ [])
fields_are None lines ranks ready version = refl
fields_are (Some held) lines ranks ready version = refl

pub returns : goal.returns
returns c =
    subst (λ m. IfOk c.with_version.result (λ v. view v ≡ object m)) (fields_are _ _ _ _ _)
    (c.with_version.ensures _ (c.with_made-fields-3.ensures _ _ (c.with_made-fields-2.ensures _ _ (c.with_flag-fields.ensures _ (c.with_made-fields.ensures _ _ c.held_fields-fields.ensures c.handles_value.ensures)) c.texts_value.ensures) c.numbers_value.ensures))
