use Rattle.std.proofs.Common.{◌≡◌, ℕ, List, ◌++◌, ◌∷◌, [], codes, Option, Some, None, IfOk, refl, subst}
use Rattle.serde_json.specs.Data.{Data, object, string, put}
use Rattle.serde_json.specs.View.{view}
use Rattle.mpd_wire.specs.Replies.{natural, members, maybe, is_ok}
use Rattle.mpd_wire.proofs.look_values.decided_value.Goals as goal

-- the fields of a decision, by how the run has ended, if it has
fields_are : (o : Option (List ℕ)) (name : List ℕ) (steps told : Data) (version : ℕ)
    → put (codes "version") (natural version) (put (codes "told") told (put (codes "steps") steps (members ((codes "decision", string name) ∷ is_ok ∷ maybe (codes "outcome") string o))))
    ≡ members (((codes "decision", string name) ∷ is_ok ∷ (maybe (codes "outcome") string o ++ ((codes "steps", steps) ∷ (codes "told", told) ∷ []))) ++ (codes "version", natural version) ∷ [])
fields_are None name steps told version = refl
fields_are (Some text) name steps told version = refl

pub returns : goal.returns
returns c =
    subst (λ m. IfOk c.with_version.result (λ v. view v ≡ object m)) (fields_are _ _ _ _ _)
    (c.with_version.ensures _ (c.with_made-fields-2.ensures _ _ (c.with_made-fields.ensures _ _ c.decided_fields-fields.ensures c.step_values.ensures) c.texts_value.ensures))
