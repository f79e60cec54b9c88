use Rattle.std.proofs.Common.{◌≡◌, ℕ, List, ◌++◌, ◌∷◌, [], codes, Option, Some, None, IfOk, refl, subst}
use Rattle.serde_json.specs.Data.{Data, object, string, put}
use Rattle.serde_json.specs.View.{view}
use Rattle.mpd_wire.specs.Replies.{natural, members, maybe, is_ok}
use Rattle.mpd_wire.proofs.printer.state_value.Goals as goal

-- the fields of a state, by how the run has ended, if it has
fields_are : (o : Option (List ℕ)) (depth undone version : ℕ) (ranks sets shown_ranks shown_sets : Data) → shown_ranks ≡ ranks → shown_sets ≡ sets
    → put (codes "version") (natural version) (put (codes "undone") (natural undone) (put (codes "sets") shown_sets (put (codes "ranks") shown_ranks (members ((codes "depth", natural depth) ∷ is_ok ∷ maybe (codes "outcome") string o)))))
    ≡ members (((codes "depth", natural depth) ∷ is_ok ∷ (maybe (codes "outcome") string o ++ ((codes "ranks", ranks) ∷ (codes "sets", sets) ∷ (codes "undone", natural undone) ∷ []))) ++ (codes "version", natural version) ∷ [])
fields_are None depth undone version ranks sets shown_ranks shown_sets r s = rw (r, s) refl
fields_are (Some text) depth undone version ranks sets shown_ranks shown_sets r s = rw (r, s) refl

pub returns : goal.returns
returns c rs ss r s =
    subst (λ m. IfOk c.with_version.result (λ v. view v ≡ object m)) (fields_are _ _ _ _ _ _ _ _ r s)
    (c.with_version.ensures _ (c.with_number-fields.ensures _ (c.with_field-fields-2.ensures _ (c.with_field-fields.ensures _ c.state_fields-fields.ensures))))
