use Rattle.std.proofs.Common.{◌≡◌, ℕ, List, ◌++◌, ◌∷◌, [], codes, Option, Some, None, IfOk, refl, subst, true}
use Rattle.serde_json.specs.Data.{object, boolean, string, put}
use Rattle.serde_json.specs.View.{view}
use Rattle.mpd_wire.specs.Replies.{natural, members, maybe, is_ok}
use Rattle.mpd_wire.proofs.printer.ran_value.Goals as goal

-- the fields of a run, by the breakpoint that it hit, if any
fields_are : (o p : Option ℕ) (depth steps version : ℕ) (name text : List ℕ) → p ≡ o → text ≡ name
    → put (codes "version") (natural version) (put (codes "stop") (string text) (put (codes "steps") (natural steps) (put (codes "ok") (boolean true) (put (codes "depth") (natural depth) (members (maybe (codes "break") natural p))))))
    ≡ members ((maybe (codes "break") natural o ++ ((codes "depth", natural depth) ∷ is_ok ∷ (codes "steps", natural steps) ∷ (codes "stop", string name) ∷ [])) ++ (codes "version", natural version) ∷ [])
fields_are None p depth steps version name text is e = rw (is, e) refl
fields_are (Some number) p depth steps version name text is e = rw (is, e) refl

pub returns : goal.returns
returns c =
    subst (λ m. IfOk c.with_version.result (λ v. view v ≡ object m)) (fields_are _ _ _ _ _ _ _ c.stop_number.ensures c.stop_name.ensures)
    (c.with_version.ensures _ (c.with_text-fields.ensures _ (c.with_number-fields.ensures _ (c.with_depth-fields.ensures _ c.break_fields.ensures))))
