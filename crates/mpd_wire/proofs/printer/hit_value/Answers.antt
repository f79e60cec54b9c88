use Rattle.std.proofs.Common.{◌≡◌, ℕ, ◌++◌, ◌∷◌, [], codes, Option, Some, None, IfOk, refl, subst, true}
use Rattle.serde_json.specs.Data.{object, boolean, put}
use Rattle.serde_json.specs.View.{view}
use Rattle.mpd_wire.specs.Replies.{natural, members, maybe, is_ok}
use Rattle.mpd_wire.proofs.printer.hit_value.Goals as goal

-- the fields of a look at the last step, by the breakpoint that it hits, if any
fields_are : (o : Option ℕ) (version : ℕ)
    → put (codes "version") (natural version) (put (codes "ok") (boolean true) (members (maybe (codes "break") natural o))) ≡ members ((maybe (codes "break") natural o ++ is_ok ∷ []) ++ (codes "version", natural version) ∷ [])
fields_are None version = refl
fields_are (Some number) version = refl

pub returns : goal.returns
returns c = subst (λ m. IfOk c.with_version.result (λ v. view v ≡ object m)) (fields_are _ _) (c.with_version.ensures _ (c.with_flag-fields.ensures _ c.break_fields.ensures))
