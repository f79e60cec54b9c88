use Rattle.std.proofs.Common.{◌≡◌, None, List, ℕ, subst, sym}
use Rattle.std.specs.Prelude.{ℤ, Vec}
use Rattle.std.specs.declared.alloc.Global.{Global}
use Rattle.mpd_outcomes.specs.Parts.{number_of, HasMoreParts}
use Rattle.mpd_outcomes.proofs.PartLemmas.{put_more, put_numbering}
use Rattle.mpd_outcomes.proofs.parts.Parts.add.Goals as goal

pub invariant_of-self : goal.invariant_of-self
invariant_of-self c =
    let old = c.self.inside.map.entries in
    let absent = subst (λ (parts : List (Vec ℤ Global × ℕ)). number_of parts c.args.part.items ≡ None) (sym c.self.view_is) c.requires in
    put_numbering old c.insert.new.self.entries c.args.part c.len-number.result c.in-Ok._old absent c.len-number.ensures.len c.in-Ok.ensures.old c.in-Ok.ensures.len c.in-Ok.ensures.updates.1 c.in-Ok.ensures.updates.3 c.self.invariant

pub returns-in-Ok-clause-more : goal.returns-in-Ok-clause-more
returns-in-Ok-clause-more c =
    let old = c.self.inside.map.entries in
    let absent = subst (λ (parts : List (Vec ℤ Global × ℕ)). number_of parts c.args.part.items ≡ None) (sym c.self.view_is) c.requires in
    subst (λ (parts : List (Vec ℤ Global × ℕ)). HasMoreParts parts c.insert.new.self.entries) c.self.view_is
    (put_more old c.insert.new.self.entries c.args.part c.len-number.result c.in-Ok._old absent c.len-number.ensures.len c.in-Ok.ensures.old c.in-Ok.ensures.len c.in-Ok.ensures.updates.1 c.in-Ok.ensures.updates.3)
