use Rattle.std.proofs.Common.{refl, subst}
use Rattle.mpd_outcomes.specs.Parts.{StoreView}
use Rattle.mpd_outcomes.specs.Table.{KeepsLessIn}
use Rattle.mpd_outcomes.proofs.PartLemmas.{numbered_more, parts_keep_less}
use Rattle.mpd_outcomes.proofs.store.Store.number_parts.Goals as goal

pub invariant_of-self : goal.invariant_of-self
invariant_of-self c = numbered_more c.self.inside.parts c.keep_all.new.self c.self.inside.kept.entries c.keep_all.ensures.more c.self.invariant

pub returns-clause-less : goal.returns-clause-less
returns-clause-less c =
    let inside : StoreView = record { parts = c.self.inside.parts; kept = c.self.inside.kept.entries } in
    let after : StoreView = record { parts = c.keep_all.new.self; kept = c.self.inside.kept.entries } in
    subst (λ (s : StoreView). KeepsLessIn s after) c.self.view_is (parts_keep_less inside after refl c.keep_all.ensures.more c.self.invariant)
