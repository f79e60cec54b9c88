use Rattle.std.proofs.Common.{nat_lt, rules, subst}
use Rattle.std.proofs.lemmas.Map.Made.{filter_same_pairs}
use Rattle.mpd_outcomes.specs.Parts.{StoreView}
use Rattle.mpd_outcomes.specs.Table.{KeepsAboveIn}
use Rattle.mpd_outcomes.proofs.TableLemmas.{kept_numbered, kept_above}
use Rattle.mpd_outcomes.proofs.store.Store.drop_low.Goals as goal

pub invariant_of-self : goal.invariant_of-self
invariant_of-self c =
    kept_numbered c.args.height c.self.inside.kept.entries c.retain.new.self.entries c.retain.ensures.was_unique (filter_same_pairs _ (λ e. nat_lt c.args.height e.1.height) _ (λ k v b w g t. search rules) _ _ c.retain.ensures.filtered) c.self.inside.parts c.self.invariant

pub returns : goal.returns
returns c =
    let after : StoreView = record { parts = c.self.inside.parts; kept = c.retain.new.self.entries } in
    subst (λ (s : StoreView). KeepsAboveIn c.args.height s after) c.self.view_is
    (kept_above c.args.height c.self.inside.kept.entries c.retain.new.self.entries c.retain.ensures.was_unique (filter_same_pairs _ (λ e. nat_lt c.args.height e.1.height) _ (λ k v b w g t. search rules) _ _ c.retain.ensures.filtered) c.self.inside.parts)
