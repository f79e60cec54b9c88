use Rattle.std.proofs.Common.{◌≡◌, Some, length, subst, sym, ap}
use Rattle.mpd_outcomes.specs.Parts.{StoreView, numbers_of, IsNumbered}
use Rattle.mpd_outcomes.specs.Table.{KeepsAPartIn}
use Rattle.mpd_outcomes.proofs.PartLemmas.{numbers_below, put_numbered, put_keeps, same_keeps}
use Rattle.mpd_outcomes.proofs.store.Store.put_by.Goals.{in-Ok, in-Err}
use Rattle.mpd_outcomes.proofs.store.Store.put_by.Goals as goal

pub invariant_of-self : goal.invariant_of-self
invariant_of-self c =
    let parts = c.self.inside.parts in
    let old = c.self.inside.kept.entries in
    let numbers : numbers_of parts (length c.requires.0) c.requires.0 ≡ Some c.args.numbers.items = subst (λ (s : StoreView). numbers_of s.parts (length c.requires.0) c.requires.0 ≡ Some c.args.numbers.items) (sym c.self.view_is) c.requires.1 in
    elim c.match-insert.branch [
      | in-Ok w ↦ put_numbered parts old c.insert.new.self.entries c.args.numbers c.args.found w.in-Ok.ensures.updates.1 w.in-Ok.ensures.updates.3 (numbers_below parts c.numbers_are_apart.ensures (length c.requires.0) c.requires.0 c.args.numbers.items numbers) c.self.invariant
      | in-Err w ↦ subst (IsNumbered parts) (sym w.in-Err.ensures.err) c.self.invariant
    ]

pub returns : goal.returns
returns c key numbers_are =
    let parts = c.self.inside.parts in
    let old = c.self.inside.kept.entries in
    let after : StoreView = record { parts = parts; kept = c.insert.new.self.entries } in
    let numbers : numbers_of parts (length key) key ≡ Some c.args.numbers.items = subst (λ (s : StoreView). numbers_of s.parts (length key) key ≡ Some c.args.numbers.items) (sym c.self.view_is) numbers_are in
    subst (λ (s : StoreView). KeepsAPartIn s key c.args.found after) c.self.view_is
    (elim c.match-insert.branch [
      | in-Ok w ↦ put_keeps parts old c.insert.new.self.entries c.args.numbers c.args.found w.in-Ok.ensures.updates.1 w.in-Ok.ensures.updates.3 c.numbers_are_apart.ensures key numbers
      | in-Err w ↦ same_keeps (record { parts = parts; kept = old }) after key c.args.found (ap (λ entries. record { parts = parts; kept = entries }) (sym w.in-Err.ensures.err))
    ])
