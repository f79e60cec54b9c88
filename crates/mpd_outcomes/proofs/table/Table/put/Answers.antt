use Rattle.std.proofs.Common.{List, subst}
use Rattle.std.specs.Prelude.{ℤ}
use Rattle.mpd_outcomes.specs.declared.table.Table.{Table}
use Rattle.mpd_outcomes.specs.Table.{KeepsAPartIn}
use Rattle.mpd_outcomes.proofs.TableLemmas.{store_keeps}
use Rattle.mpd_outcomes.proofs.table.Table.put.Goals as goal

pub returns-in-Ok : goal.returns-in-Ok
returns-in-Ok c =
    let old : Table = c.args.self.now in
    let new : Table = record { store = c.put.new.self; most = old.most; room = c.saturating_sub-self.result } in
    store_keeps old new c.args.key.now c.args.found (subst (λ (words : List ℤ). KeepsAPartIn old.store words c.args.found c.put.new.self) c.deref.ensures.value c.put.ensures)
