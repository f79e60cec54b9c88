use Rattle.std.proofs.Common.{◌∙◌, sym, ap}
use Rattle.mpd_outcomes.specs.Parts.{StoreView, found_in}
use Rattle.mpd_outcomes.proofs.PartLemmas.{if_copied, found_by_numbers}
use Rattle.mpd_outcomes.proofs.store.Store.find.Goals as goal

pub returns : goal.returns
returns c =
    let inside : StoreView = record { parts = c.self.inside.parts; kept = c.self.inside.kept.entries } in
    if_copied c.get.result (found_in c.args.self.now c.args.key.now) (c.get.ensures.value ∙ sym (found_by_numbers inside c.args.key.now c.in_ok-numbers.numbers.items c.in_ok-numbers.ensures) ∙ ap (λ (s : StoreView). found_in s c.args.key.now) c.self.view_is)
