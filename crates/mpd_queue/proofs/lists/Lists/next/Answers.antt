use Rattle.std.proofs.Common.{◌≡◌, ◌<◌, List, length, ap, ◌∙◌, arith}
use Rattle.std.proofs.lemmas.List.{get_or_read}
use Rattle.mpd_queue.specs.InOrder.{places}
use Rattle.mpd_queue.specs.Views.{ListsView}
use Rattle.mpd_queue.specs.Cells.{no_cell}
use Rattle.mpd_queue.specs.declared.links.Cell.{Cell}
use Rattle.mpd_queue.proofs.Methods.{next_read}
use Rattle.mpd_queue.proofs.lists.Lists.next.Goals as goal

pub returns-clause-next : goal.returns-clause-next
returns-clause-next c = λ list has.
    let e : c.self.inside.shown ≡ c.args.self.now.lists = ap (λ (v : ListsView). v.lists) c.self.view_is in
    let cells : List Cell = c.self.inside.links.cells.items in
    let there : 0 < places c.self.inside.shown c.args.item = rw e c.requires in
    let lt : c.args.item < length cells = omega (arith, c.self.invariant.inside c.args.item there, c.self.inside.links.cells.ok.0) in
    rw (← e)
    (c.item.ensures
    ∙ ap (λ (k : Cell). k.next) (get_or_read cells c.args.item c.index.result.now lt c.index.ensures no_cell)
    ∙ next_read c.self.inside.links c.self.inside.shown list c.args.item c.self.invariant (rw e has))
