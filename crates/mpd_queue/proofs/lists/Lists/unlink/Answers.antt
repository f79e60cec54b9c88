use Rattle.std.proofs.Common.{◌≡◌, ◌<◌, Some, length, ap, ◌∙◌, arith}
use Rattle.mpd_queue.specs.InOrder.{list_at, places_in, next_of}
use Rattle.mpd_queue.specs.Views.{ListsView}
use Rattle.mpd_queue.specs.Cells.{next_at, previous_at}
use Rattle.mpd_queue.proofs.Spots.{next_spot, all_put_back, is_gone, spot_among}
use Rattle.mpd_queue.proofs.Methods.{has_cell, previous_spot, next_read, holds_without}
use Rattle.mpd_queue.proofs.lists.Lists.unlink.Goals as goal

pub place-here-requires-clause-cell : goal.place-here-requires-clause-cell
place-here-requires-clause-cell c =
    let e : c.self.inside.shown ≡ c.args.self.now.lists = ap (λ (v : ListsView). v.lists) c.self.view_is in
    let lt : c.args.list < length c.self.inside.shown = rw e c.requires.list in
    let has : 0 < places_in (list_at c.self.inside.shown c.args.list) c.args.item = rw e c.requires.item in
    has_cell c.self.inside.links c.self.inside.shown c.args.list (Some c.args.item) c.self.invariant lt has

pub previous-previous-requires-clause-at : goal.previous-previous-requires-clause-at
previous-previous-requires-clause-at c =
    let e : c.self.inside.shown ≡ c.args.self.now.lists = ap (λ (v : ListsView). v.lists) c.self.view_is in
    let lt : c.args.list < length c.self.inside.shown = rw e c.requires.list in
    let has : 0 < places_in (list_at c.self.inside.shown c.args.list) c.args.item = rw e c.requires.item in
    rw c.place-here.ensures (has_cell c.self.inside.links c.self.inside.shown c.args.list (Some c.args.item) c.self.invariant lt has)

pub next-next-requires-clause-at : goal.next-next-requires-clause-at
next-next-requires-clause-at c =
    let e : c.self.inside.shown ≡ c.args.self.now.lists = ap (λ (v : ListsView). v.lists) c.self.view_is in
    let lt : c.args.list < length c.self.inside.shown = rw e c.requires.list in
    let has : 0 < places_in (list_at c.self.inside.shown c.args.list) c.args.item = rw e c.requires.item in
    rw c.place-here.ensures (has_cell c.self.inside.links c.self.inside.shown c.args.list (Some c.args.item) c.self.invariant lt has)

pub set_next-requires-clause-at : goal.set_next-requires-clause-at
set_next-requires-clause-at c =
    let e : c.self.inside.shown ≡ c.args.self.now.lists = ap (λ (v : ListsView). v.lists) c.self.view_is in
    let lt : c.args.list < length c.self.inside.shown = rw e c.requires.list in
    let has : 0 < places_in (list_at c.self.inside.shown c.args.list) c.args.item = rw e c.requires.item in
    rw (c.previous-previous.ensures, c.place-here.ensures)
    (has_cell c.self.inside.links c.self.inside.shown c.args.list (previous_at c.self.inside.links c.args.list (Some c.args.item)) c.self.invariant lt
    (previous_spot c.self.inside.links c.self.inside.shown c.args.list (Some c.args.item) c.self.invariant lt has))

pub set_previous-requires-clause-at : goal.set_previous-requires-clause-at
set_previous-requires-clause-at c =
    let e : c.self.inside.shown ≡ c.args.self.now.lists = ap (λ (v : ListsView). v.lists) c.self.view_is in
    let lt : c.args.list < length c.self.inside.shown = rw e c.requires.list in
    let has : 0 < places_in (list_at c.self.inside.shown c.args.list) c.args.item = rw e c.requires.item in
    let next : c.next-next.result ≡ next_of (list_at c.self.inside.shown c.args.list) c.args.item = c.next-next.ensures ∙ ap (next_at c.self.inside.links c.args.list) c.place-here.ensures ∙ next_read c.self.inside.links c.self.inside.shown c.args.list c.args.item c.self.invariant has in
    rw (c.set_next.ensures.cells, next)
    (has_cell c.self.inside.links c.self.inside.shown c.args.list (next_of (list_at c.self.inside.shown c.args.list) c.args.item) c.self.invariant lt
    (next_spot c.args.item (list_at c.self.inside.shown c.args.list)))

pub invariant_of-self : goal.invariant_of-self
invariant_of-self c =
    let e : c.self.inside.shown ≡ c.args.self.now.lists = ap (λ (v : ListsView). v.lists) c.self.view_is in
    let lt : c.args.list < length c.self.inside.shown = rw e c.requires.list in
    let has : 0 < places_in (list_at c.self.inside.shown c.args.list) c.args.item = rw e c.requires.item in
    holds_without c.self.inside.links c.set_next.new.self c.set_previous.new.self
    c.self.inside.shown c.after.result c.args.list c.args.item c.next-next.result c.previous-previous.result c.place-here.result
    c.self.invariant lt has c.place-here.ensures c.next-next.ensures c.previous-previous.ensures
    c.set_next.ensures.next c.set_next.ensures.previous c.set_previous.ensures.previous c.set_previous.ensures.next
    (omega arith) (omega arith) c.after.ensures

pub returns-clause-spot : goal.returns-clause-spot
returns-clause-spot c =
    let e : c.self.inside.shown ≡ c.args.self.now.lists = ap (λ (v : ListsView). v.lists) c.self.view_is in
    let lt : c.args.list < length c.self.inside.shown = rw e c.requires.list in
    let has : 0 < places_in (list_at c.self.inside.shown c.args.list) c.args.item = rw e c.requires.item in
    let next : c.next-next.result ≡ next_of (list_at c.self.inside.shown c.args.list) c.args.item = c.next-next.ensures ∙ ap (next_at c.self.inside.links c.args.list) c.place-here.ensures ∙ next_read c.self.inside.links c.self.inside.shown c.args.list c.args.item c.self.invariant has in
    rw (← e) next

pub returns-clause-free : goal.returns-clause-free
returns-clause-free c =
    let e : c.self.inside.shown ≡ c.args.self.now.lists = ap (λ (v : ListsView). v.lists) c.self.view_is in
    let lt : c.args.list < length c.self.inside.shown = rw e c.requires.list in
    let has : 0 < places_in (list_at c.self.inside.shown c.args.list) c.args.item = rw e c.requires.item in
    rw c.after.ensures (is_gone c.self.inside.shown c.args.list c.args.item lt has c.self.invariant.once)

pub returns-clause-stays : goal.returns-clause-stays
returns-clause-stays c =
    let e : c.self.inside.shown ≡ c.args.self.now.lists = ap (λ (v : ListsView). v.lists) c.self.view_is in
    let lt : c.args.list < length c.self.inside.shown = rw e c.requires.list in
    let has : 0 < places_in (list_at c.self.inside.shown c.args.list) c.args.item = rw e c.requires.item in
    let next : c.next-next.result ≡ next_of (list_at c.self.inside.shown c.args.list) c.args.item = c.next-next.ensures ∙ ap (next_at c.self.inside.links c.args.list) c.place-here.ensures ∙ next_read c.self.inside.links c.self.inside.shown c.args.list c.args.item c.self.invariant has in
    rw (c.after.ensures, next) (spot_among c.self.inside.shown c.args.list c.args.item lt)

pub returns-clause-back : goal.returns-clause-back
returns-clause-back c =
    let e : c.self.inside.shown ≡ c.args.self.now.lists = ap (λ (v : ListsView). v.lists) c.self.view_is in
    let lt : c.args.list < length c.self.inside.shown = rw e c.requires.list in
    let has : 0 < places_in (list_at c.self.inside.shown c.args.list) c.args.item = rw e c.requires.item in
    let next : c.next-next.result ≡ next_of (list_at c.self.inside.shown c.args.list) c.args.item = c.next-next.ensures ∙ ap (next_at c.self.inside.links c.args.list) c.place-here.ensures ∙ next_read c.self.inside.links c.self.inside.shown c.args.list c.args.item c.self.invariant has in
    rw (c.after.ensures, next) (all_put_back c.self.inside.shown c.args.list c.args.item lt has c.self.invariant.once ∙ e)
