use Rattle.std.proofs.Common.{◌≡◌, ◌<◌, length, ap, vec_len, arith}
use Rattle.mpd_queue.specs.Views.{ListsView}
use Rattle.mpd_queue.specs.Cells.{previous_at}
use Rattle.mpd_queue.proofs.Methods.{has_cell, previous_spot, holds_with}
use Rattle.mpd_queue.proofs.lists.Lists.insert.Goals as goal

pub previous-previous-requires-clause-at : goal.previous-previous-requires-clause-at
previous-previous-requires-clause-at c =
    let e : c.self.inside.shown ≡ c.args.self.now.lists = ap (λ (v : ListsView). v.lists) c.self.view_is in
    has_cell c.self.inside.links c.self.inside.shown c.args.list c.args.next c.self.invariant (rw e c.requires.list) (rw e c.requires.spot)

pub set_next-requires-clause-at : goal.set_next-requires-clause-at
set_next-requires-clause-at c =
    let e : c.self.inside.shown ≡ c.args.self.now.lists = ap (λ (v : ListsView). v.lists) c.self.view_is in
    let lt : c.args.list < length c.self.inside.shown = rw e c.requires.list in
    rw c.previous-previous.ensures
    (has_cell c.self.inside.links c.self.inside.shown c.args.list (previous_at c.self.inside.links c.args.list c.args.next) c.self.invariant lt
    (previous_spot c.self.inside.links c.self.inside.shown c.args.list c.args.next c.self.invariant lt (rw e c.requires.spot)))

pub set_previous-requires-clause-at : goal.set_previous-requires-clause-at
set_previous-requires-clause-at c =
    let e : c.self.inside.shown ≡ c.args.self.now.lists = ap (λ (v : ListsView). v.lists) c.self.view_is in
    rw c.set_next.ensures.cells
    (has_cell c.self.inside.links c.self.inside.shown c.args.list c.args.next c.self.invariant (rw e c.requires.list) (rw e c.requires.spot))

pub invariant_of-self : goal.invariant_of-self
invariant_of-self c =
    let e : c.self.inside.shown ≡ c.args.self.now.lists = ap (λ (v : ListsView). v.lists) c.self.view_is in
    let r : vec_len c.self.inside.links.cells ≡ c.args.self.now.room = ap (λ (v : ListsView). v.room) c.self.view_is in
    holds_with c.self.inside.links c.set_next.new.self c.set_previous.new.self c.set_next-2.new.self c.set_previous-2.new.self
    c.self.inside.shown c.after.result c.args.list c.args.item c.args.next c.previous-previous.result c.place-here.result
    c.self.invariant (rw e c.requires.list) (rw r c.requires.item) (rw e c.requires.free) (rw e c.requires.spot) c.place-here.ensures c.previous-previous.ensures
    c.set_next.ensures.next c.set_next.ensures.previous c.set_previous.ensures.previous c.set_previous.ensures.next
    c.set_next-2.ensures.next c.set_next-2.ensures.previous c.set_previous-2.ensures.previous c.set_previous-2.ensures.next
    (omega arith) (omega arith) c.after.ensures
