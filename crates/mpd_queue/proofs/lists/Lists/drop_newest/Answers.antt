use Rattle.std.proofs.Common.{◌≡◌, ℕ, ◌<◌, Some, None, sym, ap, subst, ◌∙◌}
use Rattle.mpd_queue.specs.InOrder.{list_at, places_in, with_removed, with_newest_dropped}
use Rattle.mpd_queue.specs.Views.{ListsView}
use Rattle.mpd_queue.specs.Cells.{previous_at}
use Rattle.mpd_queue.proofs.Methods.{newest_read}
use Rattle.mpd_queue.proofs.lists.Lists.drop_newest.Goals as goal

pub unlink-requires-clause-item : goal.unlink-requires-clause-item
unlink-requires-clause-item c =
    let e : c.self.inside.shown ≡ c.args.self.now.lists = ap (λ (v : ListsView). v.lists) c.self.view_is in
    let w = newest_read c.self.inside.links c.self.inside.shown c.args.list c.self.invariant (rw e c.requires.list) (rw e c.requires.item) in
    let z : ℕ = w.0 in
    let same : Some z ≡ Some c.in-Some.item = sym w.1.0 ∙ ap (previous_at c.self.inside.links c.args.list) (sym c.none.ensures) ∙ sym c.previous-last.ensures ∙ sym c.item.ensures ∙ c.in-Some.is in
    let found : z ≡ c.in-Some.item = cc in
    rw (← e) (subst (λ (n : ℕ). 0 < places_in (list_at c.self.inside.shown c.args.list) n) found w.1.1)

pub unreachable-requires : goal.unreachable-requires
unreachable-requires c =
    let e : c.self.inside.shown ≡ c.args.self.now.lists = ap (λ (v : ListsView). v.lists) c.self.view_is in
    let w = newest_read c.self.inside.links c.self.inside.shown c.args.list c.self.invariant (rw e c.requires.list) (rw e c.requires.item) in
    let z : ℕ = w.0 in
    let same : Some z ≡ None = sym w.1.0 ∙ ap (previous_at c.self.inside.links c.args.list) (sym c.none.ensures) ∙ sym c.previous-last.ensures ∙ sym c.item.ensures ∙ c.in-None.is in
    cc

pub returns-clause-lists : goal.returns-clause-lists
returns-clause-lists c =
    let e : c.self.inside.shown ≡ c.args.self.now.lists = ap (λ (v : ListsView). v.lists) c.self.view_is in
    let w = newest_read c.self.inside.links c.self.inside.shown c.args.list c.self.invariant (rw e c.requires.list) (rw e c.requires.item) in
    let z : ℕ = w.0 in
    let same : Some z ≡ Some c.in-Some.item = sym w.1.0 ∙ ap (previous_at c.self.inside.links c.args.list) (sym c.none.ensures) ∙ sym c.previous-last.ensures ∙ sym c.item.ensures ∙ c.in-Some.is in
    let found : z ≡ c.in-Some.item = cc in
    c.unlink.ensures.lists
    ∙ rw (← e) (subst (λ (n : ℕ). with_removed c.self.inside.shown c.args.list n ≡ with_newest_dropped c.self.inside.shown c.args.list) found w.1.2)
