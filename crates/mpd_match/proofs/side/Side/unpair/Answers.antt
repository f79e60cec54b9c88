use Rattle.std.proofs.Common.{◌≡◌, None, ap, refl, slice_set}
use Rattle.mpd_queue.specs.InOrder.{with_inserted}
use Rattle.mpd_match.specs.Views.{SideView}
use Rattle.mpd_match.proofs.SideChanges.{stands_nowhere, spot_in_line, now_free, moved}
use Rattle.mpd_match.proofs.side.Side.unpair.Goals as goal

pub relink-requires-clause-free : goal.relink-requires-clause-free
relink-requires-clause-free c =
    let s = c.self.inside in
    let ec : s.calls.items ≡ c.args.self.now.calls = ap (λ (v : SideView). v.calls) c.self.view_is in
    let em : s.marks.items ≡ c.args.self.now.marks = ap (λ (v : SideView). v.marks) c.self.view_is in
    stands_nowhere s.calls.items s.marks.items s.lists.lists s.lists.room c.args.index c.self.invariant (rw em c.requires.paired)

pub relink-requires-clause-spot : goal.relink-requires-clause-spot
relink-requires-clause-spot c =
    let s = c.self.inside in
    let ec : s.calls.items ≡ c.args.self.now.calls = ap (λ (v : SideView). v.calls) c.self.view_is in
    let em : s.marks.items ≡ c.args.self.now.marks = ap (λ (v : SideView). v.marks) c.self.view_is in
    spot_in_line s.calls.items s.marks.items s.lists.lists s.lists.room c.args.line c.args.index c.args.spot c.self.invariant (rw ec c.requires.line) (rw em c.requires.paired) (rw (ec, em) c.requires.spot)

pub invariant_of-self : goal.invariant_of-self
invariant_of-self c =
    let s = c.self.inside in
    let ec : s.calls.items ≡ c.args.self.now.calls = ap (λ (v : SideView). v.calls) c.self.view_is in
    let em : s.marks.items ≡ c.args.self.now.marks = ap (λ (v : SideView). v.marks) c.self.view_is in
    moved s.calls.items s.calls.items (slice_set s.marks.items c.args.index None) c.set.new.self.items
    (with_inserted s.lists.lists c.args.line c.args.index c.args.spot) c.relink.new.self.lists s.lists.room c.relink.new.self.room
    refl c.set.ensures.items c.relink.ensures.lists c.relink.ensures.room
    (now_free s.calls.items s.marks.items s.lists.lists s.lists.room c.args.line c.args.index c.args.spot c.self.invariant (rw ec c.requires.line) (rw em c.requires.paired) (rw (ec, em) c.requires.spot))
