use Rattle.std.proofs.Common.{◌≡◌, ◌<◌, List, Option, Some, length, ap, ◌∙◌, refl, slice_set, arith}
use Rattle.mpd_model.specs.declared.step.CallId.{CallId}
use Rattle.mpd_queue.specs.InOrder.{with_removed}
use Rattle.mpd_match.specs.Views.{SideView}
use Rattle.mpd_match.specs.Lines.{mark_in, with_mark}
use Rattle.mpd_match.proofs.InLines.{exists, mark_set}
use Rattle.mpd_match.proofs.SideChanges.{stands_in_line, now_paired, moved}
use Rattle.mpd_match.proofs.side.Side.pair.Goals as goal

pub unlink-requires-clause-item : goal.unlink-requires-clause-item
unlink-requires-clause-item c =
    let s = c.self.inside in
    let ec : s.calls.items ≡ c.args.self.now.calls = ap (λ (v : SideView). v.calls) c.self.view_is in
    let em : s.marks.items ≡ c.args.self.now.marks = ap (λ (v : SideView). v.marks) c.self.view_is in
    stands_in_line s.calls.items s.marks.items s.lists.lists s.lists.room c.args.line c.args.index c.self.invariant (rw ec c.requires.line) (rw em c.requires.free)

pub invariant_of-self : goal.invariant_of-self
invariant_of-self c =
    let s = c.self.inside in
    let ec : s.calls.items ≡ c.args.self.now.calls = ap (λ (v : SideView). v.calls) c.self.view_is in
    let em : s.marks.items ≡ c.args.self.now.marks = ap (λ (v : SideView). v.marks) c.self.view_is in
    moved s.calls.items s.calls.items (slice_set s.marks.items c.args.index (Some c.args.partner)) c.set.new.self.items
    (with_removed s.lists.lists c.args.line c.args.index) c.unlink.new.self.lists s.lists.room c.unlink.new.self.room
    refl c.set.ensures.items c.unlink.ensures.lists c.unlink.ensures.room
    (now_paired s.calls.items s.marks.items s.lists.lists s.lists.room c.args.line c.args.index c.args.partner c.self.invariant (rw ec c.requires.line) (rw em c.requires.free))

pub returns-clause-marks : goal.returns-clause-marks
returns-clause-marks c = λ i.
    let s = c.self.inside in
    let ec : s.calls.items ≡ c.args.self.now.calls = ap (λ (v : SideView). v.calls) c.self.view_is in
    let em : s.marks.items ≡ c.args.self.now.marks = ap (λ (v : SideView). v.marks) c.self.view_is in
    let there : c.args.index < length s.calls.items = exists s.calls.items c.args.index c.args.line (rw ec c.requires.line) in
    ap (λ (zs : List (Option CallId)). mark_in zs i) c.set.ensures.items
    ∙ mark_set s.marks.items c.args.index (Some c.args.partner) i (omega (arith, there, c.self.invariant.same))
    ∙ ap (λ (zs : List (Option CallId)). with_mark (mark_in zs) c.args.index (Some c.args.partner) i) em
