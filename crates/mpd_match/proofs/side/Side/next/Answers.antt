use Rattle.std.proofs.Common.{◌≡◌, ℕ, List, Some, None, ap, ◌∙◌}
use Rattle.mpd_queue.specs.InOrder.{next_of}
use Rattle.mpd_match.specs.Views.{SideView}
use Rattle.mpd_match.specs.Lines.{line_of, kind_in, mark_in}
use Rattle.mpd_match.proofs.SideChanges.{free_stands, stands_in_line}
use Rattle.mpd_match.proofs.side.Side.next.Goals as goal

pub next-requires : goal.next-requires
next-requires c =
    let s = c.self.inside in
    let ec : s.calls.items ≡ c.args.self.now.calls = ap (λ (v : SideView). v.calls) c.self.view_is in
    let em : s.marks.items ≡ c.args.self.now.marks = ap (λ (v : SideView). v.marks) c.self.view_is in
    free_stands s.calls.items s.marks.items s.lists.lists s.lists.room c.args.index c.self.invariant (rw ec c.requires.line) (rw em c.requires.free)

pub returns-clause-next : goal.returns-clause-next
returns-clause-next c = λ line at.
    let s = c.self.inside in
    let ec : s.calls.items ≡ c.args.self.now.calls = ap (λ (v : SideView). v.calls) c.self.view_is in
    let em : s.marks.items ≡ c.args.self.now.marks = ap (λ (v : SideView). v.marks) c.self.view_is in
    let here : line_of (kind_in s.calls.items c.args.index) ≡ Some line = rw ec at in
    let free : mark_in s.marks.items c.args.index ≡ None = rw em c.requires.free in
    rw (← ec, ← em)
    (c.next.ensures.next line (stands_in_line s.calls.items s.marks.items s.lists.lists s.lists.room line c.args.index c.self.invariant here free)
    ∙ ap (λ (zs : List ℕ). next_of zs c.args.index) (c.self.invariant.lines line (c.self.invariant.within c.args.index line here)))
