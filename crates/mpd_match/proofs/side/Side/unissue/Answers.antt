use Rattle.std.proofs.Common.{◌≡◌, ◌<◌, ◌+◌, ◌-◌, ◌++◌, ◌∷◌, [], Some, None, length, length-append, sym, ap, ◌∙◌, refl, arith}
use Rattle.mpd_queue.specs.InOrder.{with_newest_dropped}
use Rattle.mpd_match.specs.Views.{SideView}
use Rattle.mpd_match.specs.Lines.{line_of, kind_in, mark_in, waiting}
use Rattle.mpd_match.specs.Changes.{unissue_writes}
use Rattle.mpd_match.specs.Held.{InLine}
use Rattle.mpd_match.proofs.InLines.{kind_last}
use Rattle.mpd_match.proofs.SideChanges.{still_in_line, newest_there, unissued, unissued_no_message, moved, kind_taken, written_once, writes_no_line, writes_in_line}
use Rattle.mpd_match.proofs.side.Side.unissue.Goals as goal

pub line_of-requires : goal.line_of-requires
line_of-requires c = λ line at.
    let s = c.self.inside in
    let ec : s.calls.items ≡ c.args.self.now.calls = ap (λ (v : SideView). v.calls) c.self.view_is in
    let em : s.marks.items ≡ c.args.self.now.marks = ap (λ (v : SideView). v.marks) c.self.view_is in
    let free : mark_in s.marks.items (length s.calls.items - 1) ≡ None = rw (ec, em) c.requires.free in
    let h : InLine (c.pop-2.new.self.items ++ c.in-Some.call ∷ []) (c.pop.new.self.items ++ None ∷ []) s.lists.lists s.lists.room =
    still_in_line _ _ s.calls.items c.pop-2.new.self.items s.marks.items c.pop.new.self.items s.lists.lists s.lists.room c.in-Some.call c.pop.result c.self.invariant c.in-Some.ensures.items c.pop.ensures.items c.pop.ensures.empty free in
    omega (arith, h.within (length c.pop-2.new.self.items) line (ap line_of (kind_last c.pop-2.new.self.items c.in-Some.call) ∙ at), h.few)

pub invariant_of-self : goal.invariant_of-self
invariant_of-self c =
    let s = c.self.inside in
    let ec : s.calls.items ≡ c.args.self.now.calls = ap (λ (v : SideView). v.calls) c.self.view_is in
    let em : s.marks.items ≡ c.args.self.now.marks = ap (λ (v : SideView). v.marks) c.self.view_is in
    let free : mark_in s.marks.items (length s.calls.items - 1) ≡ None = rw (ec, em) c.requires.free in
    let h : InLine (c.pop-2.new.self.items ++ c.in-Some.call ∷ []) (c.pop.new.self.items ++ None ∷ []) s.lists.lists s.lists.room =
    still_in_line _ _ s.calls.items c.pop-2.new.self.items s.marks.items c.pop.new.self.items s.lists.lists s.lists.room c.in-Some.call c.pop.result c.self.invariant c.in-Some.ensures.items c.pop.ensures.items c.pop.ensures.empty free in
    unissued_no_message c.pop-2.new.self.items c.pop.new.self.items s.lists.lists s.lists.room c.in-Some.call h (sym c.line_of.ensures ∙ c.in_default-line_of.is)

pub returns-in_default-line_of-clause-writes : goal.returns-in_default-line_of-clause-writes
returns-in_default-line_of-clause-writes c =
    let s = c.self.inside in
    let ec : s.calls.items ≡ c.args.self.now.calls = ap (λ (v : SideView). v.calls) c.self.view_is in
    let em : s.marks.items ≡ c.args.self.now.marks = ap (λ (v : SideView). v.marks) c.self.view_is in
    let some : 0 < length s.marks.items = omega (arith, c.self.invariant.same, c.requires.some, ap length ec) in
    let marked : c.pop.new.self.writes ≡ s.marks.writes + 1 = written_once _ s.marks.items c.pop.result s.marks.writes c.pop.new.self.writes s.marks.room c.pop.new.self.room c.pop.ensures.last c.pop.ensures.empty some in
    let called : c.pop-2.new.self.writes ≡ s.calls.writes + 1 = c.in-Some.ensures.last.1 in
    let all : s.calls.writes + s.marks.writes + s.lists.writes ≡ c.args.self.now.writes = ap (λ (v : SideView). v.writes) c.self.view_is in
    let kind : kind_in c.args.self.now.calls (length c.args.self.now.calls - 1) ≡ Some c.in-Some.call.kind = rw (← ec) (kind_taken s.calls.items c.pop-2.new.self.items c.in-Some.call c.in-Some.ensures.items) in
    let cost : unissue_writes (kind_in c.args.self.now.calls (length c.args.self.now.calls - 1)) ≡ 2 = ap unissue_writes kind ∙ writes_no_line c.in-Some.call.kind (sym c.line_of.ensures ∙ c.in_default-line_of.is) in
    omega (arith, marked, called, all, cost)

pub drop_newest-requires-clause-list : goal.drop_newest-requires-clause-list
drop_newest-requires-clause-list c =
    let s = c.self.inside in
    let ec : s.calls.items ≡ c.args.self.now.calls = ap (λ (v : SideView). v.calls) c.self.view_is in
    let em : s.marks.items ≡ c.args.self.now.marks = ap (λ (v : SideView). v.marks) c.self.view_is in
    let free : mark_in s.marks.items (length s.calls.items - 1) ≡ None = rw (ec, em) c.requires.free in
    let h : InLine (c.pop-2.new.self.items ++ c.in-Some.call ∷ []) (c.pop.new.self.items ++ None ∷ []) s.lists.lists s.lists.room =
    still_in_line _ _ s.calls.items c.pop-2.new.self.items s.marks.items c.pop.new.self.items s.lists.lists s.lists.room c.in-Some.call c.pop.result c.self.invariant c.in-Some.ensures.items c.pop.ensures.items c.pop.ensures.empty free in
    (newest_there c.pop-2.new.self.items c.pop.new.self.items s.lists.lists s.lists.room c.in-Some.call c.in-Some-line_of.line h (sym c.line_of.ensures ∙ c.in-Some-line_of.is)).0

pub drop_newest-requires-clause-item : goal.drop_newest-requires-clause-item
drop_newest-requires-clause-item c =
    let s = c.self.inside in
    let ec : s.calls.items ≡ c.args.self.now.calls = ap (λ (v : SideView). v.calls) c.self.view_is in
    let em : s.marks.items ≡ c.args.self.now.marks = ap (λ (v : SideView). v.marks) c.self.view_is in
    let free : mark_in s.marks.items (length s.calls.items - 1) ≡ None = rw (ec, em) c.requires.free in
    let h : InLine (c.pop-2.new.self.items ++ c.in-Some.call ∷ []) (c.pop.new.self.items ++ None ∷ []) s.lists.lists s.lists.room =
    still_in_line _ _ s.calls.items c.pop-2.new.self.items s.marks.items c.pop.new.self.items s.lists.lists s.lists.room c.in-Some.call c.pop.result c.self.invariant c.in-Some.ensures.items c.pop.ensures.items c.pop.ensures.empty free in
    let there = newest_there c.pop-2.new.self.items c.pop.new.self.items s.lists.lists s.lists.room c.in-Some.call c.in-Some-line_of.line h (sym c.line_of.ensures ∙ c.in-Some-line_of.is) in
    rw there.1 (omega (arith, length-append (waiting c.pop-2.new.self.items (mark_in c.pop.new.self.items) c.in-Some-line_of.line) (length c.pop-2.new.self.items ∷ [])))

pub invariant_of-self-2 : goal.invariant_of-self-2
invariant_of-self-2 c =
    let s = c.self.inside in
    let ec : s.calls.items ≡ c.args.self.now.calls = ap (λ (v : SideView). v.calls) c.self.view_is in
    let em : s.marks.items ≡ c.args.self.now.marks = ap (λ (v : SideView). v.marks) c.self.view_is in
    let free : mark_in s.marks.items (length s.calls.items - 1) ≡ None = rw (ec, em) c.requires.free in
    let h : InLine (c.pop-2.new.self.items ++ c.in-Some.call ∷ []) (c.pop.new.self.items ++ None ∷ []) s.lists.lists s.lists.room =
    still_in_line _ _ s.calls.items c.pop-2.new.self.items s.marks.items c.pop.new.self.items s.lists.lists s.lists.room c.in-Some.call c.pop.result c.self.invariant c.in-Some.ensures.items c.pop.ensures.items c.pop.ensures.empty free in
    moved c.pop-2.new.self.items c.pop-2.new.self.items c.pop.new.self.items c.pop.new.self.items
    (with_newest_dropped s.lists.lists c.in-Some-line_of.line) c.drop_newest.new.self.lists s.lists.room c.drop_newest.new.self.room
    refl refl c.drop_newest.ensures.lists c.drop_newest.ensures.room
    (unissued c.pop-2.new.self.items c.pop.new.self.items s.lists.lists s.lists.room c.in-Some.call c.in-Some-line_of.line h (sym c.line_of.ensures ∙ c.in-Some-line_of.is))

pub returns-clause-writes : goal.returns-clause-writes
returns-clause-writes c =
    let s = c.self.inside in
    let ec : s.calls.items ≡ c.args.self.now.calls = ap (λ (v : SideView). v.calls) c.self.view_is in
    let em : s.marks.items ≡ c.args.self.now.marks = ap (λ (v : SideView). v.marks) c.self.view_is in
    let some : 0 < length s.marks.items = omega (arith, c.self.invariant.same, c.requires.some, ap length ec) in
    let marked : c.pop.new.self.writes ≡ s.marks.writes + 1 = written_once _ s.marks.items c.pop.result s.marks.writes c.pop.new.self.writes s.marks.room c.pop.new.self.room c.pop.ensures.last c.pop.ensures.empty some in
    let called : c.pop-2.new.self.writes ≡ s.calls.writes + 1 = c.in-Some.ensures.last.1 in
    let all : s.calls.writes + s.marks.writes + s.lists.writes ≡ c.args.self.now.writes = ap (λ (v : SideView). v.writes) c.self.view_is in
    let kind : kind_in c.args.self.now.calls (length c.args.self.now.calls - 1) ≡ Some c.in-Some.call.kind = rw (← ec) (kind_taken s.calls.items c.pop-2.new.self.items c.in-Some.call c.in-Some.ensures.items) in
    let cost : unissue_writes (kind_in c.args.self.now.calls (length c.args.self.now.calls - 1)) ≡ 4 = ap unissue_writes kind ∙ writes_in_line c.in-Some.call.kind c.in-Some-line_of.line (sym c.line_of.ensures ∙ c.in-Some-line_of.is) in
    omega (arith, marked, called, all, cost, c.drop_newest.ensures.writes)
