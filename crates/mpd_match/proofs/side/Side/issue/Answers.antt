use Rattle.std.proofs.Common.{◌≡◌, ◌<◌, ◌++◌, ◌∷◌, [], Some, None, length, sym, ap, ◌∙◌, refl, arith}
use Rattle.mpd_queue.specs.InOrder.{with_pushed}
use Rattle.mpd_match.specs.Views.{SideView}
use Rattle.mpd_match.specs.Lines.{line_of}
use Rattle.mpd_match.proofs.SideChanges.{not_yet_there, issued, issued_no_message, moved}
use Rattle.mpd_match.proofs.side.Side.issue.Goals as goal

pub invariant_of-self : goal.invariant_of-self
invariant_of-self c =
    let s = c.self.inside in
    let some : length s.calls.items < s.lists.room = omega (arith, c.requires.room, ap (λ (v : SideView). v.room) c.self.view_is) in
    moved (s.calls.items ++ c.args.call ∷ []) c.push_kept.new.self.items (s.marks.items ++ None ∷ []) c.push_kept-2.new.self.items s.lists.lists s.lists.lists s.lists.room s.lists.room
    c.push_kept.ensures.items c.push_kept-2.ensures.items refl refl
    (issued_no_message s.calls.items s.marks.items s.lists.lists s.lists.room c.args.call c.self.invariant (sym c.line_of.ensures ∙ c.in_default.is) some)

pub push_back-requires-clause-free : goal.push_back-requires-clause-free
push_back-requires-clause-free c =
    let s = c.self.inside in
    rw c.len-index.ensures (not_yet_there s.calls.items s.marks.items s.lists.lists s.lists.room c.self.invariant)

pub invariant_of-self-2 : goal.invariant_of-self-2
invariant_of-self-2 c =
    let s = c.self.inside in
    let some : length s.calls.items < s.lists.room = omega (arith, c.requires.room, ap (λ (v : SideView). v.room) c.self.view_is) in
    let at : line_of (Some c.args.call.kind) ≡ Some c.in-Some.line = sym c.line_of.ensures ∙ c.in-Some.is in
    let among : c.in-Some.line < length s.lists.lists = omega (arith, c.requires.line c.in-Some.line at, ap (λ (v : SideView). v.lines) c.self.view_is) in
    moved (s.calls.items ++ c.args.call ∷ []) c.push_kept.new.self.items (s.marks.items ++ None ∷ []) c.push_kept-2.new.self.items
    (with_pushed s.lists.lists c.in-Some.line (length s.calls.items)) c.push_back.new.self.lists s.lists.room c.push_back.new.self.room
    c.push_kept.ensures.items c.push_kept-2.ensures.items
    (c.push_back.ensures.lists ∙ ap (with_pushed s.lists.lists c.in-Some.line) c.len-index.ensures) c.push_back.ensures.room
    (issued s.calls.items s.marks.items s.lists.lists s.lists.room c.args.call c.in-Some.line c.self.invariant at among some)
