use Rattle.std.proofs.Common.{rules, ◌≡◌, ◌<◌, ◌+◌, suc, Bool, true, false, ◌&&◌, not, nat_lt, Option, List, length, sym, ap, subst, ◌∙◌, arith}
use Rattle.std.specs.List.{list_any}
use Rattle.mpd_model.specs.declared.step.CallId.{CallId}
use Rattle.mpd_model.specs.declared.call.CallKind.{CallKind}
use Rattle.mpd_model.specs.steps.World.{Board, call_id, kind_at, is_free, fits, fitting, posted}
use Rattle.mpd_match.specs.Views.{SideView, BoardView, side_at, board_in}
use Rattle.mpd_match.specs.Lines.{kind_in, mark_in, waiting, fitting_either, passed, has_earlier}
use Rattle.mpd_match.specs.Looks.{send_looks, recv_looks, has_earlier_send}
use Rattle.mpd_match.specs.Held.{Meets}
use Rattle.mpd_match.proofs.AtSide.{read_side, lines_at}
use Rattle.mpd_match.proofs.Boards.{side_exists}
use Rattle.mpd_match.proofs.Eligible.{lines_of_fitting, earlier_send, earlier_recv, send_passed, recv_passed, few_send_looks, few_recv_looks, looks_blocked, looks_both, eligible_is}
use Rattle.mpd_match.proofs.board.Board.eligible.Goals as goal

pub has_earlier-requires : goal.has_earlier-requires
has_earlier-requires c =
    let s = c.self.inside in
    let sides : List SideView = s.sides.items in
    let now : Board = c.args.self.now.board in
    let send : CallId = c.args.send in
    let recv : CallId = c.args.recv in
    let e : board_in s.mode sides s.sets.items ≡ now = ap (λ (v : BoardView). v.board) c.self.view_is in
    let h : Meets (board_in s.mode sides s.sets.items) sides = c.self.invariant.meets in
    let fitted : c.is_fitting.result ≡ true = search rules in
    let fit : fits now send recv ≡ true = ap (λ (k : Option CallKind). fitting k (kind_at now recv) send.rank recv.rank) (sym c.kind-send_kind.ensures)
    ∙ ap (λ (k : Option CallKind). fitting c.kind-send_kind.result k send.rank recv.rank) (sym c.kind-recv_kind.ensures)
    ∙ sym c.is_fitting.ensures
    ∙ fitted in
    let fit_b : fits (board_in s.mode sides s.sets.items) send recv ≡ true = subst (λ (b : Board). fits b send recv ≡ true) (sym e) fit in
    let lines = lines_of_fitting s.mode sides s.sets.items send recv fit_b in
    let sender : send.rank < length sides = side_exists sides send (recv.rank + 1) lines.0 in
    let receiver : recv.rank < length sides = side_exists sides recv 0 lines.1 in
    let v : SideView = c.index-sender.result.now in
    let side : side_at sides send.rank ≡ v = read_side sides send.rank v sender c.index-sender.ensures in
    let wide : v.lines ≡ suc (length sides) = ap (λ (u : SideView). u.lines) (sym side) ∙ lines_at sides send.rank sender h.lines in
    omega (arith, receiver, wide)

pub returns-then-has_earlier-clause-eligible : goal.returns-then-has_earlier-clause-eligible
returns-then-has_earlier-clause-eligible c =
    let s = c.self.inside in
    let sides : List SideView = s.sides.items in
    let now : Board = c.args.self.now.board in
    let send : CallId = c.args.send in
    let recv : CallId = c.args.recv in
    let e : board_in s.mode sides s.sets.items ≡ now = ap (λ (v : BoardView). v.board) c.self.view_is in
    let h : Meets (board_in s.mode sides s.sets.items) sides = c.self.invariant.meets in
    let fitted : c.is_fitting.result ≡ true = search rules in
    let fit : fits now send recv ≡ true = ap (λ (k : Option CallKind). fitting k (kind_at now recv) send.rank recv.rank) (sym c.kind-send_kind.ensures)
    ∙ ap (λ (k : Option CallKind). fitting c.kind-send_kind.result k send.rank recv.rank) (sym c.kind-recv_kind.ensures)
    ∙ sym c.is_fitting.ensures
    ∙ fitted in
    let fit_b : fits (board_in s.mode sides s.sets.items) send recv ≡ true = subst (λ (b : Board). fits b send recv ≡ true) (sym e) fit in
    let lines = lines_of_fitting s.mode sides s.sets.items send recv fit_b in
    let sender : send.rank < length sides = side_exists sides send (recv.rank + 1) lines.0 in
    let receiver : recv.rank < length sides = side_exists sides recv 0 lines.1 in
    let v : SideView = c.index-sender.result.now in
    let side : side_at sides send.rank ≡ v = read_side sides send.rank v sender c.index-sender.ensures in
    let send_free : c.is_free.result ≡ true = search rules in
    let recv_free : c.is_free-2.result ≡ true = search rules in
    let fs : is_free now send ≡ true = sym c.is_free.ensures ∙ send_free in
    let fr : is_free now recv ≡ true = sym c.is_free-2.ensures ∙ recv_free in
    let kr : c.kind-recv_kind.result ≡ kind_at (board_in s.mode sides s.sets.items) recv = c.kind-recv_kind.ensures ∙ ap (λ (b : Board). kind_at b recv) (sym e) in
    let earlier : c.has_earlier.result ≡ has_earlier_send now send recv = c.has_earlier.ensures.found
    ∙ ap (λ (k : Option CallKind). has_earlier v.calls (mark_in v.marks) (recv.rank + 1) send.index k send.rank recv.rank) kr
    ∙ earlier_send s.mode sides s.sets.items send recv h fit_b v side
    ∙ ap (λ (b : Board). has_earlier_send b send recv) e in
    let blocked : has_earlier_send now send recv ≡ true = sym earlier ∙ c.if-has_earlier.true in
    sym (eligible_is now send recv fit fs fr ∙ ap (λ (t : Bool). not t && not (list_any (λ i. nat_lt i recv.index && fits now send (call_id recv.rank i)) (posted now recv.rank))) blocked)

pub returns-then-has_earlier-clause-looks : goal.returns-then-has_earlier-clause-looks
returns-then-has_earlier-clause-looks c =
    let s = c.self.inside in
    let sides : List SideView = s.sides.items in
    let now : Board = c.args.self.now.board in
    let send : CallId = c.args.send in
    let recv : CallId = c.args.recv in
    let e : board_in s.mode sides s.sets.items ≡ now = ap (λ (v : BoardView). v.board) c.self.view_is in
    let h : Meets (board_in s.mode sides s.sets.items) sides = c.self.invariant.meets in
    let fitted : c.is_fitting.result ≡ true = search rules in
    let fit : fits now send recv ≡ true = ap (λ (k : Option CallKind). fitting k (kind_at now recv) send.rank recv.rank) (sym c.kind-send_kind.ensures)
    ∙ ap (λ (k : Option CallKind). fitting c.kind-send_kind.result k send.rank recv.rank) (sym c.kind-recv_kind.ensures)
    ∙ sym c.is_fitting.ensures
    ∙ fitted in
    let fit_b : fits (board_in s.mode sides s.sets.items) send recv ≡ true = subst (λ (b : Board). fits b send recv ≡ true) (sym e) fit in
    let lines = lines_of_fitting s.mode sides s.sets.items send recv fit_b in
    let sender : send.rank < length sides = side_exists sides send (recv.rank + 1) lines.0 in
    let receiver : recv.rank < length sides = side_exists sides recv 0 lines.1 in
    let v : SideView = c.index-sender.result.now in
    let side : side_at sides send.rank ≡ v = read_side sides send.rank v sender c.index-sender.ensures in
    let send_free : c.is_free.result ≡ true = search rules in
    let recv_free : c.is_free-2.result ≡ true = search rules in
    let fs : is_free now send ≡ true = sym c.is_free.ensures ∙ send_free in
    let fr : is_free now recv ≡ true = sym c.is_free-2.ensures ∙ recv_free in
    let kr : c.kind-recv_kind.result ≡ kind_at (board_in s.mode sides s.sets.items) recv = c.kind-recv_kind.ensures ∙ ap (λ (b : Board). kind_at b recv) (sym e) in
    let earlier : c.has_earlier.result ≡ has_earlier_send now send recv = c.has_earlier.ensures.found
    ∙ ap (λ (k : Option CallKind). has_earlier v.calls (mark_in v.marks) (recv.rank + 1) send.index k send.rank recv.rank) kr
    ∙ earlier_send s.mode sides s.sets.items send recv h fit_b v side
    ∙ ap (λ (b : Board). has_earlier_send b send recv) e in
    let looked : 1 + passed (λ i. fitting_either (kind_in v.calls i) c.kind-recv_kind.result send.rank recv.rank) send.index (waiting v.calls (mark_in v.marks) (recv.rank + 1)) ≡ send_looks now send recv =
    ap (λ (k : Option CallKind). 1 + passed (λ i. fitting_either (kind_in v.calls i) k send.rank recv.rank) send.index (waiting v.calls (mark_in v.marks) (recv.rank + 1))) kr
    ∙ send_passed s.mode sides s.sets.items send recv h fit_b v side
    ∙ ap (λ (b : Board). send_looks b send recv) e in
    let blocked : has_earlier_send now send recv ≡ true = sym earlier ∙ c.if-has_earlier.true in
    omega (arith, c.has_earlier.ensures.looks, looked, looks_blocked now send recv fit fs fr blocked)

pub returns-then-has_earlier-clause-at_most : goal.returns-then-has_earlier-clause-at_most
returns-then-has_earlier-clause-at_most c =
    let s = c.self.inside in
    let sides : List SideView = s.sides.items in
    let now : Board = c.args.self.now.board in
    let send : CallId = c.args.send in
    let recv : CallId = c.args.recv in
    let e : board_in s.mode sides s.sets.items ≡ now = ap (λ (v : BoardView). v.board) c.self.view_is in
    let h : Meets (board_in s.mode sides s.sets.items) sides = c.self.invariant.meets in
    let fitted : c.is_fitting.result ≡ true = search rules in
    let fit : fits now send recv ≡ true = ap (λ (k : Option CallKind). fitting k (kind_at now recv) send.rank recv.rank) (sym c.kind-send_kind.ensures)
    ∙ ap (λ (k : Option CallKind). fitting c.kind-send_kind.result k send.rank recv.rank) (sym c.kind-recv_kind.ensures)
    ∙ sym c.is_fitting.ensures
    ∙ fitted in
    let fit_b : fits (board_in s.mode sides s.sets.items) send recv ≡ true = subst (λ (b : Board). fits b send recv ≡ true) (sym e) fit in
    let lines = lines_of_fitting s.mode sides s.sets.items send recv fit_b in
    let sender : send.rank < length sides = side_exists sides send (recv.rank + 1) lines.0 in
    let receiver : recv.rank < length sides = side_exists sides recv 0 lines.1 in
    let v : SideView = c.index-sender.result.now in
    let side : side_at sides send.rank ≡ v = read_side sides send.rank v sender c.index-sender.ensures in
    let kr : c.kind-recv_kind.result ≡ kind_at (board_in s.mode sides s.sets.items) recv = c.kind-recv_kind.ensures ∙ ap (λ (b : Board). kind_at b recv) (sym e) in
    let earlier : c.has_earlier.result ≡ has_earlier_send now send recv = c.has_earlier.ensures.found
    ∙ ap (λ (k : Option CallKind). has_earlier v.calls (mark_in v.marks) (recv.rank + 1) send.index k send.rank recv.rank) kr
    ∙ earlier_send s.mode sides s.sets.items send recv h fit_b v side
    ∙ ap (λ (b : Board). has_earlier_send b send recv) e in
    let looked : 1 + passed (λ i. fitting_either (kind_in v.calls i) c.kind-recv_kind.result send.rank recv.rank) send.index (waiting v.calls (mark_in v.marks) (recv.rank + 1)) ≡ send_looks now send recv =
    ap (λ (k : Option CallKind). 1 + passed (λ i. fitting_either (kind_in v.calls i) k send.rank recv.rank) send.index (waiting v.calls (mark_in v.marks) (recv.rank + 1))) kr
    ∙ send_passed s.mode sides s.sets.items send recv h fit_b v side
    ∙ ap (λ (b : Board). send_looks b send recv) e in
    omega (arith, c.has_earlier.ensures.looks, looked, few_send_looks now send recv)

pub index-receiver-requires : goal.index-receiver-requires
index-receiver-requires c =
    let s = c.self.inside in
    let sides : List SideView = s.sides.items in
    let now : Board = c.args.self.now.board in
    let send : CallId = c.args.send in
    let recv : CallId = c.args.recv in
    let e : board_in s.mode sides s.sets.items ≡ now = ap (λ (v : BoardView). v.board) c.self.view_is in
    let h : Meets (board_in s.mode sides s.sets.items) sides = c.self.invariant.meets in
    let fitted : c.is_fitting.result ≡ true = search rules in
    let fit : fits now send recv ≡ true = ap (λ (k : Option CallKind). fitting k (kind_at now recv) send.rank recv.rank) (sym c.kind-send_kind.ensures)
    ∙ ap (λ (k : Option CallKind). fitting c.kind-send_kind.result k send.rank recv.rank) (sym c.kind-recv_kind.ensures)
    ∙ sym c.is_fitting.ensures
    ∙ fitted in
    let fit_b : fits (board_in s.mode sides s.sets.items) send recv ≡ true = subst (λ (b : Board). fits b send recv ≡ true) (sym e) fit in
    let lines = lines_of_fitting s.mode sides s.sets.items send recv fit_b in
    let sender : send.rank < length sides = side_exists sides send (recv.rank + 1) lines.0 in
    let receiver : recv.rank < length sides = side_exists sides recv 0 lines.1 in
    search rules

pub has_earlier-requires-2 : goal.has_earlier-requires-2
has_earlier-requires-2 c =
    let s = c.self.inside in
    let sides : List SideView = s.sides.items in
    let now : Board = c.args.self.now.board in
    let send : CallId = c.args.send in
    let recv : CallId = c.args.recv in
    let e : board_in s.mode sides s.sets.items ≡ now = ap (λ (v : BoardView). v.board) c.self.view_is in
    let h : Meets (board_in s.mode sides s.sets.items) sides = c.self.invariant.meets in
    let fitted : c.is_fitting.result ≡ true = search rules in
    let fit : fits now send recv ≡ true = ap (λ (k : Option CallKind). fitting k (kind_at now recv) send.rank recv.rank) (sym c.kind-send_kind.ensures)
    ∙ ap (λ (k : Option CallKind). fitting c.kind-send_kind.result k send.rank recv.rank) (sym c.kind-recv_kind.ensures)
    ∙ sym c.is_fitting.ensures
    ∙ fitted in
    let fit_b : fits (board_in s.mode sides s.sets.items) send recv ≡ true = subst (λ (b : Board). fits b send recv ≡ true) (sym e) fit in
    let lines = lines_of_fitting s.mode sides s.sets.items send recv fit_b in
    let sender : send.rank < length sides = side_exists sides send (recv.rank + 1) lines.0 in
    let receiver : recv.rank < length sides = side_exists sides recv 0 lines.1 in
    let w : SideView = c.index-receiver.result.now in
    let other : side_at sides recv.rank ≡ w = read_side sides recv.rank w receiver c.index-receiver.ensures in
    let wide : w.lines ≡ suc (length sides) = ap (λ (u : SideView). u.lines) (sym other) ∙ lines_at sides recv.rank receiver h.lines in
    omega (arith, wide)

pub returns-clause-eligible : goal.returns-clause-eligible
returns-clause-eligible c =
    let s = c.self.inside in
    let sides : List SideView = s.sides.items in
    let now : Board = c.args.self.now.board in
    let send : CallId = c.args.send in
    let recv : CallId = c.args.recv in
    let e : board_in s.mode sides s.sets.items ≡ now = ap (λ (v : BoardView). v.board) c.self.view_is in
    let h : Meets (board_in s.mode sides s.sets.items) sides = c.self.invariant.meets in
    let fitted : c.is_fitting.result ≡ true = search rules in
    let fit : fits now send recv ≡ true = ap (λ (k : Option CallKind). fitting k (kind_at now recv) send.rank recv.rank) (sym c.kind-send_kind.ensures)
    ∙ ap (λ (k : Option CallKind). fitting c.kind-send_kind.result k send.rank recv.rank) (sym c.kind-recv_kind.ensures)
    ∙ sym c.is_fitting.ensures
    ∙ fitted in
    let fit_b : fits (board_in s.mode sides s.sets.items) send recv ≡ true = subst (λ (b : Board). fits b send recv ≡ true) (sym e) fit in
    let lines = lines_of_fitting s.mode sides s.sets.items send recv fit_b in
    let sender : send.rank < length sides = side_exists sides send (recv.rank + 1) lines.0 in
    let receiver : recv.rank < length sides = side_exists sides recv 0 lines.1 in
    let v : SideView = c.index-sender.result.now in
    let side : side_at sides send.rank ≡ v = read_side sides send.rank v sender c.index-sender.ensures in
    let w : SideView = c.index-receiver.result.now in
    let other : side_at sides recv.rank ≡ w = read_side sides recv.rank w receiver c.index-receiver.ensures in
    let send_free : c.is_free.result ≡ true = search rules in
    let recv_free : c.is_free-2.result ≡ true = search rules in
    let fs : is_free now send ≡ true = sym c.is_free.ensures ∙ send_free in
    let fr : is_free now recv ≡ true = sym c.is_free-2.ensures ∙ recv_free in
    let kr : c.kind-recv_kind.result ≡ kind_at (board_in s.mode sides s.sets.items) recv = c.kind-recv_kind.ensures ∙ ap (λ (b : Board). kind_at b recv) (sym e) in
    let earlier : c.has_earlier.result ≡ has_earlier_send now send recv = c.has_earlier.ensures.found
    ∙ ap (λ (k : Option CallKind). has_earlier v.calls (mark_in v.marks) (recv.rank + 1) send.index k send.rank recv.rank) kr
    ∙ earlier_send s.mode sides s.sets.items send recv h fit_b v side
    ∙ ap (λ (b : Board). has_earlier_send b send recv) e in
    let ks : c.kind-send_kind.result ≡ kind_at (board_in s.mode sides s.sets.items) send = c.kind-send_kind.ensures ∙ ap (λ (b : Board). kind_at b send) (sym e) in
    let earlier_there : c.has_earlier-2.result ≡ list_any (λ i. nat_lt i recv.index && fits now send (call_id recv.rank i)) (posted now recv.rank) = c.has_earlier-2.ensures.found
    ∙ ap (λ (k : Option CallKind). has_earlier w.calls (mark_in w.marks) 0 recv.index k send.rank recv.rank) ks
    ∙ earlier_recv s.mode sides s.sets.items send recv h fit_b w other
    ∙ ap (λ (b : Board). list_any (λ i. nat_lt i recv.index && fits b send (call_id recv.rank i)) (posted b recv.rank)) e in
    let clear : has_earlier_send now send recv ≡ false = sym earlier ∙ c.if-has_earlier.false in
    sym (eligible_is now send recv fit fs fr
    ∙ ap (λ (t : Bool). not t && not (list_any (λ i. nat_lt i recv.index && fits now send (call_id recv.rank i)) (posted now recv.rank))) clear
    ∙ ap (λ (t : Bool). not t) (sym earlier_there))

pub returns-clause-one_send : goal.returns-clause-one_send
returns-clause-one_send c = λ yes i other. c.one_send_is_eligible.ensures c.args.self.now.board c.args.send.rank i c.args.send.index c.args.recv other (sym (returns-clause-eligible c) ∙ yes)

pub returns-clause-looks : goal.returns-clause-looks
returns-clause-looks c =
    let s = c.self.inside in
    let sides : List SideView = s.sides.items in
    let now : Board = c.args.self.now.board in
    let send : CallId = c.args.send in
    let recv : CallId = c.args.recv in
    let e : board_in s.mode sides s.sets.items ≡ now = ap (λ (v : BoardView). v.board) c.self.view_is in
    let h : Meets (board_in s.mode sides s.sets.items) sides = c.self.invariant.meets in
    let fitted : c.is_fitting.result ≡ true = search rules in
    let fit : fits now send recv ≡ true = ap (λ (k : Option CallKind). fitting k (kind_at now recv) send.rank recv.rank) (sym c.kind-send_kind.ensures)
    ∙ ap (λ (k : Option CallKind). fitting c.kind-send_kind.result k send.rank recv.rank) (sym c.kind-recv_kind.ensures)
    ∙ sym c.is_fitting.ensures
    ∙ fitted in
    let fit_b : fits (board_in s.mode sides s.sets.items) send recv ≡ true = subst (λ (b : Board). fits b send recv ≡ true) (sym e) fit in
    let lines = lines_of_fitting s.mode sides s.sets.items send recv fit_b in
    let sender : send.rank < length sides = side_exists sides send (recv.rank + 1) lines.0 in
    let receiver : recv.rank < length sides = side_exists sides recv 0 lines.1 in
    let v : SideView = c.index-sender.result.now in
    let side : side_at sides send.rank ≡ v = read_side sides send.rank v sender c.index-sender.ensures in
    let w : SideView = c.index-receiver.result.now in
    let other : side_at sides recv.rank ≡ w = read_side sides recv.rank w receiver c.index-receiver.ensures in
    let send_free : c.is_free.result ≡ true = search rules in
    let recv_free : c.is_free-2.result ≡ true = search rules in
    let fs : is_free now send ≡ true = sym c.is_free.ensures ∙ send_free in
    let fr : is_free now recv ≡ true = sym c.is_free-2.ensures ∙ recv_free in
    let kr : c.kind-recv_kind.result ≡ kind_at (board_in s.mode sides s.sets.items) recv = c.kind-recv_kind.ensures ∙ ap (λ (b : Board). kind_at b recv) (sym e) in
    let earlier : c.has_earlier.result ≡ has_earlier_send now send recv = c.has_earlier.ensures.found
    ∙ ap (λ (k : Option CallKind). has_earlier v.calls (mark_in v.marks) (recv.rank + 1) send.index k send.rank recv.rank) kr
    ∙ earlier_send s.mode sides s.sets.items send recv h fit_b v side
    ∙ ap (λ (b : Board). has_earlier_send b send recv) e in
    let looked : 1 + passed (λ i. fitting_either (kind_in v.calls i) c.kind-recv_kind.result send.rank recv.rank) send.index (waiting v.calls (mark_in v.marks) (recv.rank + 1)) ≡ send_looks now send recv =
    ap (λ (k : Option CallKind). 1 + passed (λ i. fitting_either (kind_in v.calls i) k send.rank recv.rank) send.index (waiting v.calls (mark_in v.marks) (recv.rank + 1))) kr
    ∙ send_passed s.mode sides s.sets.items send recv h fit_b v side
    ∙ ap (λ (b : Board). send_looks b send recv) e in
    let ks : c.kind-send_kind.result ≡ kind_at (board_in s.mode sides s.sets.items) send = c.kind-send_kind.ensures ∙ ap (λ (b : Board). kind_at b send) (sym e) in
    let looked_there : 1 + passed (λ i. fitting_either (kind_in w.calls i) c.kind-send_kind.result send.rank recv.rank) recv.index (waiting w.calls (mark_in w.marks) 0) ≡ recv_looks now send recv =
    ap (λ (k : Option CallKind). 1 + passed (λ i. fitting_either (kind_in w.calls i) k send.rank recv.rank) recv.index (waiting w.calls (mark_in w.marks) 0)) ks
    ∙ recv_passed s.mode sides s.sets.items send recv h fit_b w other
    ∙ ap (λ (b : Board). recv_looks b send recv) e in
    let clear : has_earlier_send now send recv ≡ false = sym earlier ∙ c.if-has_earlier.false in
    omega (arith, c.has_earlier.ensures.looks, c.has_earlier-2.ensures.looks, looked, looked_there, looks_both now send recv fit fs fr clear)

pub returns-clause-at_most : goal.returns-clause-at_most
returns-clause-at_most c =
    let s = c.self.inside in
    let sides : List SideView = s.sides.items in
    let now : Board = c.args.self.now.board in
    let send : CallId = c.args.send in
    let recv : CallId = c.args.recv in
    let e : board_in s.mode sides s.sets.items ≡ now = ap (λ (v : BoardView). v.board) c.self.view_is in
    let h : Meets (board_in s.mode sides s.sets.items) sides = c.self.invariant.meets in
    let fitted : c.is_fitting.result ≡ true = search rules in
    let fit : fits now send recv ≡ true = ap (λ (k : Option CallKind). fitting k (kind_at now recv) send.rank recv.rank) (sym c.kind-send_kind.ensures)
    ∙ ap (λ (k : Option CallKind). fitting c.kind-send_kind.result k send.rank recv.rank) (sym c.kind-recv_kind.ensures)
    ∙ sym c.is_fitting.ensures
    ∙ fitted in
    let fit_b : fits (board_in s.mode sides s.sets.items) send recv ≡ true = subst (λ (b : Board). fits b send recv ≡ true) (sym e) fit in
    let lines = lines_of_fitting s.mode sides s.sets.items send recv fit_b in
    let sender : send.rank < length sides = side_exists sides send (recv.rank + 1) lines.0 in
    let receiver : recv.rank < length sides = side_exists sides recv 0 lines.1 in
    let v : SideView = c.index-sender.result.now in
    let side : side_at sides send.rank ≡ v = read_side sides send.rank v sender c.index-sender.ensures in
    let w : SideView = c.index-receiver.result.now in
    let other : side_at sides recv.rank ≡ w = read_side sides recv.rank w receiver c.index-receiver.ensures in
    let kr : c.kind-recv_kind.result ≡ kind_at (board_in s.mode sides s.sets.items) recv = c.kind-recv_kind.ensures ∙ ap (λ (b : Board). kind_at b recv) (sym e) in
    let earlier : c.has_earlier.result ≡ has_earlier_send now send recv = c.has_earlier.ensures.found
    ∙ ap (λ (k : Option CallKind). has_earlier v.calls (mark_in v.marks) (recv.rank + 1) send.index k send.rank recv.rank) kr
    ∙ earlier_send s.mode sides s.sets.items send recv h fit_b v side
    ∙ ap (λ (b : Board). has_earlier_send b send recv) e in
    let looked : 1 + passed (λ i. fitting_either (kind_in v.calls i) c.kind-recv_kind.result send.rank recv.rank) send.index (waiting v.calls (mark_in v.marks) (recv.rank + 1)) ≡ send_looks now send recv =
    ap (λ (k : Option CallKind). 1 + passed (λ i. fitting_either (kind_in v.calls i) k send.rank recv.rank) send.index (waiting v.calls (mark_in v.marks) (recv.rank + 1))) kr
    ∙ send_passed s.mode sides s.sets.items send recv h fit_b v side
    ∙ ap (λ (b : Board). send_looks b send recv) e in
    let ks : c.kind-send_kind.result ≡ kind_at (board_in s.mode sides s.sets.items) send = c.kind-send_kind.ensures ∙ ap (λ (b : Board). kind_at b send) (sym e) in
    let looked_there : 1 + passed (λ i. fitting_either (kind_in w.calls i) c.kind-send_kind.result send.rank recv.rank) recv.index (waiting w.calls (mark_in w.marks) 0) ≡ recv_looks now send recv =
    ap (λ (k : Option CallKind). 1 + passed (λ i. fitting_either (kind_in w.calls i) k send.rank recv.rank) recv.index (waiting w.calls (mark_in w.marks) 0)) ks
    ∙ recv_passed s.mode sides s.sets.items send recv h fit_b w other
    ∙ ap (λ (b : Board). recv_looks b send recv) e in
    omega (arith, c.has_earlier.ensures.looks, c.has_earlier-2.ensures.looks, looked, looked_there, few_send_looks now send recv, few_recv_looks now send recv)
