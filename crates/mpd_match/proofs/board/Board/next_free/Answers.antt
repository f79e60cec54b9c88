use Rattle.std.proofs.Common.{◌≡◌, true, sym, ap, subst, ◌∙◌}
use Rattle.mpd_model.specs.steps.World.{Board, is_pending, is_posted, pending, posted}
use Rattle.mpd_queue.specs.InOrder.{next_of}
use Rattle.mpd_match.specs.Views.{BoardView, board_in}
use Rattle.mpd_match.specs.Held.{Meets}
use Rattle.mpd_match.proofs.Boards.{next_pending, next_posted}
use Rattle.mpd_match.proofs.board.Board.next_free.Goals as goal

pub returns-clause-pending : goal.returns-clause-pending
returns-clause-pending c = λ receiver is.
    let s = c.self.inside in
    let e : board_in s.mode s.sides.items s.sets.items ≡ c.args.self.now.board = ap (λ (v : BoardView). v.board) c.self.view_is in
    let h : Meets (board_in s.mode s.sides.items s.sets.items) s.sides.items = c.self.invariant.meets in
    next_pending s.mode s.sides.items s.sets.items c.args.id c.index.result.now receiver c.next.result h c.index.ensures (subst (λ (b : Board). is_pending b c.args.id.rank receiver c.args.id.index ≡ true) (sym e) is) c.next.ensures.next
    ∙ ap (λ (b : Board). next_of (pending b c.args.id.rank receiver) c.args.id.index) e

pub returns-clause-posted : goal.returns-clause-posted
returns-clause-posted c = λ is.
    let s = c.self.inside in
    let e : board_in s.mode s.sides.items s.sets.items ≡ c.args.self.now.board = ap (λ (v : BoardView). v.board) c.self.view_is in
    let h : Meets (board_in s.mode s.sides.items s.sets.items) s.sides.items = c.self.invariant.meets in
    next_posted s.mode s.sides.items s.sets.items c.args.id c.index.result.now c.next.result h c.index.ensures (subst (λ (b : Board). is_posted b c.args.id.rank c.args.id.index ≡ true) (sym e) is) c.next.ensures.next
    ∙ ap (λ (b : Board). next_of (posted b c.args.id.rank) c.args.id.index) e
