use Rattle.std.proofs.Common.{◌≡◌, ◌<◌, ◌+◌, suc, length, sym, ap, ◌∙◌, arith}
use Rattle.std.proofs.lemmas.List.{length-map}
use Rattle.mpd_model.specs.steps.World.{Board, pending}
use Rattle.mpd_queue.specs.InOrder.{first_of}
use Rattle.mpd_match.specs.Views.{SideView, BoardView, board_in}
use Rattle.mpd_match.specs.Lines.{mark_in, waiting}
use Rattle.mpd_match.specs.Held.{Meets}
use Rattle.mpd_match.proofs.AtSide.{read_side, lines_at}
use Rattle.mpd_match.proofs.Boards.{pending_on}
use Rattle.mpd_match.proofs.board.Board.first_pending.Goals as goal

pub first-requires : goal.first-requires
first-requires c =
    let s = c.self.inside in
    let ranks : length c.args.self.now.board.calls ≡ length s.sides.items = ap (λ (v : BoardView). length v.board.calls) (sym c.self.view_is) ∙ length-map s.sides.items (λ (v : SideView). v.calls) in
    let lt : c.args.sender < length s.sides.items = omega (arith, c.requires.sender, ranks) in
    let wide : c.index.result.now.lines ≡ suc (length s.sides.items) = ap (λ (v : SideView). v.lines) (sym (read_side s.sides.items c.args.sender c.index.result.now lt c.index.ensures)) ∙ lines_at s.sides.items c.args.sender lt c.self.invariant.meets.lines in
    omega (arith, c.requires.receiver, ranks, wide)

pub returns-clause-first : goal.returns-clause-first
returns-clause-first c =
    let s = c.self.inside in
    let e : board_in s.mode s.sides.items s.sets.items ≡ c.args.self.now.board = ap (λ (v : BoardView). v.board) c.self.view_is in
    let h : Meets (board_in s.mode s.sides.items s.sets.items) s.sides.items = c.self.invariant.meets in
    let ranks : length c.args.self.now.board.calls ≡ length s.sides.items = ap (λ (v : BoardView). length v.board.calls) (sym c.self.view_is) ∙ length-map s.sides.items (λ (v : SideView). v.calls) in
    let lt : c.args.sender < length s.sides.items = omega (arith, c.requires.sender, ranks) in
    c.first.ensures.first
    ∙ ap (λ (v : SideView). first_of (waiting v.calls (mark_in v.marks) (c.args.receiver + 1))) (sym (read_side s.sides.items c.args.sender c.index.result.now lt c.index.ensures))
    ∙ ap first_of (pending_on s.mode s.sides.items s.sets.items c.args.sender c.args.receiver h)
    ∙ ap (λ (b : Board). first_of (pending b c.args.sender c.args.receiver)) e
