use Rattle.std.proofs.Common.{sym, ◌∙◌}
use Rattle.mpd_match.proofs.Holders.{no_earlier_recv, recv_is_first, earlier_recv_is}
use Rattle.mpd_match.proofs.board.Board.earlier_recv.Goals as goal

pub returns-in_err-index : goal.returns-in_err-index
returns-in_err-index c = c.from_residual.ensures ∙ no_earlier_recv c.args.self.now.board c.args.send c.args.recv (sym c.in_err-index.ensures.first)

pub returns-then-recv-index : goal.returns-then-recv-index
returns-then-recv-index c = recv_is_first c.args.self.now.board c.args.send c.args.recv c.in_ok-index.index (sym c.in_ok-index.ensures.first) c.if-recv-index.true

pub returns : goal.returns
returns c = earlier_recv_is c.args.self.now.board c.args.send c.args.recv c.in_ok-index.index (sym c.in_ok-index.ensures.first) c.if-recv-index.false
