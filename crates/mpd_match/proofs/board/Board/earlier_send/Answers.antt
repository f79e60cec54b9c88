use Rattle.std.proofs.Common.{sym, ◌∙◌}
use Rattle.mpd_match.proofs.Holders.{no_earlier_send, send_is_first, earlier_send_is}
use Rattle.mpd_match.proofs.board.Board.earlier_send.Goals as goal

pub returns-in_err-index : goal.returns-in_err-index
returns-in_err-index c = c.from_residual.ensures ∙ no_earlier_send c.args.self.now.board c.args.send c.args.recv (sym c.in_err-index.ensures.first)

pub returns-then-send-index : goal.returns-then-send-index
returns-then-send-index c = send_is_first c.args.self.now.board c.args.send c.args.recv c.in_ok-index.index (sym c.in_ok-index.ensures.first) c.if-send-index.true

pub returns : goal.returns
returns c = earlier_send_is c.args.self.now.board c.args.send c.args.recv c.in_ok-index.index (sym c.in_ok-index.ensures.first) c.if-send-index.false
