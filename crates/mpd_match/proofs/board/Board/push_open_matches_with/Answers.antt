use Rattle.std.proofs.Common.{sym, ◌∙◌}
use Rattle.mpd_match.proofs.Picked.{open_more}
use Rattle.mpd_match.proofs.board.Board.push_open_matches_with.Goals as goal

pub returns-clause-ok : goal.returns-clause-ok
returns-clause-ok c =
    open_more c.args.self.now.board c.args.recv c.kind.result c.args.out.now.items _ c.kind.ensures (sym c.takes_any.ensures ∙ c.if-not-takes_any.false) c.in_ok-push_matches_with.ensures.ok
