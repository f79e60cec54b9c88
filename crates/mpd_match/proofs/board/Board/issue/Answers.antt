use Rattle.std.proofs.Common.{Some, arith}
use Rattle.mpd_match.proofs.Counted.{issue_few}
use Rattle.mpd_match.proofs.board.Board.issue.Goals as goal

pub returns-clause-few_writes : goal.returns-clause-few_writes
returns-clause-few_writes c = omega (arith, c.add_call.ensures.writes, issue_few (Some c.buffered_by-kind.result) (Some c.buffered_by-kind.result))
