use Rattle.mpd_policy.proofs.QuietLemmas.{from_none}
use Rattle.mpd_policy.proofs.quiet.quiet_match_from.Goals as goal

pub returns-in_default : goal.returns-in_default
returns-in_default c =
    from_none c.args.core.now.world c.board.result.now.board c.args.sender c.args.recv c.candidate.result c.board.ensures c.candidate.ensures.found c.in_default.is
