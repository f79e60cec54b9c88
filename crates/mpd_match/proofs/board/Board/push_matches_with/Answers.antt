use Rattle.mpd_match.specs.Matches.{matches_from}
use Rattle.mpd_match.proofs.Gathered.{given_more, given_some, grows_more, refused_with}
use Rattle.mpd_match.proofs.board.Board.push_matches_with.Goals as goal

pub loop-sender-preserved : goal.loop-sender-preserved
loop-sender-preserved c =
    let b = c.args.self.now.board in
    record {
      given = given_more (matches_from b c.args.recv) c.loop-sender.sender c.rank_count-count.result c.loop-sender.out.items _ _ c.loop-sender-test.true c.loop-sender.invariant.given c.in_ok-push_match_from.ensures.ok;
      grows = grows_more _ c.loop-sender.out.items _ _ c.loop-sender.invariant.grows c.in_ok-push_match_from.ensures.ok;
    }

pub returns-in_err-push_match_from-clause-memory : goal.returns-in_err-push_match_from-clause-memory
returns-in_err-push_match_from-clause-memory c =
    let b = c.args.self.now.board in
    refused_with _ (given_some (matches_from b c.args.recv) c.loop-sender.sender c.rank_count-count.result c.args.out.now.items c.loop-sender.out.items _ c.loop-sender-test.true c.loop-sender.invariant.grows c.loop-sender.invariant.given c.in_err-push_match_from.ensures.memory)
