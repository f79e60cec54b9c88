use Rattle.mpd_match.specs.Matches.{matches_at}
use Rattle.mpd_match.proofs.Gathered.{given_more, given_some, grows_more, refused_with}
use Rattle.mpd_match.proofs.board.Board.push_matches.Goals as goal

pub loop-receiver-preserved : goal.loop-receiver-preserved
loop-receiver-preserved c =
    let b = c.args.self.now.board in
    record {
      given = given_more (matches_at b) c.loop-receiver.receiver c.rank_count-count.result c.loop-receiver.out.items _ _ c.loop-receiver-test.true c.loop-receiver.invariant.given c.in_ok-push_matches_at.ensures.ok;
      grows = grows_more _ c.loop-receiver.out.items _ _ c.loop-receiver.invariant.grows c.in_ok-push_matches_at.ensures.ok;
    }

pub returns-in_err-push_matches_at-clause-memory : goal.returns-in_err-push_matches_at-clause-memory
returns-in_err-push_matches_at-clause-memory c =
    let b = c.args.self.now.board in
    refused_with _ (given_some (matches_at b) c.loop-receiver.receiver c.rank_count-count.result c.args.out.now.items c.loop-receiver.out.items _ c.loop-receiver-test.true c.loop-receiver.invariant.grows c.loop-receiver.invariant.given c.in_err-push_matches_at.ensures.memory)
