use Rattle.mpd_model.specs.steps.Why.{why_from}
use Rattle.mpd_match.proofs.Gathered.{given_more, given_some, grows_more, refused_with}
use Rattle.mpd_match.proofs.board.Board.push_sends.Goals as goal

pub loop-sender-preserved : goal.loop-sender-preserved
loop-sender-preserved c =
    let b = c.args.self.now.board in
    record {
      given = given_more (why_from b c.args.recv) c.loop-sender.sender c.rank_count-count.result c.loop-sender.out.items _ _ c.loop-sender-test.true c.loop-sender.invariant.given c.in_ok-push_sends_from.ensures.ok;
      grows = grows_more _ c.loop-sender.out.items _ _ c.loop-sender.invariant.grows c.in_ok-push_sends_from.ensures.ok;
    }

pub returns-in_err-push_sends_from-clause-missing : goal.returns-in_err-push_sends_from-clause-missing
returns-in_err-push_sends_from-clause-missing c =
    let b = c.args.self.now.board in
    refused_with _ (given_some (why_from b c.args.recv) c.loop-sender.sender c.rank_count-count.result c.args.out.now.items c.loop-sender.out.items _ c.loop-sender-test.true c.loop-sender.invariant.grows c.loop-sender.invariant.given c.in_err-push_sends_from.ensures.missing)
