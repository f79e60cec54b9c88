use Rattle.std.proofs.Common.{arith}
use Rattle.mpd_model.specs.runs.Decisions.{is_open_match}
use Rattle.mpd_match.specs.Picked.{picked_at}
use Rattle.mpd_match.proofs.Gathered.{given_more, given_some, grows_more, refused_with}
use Rattle.mpd_match.proofs.Picked.{picked_begins}
use Rattle.mpd_match.proofs.board.Board.push_open_matches.Goals as goal

pub loop-receiver-init : goal.loop-receiver-init
loop-receiver-init c = record { given = picked_begins is_open_match c.args.self.now.board c.rank_count-count.result c.args.out.now.items c.rank_count-count.ensures.value; grows = omega arith }

pub loop-receiver-preserved : goal.loop-receiver-preserved
loop-receiver-preserved c =
    let b = c.args.self.now.board in
    record {
      given = given_more (picked_at is_open_match b) c.loop-receiver.receiver c.rank_count-count.result c.loop-receiver.out.items _ _ c.loop-receiver-test.true c.loop-receiver.invariant.given c.in_ok-push_open_matches_at.ensures.ok;
      grows = grows_more _ c.loop-receiver.out.items _ _ c.loop-receiver.invariant.grows c.in_ok-push_open_matches_at.ensures.ok;
    }

pub returns-in_err-push_open_matches_at-clause-memory : goal.returns-in_err-push_open_matches_at-clause-memory
returns-in_err-push_open_matches_at-clause-memory c =
    let b = c.args.self.now.board in
    refused_with _ (given_some (picked_at is_open_match b) c.loop-receiver.receiver c.rank_count-count.result c.args.out.now.items c.loop-receiver.out.items _ c.loop-receiver-test.true c.loop-receiver.invariant.grows c.loop-receiver.invariant.given c.in_err-push_open_matches_at.ensures.memory)
