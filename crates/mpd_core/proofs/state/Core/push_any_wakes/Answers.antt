use Rattle.std.proofs.Common.{arith}
use Rattle.mpd_core.proofs.EnabledLemmas.{any_wakes_at, all_wakes_ahead}
use Rattle.mpd_core.proofs.RangeLemmas.{given_more, given_some_behind, chosen_grows, refused_with}
use Rattle.mpd_core.proofs.state.Core.push_any_wakes.Goals as goal

pub loop-rank-init : goal.loop-rank-init
loop-rank-init c = record {
  given = all_wakes_ahead c.args.self.now.world c.rank_count-count.result c.args.out.now.items c.rank_count-count.ensures.board;
  grows = omega arith;
}

pub loop-rank-preserved : goal.loop-rank-preserved
loop-rank-preserved c =
    let w = c.args.self.now.world in
    record {
      given = given_more (any_wakes_at w) c.loop-rank.rank c.rank_count-count.result c.loop-rank.out.items _ _ c.loop-rank-test.true c.loop-rank.invariant.given c.in_ok-push_any_wakes_of.ensures.ok;
      grows = chosen_grows _ c.loop-rank.out.items _ _ c.loop-rank.invariant.grows c.in_ok-push_any_wakes_of.ensures.ok;
    }

pub returns-in_err-push_any_wakes_of-clause-memory : goal.returns-in_err-push_any_wakes_of-clause-memory
returns-in_err-push_any_wakes_of-clause-memory c =
    let w = c.args.self.now.world in
    refused_with _ (given_some_behind (any_wakes_at w) c.loop-rank.rank c.rank_count-count.result c.loop-rank.out.items c.args.out.now.items _ c.loop-rank-test.true c.loop-rank.invariant.grows c.loop-rank.invariant.given c.in_err-push_any_wakes_of.ensures.memory)
