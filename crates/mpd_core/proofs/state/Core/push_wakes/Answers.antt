use Rattle.mpd_model.specs.declared.step.Step.TheVariants.{Wake}
use Rattle.mpd_model.specs.steps.Next.{is_enabled}
use Rattle.mpd_core.proofs.RangeLemmas.{chosen_more, chosen_some, chosen_grows, refused_with}
use Rattle.mpd_core.proofs.state.Core.push_wakes.Goals as goal

pub loop-rank-preserved : goal.loop-rank-preserved
loop-rank-preserved c =
    let w = c.args.self.now.world in
    record {
      given = chosen_more (λ p. is_enabled w (Wake p)) Wake c.loop-rank.rank c.rank_count-count.result c.loop-rank.out.items _ _ c.loop-rank-test.true c.loop-rank.invariant.given c.in_ok-push_if_enabled.ensures.ok;
      grows = chosen_grows _ c.loop-rank.out.items _ _ c.loop-rank.invariant.grows c.in_ok-push_if_enabled.ensures.ok;
    }

pub returns-in_err-push_if_enabled-clause-memory : goal.returns-in_err-push_if_enabled-clause-memory
returns-in_err-push_if_enabled-clause-memory c =
    let w = c.args.self.now.world in
    refused_with _ (chosen_some (λ p. is_enabled w (Wake p)) Wake c.loop-rank.rank c.rank_count-count.result c.loop-rank.out.items c.args.out.now.items _ c.loop-rank-test.true c.loop-rank.invariant.grows c.loop-rank.invariant.given c.in_err-push_if_enabled.ensures.memory)
