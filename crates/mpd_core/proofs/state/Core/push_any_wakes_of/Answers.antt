use Rattle.std.proofs.Common.{sym, ◌∙◌, arith}
use Rattle.mpd_model.specs.declared.step.Step.TheVariants.{WakeAny}
use Rattle.mpd_model.specs.steps.Next.{is_enabled}
use Rattle.mpd_core.proofs.EnabledLemmas.{any_wakes_ahead, no_any_wakes}
use Rattle.mpd_core.proofs.RangeLemmas.{chosen_more, chosen_some, chosen_grows, refused_with}
use Rattle.mpd_core.proofs.state.Core.push_any_wakes_of.Goals as goal

pub loop-index-init : goal.loop-index-init
loop-index-init c = record {
  given = any_wakes_ahead c.args.self.now.world c.args.rank c.request_count-count.result c.args.out.now.items c.request_count-count.ensures;
  grows = omega arith;
}

pub loop-index-preserved : goal.loop-index-preserved
loop-index-preserved c =
    let w = c.args.self.now.world in
    let p = c.args.rank in
    record {
      given = chosen_more (λ i. is_enabled w (WakeAny p i)) (WakeAny p) c.loop-index.index c.request_count-count.result c.loop-index.out.items _ _ c.loop-index-test.true c.loop-index.invariant.given c.in_ok-push_if_enabled.ensures.ok;
      grows = chosen_grows _ c.loop-index.out.items _ _ c.loop-index.invariant.grows c.in_ok-push_if_enabled.ensures.ok;
    }

pub returns-in_err-push_if_enabled-clause-memory : goal.returns-in_err-push_if_enabled-clause-memory
returns-in_err-push_if_enabled-clause-memory c =
    let w = c.args.self.now.world in
    let p = c.args.rank in
    refused_with _ (chosen_some (λ i. is_enabled w (WakeAny p i)) (WakeAny p) c.loop-index.index c.request_count-count.result c.loop-index.out.items c.args.out.now.items _ c.loop-index-test.true c.loop-index.invariant.grows c.loop-index.invariant.given c.in_err-push_if_enabled.ensures.memory)

pub returns-then-not-is_waiting-clause-ok : goal.returns-then-not-is_waiting-clause-ok
returns-then-not-is_waiting-clause-ok c = no_any_wakes c.args.self.now.world c.args.rank c.args.out.now.items (sym c.is_waiting.ensures ∙ c.if-not-is_waiting.true)
