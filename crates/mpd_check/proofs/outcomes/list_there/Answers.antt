use Rattle.std.proofs.Common.{List, ap, subst, ◌∙◌}
use Rattle.mpd_model.specs.runs.Trail.{Standing}
use Rattle.mpd_trail.specs.DebuggerViews.{standing_of}
use Rattle.mpd_policy.specs.Wide.{wide_decision}
use Rattle.mpd_explore.specs.declared.report.SearchLeaf.{SearchLeaf}
use Rattle.mpd_check.specs.Shown.{ends_if}
use Rattle.mpd_check.specs.Outcomes.{AreDecided}
use Rattle.mpd_check.proofs.OutcomesLemmas.{same_standing}
use Rattle.mpd_check.proofs.outcomes.list_there.Goals as goal

pub returns : goal.returns
returns c =
    let o = c.in_ok-outcomes.outcomes in
    let plan = c.args.plan in
    let leaves = o.firsts.leaves.items in
    let at = same_standing c.explore_outcomes.new.debugger c.args.debugger.now c.explore_outcomes.ensures.as_found.trail c.explore_outcomes.ensures.as_found.world in
    let then = same_standing c.blames_if.new.debugger c.explore_outcomes.new.debugger c.blames_if.ensures.as_found.trail c.blames_if.ensures.as_found.world in
    record {
      told = (c.in_ok-outcomes.ensures.last, c.in_ok-outcomes.ensures.stops, c.in_ok-outcomes.ensures.limit);
      witnesses = c.in_ok-outcomes.ensures.texts;
      ends_are = c.in_ok-ends.ensures.ends ∙ ap (ends_if wide_decision plan.explain plan.limits.fuel (standing_of c.blames_if.new.debugger)) c.deref-2.ensures.value ∙ ap (λ (d : Standing). ends_if wide_decision plan.explain plan.limits.fuel d leaves) (then ∙ at);
      decided = subst (λ (d : Standing). AreDecided plan.explain plan.limits d leaves c.in_ok-blames.blames.items) at (subst (λ (ls : List SearchLeaf). AreDecided plan.explain plan.limits (standing_of c.explore_outcomes.new.debugger) ls c.in_ok-blames.blames.items) c.deref.ensures.value c.in_ok-blames.ensures.decided);
    }
