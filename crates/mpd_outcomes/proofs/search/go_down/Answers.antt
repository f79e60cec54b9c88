use Rattle.std.proofs.Common.{◌≡◌, ◌<◌, ◌+◌, ◌-◌, ap, sym, ◌∙◌, arith}
use Rattle.mpd_model.specs.declared.decision.Decision.TheVariants.{Forced, Leaf}
use Rattle.mpd_model.specs.runs.Trail.{Trail}
use Rattle.mpd_trail.specs.DebuggerViews.{standing_of}
use Rattle.mpd_policy.specs.Wide.{wide_decision}
use Rattle.mpd_outcomes.proofs.EndLemmas.{ends_so}
use Rattle.mpd_outcomes.proofs.MoveLemmas.{one_down, on_beyond}
use Rattle.mpd_outcomes.proofs.search.go_down.Goals as goal

pub returns-in-Leaf-clause-down : goal.returns-in-Leaf-clause-down
returns-in-Leaf-clause-down c =
    let i = c.loop-depth.invariant in
    let d : wide_decision c.loop-depth.debugger.world ≡ Leaf c.in-Leaf.outcome = ap wide_decision (sym c.core.ensures.world) ∙ sym c.in_ok-outcome.ensures.ok ∙ c.in-Leaf.is in
    record {
      same = i.same;
      deeper = (let begun = c.depth-begun.ensures.value in let from = c.loop-depth.auto.depth in let at = i.depth in omega (arith, begun, from, at));
      within = (let lt = c.loop-depth-test.true in let at = i.depth in omega (arith, lt, at));
      arrived = ends_so (c.args.limit - c.loop-depth.debugger.trail.depth) c.loop-depth.debugger.world c.in-Leaf.outcome d;
    }

pub loop-depth-preserved : goal.loop-depth-preserved
loop-depth-preserved c =
    let i = c.loop-depth.invariant in
    let d : wide_decision c.loop-depth.debugger.world ≡ Forced c.in-Forced.step = ap wide_decision (sym c.core.ensures.world) ∙ sym c.in_ok-outcome.ensures.ok ∙ c.in-Forced.is in
    let deep : c.forward.new.self.trail.depth ≡ c.loop-depth.debugger.trail.depth + 1 = ap (λ (t : Trail). t.depth) c.in_ok-forward-in-Forced.ensures.taken.moved.ok in
    let room : c.loop-depth.debugger.trail.depth < c.args.limit = (let lt = c.loop-depth-test.true in let at = i.depth in omega (arith, lt, at)) in
    record {
      depth = (let at = i.depth in omega (arith, deep, at));
      same = one_down c.args.limit (standing_of c.args.debugger.now) (standing_of c.loop-depth.debugger) (standing_of c.forward.new.self) c.in-Forced.step i.same room d c.in_ok-forward-in-Forced.ensures.taken.world deep;
      beyond = on_beyond (standing_of c.args.debugger.now) (standing_of c.loop-depth.debugger) (standing_of c.forward.new.self) c.in-Forced.step i.beyond c.in_ok-forward-in-Forced.ensures.taken.steps c.in_ok-forward-in-Forced.ensures.taken.moved.program
          c.in_ok-forward-in-Forced.ensures.taken.moved.mode c.in_ok-forward-in-Forced.ensures.taken.moved.reached;
    }
