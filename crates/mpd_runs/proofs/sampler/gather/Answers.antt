use Rattle.std.proofs.Common.{◌≡◌, ◌+◌, ◌-◌, ℕ, suc, map, refl, ap, ◌∙◌, arith}
use Rattle.mpd_model.specs.runs.Trail.{done_steps}
use Rattle.mpd_trail.specs.DebuggerViews.{standing_of}
use Rattle.mpd_policy.specs.Wide.{wide_decision}
use Rattle.mpd_explore.specs.WitnessTexts.{witness_text}
use Rattle.mpd_explore.specs.Asked.{are_asked}
use Rattle.mpd_runs.specs.Drawing.{in_box, leaves_in, text_in}
use Rattle.mpd_runs.proofs.SampleLemmas.{sampling_none, sampling_more, sampling_left, samples_last, samples_all, sample_rises, even_of, adds_at}
use Rattle.mpd_runs.proofs.sampler.gather.Goals as goal

pub loop-turn-init : goal.loop-turn-init
loop-turn-init g c =
    let d = standing_of c.args.debugger.now in
    let s = g.R.Rng.stream c.args.random.now in
    record {
      trail = refl;
      world = refl;
      reached = c.state_is_reached.ensures.reached;
      sampling = sampling_left c.args.limits (done_steps d.trail) d.world s 0 c.args.limits.runs (c.args.limits.runs - 0) s _ _ (omega arith) (sampling_none c.args.limits (done_steps d.trail) d.world s (leaves_in c.args.held.now.leaves) _ (ap (map in_box) c.requires.none_told) (ap (map text_in) c.requires.none_written));
    }

pub add_run-requires-clause-rises : goal.add_run-requires-clause-rises
add_run-requires-clause-rises g c =
    let i = c.loop-turn.invariant in
    sample_rises i.sampling.found c.args.limits.fuel c.args.debugger.now.world (leaves_in c.loop-turn.held.leaves) i.sampling.leaves_are

pub add_run-requires-clause-even : goal.add_run-requires-clause-even
add_run-requires-clause-even g c =
    let i = c.loop-turn.invariant in
    even_of (are_asked c.args.limits.witnesses) (witness_text wide_decision c.args.limits.witnesses (done_steps c.args.debugger.now.trail) c.args.limits.fuel c.args.debugger.now.world) (leaves_in c.loop-turn.held.leaves) _ i.sampling.texts_are

pub returns-then-is_last-clause-samples : goal.returns-then-is_last-clause-samples
returns-then-is_last-clause-samples g c =
    let i = c.loop-turn.invariant in
    let d = standing_of c.args.debugger.now in
    let k : ℕ = c.args.limits.runs - (c.loop-turn.turn + 1) in
    let s = g.R.Rng.stream c.loop-turn.random in
    let t = g.R.Rng.stream c.add_run.new.random in
    let left : c.args.limits.runs - c.loop-turn.turn ≡ suc k = omega (arith, c.loop-turn-test.true) in
    samples_last c.args.limits d (g.R.Rng.stream c.args.random.now) s t c.loop-turn.turn k (leaves_in c.loop-turn.held.leaves) (leaves_in c.add_run.new.held.leaves) _ _ c.in_ok-is_last.is_last
    (sampling_left c.args.limits (done_steps d.trail) d.world (g.R.Rng.stream c.args.random.now) c.loop-turn.turn (c.args.limits.runs - c.loop-turn.turn) (suc k) s _ _ left i.sampling)
    (adds_at c.args.limits (standing_of c.loop-turn.debugger) d s t _ _ _ _ _ i.trail i.world c.in_ok-is_last.ensures.adds) c.if-is_last.true c.loop-turn-test.true

pub loop-turn-preserved : goal.loop-turn-preserved
loop-turn-preserved g c =
    let i = c.loop-turn.invariant in
    let d = standing_of c.args.debugger.now in
    let k : ℕ = c.args.limits.runs - (c.loop-turn.turn + 1) in
    let s = g.R.Rng.stream c.loop-turn.random in
    let t = g.R.Rng.stream c.add_run.new.random in
    let left : c.args.limits.runs - c.loop-turn.turn ≡ suc k = omega (arith, c.loop-turn-test.true) in
    record {
      trail = c.add_run.ensures.as_found.trail ∙ i.trail;
      world = c.add_run.ensures.as_found.world ∙ i.world;
      reached = c.add_run.ensures.as_found.reached;
      sampling = sampling_more c.args.limits d (g.R.Rng.stream c.args.random.now) s t c.loop-turn.turn k (leaves_in c.loop-turn.held.leaves) (leaves_in c.add_run.new.held.leaves) _ _ c.in_ok-is_last.is_last
          (sampling_left c.args.limits (done_steps d.trail) d.world (g.R.Rng.stream c.args.random.now) c.loop-turn.turn (c.args.limits.runs - c.loop-turn.turn) (suc k) s _ _ left i.sampling)
          (adds_at c.args.limits (standing_of c.loop-turn.debugger) d s t _ _ _ _ _ i.trail i.world c.in_ok-is_last.ensures.adds) c.if-is_last.false;
    }

pub returns-clause-samples : goal.returns-clause-samples
returns-clause-samples g c =
    let i = c.loop-turn.invariant in
    let d = standing_of c.args.debugger.now in
    samples_all c.args.limits (done_steps d.trail) d.world (g.R.Rng.stream c.args.random.now) (g.R.Rng.stream c.loop-turn.random) c.loop-turn.turn (c.args.limits.runs - c.loop-turn.turn) (leaves_in c.loop-turn.held.leaves) _ (omega arith) (omega arith) i.sampling
