use Rattle.std.proofs.Common.{◌+◌, ◌<◌, length, ap, ◌∙◌, arith}
use Rattle.mpd_model.specs.runs.Trail.{Trail}
use Rattle.mpd_explain.proofs.PastLemmas.{undone_more}
use Rattle.mpd_explain.proofs.history.push_undone.Goals as goal

pub loop-place-preserved : goal.loop-place-preserved
loop-place-preserved c =
    let t : Trail = c.args.debugger.now.trail in
    let place = c.loop-place.place in
    let kept = c.loop-place.invariant in
    let past = c.in_ok-push_past.ensures in
    let within : place < length t.steps = omega (arith, c.loop-place-test.true, ap length c.steps-count.ensures) in
    record {
      program = ap (λ (u : Trail). u.program) past.trail ∙ kept.program;
      steps = ap (λ (u : Trail). u.steps) past.trail ∙ kept.steps;
      depth = ap (λ (u : Trail). u.depth) past.trail ∙ ap (λ k. k + 1) kept.depth;
      listed =
          undone_more t.program t.steps place c.loop-place.debugger.trail c.loop-place.debugger.world c.push_past.new.debugger.world c.loop-place.steps.items c.push_past.new.steps.items _ within
          kept.program kept.steps kept.depth kept.listed past.listed past.leads;
    }
