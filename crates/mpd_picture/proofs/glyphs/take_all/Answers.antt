use Rattle.std.proofs.Common.{◌+◌, ◌<◌, length, ap, ◌∙◌, arith}
use Rattle.mpd_model.specs.runs.Trail.{Trail}
use Rattle.mpd_picture.proofs.GlyphLemmas.{glyphs_more}
use Rattle.mpd_picture.proofs.glyphs.take_all.Goals as goal

pub loop-place-preserved : goal.loop-place-preserved
loop-place-preserved c =
    let t : Trail = c.args.debugger.now.trail in
    let place = c.loop-place.place in
    let kept = c.loop-place.invariant in
    let told = c.in_ok-row.ensures in
    let within : place < length t.steps = omega (arith, c.loop-place-test.true, ap length c.steps-count.ensures) in
    record {
      steps = ap (λ (u : Trail). u.steps) told.trail ∙ kept.steps;
      lines = ap (λ (u : Trail). u.program.lines) told.trail ∙ kept.lines;
      depth = ap (λ (u : Trail). u.depth) told.trail ∙ ap (λ k. k + 1) kept.depth;
      few = omega (arith, told.few, kept.few);
      glyphs = glyphs_more t.program.lines t.steps place c.loop-place.row _ c.loop-place.debugger.trail c.loop-place.debugger.world c.take_next.new.debugger.world c.loop-place.glyphs.items c.take_next.new.glyphs.items _ within kept.steps kept.depth kept.lines kept.glyphs told.glyphs told.row told.leads;
    }
