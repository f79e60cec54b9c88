use Rattle.std.proofs.Common.{◌≡◌, ◌<◌, ◌+◌, ◌++◌, ◌||◌, ◌&&◌, length, take, drop, map, string_bytes, refl, ap, ◌∙◌, arith}
use Rattle.mpd_model.specs.runs.Trail.{done_steps}
use Rattle.mpd_explore.specs.Report.{any_bad}
use Rattle.mpd_explore.specs.Sleeping.{decides_by}
use Rattle.mpd_explore.specs.WitnessTexts.{witness_texts}
use Rattle.mpd_explore.specs.Pieces.{part, part_left}
use Rattle.mpd_explore.specs.Along.{parts, have_run}
use Rattle.mpd_explore.proofs.SplitLemmas.{reached_at}
use Rattle.mpd_explore.proofs.ReportLemmas.{parts_next, more_next, texts_next, good_next, all_parts, all_more, ends_parts, ends_more, texts_begun}
use Rattle.mpd_explore.proofs.by_pieces.explore_pieces.Goals as goal

pub loop-place-init : goal.loop-place-init
loop-place-init g c =
    record {
      leaves = c.new.ensures.items;
      more = refl;
      texts = texts_begun (decides_by c.args.limits.ends) c.args.limits.witnesses (done_steps c.args.debugger.now.trail) c.args.limits.fuel c.args.debugger.now.world c.new.result.items (map string_bytes c.new-2.result.items) c.new.ensures.items (ap (map string_bytes) c.new-2.ensures.items);
      good = λ h. ap any_bad c.new.ensures.items;
      trail = refl;
      world = refl;
      reached = c.state_is_reached.ensures.reached;
    }

pub add_part-requires-clause-reaches : goal.add_part-requires-clause-reaches
add_part-requires-clause-reaches g c =
    let i = c.loop-place.invariant in
    let within : c.loop-place.place < length c.args.pieces.now = omega (arith, c.loop-place-test.true) in
    reached_at (decides_by c.args.limits.ends) c.args.limits.fuel c.args.debugger.now.world c.loop-place.debugger.world c.args.pieces.now c.loop-place.place c.index-pieces-place.result c.index-pieces-place.result.choices within c.index-pieces-place.is refl i.world c.requires.reaches

pub loop-place-preserved : goal.loop-place-preserved
loop-place-preserved g c =
    let i = c.loop-place.invariant in
    let l = c.args.limits in
    let d = c.args.debugger.now in
    let ps = c.args.pieces.now in
    let n = c.loop-place.place in
    let p = c.index-pieces-place.result in
    let old = c.loop-place.report in
    let new = c.add_part.new.report in
    let within : n < length ps = omega (arith, c.loop-place-test.true) in
    let leaves : new.leaves.items ≡ old.leaves.items ++ part l p.choices d.world = rw i.world at c.in_ok-is_last.ensures.leaves in
    let last : c.in_ok-is_last.is_last ≡ (l.until_bad && any_bad (part l p.choices d.world)) = rw i.world at c.in_ok-is_last.ensures.last in
    let more : new.more ≡ (old.more || part_left l p.choices d.world) = rw i.world at c.in_ok-is_last.ensures.more in
    let texts : map string_bytes new.witnesses.items ≡ map string_bytes old.witnesses.items ++ witness_texts (decides_by l.ends) l.witnesses (done_steps d.trail) l.fuel d.world (part l p.choices d.world) = rw (i.world, i.trail) at c.in_ok-is_last.ensures.texts in
    record {
      leaves = parts_next l d.world ps n p old.leaves.items new.leaves.items within c.index-pieces-place.is i.leaves leaves;
      more = more_next l d.world ps n p old.more new.more within c.index-pieces-place.is i.more more;
      texts = texts_next (decides_by l.ends) l.witnesses (done_steps d.trail) l.fuel d.world old.leaves.items (part l p.choices d.world) new.leaves.items _ _ leaves i.texts texts;
      good = good_next l.until_bad c.in_ok-is_last.is_last old.leaves.items (part l p.choices d.world) new.leaves.items leaves last c.if-is_last.false i.good;
      trail = c.in_ok-is_last.ensures.as_found.trail ∙ i.trail;
      world = c.in_ok-is_last.ensures.as_found.world ∙ i.world;
      reached = c.in_ok-is_last.ensures.as_found.reached;
    }

pub returns-then-is_last-clause-leaves : goal.returns-then-is_last-clause-leaves
returns-then-is_last-clause-leaves g c =
    let i = c.loop-place.invariant in
    let l = c.args.limits in
    let d = c.args.debugger.now in
    let ps = c.args.pieces.now in
    let n = c.loop-place.place in
    let p = c.index-pieces-place.result in
    let old = c.loop-place.report in
    let new = c.add_part.new.report in
    let within : n < length ps = omega (arith, c.loop-place-test.true) in
    let leaves : new.leaves.items ≡ old.leaves.items ++ part l p.choices d.world = rw i.world at c.in_ok-is_last.ensures.leaves in
    let last : c.in_ok-is_last.is_last ≡ (l.until_bad && any_bad (part l p.choices d.world)) = rw i.world at c.in_ok-is_last.ensures.last in
    let joined : new.leaves.items ≡ parts l d.world (take (n + 1) ps) = parts_next l d.world ps n p old.leaves.items new.leaves.items within c.index-pieces-place.is i.leaves leaves in
    ends_parts l d.world ps (n + 1) p.choices old.leaves.items new.leaves.items c.in_ok-is_last.is_last joined leaves i.good last c.if-is_last.true

pub returns-then-is_last-clause-more : goal.returns-then-is_last-clause-more
returns-then-is_last-clause-more g c =
    let i = c.loop-place.invariant in
    let l = c.args.limits in
    let d = c.args.debugger.now in
    let ps = c.args.pieces.now in
    let n = c.loop-place.place in
    let p = c.index-pieces-place.result in
    let old = c.loop-place.report in
    let new = c.add_part.new.report in
    let within : n < length ps = omega (arith, c.loop-place-test.true) in
    let leaves : new.leaves.items ≡ old.leaves.items ++ part l p.choices d.world = rw i.world at c.in_ok-is_last.ensures.leaves in
    let last : c.in_ok-is_last.is_last ≡ (l.until_bad && any_bad (part l p.choices d.world)) = rw i.world at c.in_ok-is_last.ensures.last in
    let more : new.more ≡ (old.more || part_left l p.choices d.world) = rw i.world at c.in_ok-is_last.ensures.more in
    let joined : new.leaves.items ≡ parts l d.world (take (n + 1) ps) = parts_next l d.world ps n p old.leaves.items new.leaves.items within c.index-pieces-place.is i.leaves leaves in
    let any = more_next l d.world ps n p old.more new.more within c.index-pieces-place.is i.more more in
    let left : c.in_ok-others.others ≡ have_run l d.world (drop (n + 1) ps) =
    c.in_ok-others.ensures.left ∙ ap (λ w. have_run l w (drop (n + 1) ps)) (c.in_ok-is_last.ensures.as_found.world ∙ i.world) in
    ends_more l d.world ps (n + 1) p.choices old.leaves.items new.leaves.items c.in_ok-is_last.is_last new.more c.in_ok-others.others c.is_more.result joined leaves i.good last c.if-is_last.true any left c.is_more.ensures

pub returns-then-is_last-clause-texts : goal.returns-then-is_last-clause-texts
returns-then-is_last-clause-texts g c =
    let i = c.loop-place.invariant in
    let l = c.args.limits in
    let d = c.args.debugger.now in
    let ps = c.args.pieces.now in
    let n = c.loop-place.place in
    let p = c.index-pieces-place.result in
    let old = c.loop-place.report in
    let new = c.add_part.new.report in
    let within : n < length ps = omega (arith, c.loop-place-test.true) in
    let leaves : new.leaves.items ≡ old.leaves.items ++ part l p.choices d.world = rw i.world at c.in_ok-is_last.ensures.leaves in
    let last : c.in_ok-is_last.is_last ≡ (l.until_bad && any_bad (part l p.choices d.world)) = rw i.world at c.in_ok-is_last.ensures.last in
    let texts : map string_bytes new.witnesses.items ≡ map string_bytes old.witnesses.items ++ witness_texts (decides_by l.ends) l.witnesses (done_steps d.trail) l.fuel d.world (part l p.choices d.world) = rw (i.world, i.trail) at c.in_ok-is_last.ensures.texts in
    texts_next (decides_by l.ends) l.witnesses (done_steps d.trail) l.fuel d.world old.leaves.items (part l p.choices d.world) new.leaves.items _ _ leaves i.texts texts

pub returns-clause-leaves : goal.returns-clause-leaves
returns-clause-leaves g c =
    all_parts c.args.limits c.args.debugger.now.world c.args.pieces.now c.loop-place.place c.loop-place.report.leaves.items (omega (arith, c.loop-place-test.false)) c.loop-place.invariant.leaves c.loop-place.invariant.good

pub returns-clause-more : goal.returns-clause-more
returns-clause-more g c =
    all_more c.args.limits c.args.debugger.now.world c.args.pieces.now c.loop-place.place c.loop-place.report.leaves.items c.loop-place.report.more (omega (arith, c.loop-place-test.false)) c.loop-place.invariant.leaves c.loop-place.invariant.good c.loop-place.invariant.more
