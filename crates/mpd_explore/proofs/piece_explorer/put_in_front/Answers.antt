use Rattle.std.proofs.Common.{◌+◌, ◌<◌, length, ap, ◌∙◌, arith, add-one, length-set}
use Rattle.mpd_explore.specs.Pieces.{behind}
use Rattle.mpd_explore.proofs.BehindLemmas.{front_more}
use Rattle.mpd_explore.proofs.piece_explorer.put_in_front.Goals as goal

pub loop-place-preserved : goal.loop-place-preserved
loop-place-preserved c =
    let i = c.loop-place.invariant in
    let n = c.loop-place.place in
    let within : n < length c.args.leaves.now.items = omega (arith, i.long, c.len-place-end.ensures) in
    record {
      front = front_more (behind c.args.choices.now) c.args.leaves.now.items c.loop-place.leaves.items n (n + 1) c.index_mut.result.now c.put_choices.new.leaf within i.front (c.in_ok-put_choices.ensures ∙ ap (behind c.args.choices.now) c.index_mut.ensures.value) (add-one n);
      long = length-set c.loop-place.leaves.items n c.put_choices.new.leaf ∙ i.long;
    }
