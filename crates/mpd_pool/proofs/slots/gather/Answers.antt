use Rattle.mpd_pool.proofs.Workers.{right_front, right_last}
use Rattle.mpd_pool.proofs.slots.gather.Goals as goal

pub loop-one-preserved : goal.loop-one-preserved
loop-one-preserved c =
    let i = c.loop-one.invariant in
    let popped = c.in-Some.ensures.items in
    record {
      right = λ d k ps h. right_front d k ps _ _ _ popped (i.right d k ps h);
      filled = λ d k ps h f. c.place.ensures d k ps (right_last d k ps _ _ _ popped (i.right d k ps h)) (i.filled d k ps h f);
    }
