use Rattle.std.proofs.lemmas.Slice.Zip.{either_empty_from_Zip}
use Rattle.mpd_runs.proofs.CountLemmas.{all_added}
use Rattle.mpd_runs.proofs.counts.told_in.Goals as goal

pub returns : goal.returns
returns c =
    all_added c.args.way c.loop-first.sum _ _ _ (either_empty_from_Zip c.loop-first.first-iterator c.next.new.self c.next.result c.in-None.is c.next.ensures.steps) c.loop-first.invariant
